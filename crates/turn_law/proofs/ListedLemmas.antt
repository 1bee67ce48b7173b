-- The lines of refused patterns, and that what stands behind them is none.
use Rattle.std.proofs.Common.{◌≡◌, ℕ, ◌+◌, List, [], ◌∷◌, ◌++◌, length, reverse, Bool, true, false, ◌&&◌, eqb, Option, Some, None, refl, sym, ap, ◌∙◌, subst, append_assoc}
use Rattle.std.specs.Option.{unwrap_or}
use Rattle.xds_bootstrap.specs.declared.bootstrap.AuthorityEntry.{AuthorityEntry}
use Rattle.cluster_tree.specs.declared.snapshot.Snapshot.{Snapshot}
use Rattle.call_journal.specs.declared.entry.Entry.{Entry}
use Rattle.call_journal.specs.declared.entry.What.{What}
use Rattle.call_journal.specs.declared.reply.DriverReply.{DriverReply}
use Rattle.call_journal.specs.declared.reply.Sent.{Sent}
use Rattle.session_lines.specs.Lines.{lines_of}
use Rattle.report_parts.specs.RequestText.{request_line}
use Rattle.report_parts.specs.Snapshots.{snapshot_line, snapshot_lines}
use Rattle.text_law.specs.report_text.EntryText.{more_lines, pattern_lines, reply_lines, request_lines}
use Rattle.text_law.specs.xds_history.Page.{latest_number}
use Rattle.text_law.specs.xds_history.Pages.{pages}
use Rattle.text_law.specs.xds_history.Responses.{refused_in}
use Rattle.text_law.specs.xds_history.Setting.{Setting}
use Rattle.text_law.specs.legal_history.Report.{shown_entries}
use Rattle.text_law.proofs.Texts.{begins_pattern}
use Rattle.text_law.proofs.AfterLemmas.{rest_first, shown_next, text_after}
use Rattle.turn_law.specs.LinesBehind.{ListsPatterns, is_pattern, later_text, lines_behind}
use Rattle.turn_law.proofs.LaterLemmas.{last_line, later_is, newest_is}

-- ---- what doesn't begin as a pattern's line

never : (a b : Bool) → a && (b && false) ≡ false
never false b = refl
never true false = refl
never true true = refl

other_byte : (a b c d : Bool) → a && c ≡ false → a && (b && (c && d)) ≡ false
other_byte false b c d h = refl
other_byte true false c d h = refl
other_byte true true false d h = refl
other_byte true true true d h = absurd (cc h)

not_begun : (text : List ℕ) → begins_pattern text ≡ false → is_pattern text ≡ false
not_begun [] h = refl
not_begun (b ∷ []) h = never true (eqb b 32)
not_begun (b ∷ c ∷ []) h = never (eqb b 32) (eqb c 32)
not_begun (b ∷ c ∷ d ∷ more) h = other_byte (eqb b 32) (eqb c 32) (eqb d 112) _ h

request_first : (authorities : List AuthorityEntry) (sent : Sent) (text : List ℕ) → is_pattern (request_line authorities sent ++ text) ≡ false
unfolding request_line
request_first authorities sent text = refl

requests_first : (authorities : List AuthorityEntry) (sent : List Sent) (text : List ℕ) → is_pattern text ≡ false → is_pattern (request_lines authorities sent ++ text) ≡ false
unfolding request_lines
requests_first authorities [] text h = h
requests_first authorities (x ∷ xs) text h =
    ap is_pattern (append_assoc (request_line authorities x) (request_lines authorities xs) text) ∙ request_first authorities x (request_lines authorities xs ++ text)

snapshot_first : (s : Option Snapshot) (text : List ℕ) → is_pattern text ≡ false → is_pattern (snapshot_lines s ++ text) ≡ false
unfolding snapshot_line
snapshot_first None text h = h
snapshot_first (Some s) text h = refl

later_first : (s : Setting) (authorities : List AuthorityEntry) (later past : List Entry) → is_pattern (later_text authorities (length past) (pages s (later ++ past))) ≡ false
later_first s authorities later past =
    let shown : ℕ = length (shown_entries (pages s (later ++ past))) in
    let snapshots : ℕ = unwrap_or (latest_number (pages s (later ++ past))) 0 in
    ap is_pattern (later_is s authorities later past)
    ∙ not_begun (text_after authorities s past (length past + 1) (reverse later) (last_line s (later ++ past))) (rest_first authorities s past (length past + 1) (reverse later) shown snapshots)

-- ---- the patterns of an entry

reply_parts : (authorities : List AuthorityEntry) (s : Option Snapshot) (r : DriverReply) (text : List ℕ)
    → reply_lines authorities s r ++ text ≡ pattern_lines r.refused ++ (request_lines authorities r.sent ++ (snapshot_lines s ++ text))
unfolding reply_lines
reply_parts authorities s r text =
    append_assoc (pattern_lines r.refused ++ request_lines authorities r.sent) (snapshot_lines s) text
    ∙ append_assoc (pattern_lines r.refused) (request_lines authorities r.sent) (snapshot_lines s ++ text)

no_patterns : (text : List ℕ) → text ≡ pattern_lines [] ++ text
unfolding pattern_lines
no_patterns text = refl

patterns_of : (authorities : List AuthorityEntry) (s : Option Snapshot) (what : What) (text : List ℕ) → is_pattern text ≡ false
    → ListsPatterns (refused_in what) (lines_of (more_lines authorities s what ++ text))
patterns_of authorities s (What.Driver event r) text h = record {
  rest = request_lines authorities r.sent ++ (snapshot_lines s ++ text);
  begins = ap lines_of (reply_parts authorities s r text);
  ends = requests_first authorities r.sent (snapshot_lines s ++ text) (snapshot_first s text h);
}
patterns_of authorities s (What.Caller event r) text h = record { rest = text; begins = ap lines_of (no_patterns text); ends = h }

-- behind the first line of an entry
pub patterns_listed : (s : Setting) (authorities : List AuthorityEntry) (later : List Entry) (e : Entry) (past : List Entry)
    → ListsPatterns (refused_in e.what) (lines_behind s authorities later (e ∷ past))
patterns_listed s authorities later e past =
    let rest : List ℕ = later_text authorities (length (e ∷ past)) (pages s (later ++ e ∷ past)) in
    subst (λ (text : List ℕ). ListsPatterns (refused_in e.what) (lines_of (text ++ rest))) (sym (newest_is s authorities e past))
    (patterns_of authorities (shown_next s past e).snapshot e.what rest (later_first s authorities later (e ∷ past)))

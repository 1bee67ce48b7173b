-- What is found in the text of an entry, and in the last line.
use Rattle.std.proofs.Common.{◌≡◌, ℕ, ◌<◌, ◌^◌, List, [], ◌∷◌, ◌++◌, All, Option, Some, None, codes, refl, sym, ap, ◌∙◌, arith, append_assoc}
use Rattle.std.specs.Fmt.{decimal}
use Rattle.xds_bootstrap.specs.declared.bootstrap.AuthorityEntry.{AuthorityEntry}
use Rattle.cluster_tree.specs.declared.snapshot.Snapshot.{Snapshot}
use Rattle.call_journal.specs.declared.event.CallerEvent.{CallerEvent}
use Rattle.call_journal.specs.declared.event.DriverEvent.{DriverEvent}
use Rattle.call_journal.specs.declared.reply.CallerReply.{CallerReply}
use Rattle.call_journal.specs.declared.reply.DriverReply.{DriverReply}
use Rattle.call_journal.specs.declared.reply.Sent.{Sent}
use Rattle.call_journal.specs.declared.entry.Entry.{Entry}
use Rattle.call_journal.specs.declared.entry.What.{What}
use Rattle.session_lines.specs.Lines.{lines_of}
use Rattle.tree_text.specs.Escapes.{escaped}
use Rattle.report_parts.specs.ReportWords.{authority_text}
use Rattle.report_parts.specs.Driver.{driver_line}
use Rattle.report_parts.specs.RequestText.{pattern_line, request_line, request_text}
use Rattle.report_parts.specs.Snapshots.{clusters_from, front_text, snapshot_line, snapshot_lines}
use Rattle.report_parts.specs.Callers.{caller_event_text, caller_line, caller_reply_text, picker_in}
use Rattle.text_law.specs.report_text.EntryText.{entry_lines, more_lines, pattern_lines, reply_lines, request_lines, what_line}
use Rattle.text_law.specs.report_text.ReportLines.{end_line}
use Rattle.report_turns.specs.TurnLines.{end, entry, next_of}
use Rattle.text_law.specs.xds_history.Setting.{Setting}
use Rattle.text_law.proofs.TextLemmas.{decimal_lacks, lacks-append}
use Rattle.text_law.proofs.EntryLemmas.{entry_parts}
use Rattle.text_law.proofs.AfterLemmas.{shown_next}
use Rattle.turn_law.specs.TurnLaw.{IsActor, IsTurn, address_in, event_address, place_of}
use Rattle.turn_law.proofs.FeedLemmas.{NoFeed, ◌⊕◌, caller_one_line, caller_rest, driver_one_line, driver_rest, literal, number, pattern_rest, plain, reply_address, request_rest, snapshot_rest}
use Rattle.turn_law.proofs.LineLemmas.{GoesOn, both_go_on, caller_is, driver_is, end_found, entry_found, next_with, none_goes_on, one_goes_on}
use Rattle.turn_law.proofs.ReadyLemmas.{picked_plain}

-- ---- lines that go on

pattern_goes_on : (pattern : List ℕ) → GoesOn (pattern_line pattern)
unfolding pattern_line
pattern_goes_on pattern = one_goes_on (codes "pat " ++ escaped pattern) (pattern_rest pattern)

patterns_go_on : (patterns : List (List ℕ)) → GoesOn (pattern_lines patterns)
unfolding pattern_lines
patterns_go_on [] = none_goes_on
patterns_go_on (p ∷ ps) = both_go_on (pattern_line p) (pattern_lines ps) (pattern_goes_on p) (patterns_go_on ps)

request_goes_on : (authorities : List AuthorityEntry) (sent : Sent) → GoesOn (request_line authorities sent)
unfolding request_line
request_goes_on authorities sent =
    one_goes_on (codes "req " ++ authority_text authorities sent.authority ++ codes " " ++ request_text sent.request) (request_rest authorities sent)

requests_go_on : (authorities : List AuthorityEntry) (sent : List Sent) → GoesOn (request_lines authorities sent)
unfolding request_lines
requests_go_on authorities [] = none_goes_on
requests_go_on authorities (x ∷ xs) = both_go_on (request_line authorities x) (request_lines authorities xs) (request_goes_on authorities x) (requests_go_on authorities xs)

snapshot_goes_on : (snapshot : Option Snapshot) → GoesOn (snapshot_lines snapshot)
unfolding snapshot_line
snapshot_goes_on None = none_goes_on
snapshot_goes_on (Some s) =
    one_goes_on (codes "snap " ++ decimal s.number ++ codes " front=" ++ front_text s.config.front ++ clusters_from s.trees 0 s.config.clusters) (snapshot_rest s)

reply_goes_on : (authorities : List AuthorityEntry) (s : Option Snapshot) (r : DriverReply) → GoesOn (reply_lines authorities s r)
unfolding reply_lines
reply_goes_on authorities s r =
    both_go_on (pattern_lines r.refused ++ request_lines authorities r.sent) (snapshot_lines s)
    (both_go_on (pattern_lines r.refused) (request_lines authorities r.sent) (patterns_go_on r.refused) (requests_go_on authorities r.sent)) (snapshot_goes_on s)

pub more_goes_on : (authorities : List AuthorityEntry) (s : Option Snapshot) (what : What) → GoesOn (more_lines authorities s what)
more_goes_on authorities s (What.Driver event r) = reply_goes_on authorities s r
more_goes_on authorities s (What.Caller event r) = none_goes_on

-- ---- the line of an entry behind its numbers

driver_parts : (authorities : List AuthorityEntry) (event : DriverEvent) (r : DriverReply) (rest : List ℕ)
    → driver_line authorities event r ++ rest ≡ codes "d" ++ 32 ∷ (driver_rest authorities event r ++ 10 ∷ rest)
unfolding driver_line
driver_parts authorities event r rest = append_assoc (codes "d " ++ driver_rest authorities event r) (codes "\n") rest

caller_parts : (s : Option Snapshot) (c : Option (List ℕ)) (actor : ℕ) (event : CallerEvent) (r : CallerReply) (rest : List ℕ)
    → caller_line s c actor event r ++ rest ≡ (99 ∷ decimal actor) ++ 32 ∷ (caller_rest s c event r ++ 10 ∷ rest)
unfolding caller_line
caller_parts s c actor event r rest =
    let word : List ℕ = 99 ∷ decimal actor in
    let text : List ℕ = caller_event_text event in
    let reply : List ℕ = caller_reply_text s c r in
    let one : word ++ codes " " ++ text ++ codes " " ++ reply ≡ word ++ 32 ∷ (text ++ codes " " ++ reply) =
    ap (λ (x : List ℕ). x ++ reply) (append_assoc (word ++ codes " ") text (codes " "))
    ∙ (append_assoc (word ++ codes " ") (text ++ codes " ") reply ∙ append_assoc word (codes " ") (text ++ codes " " ++ reply)) in
    append_assoc (word ++ codes " " ++ text ++ codes " " ++ reply) (codes "\n") rest
    ∙ (ap (λ (x : List ℕ). x ++ 10 ∷ rest) one ∙ append_assoc word (32 ∷ (text ++ codes " " ++ reply)) (10 ∷ rest))

caller_word : (actor : ℕ) → NoFeed (99 ∷ decimal actor)
caller_word actor = literal (codes "c") refl ⊕ number actor

-- the addresses in the line of an entry have no line feed
abbrev HasNoFeed : Option Snapshot → Option (List ℕ) → What → Type 0
HasNoFeed s c (What.Driver event r) = NoFeed (event_address event)
HasNoFeed s c (What.Caller event r) = NoFeed (reply_address (picker_in s c) r)

-- what is found in a text that begins with an entry of these parts
abbrev FindsIt : List AuthorityEntry → Option Snapshot → Option (List ℕ) → ℕ → ℕ → ℕ → What → List ℕ → Type 0
FindsIt authorities s c n actor line what rest =
    next_of (lines_of (decimal n ++ 32 ∷ (decimal line ++ 32 ∷ (what_line authorities s c actor what ++ (more_lines authorities s what ++ rest)))))
    ≡ next_with (entry record { actor = actor; line = line }) (lines_of (more_lines authorities s what ++ rest))

what_found : (authorities : List AuthorityEntry) (s : Option Snapshot) (c : Option (List ℕ)) (n actor line : ℕ) (what : What) (rest : List ℕ)
    → IsActor actor what → line < 2 ^ 32 → HasNoFeed s c what → FindsIt authorities s c n actor line what rest
what_found authorities s c n actor line (What.Driver event r) rest is lt h =
    let more : List ℕ = reply_lines authorities s r ++ rest in
    ap (λ text. next_of (lines_of (decimal n ++ 32 ∷ (decimal line ++ 32 ∷ text)))) (driver_parts authorities event r more)
    ∙ entry_found n line actor (codes "d") (driver_rest authorities event r) more lt (driver_is ∙ ap Some (sym is)) refl (literal (codes "d") refl) (driver_one_line authorities event r h)
what_found authorities s c n actor line (What.Caller event r) rest is lt h =
    ap (λ text. next_of (lines_of (decimal n ++ 32 ∷ (decimal line ++ 32 ∷ text)))) (caller_parts s c actor event r rest)
    ∙ entry_found n line actor (99 ∷ decimal actor) (caller_rest s c event r) rest lt (caller_is actor is.0 is.1) (lacks-append 32 (codes "c") (decimal actor) refl (decimal_lacks 32 actor (omega arith)))
    (caller_word actor) (caller_one_line s c event r h)

-- ---- entries

entry_is_found : (authorities : List AuthorityEntry) (s : Option Snapshot) (c : Option (List ℕ)) (n : ℕ) (e : Entry) (rest : List ℕ)
    → IsTurn e → HasNoFeed s c e.what → next_of (lines_of (entry_lines authorities s c n e ++ rest)) ≡ next_with (entry (place_of e)) (lines_of (more_lines authorities s e.what ++ rest))
entry_is_found authorities s c n e rest is h =
    ap (λ text. next_of (lines_of text)) (entry_parts authorities s c n e rest) ∙ what_found authorities s c n e.actor e.line e.what rest is.actor is.line h

one_line : (s : Setting) (past : List Entry) (actor line : ℕ) (what : What) → NoFeed (address_in what) → All IsTurn past
    → HasNoFeed (shown_next s past record { actor = actor; line = line; what = what }).snapshot (shown_next s past record { actor = actor; line = line; what = what }).cluster what
one_line s past actor line (What.Driver event r) h are = h
one_line s past actor line (What.Caller event r) h are = picked_plain s past (shown_next s past record { actor = actor; line = line; what = What.Caller event r }).cluster r are

-- the entry that comes next after a past
pub next_is_found : (authorities : List AuthorityEntry) (s : Setting) (past : List Entry) (e : Entry) (n : ℕ) (rest : List ℕ) → IsTurn e → All IsTurn past
    → next_of (lines_of (entry_lines authorities (shown_next s past e).snapshot (shown_next s past e).cluster n e ++ rest))
    ≡ next_with (entry (place_of e)) (lines_of (more_lines authorities (shown_next s past e).snapshot e.what ++ rest))
next_is_found authorities s past e n rest is were =
    entry_is_found authorities (shown_next s past e).snapshot (shown_next s past e).cluster n e rest is (one_line s past e.actor e.line e.what (plain (address_in e.what) is.one_line) were)

pub end_is_found : (entries snapshots : ℕ) → (next_of (lines_of (end_line entries snapshots))).finding ≡ end
unfolding end_line
end_is_found entries snapshots =
    end_found (decimal entries ++ codes " " ++ decimal snapshots) [] (number entries ⊕ literal (codes " ") refl ⊕ number snapshots)

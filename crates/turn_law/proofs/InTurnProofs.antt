-- The entries of a report are read in their turn, each with what stands behind its first line.
use Rattle.std.proofs.Common.{◌≡◌, ℕ, ◌+◌, List, [], ◌∷◌, ◌++◌, All, length, sym, ap, ◌∙◌, subst}
use Rattle.std.specs.Option.{unwrap_or}
use Rattle.std.proofs.lemmas.List.Elements.{All-head, All-tail}
use Rattle.xds_bootstrap.specs.declared.bootstrap.AuthorityEntry.{AuthorityEntry}
use Rattle.call_journal.specs.declared.entry.Entry.{Entry}
use Rattle.session_lines.specs.Lines.{lines_of}
use Rattle.report_turns.specs.TurnLines.{Next, end, entry, next_of}
use Rattle.text_law.specs.xds_history.Page.{latest_number}
use Rattle.text_law.specs.xds_history.Pages.{pages}
use Rattle.text_law.specs.xds_history.Setting.{Setting}
use Rattle.text_law.specs.legal_history.Report.{shown_entries}
use Rattle.text_law.proofs.AfterLemmas.{shown_next, text_end}
use Rattle.turn_law.specs.TurnLaw.{IsTurn, place_of}
use Rattle.turn_law.specs.LinesBehind.{EntriesInTurn, later_text, lines_behind, newest_more_lines}
use Rattle.turn_law.proofs.LineLemmas.{GoesOn, next_with, none_goes_on}
use Rattle.turn_law.proofs.FoundLemmas.{end_is_found, more_goes_on, next_is_found}
use Rattle.turn_law.proofs.LaterLemmas.{all_later, last_line, later_is, newest_is, next_text}
use Rattle.turn_law.proofs.ListedLemmas.{patterns_listed}

newest_goes_on : (s : Setting) (authorities : List AuthorityEntry) (past : List Entry) → GoesOn (newest_more_lines authorities (pages s past))
newest_goes_on s authorities [] = none_goes_on
newest_goes_on s authorities (e ∷ past) = more_goes_on authorities (shown_next s past e).snapshot (shown_next s past e).entry.what

next_entry : (s : Setting) (authorities : List AuthorityEntry) (later : List Entry) (e : Entry) (past : List Entry) → IsTurn e → All IsTurn past
    → next_of (lines_behind s authorities (later ++ e ∷ []) past) ≡ next_with (entry (place_of e)) (lines_behind s authorities later (e ∷ past))
next_entry s authorities later e past is were =
    let rest : List ℕ = later_text authorities (length (e ∷ past)) (pages s (later ++ e ∷ past)) in
    newest_goes_on s authorities past (later_text authorities (length past) (pages s ((later ++ e ∷ []) ++ past)))
    ∙ (ap (λ (text : List ℕ). next_of (lines_of text)) (next_text s authorities later e past)
    ∙ (next_is_found authorities s past e (length past + 1) rest is were
    ∙ ap (λ (text : List ℕ). next_with (entry (place_of e)) (lines_of (text ++ rest))) (sym (newest_is s authorities e past))))

last_end : (s : Setting) (authorities : List AuthorityEntry) (history : List Entry) → (next_of (lines_behind s authorities [] history)).finding ≡ end
last_end s authorities history =
    ap (λ (next : Next). next.finding) (newest_goes_on s authorities history (later_text authorities (length history) (pages s history)))
    ∙ (ap (λ (text : List ℕ). (next_of (lines_of text)).finding) (later_is s authorities [] history ∙ text_end authorities s history (length history + 1) (last_line s history))
    ∙ end_is_found (length (shown_entries (pages s history))) (unwrap_or (latest_number (pages s history)) 0))

behind : {X : Type 0} (P : X → Type 0) (xs ys : List X) → All P (xs ++ ys) → All P ys
behind P [] ys h = h
behind P (x ∷ xs) ys h = behind P xs ys (All-tail P x (xs ++ ys) h)

turns_from : (history later : List Entry) (e : Entry) (past : List Entry) → All IsTurn history → later ++ e ∷ past ≡ history → All IsTurn (e ∷ past)
turns_from history later e past are is = behind IsTurn later (e ∷ past) (subst (All IsTurn) (sym is) are)

pub entries_in_turn : EntriesInTurn
entries_in_turn s authorities history are = record {
  first = all_later s authorities history;
  next = λ later e past is.
      let here : All IsTurn (e ∷ past) = turns_from history later e past are is in
      next_entry s authorities later e past (All-head IsTurn e past here) (All-tail IsTurn e past here);
  last = last_end s authorities history;
  listed = λ later e past is. patterns_listed s authorities later e past;
}

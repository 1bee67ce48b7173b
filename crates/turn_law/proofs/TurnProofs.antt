-- The turns that are read from the report of a history are those of its entries.
use Rattle.std.proofs.Common.{◌≡◌, ℕ, List, [], ◌∷◌, ◌++◌, map, reverse, sym, ap, ◌∙◌, append_assoc}
use Rattle.std.proofs.lemmas.List.{append-nil, reverse-append, reverse-reverse}
use Rattle.xds_bootstrap.specs.declared.bootstrap.AuthorityEntry.{AuthorityEntry}
use Rattle.call_journal.specs.declared.entry.Entry.{Entry}
use Rattle.report_turns.specs.TurnLines.{EntryPlace, Finding, Next, end, entry, findings_in, next_of, with_more}
use Rattle.report_turns.proofs.TurnLemmas.{found_in_turn}
use Rattle.text_law.specs.xds_history.Setting.{Setting}
use Rattle.turn_law.specs.TurnLaw.{TurnsOfReport, place_of}
use Rattle.turn_law.specs.LinesBehind.{IsReadInTurn, lines_behind}
use Rattle.turn_law.proofs.LineLemmas.{next_with}
use Rattle.turn_law.proofs.InTurnProofs.{entries_in_turn}

entry_then : (lines more : List (List ℕ)) (place : EntryPlace) → next_of lines ≡ next_with (entry place) more → findings_in lines ≡ entry place ∷ findings_in more
entry_then lines more place is = found_in_turn lines ∙ ap (λ (next : Next). with_more next.finding (findings_in next.behind)) is

end_then : (lines : List (List ℕ)) → (next_of lines).finding ≡ end → findings_in lines ≡ end ∷ []
end_then lines is = found_in_turn lines ∙ ap (λ (finding : Finding). with_more finding (findings_in (next_of lines).behind)) is

-- the entries that are left, the oldest first, and then the end
turns_left : (s : Setting) (authorities : List AuthorityEntry) (history : List Entry) (es past : List Entry) → IsReadInTurn s authorities history → reverse es ++ past ≡ history
    → findings_in (lines_behind s authorities (reverse es) past) ≡ map (λ e. entry (place_of e)) es ++ end ∷ []
turns_left s authorities history [] past read is =
    end_then (lines_behind s authorities [] past) (ap (λ (all : List Entry). (next_of (lines_behind s authorities [] all)).finding) is ∙ read.last)
turns_left s authorities history (e ∷ es) past read is =
    let turned : reverse (e ∷ es) ≡ reverse es ++ e ∷ [] = reverse-append (e ∷ []) es in
    let left : reverse es ++ e ∷ past ≡ history = sym (append_assoc (reverse es) (e ∷ []) past) ∙ (ap (λ (l : List Entry). l ++ past) (sym turned) ∙ is) in
    ap (λ (l : List Entry). findings_in (lines_behind s authorities l past)) turned
    ∙ (entry_then (lines_behind s authorities (reverse es ++ e ∷ []) past) (lines_behind s authorities (reverse es) (e ∷ past)) (place_of e) (read.next (reverse es) e past left)
    ∙ ap (λ (findings : List Finding). entry (place_of e) ∷ findings) (turns_left s authorities history es (e ∷ past) read left))

pub turns_of_report : TurnsOfReport
turns_of_report s authorities history are =
    let read : IsReadInTurn s authorities history = entries_in_turn s authorities history are in
    let all : reverse (reverse history) ≡ history = reverse-reverse history in
    ap findings_in (sym read.first)
    ∙ (ap (λ (l : List Entry). findings_in (lines_behind s authorities l [])) (sym all)
    ∙ turns_left s authorities history (reverse history) [] read (append-nil (reverse (reverse history)) ∙ all))

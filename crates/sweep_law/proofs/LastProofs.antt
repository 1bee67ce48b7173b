-- No entry before the last one is of line 0: the last of the driver's list alone is, and that is played by the last entry.
use Rattle.std.proofs.Common.{◌≡◌, ◌≤◌, ℕ, suc, List, [], ◌∷◌, ◌++◌, map, All, eq-eqb, Option, refl, ap, ◌∙◌, sym, arith}
use Rattle.std.specs.Prelude.{reverse, ◌==◌}
use Rattle.std.proofs.lemmas.Bool.{cond-true}
use Rattle.std.proofs.lemmas.List.{append_assoc, reverse-append}
use Rattle.std.proofs.lemmas.List.Elements.{All-filter, All-head, All-tail, filter-append}
use Rattle.call_journal.specs.declared.event.DriverEvent.{DriverEvent}
use Rattle.call_journal.specs.declared.entry.Entry.{Entry}
use Rattle.call_journal.specs.declared.plan.Listed.{Listed}
use Rattle.session_lines.specs.declared.session.Line.{Line}
use Rattle.session_lines.specs.declared.session.Session.{Session}
use Rattle.session_script.specs.Plan as plan
use Rattle.session_script.specs.Plan.{driver_list, entries_by, entry_event, is_of_caller, lines_by, listed_event, none_up}
use Rattle.session_plan.specs.PlanOfSession.{plan_item}
use Rattle.session_plan.specs.ReadablePayloads.{is_response}
use Rattle.next_law.specs.legal_history.Legal.{Legal}
use Rattle.book_progress.specs.ActorCounts.{count_of}
use Rattle.next_law.proofs.EndProofs.{end_of_legal}
use Rattle.next_law.proofs.ListLemmas.{IsListFor, caller, driver, list_for, list_of}
use Rattle.next_law.proofs.NextProofs.{actor_few, own_next}
use Rattle.next_law.proofs.PlayLemmas.{IsNextIn}
use Rattle.sweep_law.specs.SweepLaw.{SweepIsLast, listed_sweep}
use Rattle.sweep_law.proofs.ListLemmas.{IsNumbered, IsOfLine, before_listed, before_sweep, event_listed, lines_numbered, sweep_behind}

-- ---- the driver's entries

-- a history with an entry before the last one, the oldest first
oldest_first : (later past : List Entry) (next e : Entry) → reverse (next ∷ (later ++ e ∷ past)) ≡ reverse past ++ e ∷ (reverse later ++ next ∷ [])
oldest_first later past next e =
    reverse-append (next ∷ []) (later ++ e ∷ past)
    ∙ (ap (λ (es : List Entry). es ++ next ∷ []) (reverse-append later (e ∷ past)
    ∙ (ap (λ (es : List Entry). es ++ reverse later) (reverse-append (e ∷ []) past) ∙ append_assoc (reverse past) (e ∷ []) (reverse later)))
    ∙ append_assoc (reverse past) (e ∷ reverse later) (next ∷ []))

-- an entry of the driver comes first among those of the driver
own_first : (e : Entry) (es : List Entry) → e.actor ≡ 0 → entries_by 0 (e ∷ es) ≡ e ∷ entries_by 0 es
own_first e es own = cond-true (e.actor == 0) (e ∷ entries_by 0 es) (entries_by 0 es) (eq-eqb e.actor 0 own)

driver_entries : (later past : List Entry) (next e : Entry) → next.actor ≡ 0 → e.actor ≡ 0
    → entries_by 0 (reverse (next ∷ (later ++ e ∷ past))) ≡ entries_by 0 (reverse past) ++ e ∷ (entries_by 0 (reverse later) ++ next ∷ [])
driver_entries later past next e last own =
    ap (entries_by 0) (oldest_first later past next e)
    ∙ (filter-append (λ (x : Entry). x.actor == 0) (reverse past) (e ∷ (reverse later ++ next ∷ []))
    ∙ ap (λ (es : List Entry). entries_by 0 (reverse past) ++ es) (own_first e (reverse later ++ next ∷ []) own
    ∙ ap (λ (es : List Entry). e ∷ es) (filter-append (λ (x : Entry). x.actor == 0) (reverse later) (next ∷ [])
    ∙ ap (λ (es : List Entry). entries_by 0 (reverse later) ++ es) (own_first next [] last))))

-- ---- their lines

abbrev entry_line : Entry → ℕ
entry_line e = e.line

abbrev item_line : Listed → ℕ
item_line item = item.line

same_lines : (es : List Entry) (made : List plan.Listed) → map entry_event es ≡ map listed_event made → map entry_line es ≡ map item_line (map plan_item made)
same_lines [] [] is = refl
same_lines [] (m ∷ ms) is = absurd (cc is)
same_lines (e ∷ es) [] is = absurd (cc is)
same_lines (e ∷ es) (m ∷ ms) is =
    let here : entry_event e ≡ listed_event m = cc is in
    let rest : map entry_event es ≡ map listed_event ms = cc is in
    let line : e.line ≡ m.line = ap (λ (x : ℕ × Option DriverEvent). x.0) here in
    let lines : map entry_line es ≡ map item_line (map plan_item ms) = same_lines es ms rest in
    cc (line, lines)

-- an entry before the last one has the line of an item before the last one
before_last : (front : List Listed) (last : Listed) (before after : List Entry) (e next : Entry) → All IsOfLine front
    → map entry_line (before ++ e ∷ (after ++ next ∷ [])) ≡ map item_line (front ++ last ∷ []) → 5 ≤ e.line
before_last [] last [] [] e next all is =
    let k : e.line ∷ next.line ∷ [] ≡ last.line ∷ [] = is in
    absurd (cc k)
before_last [] last [] (y ∷ ys) e next all is =
    let k : e.line ∷ y.line ∷ map entry_line (ys ++ next ∷ []) ≡ last.line ∷ [] = is in
    absurd (cc k)
before_last [] last (x ∷ []) after e next all is =
    let k : x.line ∷ e.line ∷ map entry_line (after ++ next ∷ []) ≡ last.line ∷ [] = is in
    absurd (cc k)
before_last [] last (x ∷ y ∷ ys) after e next all is =
    let k : x.line ∷ y.line ∷ map entry_line (ys ++ e ∷ (after ++ next ∷ [])) ≡ last.line ∷ [] = is in
    absurd (cc k)
before_last (item ∷ front) last [] after e next all is =
    let here : e.line ≡ item.line = cc is in
    let least : 5 ≤ item.line = All-head IsOfLine item front all in
    omega (arith, here, least)
before_last (item ∷ front) last (x ∷ xs) after e next all is =
    let rest : map entry_line (xs ++ e ∷ (after ++ next ∷ [])) ≡ map item_line (front ++ last ∷ []) = cc is in
    before_last front last xs after e next (All-tail IsOfLine item front all) rest

driver_line : (session : Session) (later past : List Entry) (next e : Entry) → All IsNumbered session.lines → Legal session (next ∷ (later ++ e ∷ past)) → e.actor ≡ 0 → 5 ≤ e.line
driver_line session later past next e numbered h own =
    let last : next.actor ≡ 0 = (end_of_legal session (later ++ e ∷ past) next h).actor_is in
    let own_entries : List Entry = entries_by 0 (reverse (next ∷ (later ++ e ∷ past))) in
    let lines : map entry_line own_entries ≡ map item_line (before_sweep none_up session.lines ++ listed_sweep ∷ []) =
    same_lines own_entries (driver_list is_response none_up session.lines) h.listed.driver ∙ ap (map item_line) (sweep_behind none_up session.lines) in
    before_last (before_sweep none_up session.lines) listed_sweep (entries_by 0 (reverse past)) (entries_by 0 (reverse later)) e next
    (before_listed none_up session.lines numbered) (ap (map entry_line) (sym (driver_entries later past next e last own)) ∙ lines)

-- ---- all entries

line_least : (session : Session) (later past : List Entry) (next e : Entry) (actor : ℕ) (list : List Listed) → All IsNumbered session.lines
    → Legal session (next ∷ (later ++ e ∷ past)) → e.actor ≡ actor → IsListFor session actor list → IsNextIn list (count_of e.actor past) e → 5 ≤ e.line
line_least session later past next e _ _ numbered h own driver at = driver_line session later past next e numbered h own
line_least session later past next e _ _ numbered h own (caller k less) at =
    let lines : List Line = lines_by (suc k) session.lines in
    let listed : 5 ≤ at.listed.line =
    event_listed lines (count_of e.actor past).ended at.listed (All-filter (λ (line : Line). is_of_caller (suc k) line.work) IsNumbered session.lines numbered) at.get in
    let is : e.line ≡ at.listed.line = at.line in
    omega (arith, listed, is)

pub sweep_is_last : SweepIsLast
sweep_is_last session later past next e are h zeroth =
    let own = list_of session e.actor (actor_few session (next ∷ later) past e h) in
    let at : IsNextIn own.0 (count_of e.actor past) e = own_next session (next ∷ later) past e own.0 h own.1 in
    let least : 5 ≤ e.line =
    line_least session later past next e e.actor own.0 (lines_numbered session.boot session.callers [] session.lines are) h refl (list_for session e.actor own.0 own.1) at in
    absurd (let k : e.line ≡ 0 = zeroth in omega (arith, k, least))

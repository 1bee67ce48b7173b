-- Each entry of a legal history is the next one of its actor.
use Rattle.std.proofs.Common.{◌≡◌, ◌≤◌, ℕ, List, [], ◌∷◌, ◌++◌, All, append_assoc, eqb, eq-eqb, Option, Some, refl, sym, ap, ◌∙◌, subst}
use Rattle.std.specs.Prelude.{reverse}
use Rattle.std.specs.List.{slice_get}
use Rattle.std.proofs.lemmas.Bool.{cond-true}
use Rattle.std.proofs.lemmas.List.{reverse-append}
use Rattle.std.proofs.lemmas.List.Elements.{All-head, All-tail, filter-append}
use Rattle.call_journal.specs.declared.entry.Entry.{Entry}
use Rattle.call_journal.specs.declared.plan.Count.{Count}
use Rattle.call_journal.specs.declared.plan.Listed.{Listed}
use Rattle.session_lines.specs.declared.session.Session.{Session}
use Rattle.session_script.specs.Plan.{entries_by}
use Rattle.legal_plan.specs.session_plan.PlanOfSession.{plan_of}
use Rattle.legal_plan.specs.session_plan.ReadablePayloads.{is_response}
use Rattle.legal_plan.specs.legal_history.Legal as legal
use Rattle.legal_plan.specs.legal_history.Legal.{Legal, gate_of}
use Rattle.book_progress.specs.ActorCounts.{count_of}
use Rattle.next_law.specs.NextLaw.{NextOfLegal}
use Rattle.next_law.proofs.CountLemmas.{count_is}
use Rattle.next_law.proofs.PlayLemmas.{IsNextIn, next_in}
use Rattle.next_law.proofs.ListLemmas.{list_for, list_of, list_plays}
use Rattle.next_law.proofs.GateLemmas.{list_gate, open_alike, open_at}

-- ---- an entry in the middle

-- the oldest first
turned : (later past : List Entry) (e : Entry) → reverse (later ++ e ∷ past) ≡ reverse past ++ e ∷ reverse later
turned later past e =
    reverse-append later (e ∷ past)
    ∙ (ap (λ (es : List Entry). es ++ reverse later) (reverse-append (e ∷ []) past) ∙ append_assoc (reverse past) (e ∷ []) (reverse later))

-- the entries of its actor
own_turned : (later past : List Entry) (e : Entry)
    → entries_by e.actor (reverse (later ++ e ∷ past)) ≡ entries_by e.actor (reverse past) ++ e ∷ entries_by e.actor (reverse later)
own_turned later past e =
    ap (entries_by e.actor) (turned later past e)
    ∙ (filter-append (λ (x : Entry). eqb x.actor e.actor) (reverse past) (e ∷ reverse later)
    ∙ ap (λ (es : List Entry). entries_by e.actor (reverse past) ++ es) (cond-true _ _ _ (eq-eqb e.actor e.actor refl)))

in_middle : (P : Entry → Type 0) (xs ys : List Entry) (e : Entry) → All P (xs ++ e ∷ ys) → P e
in_middle P [] ys e all = All-head P e ys all
in_middle P (x ∷ xs) ys e all = in_middle P xs ys e (All-tail P x (xs ++ e ∷ ys) all)

pub actor_few : (session : Session) (later past : List Entry) (e : Entry) → Legal session (later ++ e ∷ past) → e.actor ≤ session.callers
actor_few session later past e h =
    in_middle (λ (x : Entry). x.actor ≤ session.callers) (reverse past) (reverse later) e
    (subst (All (λ (x : Entry). x.actor ≤ session.callers)) (turned later past e) h.listed.actors)

-- ---- the next entry

-- by the list of its actor
pub own_next : (session : Session) (later past : List Entry) (e : Entry) (list : List Listed) → Legal session (later ++ e ∷ past) → slice_get (plan_of is_response session) e.actor ≡ Some list
    → IsNextIn list (count_of e.actor past) e
own_next session later past e list h get =
    subst (λ (c : Count). IsNextIn list c e) (sym (count_is e.actor past))
    (next_in list list (entries_by e.actor (reverse (later ++ e ∷ past))) 0
    (list_plays session e.actor list (reverse (later ++ e ∷ past)) (list_for session e.actor list get) h.listed (h.started e.actor)) refl
    (entries_by e.actor (reverse past)) e (entries_by e.actor (reverse later)) (own_turned later past e))

pub next_of_legal : NextOfLegal
next_of_legal session later past e are h =
    let own = list_of session e.actor (actor_few session later past e h) in
    let next : IsNextIn own.0 (count_of e.actor past) e = own_next session later past e own.0 h own.1 in
    let gate : gate_of session.lines e.line ≡ next.listed.after =
    ap (gate_of session.lines) next.line ∙ list_gate session e.actor own.0 are (list_for session e.actor own.0 own.1) (count_of e.actor past).ended next.listed next.get in
    record {
      listed = next.listed;
      is = record { list = own.0; actor_is = own.1; next_is = next.get };
      line_is = next.line;
      step_is = next.step;
      gate = open_alike next.listed.after past (subst (λ (g : Option ℕ). legal.IsOpen g past) gate (open_at session.lines later past e h.opened));
    }

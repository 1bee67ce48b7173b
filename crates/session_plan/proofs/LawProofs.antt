-- The laws.
use Rattle.std.proofs.Common.{◌≡◌, ◌<◌, ◌≤◌, ℕ, zero, suc, List, [], ◌∷◌, ◌++◌, length, take, map, All, Bool, true, false, Option, Some, None, refl, sym, ◌∙◌, subst, ap, ap₂, arith, not-suc-le-zero, append-nil}
use Rattle.std.specs.Prelude.{reverse, ◌==◌, if◌then◌else◌}
use Rattle.std.specs.List.{slice_get, range_with_len}
use Rattle.std.proofs.Math.Seq.{take-length}
use Rattle.std.proofs.lemmas.List.Elements.{All-append, All-cons, All-head, All-nil, All-tail, All-same, filter-append, filter_passes}
use Rattle.std.proofs.lemmas.List.{reverse-append}
use Rattle.std.proofs.lemmas.List.FromFn.{length-map-range_with_len, get_or-map-range_with_len}
use Rattle.std.proofs.lemmas.Option.{slice_get-get_or}
use Rattle.call_journal.specs.declared.entry.Entry.{Entry}
use Rattle.call_journal.specs.declared.plan.Listed.{Listed}
use Rattle.session_lines.specs.declared.session.Session.{Session}
use Rattle.session_lines.specs.declared.session.Line.{Line}
use Rattle.session_script.specs.Plan.{AreListed, ArePlayed, driver_list, entries_by, is_of_caller, lines_by, none_up}
use Rattle.session_plan.specs.PlanOfSession.{caller_plan, driver_plan, plan_of}
use Rattle.session_plan.specs.PlayedEvents.{HasPlayed, Plays}
use Rattle.session_plan.specs.PlanLaws.{EndedListIsPlayed, EndedPlanIsListed, PlanIsListed, PlaysPlan}
use Rattle.session_plan.proofs.DriverLemmas.{driver_plays}
use Rattle.session_plan.proofs.CallerLemmas.{caller_plays}
use Rattle.session_plan.proofs.EndedLemmas.{ended_plays}

pub caller_at : (lines : List Line) (callers k : ℕ) → k < callers → slice_get (map (caller_plan lines) (range_with_len 1 callers)) k ≡ Some (caller_plan lines (suc k))
caller_at lines callers k less =
    slice_get-get_or (map (caller_plan lines) (range_with_len 1 callers)) k [] (subst (λ (n : ℕ). k < n) (sym (length-map-range_with_len (caller_plan lines) 1 callers)) less)
    ∙ ap (λ (x : List Listed). Some x) (get_or-map-range_with_len (caller_plan lines) 1 callers k (suc k) [] less (omega arith))

each_plays : (readable : List ℕ → Bool) (session : Session) (entries : List Entry) → PlaysPlan (plan_of readable session) entries
    → (caller : ℕ) → 1 ≤ caller → caller ≤ session.callers → ArePlayed (lines_by caller session.lines) (entries_by caller entries)
each_plays readable session entries h zero low high = absurd (not-suc-le-zero low)
each_plays readable session entries h (suc k) low high =
    caller_plays (suc k) (lines_by (suc k) session.lines) (entries_by (suc k) entries) (filter_passes (λ (line : Line). is_of_caller (suc k) line.work) session.lines)
    (h.each (suc k) (caller_plan session.lines (suc k)) (caller_at session.lines session.callers k high))

few : (n callers : ℕ) (entries : List Entry) → n ≡ callers → All (λ entry. entry.actor < suc n) entries → All (λ entry. entry.actor ≤ callers) entries
few n callers entries is h = λ i d less. omega (arith, is, h i d less)

pub plan_is_listed : PlanIsListed
plan_is_listed readable session entries h = record {
  driver = driver_plays (driver_list readable none_up session.lines) (entries_by 0 entries) (h.each 0 (driver_plan readable session.lines) refl);
  each_caller = each_plays readable session entries h;
  actors = few (length (map (caller_plan session.lines) (range_with_len 1 session.callers))) session.callers entries (length-map-range_with_len (caller_plan session.lines) 1 session.callers) h.actors;
}

pub ended_list_is_played : EndedListIsPlayed
ended_list_is_played list past h = subst (λ (ls : List Listed). Plays ls (reverse past)) (take-length list) (ended_plays list (length list) past h)

pub by_reverse : (actor : ℕ) (past : List Entry) → entries_by actor (reverse past) ≡ reverse (entries_by actor past)
by_reverse actor [] = refl
by_reverse actor (e ∷ past) =
    ap (λ (es : List Entry). entries_by actor es) (reverse-append (e ∷ []) past)
    ∙ filter-append (λ (x : Entry). x.actor == actor) (reverse past) (e ∷ [])
    ∙ ap (λ (es : List Entry). es ++ entries_by actor (e ∷ [])) (by_reverse actor past)
    ∙ by_test (e.actor == actor) (entries_by actor past)
  where
    by_test : (b : Bool) (es : List Entry) → reverse es ++ (if b then e ∷ [] else []) ≡ reverse (if b then e ∷ es else es)
    by_test true es = sym (reverse-append (e ∷ []) es)
    by_test false es = append-nil (reverse es)

all_reverse : (P : Entry → Type 0) (past : List Entry) → All P past → All P (reverse past)
all_reverse P [] h = h
all_reverse P (e ∷ past) h =
    All-same P (reverse (e ∷ past)) (reverse past ++ e ∷ []) (reverse-append (e ∷ []) past)
    (All-append P (reverse past) (e ∷ []) (all_reverse P past (All-tail P e past h)) (All-cons P e [] (All-head P e past h) (All-nil P)))

pub ended_plan_is_listed : EndedPlanIsListed
ended_plan_is_listed readable session history h = plan_is_listed readable session (reverse history) (record {
  actors = all_reverse (λ (x : Entry). x.actor < length (plan_of readable session)) history h.actors;
  each = λ actor list is. subst (λ (es : List Entry). Plays list es) (sym (by_reverse actor history)) (ended_list_is_played list (entries_by actor history) (h.each actor list is));
})

-- A Book in which nothing was done, and what finishing it gives.
use Rattle.std.proofs.Common.{◌≡◌, ◌<◌, ◌≤◌, ℕ, zero, suc, ◌+◌, List, [], ◌∷◌, ◌++◌, length, map, All, Bool, true, false, Option, Some, None, refl, sym, ap, ap₂, ◌∙◌, subst, arith, get_or}
use Rattle.std.specs.List.{range_with_len, slice_get}
use Rattle.std.proofs.lemmas.List.FromFn.{length-map-range_with_len, get_or-map-range_with_len}
use Rattle.std.proofs.lemmas.Option.{get_or_from_slice_get, slice_get_within}
use Rattle.call_journal.specs.declared.entry.Entry.{Entry}
use Rattle.call_journal.specs.declared.plan.Listed.{Listed}
use Rattle.xds_bootstrap.specs.declared.bootstrap.Bootstrap.{Bootstrap}
use Rattle.xds_name.specs.declared.target.Target.{Target}
use Rattle.session_lines.specs.declared.session.Session.{Session}
use Rattle.session_plan.specs.PlanOfSession.{plan_of}
use Rattle.session_plan.specs.ReadablePayloads.{is_response}
use Rattle.legal_plan.specs.xds_history.Setting.{setting_of}
use Rattle.legal_plan.specs.xds_history.Right.{Right}
use Rattle.legal_plan.specs.legal_history.Legal.{Legal}
use Rattle.book_progress.specs.ActorCounts.{count_of}
use Rattle.book_progress.specs.PlayedPlans.{IsPlayed}
use Rattle.book_progress.specs.ProgressKept.{counts_of}
use Rattle.xds_book.specs.BookViews.{BookView, LaneView}
use Rattle.xds_book.specs.BookEntries.{first_book, first_lane}
use Rattle.session_shape.specs.SessionShape.{IsWellFormed}
use Rattle.session_player.specs.LineProgress.{IsAtLine}
use Rattle.session_player.specs.Stages.{AreLanes, GoesOn, IsLaneAt, IsOfSession, StandsAt, StandsAtEnd}
use Rattle.session_player.proofs.EndLemmas.{begins, end_is_legal}
use Rattle.session_player.proofs.ScriptLemmas.{many_lists}

-- ---- the first lanes

no_counts : (n : ℕ) → length (counts_of n []) ≡ n
no_counts n = length-map-range_with_len (λ a. count_of a []) 0 n

first_at : (n k : ℕ) (lane : LaneView) → slice_get (map first_lane (range_with_len 0 n)) k ≡ Some lane → IsLaneAt [] k lane
first_at n k lane get =
    let lanes : List LaneView = map first_lane (range_with_len 0 n) in
    let within : k < length lanes = slice_get_within lanes k lane get in
    let many = length-map-range_with_len first_lane 0 n in
    let is : first_lane k ≡ lane = sym (get_or-map-range_with_len first_lane 0 n k k (first_lane k) (omega (arith, within, many)) (omega arith)) ∙ get_or_from_slice_get lanes k lane (first_lane k) get in
    subst (IsLaneAt [] k) is (record { actor_is = refl; count_is = refl })

first_lanes : (n room : ℕ) → AreLanes (first_book n room) (map first_lane (range_with_len 0 n))
first_lanes n room = record {
  counts_are = ap (λ (m : ℕ). counts_of m []) (sym (no_counts n));
  many = length-map-range_with_len first_lane 0 n ∙ sym (no_counts n);
  each = λ k lane get. first_at n k lane get;
}

pub lanes_begin : (n room : ℕ) (book : BookView) (lanes given : List LaneView) → book ≡ first_book n room → lanes ≡ map first_lane (range_with_len 0 n) → given ≡ lanes → AreLanes book given
lanes_begin n room book lanes given book_is lanes_are is =
    subst (λ (b : BookView). AreLanes b given) (sym book_is) (subst (λ (ls : List LaneView). AreLanes (first_book n room) ls) (sym (is ∙ lanes_are)) (first_lanes n room))

pub goes_begin : (session : Session) (n room : ℕ) (book : BookView) → n ≡ session.callers + 1 → book ≡ first_book n room → GoesOn session book
goes_begin session n room book many is = record {
  actors = ap (λ (b : BookView). length b.counts) is ∙ (no_counts n ∙ many);
  goes_on = ap (λ (b : BookView). b.is_spent) is;
}

pub stands_begin : (session : Session) (book : BookView) → IsWellFormed session → GoesOn session book → book.entries ≡ [] → StandsAt session 0 book
stands_begin session book formed goes none = record { goes = goes; at = subst (λ (es : List Entry). IsAtLine session 0 es) (sym none) (begins session formed) }

-- ---- the end

pub legal_end : (plan : Option (List (List Listed))) (boot : Bootstrap) (target : Target) (session : Session) (lists : List (List Listed)) (book : BookView) (entries : List Entry) → IsOfSession plan boot target session lists
    → StandsAtEnd session book → entries ≡ book.entries → Right (setting_of boot target) book.entries → IsPlayed plan book.entries → All (λ e. e.actor < length book.counts) book.entries → Legal session entries
legal_end plan boot target session lists book entries of end is right plays made =
    let own : Right (setting_of session.boot session.target) book.entries =
    subst (λ (b : Bootstrap). Right (setting_of b session.target) book.entries) of.boot_is (subst (λ (t : Target). Right (setting_of boot t) book.entries) of.target_is right) in
    let by_plan : IsPlayed (Some (plan_of is_response session)) book.entries =
    subst (λ (p : Option (List (List Listed))). IsPlayed p book.entries) (of.plan_is ∙ ap (λ (ls : List (List Listed)). Some ls) of.lists_are) plays in
    let many : length book.counts ≡ length (plan_of is_response session) = end.goes.actors ∙ sym (many_lists session) in
    let actors = subst (λ (n : ℕ). All (λ (e : Entry). e.actor < n) book.entries) many made in
    subst (λ (es : List Entry). Legal session es) (sym is) (end_is_legal session book.entries own by_plan actors end.at end.sweeps)

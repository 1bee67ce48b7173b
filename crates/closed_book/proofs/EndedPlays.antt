-- A Book whose actors have all ended is that of a legal history.
use Rattle.std.proofs.Common.{◌≡◌, ◌<◌, ◌≤◌, ℕ, suc, List, [], ◌∷◌, length, All, false, Option, Some, refl, inl, inr, sym, ap, ◌∙◌, subst, arith, append-nil}
use Rattle.std.specs.Prelude.{◌==◌}
use Rattle.std.specs.List.{slice_get}
use Rattle.std.proofs.lemmas.Bool.{cond-false}
use Rattle.std.proofs.lemmas.Bool.Decides.{nat_tests}
use Rattle.std.proofs.lemmas.List.FromFn.{length-map-range_with_len, get_or-map-range_with_len}
use Rattle.std.proofs.lemmas.Option.{get_or_from_slice_get, slice_get_cases, slice_get_within}
use Rattle.call_journal.specs.declared.entry.Entry.{Entry}
use Rattle.call_journal.specs.declared.plan.Count.{Count}
use Rattle.call_journal.specs.declared.plan.Listed.{Listed}
use Rattle.xds_bootstrap.specs.declared.bootstrap.Bootstrap.{Bootstrap}
use Rattle.xds_name.specs.declared.target.Target.{Target}
use Rattle.session_lines.specs.declared.session.Session.{Session}
use Rattle.session_plan.specs.PlanOfSession.{plan_of}
use Rattle.session_plan.specs.ReadablePayloads.{is_response}
use Rattle.channel_plan.specs.xds_history.Right.{Right}
use Rattle.channel_plan.specs.xds_history.Setting.{setting_of}
use Rattle.channel_plan.specs.legal_history.Legal.{EndsInSweep, Legal}
use Rattle.book_progress.specs.ActorCounts.{count_of, no_count}
use Rattle.book_progress.specs.PlayedPlans.{IsPlayed}
use Rattle.book_progress.specs.ProgressKept.{counts_of}
use Rattle.channel_plan.proofs.GateProofs.{gates_are_open}
use Rattle.channel_plan.specs.xds_book.BookKept.{HasActors, IsBy}
use Rattle.channel_plan.specs.xds_book.BookViews.{BookView}
use Rattle.channel_plan.specs.session_player.LineProgress.{HaveLeft}
use Rattle.channel_plan.specs.session_player.Stages.{IsOfSession}
use Rattle.channel_plan.proofs.session_player.EndLemmas.{end_is_legal}
use Rattle.channel_plan.specs.lane_checks.EndedPlans.{HaveEndedTo, all_ended}

no_entries : (n actor : ℕ) (history : List Entry) → n ≤ actor → All (IsBy n) history → count_of actor history ≡ no_count
no_entries n actor [] most made = refl
no_entries n actor (e ∷ past) most made =
    let less : e.actor < n = (made 0 e (omega arith)).actor in
    let other : (e.actor == actor) ≡ false = grind (arith, nat_tests, less, most) in
    cond-false (e.actor == actor) _ (count_of actor past) other ∙ no_entries n actor past most (λ k d within. made (suc k) d (omega (arith, within)))

count_at : (n actor : ℕ) (history : List Entry) (count : Count) → slice_get (counts_of n history) actor ≡ Some count → count_of actor history ≡ count
count_at n actor history count get =
    let counts : List Count = counts_of n history in
    let own : ℕ → Count = λ a. count_of a history in
    let within : actor < length counts = slice_get_within counts actor count get in
    let many = length-map-range_with_len own 0 n in
    sym (get_or-map-range_with_len own 0 n actor actor (own actor) (omega (arith, within, many)) (omega arith)) ∙ get_or_from_slice_get counts actor count (own actor) get

actors_by : (n : ℕ) (history : List Entry) → All (IsBy n) history → All (λ e. e.actor < n) history
actors_by n history made = λ k d within. (made k d within).actor

-- what is known of a Book whose actors have all ended
record HasAllEnded (lists : List (List Listed)) (book : BookView) : Type 0 where
  many : length lists ≡ length book.counts
  counted : book.counts ≡ counts_of (length book.counts) book.entries
  made : All (IsBy (length book.counts)) book.entries
  ended : HaveEndedTo (length lists) lists book.counts

ended_at : (lists : List (List Listed)) (book : BookView) (actor : ℕ) (list : List Listed) → HasAllEnded lists book → slice_get lists actor ≡ Some list → count_of actor book.entries ≡ all_ended list
ended_at lists book actor list has get =
    let count : slice_get book.counts actor ≡ Some (all_ended list) = has.ended actor list (slice_get_within lists actor list get) get in
    count_at (length book.counts) actor book.entries (all_ended list) (subst (λ (cs : List Count). slice_get cs actor ≡ Some (all_ended list)) has.counted count)

pins_down : (lists : List (List Listed)) (book : BookView) (actor : ℕ) → HasAllEnded lists book → (count_of actor book.entries).pins ≡ 0
pins_down lists book actor has = elim (slice_get_cases lists actor).1 [
  | inl found ↦ ap (λ (c : Count). c.pins) (ended_at lists book actor found.0 has found.2)
  | inr past ↦
      let most : length lists ≤ actor = past.0 in
      let many = has.many in
      ap (λ (c : Count). c.pins) (no_entries (length book.counts) actor book.entries (omega (arith, most, many)) has.made)
]

nothing_left : (lists : List (List Listed)) (book : BookView) → HasAllEnded lists book → HaveLeft lists (λ actor. []) book.entries
nothing_left lists book has = record {
  each = λ actor list get. record { front = list; whole = sym (append-nil list); many = sym (ap (λ (c : Count). c.ended) (ended_at lists book actor list has get)) };
  pins = λ actor. pins_down lists book actor has;
}

pub legal_by : (plan : Option (List (List Listed))) (boot : Bootstrap) (target : Target) (session : Session) (lists : List (List Listed)) (book : BookView) (entries : List Entry)
    → IsOfSession plan boot target session lists → entries ≡ book.entries → Right (setting_of boot target) book.entries → IsPlayed plan book.entries → HasActors plan (length book.counts)
    → book.counts ≡ counts_of (length book.counts) book.entries → All (IsBy (length book.counts)) book.entries → HaveEndedTo (length lists) lists book.counts → EndsInSweep book.entries → Legal session entries
legal_by plan boot target session lists book entries of is right plays actors counted made ended sweeps =
    let history : List Entry = book.entries in
    let own : Right (setting_of session.boot session.target) history =
    subst (λ (b : Bootstrap). Right (setting_of b session.target) history) of.boot_is (subst (λ (t : Target). Right (setting_of boot t) history) of.target_is right) in
    let by_plan : IsPlayed (Some (plan_of is_response session)) history =
    subst (λ (p : Option (List (List Listed))). IsPlayed p history) (of.plan_is ∙ ap (λ (ls : List (List Listed)). Some ls) of.lists_are) plays in
    let many : length lists ≡ length book.counts = subst (λ (p : Option (List (List Listed))). HasActors p (length book.counts)) of.plan_is actors in
    let has : HasAllEnded lists book = record { many = many; counted = counted; made = made; ended = ended } in
    let left : HaveLeft (plan_of is_response session) (λ actor. []) history = subst (λ (ls : List (List Listed)). HaveLeft ls (λ actor. []) history) of.lists_are (nothing_left lists book has) in
    let by_all : All (λ (e : Entry). e.actor < length (plan_of is_response session)) history =
    subst (λ (n : ℕ). All (λ (e : Entry). e.actor < n) history) (sym many ∙ ap length of.lists_are) (actors_by (length book.counts) history made) in
    let opened = gates_are_open (setting_of session.boot session.target) session history of.formed own by_plan in
    subst (λ (es : List Entry). Legal session es) (sym is) (end_is_legal session history own by_plan by_all (record { left = left; opened = opened }) sweeps)

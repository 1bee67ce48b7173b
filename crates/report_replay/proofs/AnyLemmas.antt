-- What the turns of any report leave.
use Rattle.std.proofs.Common.{◌≡◌, ◌≢◌, ℕ, zero, suc, List, All, None, Some, Result, Ok, Err, refl, sym, ◌∙◌, subst}
use Rattle.std.specs.Prelude.{IfOk}
use Rattle.std.proofs.lemmas.List.Elements.{All-cons}
use Rattle.std.specs.declared.alloc.AllocError.{AllocError}
use Rattle.call_journal.specs.declared.entry.Entry.{Entry}
use Rattle.call_journal.specs.declared.plan.Listed.{Listed}
use Rattle.config_assembly.specs.Orders.{Name}
use Rattle.completion_law.specs.CompletionLaw.{HasNoSweep}
use Rattle.replay_steps.specs.report_compare.declared.mistakes.Mistake.{Mistake}
use Rattle.report_turns.specs.declared.misplaced_turns.Misplaced.{Misplaced}
use Rattle.replay_steps.specs.turn_steps.declared.halts.Halt.{Halt}
use Rattle.turn_player.specs.TurnPlans.{SeatView}
use Rattle.turn_player.specs.TableSeats.{AreLeft, AreSeated, HasNoLineLeft, IsTurnPlayed}
use Rattle.turn_player.specs.xds_book.BookEntries.{entry_of}
use Rattle.turn_player.specs.xds_book.BookViews.{BookView}
use Rattle.replay_steps.specs.NextTurns.{IsNextAfter, IsWrong, next_made}
use Rattle.report_replay.specs.ReplayedTurns.{HasNoneLeft, IsEndOfAny, IsNextOfAny, IsUnderWay}
use Rattle.replay_steps.specs.declared.next_turns.Next.{Next}
use Rattle.replay_steps.specs.declared.next_turns.Next.TheVariants as next
use Rattle.report_replay.proofs.PlayLemmas.{Played, made_played}

-- a turn that is played leaves all under way; behind the last sweep no line is left
pub turn_leaves_any : (plan : List (List Listed)) (actor line : ℕ) (more : List ℕ) (old new : BookView) (before after : List SeatView) (told tells : List Name) → (AreSeated old before → AreSeated new after)
    → (line ≢ 0 → AreSeated old before → IsTurnPlayed actor line more old new told tells) → (line ≡ 0 → AreLeft old new before after told tells) → (line ≡ 0 → All (HasNoLineLeft plan) before) → IsUnderWay old before
    → IsNextOfAny plan new after (next_made line)
turn_leaves_any plan actor zero more old new before after told tells seated played last none under =
    let left : AreLeft old new before after told tells = last refl in
    record {
      under_way = subst (λ (b : BookView). IsUnderWay b after) (sym left.book) (subst (λ (ss : List SeatView). IsUnderWay old ss) (sym left.seats) under);
      none = subst (λ (ss : List SeatView). All (HasNoLineLeft plan) ss) (sym left.seats) (none refl);
    }
turn_leaves_any plan actor (suc n) more old new before after told tells seated played last none under =
    let numbered : suc n ≢ 0 = λ zeroth. absurd (cc zeroth) in
    let turned : IsTurnPlayed actor (suc n) more old new told tells = played numbered under.seated in
    let on : IsUnderWay new after = record {
      seated = seated under.seated;
      goes_on = turned.goes_on ∙ under.goes_on;
      no_sweep = subst (λ (es : List Entry). HasNoSweep es) (sym turned.entries)
          (All-cons (λ (e : Entry). e.line ≢ 0) (entry_of actor (suc n) turned.what) old.entries numbered under.no_sweep);
    } in
    subst (λ (n : Next). IsNextOfAny plan new after n) (sym (made_played (suc n) numbered)) on

-- ---- what comes next

wrong_is : {E : Type 0} (F : Next → Type 0) (result : Result Next E) → IfOk result IsWrong → ((mistake : Mistake) → F (next.Wrong mistake)) → IfOk result F
wrong_is F (Ok next.Played) is each = absurd is
wrong_is F (Ok next.End) is each = absurd is
wrong_is F (Ok (next.Wrong mistake)) is each = each mistake
wrong_is F (Err fault) is each = tt

abbrev refused : Misplaced → Played
refused why = Ok (Some why)

abbrev halted : Halt → Played
halted h = Err h

pub next_of_any : (F : Next → Type 0) (line : ℕ) (played : Played) (result : Result Next AllocError) → IsNextAfter line played result → (played ≢ Ok None → IfOk result IsWrong) → (played ≡ Ok None → F (next_made line))
    → (played ≢ Ok None → (mistake : Mistake) → F (next.Wrong mistake)) → IfOk result F
next_of_any F line (Ok None) result is wrong made mistaken = subst (λ (r : Result Next AllocError). IfOk r F) (sym is) (made refl)
next_of_any F line (Ok (Some why)) result is wrong made mistaken =
    let not : refused why ≢ Ok None = λ same. absurd (cc same) in
    wrong_is F result (wrong not) (mistaken not)
next_of_any F line (Err h) result is wrong made mistaken =
    let not : halted h ≢ Ok None = λ same. absurd (cc same) in
    wrong_is F result (wrong not) (mistaken not)

pub end_of_any : (plan : List (List Listed)) (book : BookView) (seats : List SeatView) (n : Next) → IsEndOfAny plan seats n → IsUnderWay book seats → IsNextOfAny plan book seats n
end_of_any plan book seats next.Played is under = absurd is
end_of_any plan book seats next.End is under = record { under_way = under; none = is }
end_of_any plan book seats (next.Wrong mistake) is under = under.no_sweep

-- ---- all turns

pub none_left : (plan : List (List Listed)) (book : BookView) (seats : List SeatView) (n : Next) → n ≡ next.End → IsNextOfAny plan book seats n → HasNoneLeft plan book seats
none_left plan book seats n is came = subst (λ (m : Next). IsNextOfAny plan book seats m) is came

pub stopped : (plan : List (List Listed)) (book : BookView) (seats : List SeatView) (n : Next) (mistake : Mistake) → n ≡ next.Wrong mistake → IsNextOfAny plan book seats n → HasNoSweep book.entries
stopped plan book seats n mistake is came = subst (λ (m : Next). IsNextOfAny plan book seats m) is came

-- What came of the turns of a report.
use Rattle.std.proofs.Common.{◌≡◌, ◌⊎◌, ◌<◌, ◌+◌, ℕ, List, map, Option, None, Some, subst, inl, inr}
use Rattle.std.specs.List.{range_with_len}
use Rattle.call_journal.specs.declared.entry.Entry.{Entry}
use Rattle.call_journal.specs.declared.plan.Listed.{Listed}
use Rattle.xds_bootstrap.specs.declared.bootstrap.Bootstrap.{Bootstrap}
use Rattle.xds_name.specs.declared.target.Target.{Target}
use Rattle.session_lines.specs.declared.session.Session.{Session}
use Rattle.report_replay.specs.completion_law.CompletionLaw.{HasNoSweep}
use Rattle.report_replay.specs.text_law.TextLaw.{text_of}
use Rattle.report_replay.specs.alike_law.AlikeTexts.{Parting, PartsAt}
use Rattle.report_replay.specs.report_compare.declared.mistakes.Mistake.{Mistake}
use Rattle.report_replay.specs.xds_book.BookEntries.{first_lane}
use Rattle.report_replay.specs.xds_book.BookViews.{BookView, LaneView}
use Rattle.report_replay.specs.turn_player.TurnPlans.{SeatView}
use Rattle.report_replay.specs.turn_player.TableSeats.{free_seat}
use Rattle.report_replay.specs.ReplayedTurns.{HasNoneLeft, HasRead, HasReplayed, IsBeyond, IsLegalReplay, IsPlayedByAny, IsReplayed, ReplayView}
use Rattle.report_replay.proofs.BeginLemmas.{begins}
use Rattle.judged_session.specs.JudgedTurns.{IsFirst, IsWhole}

-- before the first turn
pub play_begins : (plan : Option (List (List Listed))) (boot : Bootstrap) (target : Target) (session : Session) (history : List Entry) (lists : List (List Listed)) (callers : ℕ) (book : BookView) (lanes : List LaneView)
    (seats : List SeatView) (report : List ℕ) (replay : ReplayView) (number : ℕ) (parts : PartsAt number report (text_of session history)) → IsLegalReplay plan boot target session history lists → 0 < number → IsFirst callers book
    → lanes ≡ map first_lane (range_with_len 0 (callers + 1)) → seats ≡ map free_seat lanes → HasRead lists seats report replay → HasReplayed session history parts.parting 0 book replay
play_begins plan boot target session history lists callers book lanes seats report replay number parts legal some first lanes_are seats_are read =
    begins plan boot target session history lists (callers + 1) first.room book lanes seats report replay number parts legal some first.is lanes_are seats_are read

-- ---- after the last one, by the mistake that was found

pub beside_none : (session : Session) (history : List Entry) (parting : Parting) (found : Option Mistake) (book : BookView) (seats : List SeatView) → IsReplayed session history parting found book seats
    → IsWhole history book ⊎ IsBeyond session history parting book
beside_none session history parting found book seats (inl to) = inl (record { seats = seats; swept = to.swept })
beside_none session history parting found book seats (inr beyond) = inr beyond

pub beside_some : (session : Session) (history : List Entry) (parting : Parting) (found : Option Mistake) (mistake : Mistake) (book : BookView) (seats : List SeatView) → found ≡ Some mistake
    → IsReplayed session history parting found book seats → IsBeyond session history parting book
beside_some session history parting found mistake book seats is (inl to) = absurd (cc (is, to.none))
beside_some session history parting found mistake book seats is (inr beyond) = beyond

pub any_none : (plan : List (List Listed)) (book : BookView) (seats : List SeatView) (found : Option Mistake) → found ≡ None → IsPlayedByAny plan book seats found → HasNoneLeft plan book seats
any_none plan book seats found is any = subst (λ f. IsPlayedByAny plan book seats f) is any

pub any_some : (plan : List (List Listed)) (book : BookView) (seats : List SeatView) (found : Option Mistake) (mistake : Mistake) → found ≡ Some mistake → IsPlayedByAny plan book seats found → HasNoSweep book.entries
any_some plan book seats found mistake is any = subst (λ f. IsPlayedByAny plan book seats f) is any

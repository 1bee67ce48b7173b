-- Counts are no greater than the history is long.
use Rattle.std.proofs.Common.{◌≡◌, ◌≤◌, ℕ, ◌+◌, ◌-◌, ◌==◌, Bool, true, false, [], ◌∷◌, length, sym, subst, if◌then◌else◌, arith}
use Rattle.call_journal.specs.declared.event.CallerEvent.{CallerEvent}
use Rattle.call_journal.specs.declared.reply.CallerReply.{CallerReply}
use Rattle.call_journal.specs.declared.entry.What.{What}
use Rattle.call_journal.specs.declared.plan.Count.{Count}
use Rattle.book_progress.specs.ActorCounts.{count_of, count_after, count_called, count_pinned}
use Rattle.book_progress.specs.ProgressKept.{CountsAreFew}

abbrev pub both : Count → ℕ
both c = c.ended + c.pins

ended_grows : (c : Count) (n : ℕ) → c.ended + c.pins ≤ n → (c.ended + 1) + c.pins ≤ n + 1
ended_grows c n le = omega (arith, le)

pin_grows : (c : Count) (n : ℕ) → c.ended + c.pins ≤ n → c.ended + (c.pins + 1) ≤ n + 1
pin_grows c n le = omega (arith, le)

hold_grows : (c : Count) (n : ℕ) → c.ended + c.pins ≤ n → (c.ended + 1) + (c.pins - 1) ≤ n + 1
hold_grows c n le = omega (arith, le)

pin_more : (reply : CallerReply) (c : Count) (n : ℕ) → c.ended + c.pins ≤ n → (count_pinned reply c).ended + (count_pinned reply c).pins ≤ n + 1
pin_more (CallerReply.Pinned number) c n le = pin_grows c n le
pin_more CallerReply.NoSnapshot c n le = ended_grows c n le
pin_more (CallerReply.Routed number answer) c n le = ended_grows c n le
pin_more (CallerReply.Endpoint number child locality place) c n le = ended_grows c n le
pin_more (CallerReply.Queue number) c n le = ended_grows c n le
pin_more (CallerReply.Fail number reason) c n le = ended_grows c n le
pin_more (CallerReply.Drop number rule) c n le = ended_grows c n le
pin_more CallerReply.NotHeld c n le = ended_grows c n le
pin_more CallerReply.Released c n le = ended_grows c n le

called_more : (event : CallerEvent) (reply : CallerReply) (c : Count) (n : ℕ) → c.ended + c.pins ≤ n → (count_called event reply c).ended + (count_called event reply c).pins ≤ n + 1
called_more (CallerEvent.Pin call) reply c n le = pin_more reply c n le
called_more (CallerEvent.Hold call) reply c n le = hold_grows c n le
called_more (CallerEvent.Pick id word) reply c n le = ended_grows c n le
called_more (CallerEvent.Commit id) reply c n le = ended_grows c n le

what_more : (what : What) (c : Count) (n : ℕ) → c.ended + c.pins ≤ n → (count_after what c).ended + (count_after what c).pins ≤ n + 1
what_more (What.Driver event reply) c n le = ended_grows c n le
what_more (What.Caller event reply) c n le = called_more event reply c n le

entry_more : (b : Bool) (what : What) (c : Count) (n : ℕ) → c.ended + c.pins ≤ n → (if b then count_after what c else c).ended + (if b then count_after what c else c).pins ≤ n + 1
entry_more true what c n le = what_more what c n le
entry_more false what c n le = omega (arith, le)

pub counts_are_few : CountsAreFew
counts_are_few actor [] = omega arith
counts_are_few actor (e ∷ past) =
    let more = entry_more (e.actor == actor) e.what (count_of actor past) (length past) (counts_are_few actor past) in
    let long : length (e ∷ past) ≡ length past + 1 = omega arith in
    subst (λ n. (count_of actor (e ∷ past)).ended + (count_of actor (e ∷ past)).pins ≤ n) (sym long) more

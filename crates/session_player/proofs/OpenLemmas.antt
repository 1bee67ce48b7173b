-- Lines that have ended, and gates that are open.
use Rattle.std.proofs.Common.{◌≡◌, ◌<◌, ◌≤◌, ℕ, ◌+◌, List, [], ◌∷◌, Bool, true, false, ◌&&◌, ◌||◌, Option, Some, None, IsTrue, refl, sym, ap, ap₂, ◌∙◌, subst, arith, eq-eqb, inl, inr, ◌⊎◌}
use Rattle.std.specs.Prelude.{◌==◌}
use Rattle.std.proofs.lemmas.Bool.{cases_lt}
use Rattle.call_journal.specs.declared.event.CallerEvent.{CallerEvent}
use Rattle.call_journal.specs.declared.event.DriverEvent.{DriverEvent}
use Rattle.call_journal.specs.declared.reply.CallerReply.{CallerReply}
use Rattle.call_journal.specs.declared.entry.What.{What}
use Rattle.call_journal.specs.declared.entry.Entry.{Entry}
use Rattle.session_lines.specs.declared.session.Line.{Line}
use Rattle.legal_plan.specs.legal_history.Legal as legal
use Rattle.legal_plan.specs.legal_history.Legal.{AreOpen, gate_of}
use Rattle.book_progress.specs.EndedLines.{IsOpen, ends_line, has_ended}
use Rattle.session_shape.specs.SessionShape.{IsGate}
use Rattle.session_player.specs.LineProgress.{AreEndedTo, IsEnded}

-- ---- lines that have ended

-- an entry ends its line, in the words of both
pub record EndsIts (what : What) : Type 0 where
  pub planned : ends_line what ≡ true
  pub lawful : legal.ends_line what ≡ true

pub or_right : (a b : Bool) → b ≡ true → (a || b) ≡ true
or_right true b h = refl
or_right false b h = h

or_left : (a b : Bool) → a ≡ true → (a || b) ≡ true
or_left true b h = refl
or_left false b h = absurd (cc h)

and_true : (a b : Bool) → a ≡ true → b ≡ true → (a && b) ≡ true
and_true true b h k = k
and_true false b h k = absurd (cc h)

pub still_ended : (line : ℕ) (e : Entry) (past : List Entry) → IsEnded line past → IsEnded line (e ∷ past)
still_ended line e past ended = record {
  planned = or_right ((e.line == line) && ends_line e.what) (has_ended line past) ended.planned;
  lawful = or_right ((e.line == line) && legal.ends_line e.what) (legal.has_ended line past) ended.lawful;
}

now_ended : (line : ℕ) (e : Entry) (past : List Entry) → e.line ≡ line → EndsIts e.what → IsEnded line (e ∷ past)
now_ended line e past is ends = record {
  planned = or_left ((e.line == line) && ends_line e.what) (has_ended line past) (and_true (e.line == line) (ends_line e.what) (eq-eqb e.line line is) ends.planned);
  lawful = or_left ((e.line == line) && legal.ends_line e.what) (legal.has_ended line past) (and_true (e.line == line) (legal.ends_line e.what) (eq-eqb e.line line is) ends.lawful);
}

pub ended_more : (number : ℕ) (e : Entry) (past : List Entry) → AreEndedTo number past → AreEndedTo number (e ∷ past)
ended_more number e past ended = λ line least less. still_ended line e past (ended line least less)

-- the line of the newest entry has ended, too
pub ended_next : (place : ℕ) (e : Entry) (past : List Entry) → AreEndedTo (place + 5) past → e.line ≡ place + 5 → EndsIts e.what → AreEndedTo (place + 1 + 5) (e ∷ past)
ended_next place e past ended is ends = λ line least less. by_place line least less (cases_lt line (place + 5))
  where
    by_place : (line : ℕ) → 5 ≤ line → line < place + 1 + 5 → (line < place + 5) ⊎ (place + 5 ≤ line) → IsEnded line (e ∷ past)
    by_place line least less (inl lt) = still_ended line e past (ended line least lt)
    by_place line least less (inr le) = let same : e.line ≡ line = omega (arith, is, le, less) in now_ended line e past same ends

-- ---- gates

-- a gate is open, in the words of both
abbrev pub IsGateOpen : Option ℕ → List Entry → Type 0
IsGateOpen gate history = IsOpen gate history × legal.IsOpen gate history

pub open_at : (place number : ℕ) (gate : Option ℕ) (history : List Entry) → number ≡ place + 5 → IsGate number gate → AreEndedTo (place + 5) history → IsGateOpen gate history
open_at place number None history is gated ended = (tt, tt)
open_at place number (Some line) history is gated ended = let e = ended line gated.0 (omega (arith, is, gated.1)) in (e.planned, e.lawful)

pub still_open : (gate : Option ℕ) (e : Entry) (past : List Entry) → IsGateOpen gate past → IsGateOpen gate (e ∷ past)
still_open None e past opens = (tt, tt)
still_open (Some line) e past opens = let ended = still_ended line e past (record { planned = opens.0; lawful = opens.1 }) in (ended.planned, ended.lawful)

-- an entry of a line whose gate is open
pub open_more : (lines : List Line) (e : Entry) (past : List Entry) (gate : Option ℕ) → gate_of lines e.line ≡ gate → IsGateOpen gate past → AreOpen lines past → AreOpen lines (e ∷ past)
open_more lines e past gate is opens before = (subst (λ (g : Option ℕ). legal.IsOpen g past) (sym is) opens.1, before)

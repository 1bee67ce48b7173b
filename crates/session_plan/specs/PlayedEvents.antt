-- Entries that play the listed events of an actor (this project's own): each event is one entry, and a start is a pin and,
-- where the pin got a snapshot, a hold.
use Rattle.std.specs.Prelude.{◌≡◌, ℕ, suc, List, [], ◌∷◌, Bool, true, false, Some}
use Rattle.std.specs.List.{slice_get}
use Rattle.xc_base.specs.declared.call.Call.{Call}
use Rattle.call_journal.specs.declared.event.CallerEvent.{CallerEvent}
use Rattle.call_journal.specs.declared.event.CallerEvent.TheVariants as call
use Rattle.call_journal.specs.declared.reply.CallerReply.{CallerReply}
use Rattle.call_journal.specs.declared.entry.Entry.{Entry}
use Rattle.call_journal.specs.declared.entry.What.{What}
use Rattle.call_journal.specs.declared.plan.Listed.{Listed}
use Rattle.call_journal.specs.declared.plan.ListedEvent.{ListedEvent}
use Rattle.call_journal.specs.declared.plan.ListedEvent.TheVariants as listed
use Rattle.session_script.specs.Plan.{caller_event, driver_event}

-- ---- one event

-- the one entry of an event that isn't a start
abbrev pub IsOne : ListedEvent → What → Type 0
IsOne (listed.Driver event) what = driver_event what ≡ Some event
IsOne (listed.Start started) what = ⊥
IsOne (listed.Pick id word) what = caller_event what ≡ Some (call.Pick id word)
IsOne (listed.Commit id) what = caller_event what ≡ Some (call.Commit id)

abbrev pub is_snapshot : CallerReply → Bool
is_snapshot (CallerReply.Pinned number) = true
is_snapshot _ = false

abbrev pub got_snapshot : What → Bool
got_snapshot (What.Driver event reply) = false
got_snapshot (What.Caller event reply) = is_snapshot reply

-- the pin of a start, and whether it got a snapshot
pub record IsPin (event : ListedEvent) (what : What) (got : Bool) : Type 0 where
  pub call : Call
  pub start : event ≡ listed.Start call
  pub pin : caller_event what ≡ Some (CallerEvent.Pin call)
  pub reply : got_snapshot what ≡ got

pub record IsHold (event : ListedEvent) (what : What) : Type 0 where
  pub call : Call
  pub start : event ≡ listed.Start call
  pub hold : caller_event what ≡ Some (CallerEvent.Hold call)

-- ---- all events

-- the entries are the events, all of them, each once, in their order
pub data Plays : List Listed → List Entry → Type 0 where
  all : Plays [] []
  one : (next : Listed) → (later : List Listed) → (e : Entry) → (es : List Entry) → e.line ≡ next.line → IsOne next.event e.what → Plays later es → Plays (next ∷ later) (e ∷ es)
  pin : (next : Listed) → (later : List Listed) → (e : Entry) → (es : List Entry) → e.line ≡ next.line → IsPin next.event e.what false → Plays later es → Plays (next ∷ later) (e ∷ es)
  start : (next : Listed) → (later : List Listed) → (e f : Entry) → (es : List Entry) → e.line ≡ next.line → IsPin next.event e.what true
      → f.line ≡ next.line → IsHold next.event f.what → Plays later es → Plays (next ∷ later) (e ∷ f ∷ es)

-- ---- the first events

-- of an actor's list the first events, so many, have ended, and then so many pins are up, at most one; the newest entry first
pub data HasPlayed (list : List Listed) : ℕ → ℕ → List Entry → Type 0 where
  none : HasPlayed list 0 0 []
  one : (n : ℕ) → (next : Listed) → (e : Entry) → (past : List Entry) → slice_get list n ≡ Some next → e.line ≡ next.line → IsOne next.event e.what
      → HasPlayed list n 0 past → HasPlayed list (suc n) 0 (e ∷ past)
  pin : (n : ℕ) → (next : Listed) → (e : Entry) → (past : List Entry) → slice_get list n ≡ Some next → e.line ≡ next.line → IsPin next.event e.what false
      → HasPlayed list n 0 past → HasPlayed list (suc n) 0 (e ∷ past)
  up : (n : ℕ) → (next : Listed) → (e : Entry) → (past : List Entry) → slice_get list n ≡ Some next → e.line ≡ next.line → IsPin next.event e.what true
      → HasPlayed list n 0 past → HasPlayed list n 1 (e ∷ past)
  held : (n : ℕ) → (next : Listed) → (e : Entry) → (past : List Entry) → slice_get list n ≡ Some next → e.line ≡ next.line → IsHold next.event e.what
      → HasPlayed list n 1 past → HasPlayed list (suc n) 0 (e ∷ past)

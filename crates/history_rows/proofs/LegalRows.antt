-- What is a legal history of small sessions, and what isn't: a row for each field of `IsHistoryOf`, which is seen where that
-- field is left out, or where all histories are legal.
use Rattle.std.proofs.Common.{◌≡◌, ◌≤◌, refl, ap, ℕ, zero, suc, List, [], ◌∷◌, length, Bool, true, false, if◌then◌else◌, ◌==◌, Option, Some, None, codes, arith}
use Rattle.std.proofs.lemmas.List.Elements.{All-from_recursion, All-head}
use Rattle.xc_base.specs.declared.call.Call.{Call}
use Rattle.xc_base.specs.declared.names.Home.{Home}
use Rattle.xc_base.specs.declared.names.Kind.{Kind}
use Rattle.xds_bootstrap.specs.declared.bootstrap.Bootstrap.{Bootstrap}
use Rattle.xds_name.specs.declared.target.Target.{Target}
use Rattle.ads_stream.specs.declared.verdict.Verdict.{Verdict}
use Rattle.call_journal.specs.declared.event.DriverEvent.{DriverEvent}
use Rattle.call_journal.specs.declared.event.CallerEvent.{CallerEvent}
use Rattle.call_journal.specs.declared.reply.CallerReply.{CallerReply}
use Rattle.call_journal.specs.declared.entry.Entry.{Entry}
use Rattle.session_lines.specs.declared.session.Act.{Act}
use Rattle.session_lines.specs.declared.session.DriverLine.{DriverLine}
use Rattle.session_lines.specs.declared.session.Work.{Work}
use Rattle.session_lines.specs.declared.session.Line.{Line}
use Rattle.session_lines.specs.declared.session.Session.{Session}
use Rattle.session_script.specs.Plan.{ArePlayed, all, driver_list, entries_by, lines_by}
use Rattle.legal_history.specs.Legal.{AreStarted, Legal}
use Rattle.legal_history.proofs.Rows.{a_node, at_most, called, driven, on_line}

-- ---- sessions of one caller, of which the channel's target is the listener `web`

abbrev target : Target
target = record { key = record { kind = Kind.Listener; name = codes "web"; home = Home.At (record { 0 = 0 }) }; host = codes "web" }

abbrev boot : Bootstrap
boot = record { authorities = record { name = []; server_uri = codes "xds:443"; template = codes "%s" } ∷ []; node = a_node }

abbrev session : List Line → Session
session lines = record { boot = boot; target = target; callers = 1; lines = lines }

-- ---- entries

abbrev call : Call
call = record { id = record { 0 = 0 }; path = []; headers = []; word = 0 }

-- a sweep on this line, with this verdict, while the listener is awaited
abbrev sweep : ℕ → Verdict → Entry
sweep line verdict = on_line 0 line (driven DriverEvent.Sweep verdict (Some target.key) [] None [])

abbrev last_sweep : Entry
last_sweep = sweep 0 Verdict.Done

abbrev pick : ℕ → ℕ → Entry
pick caller line = on_line caller line (called (CallerEvent.Pick call.id 0) CallerReply.NotHeld)

abbrev pick_line : Option ℕ → Line
pick_line gate = record { number = 6; gate = gate; work = Work.Caller 1 (Act.Pick call.id 0) }

abbrev sweep_line : Line
sweep_line = record { number = 5; gate = None; work = Work.Driver DriverLine.Sweep }

-- ---- a legal one: seen where no history is legal

no_call : (caller : ℕ) → 1 ≤ caller → caller ≤ 1 → ArePlayed (lines_by caller []) (entries_by caller (last_sweep ∷ []))
no_call zero low high = absurd (omega (arith, low))
no_call (suc zero) low high = all
no_call (suc (suc n)) low high = absurd (omega (arith, high))

none_starts : (here : Bool) → AreStarted (if here then last_sweep ∷ [] else [])
none_starts true = (tt, tt)
none_starts false = tt

the_last_sweep_alone : Legal (session []) (last_sweep ∷ [])
unfolding driver_list
the_last_sweep_alone = record {
  right = (record { verdict_is = refl; refused_is = refl; sent_is = refl; missing_is = refl; number_is = refl }, tt);
  listed = record { driver = refl; each_caller = no_call; actors = All-from_recursion (λ entry. entry.actor ≤ 1) (last_sweep ∷ []) (at_most 0 1 refl, tt) };
  started = λ caller. none_starts (0 == caller);
  opened = (tt, tt);
  ends = refl;
}

-- ---- a wrong reply: seen where `right` is left out

a_wrong_reply : Legal (session []) (sweep 0 Verdict.Ignored ∷ []) → ⊥
a_wrong_reply legal = cc legal.right.0.verdict_is

-- ---- other entries than the session lists: seen where `listed` is left out

an_actor_above_the_callers : Legal (session []) (last_sweep ∷ pick 2 6 ∷ []) → ⊥
an_actor_above_the_callers legal =
    let few : 2 ≤ 1 = All-head (λ entry. entry.actor ≤ 1) (pick 2 6) (last_sweep ∷ []) legal.listed.actors in absurd (omega (arith, few))

a_line_of_the_driver_is_left_out : Legal (session (sweep_line ∷ [])) (last_sweep ∷ []) → ⊥
unfolding driver_list
a_line_of_the_driver_is_left_out legal = let many : 1 ≡ 2 = ap length legal.listed.driver in absurd (omega (arith, many))

-- ---- a pin that is told a snapshot, and no hold: seen where `started` is left out, or asked for no caller

abbrev pin : Entry
pin = on_line 1 6 (called (CallerEvent.Pin call) (CallerReply.Pinned 1))

abbrev start_line : Line
start_line = record { number = 6; gate = None; work = Work.Caller 1 (Act.Start call) }

a_pin_without_its_hold : Legal (session (start_line ∷ [])) (last_sweep ∷ pin ∷ []) → ⊥
a_pin_without_its_hold legal = let none = legal.started 1 in cc none.0

-- ---- an entry before its gate: seen where `opened` is left out

a_gate_passed_early : Legal (session (sweep_line ∷ pick_line (Some 5) ∷ [])) (last_sweep ∷ sweep 5 Verdict.Done ∷ pick 1 6 ∷ []) → ⊥
a_gate_passed_early legal = let closed = legal.opened in cc closed.1.1.0

-- ---- an entry behind the last sweep: seen where `ends` is left out

abbrev is_by_driver : ℕ × Option DriverEvent → Bool
is_by_driver (line, Some event) = true
is_by_driver _ = false

an_entry_behind_the_last_sweep : Legal (session (pick_line None ∷ [])) (pick 1 6 ∷ last_sweep ∷ []) → ⊥
an_entry_behind_the_last_sweep legal = cc (ap is_by_driver legal.ends)

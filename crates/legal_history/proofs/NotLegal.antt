-- What is no legal history, by small histories with one thing wrong in each.
use Rattle.std.proofs.Common.{◌≡◌, ◌≤◌, inl, inr, refl, ap, ℕ, zero, List, [], ◌∷◌, ◌++◌, length, map, Bool, true, false, Option, Some, None, arith, length-append}
use Rattle.xc_base.specs.declared.call.Call.{Call}
use Rattle.xc_base.specs.declared.names.Authority.{Authority}
use Rattle.ads_stream.specs.declared.verdict.Verdict.{Verdict}
use Rattle.xds_history.specs.call_journal.declared.event.BytesHow.{BytesHow}
use Rattle.xds_history.specs.call_journal.declared.event.DriverEvent.{DriverEvent}
use Rattle.xds_history.specs.call_journal.declared.event.CallerEvent.{CallerEvent}
use Rattle.xds_history.specs.call_journal.declared.reply.CallerReply.{CallerReply}
use Rattle.xds_history.specs.call_journal.declared.entry.What.{What}
use Rattle.xds_history.specs.call_journal.declared.entry.Entry.{Entry}
use Rattle.route_match.specs.declared.answer.RouteAnswer.{RouteAnswer}
use Rattle.session_lines.specs.declared.session.Act.{Act}
use Rattle.session_lines.specs.declared.session.DriverLine.{DriverLine}
use Rattle.session_lines.specs.declared.session.Work.{Work}
use Rattle.session_lines.specs.declared.session.Line.{Line}
use Rattle.session_script.specs.Plan.{ActEvents, WorkEvents, ArePlayed, all, next, caller_event}
use Rattle.session_script.proofs.RoomLemmas.{few_caller}
use Rattle.legal_history.specs.Legal.{AreOpen, AreStarted, EndsInSweep, begins_with_hold, is_hold}
use Rattle.legal_history.proofs.Rows.{called, driven, on_line}

-- ---- what holds of the entries of a caller's lines

some_act : (a : Act) (now : List Entry) → ActEvents a (map (λ entry. caller_event entry.what) now) → 1 ≤ length now
some_act (Act.Start call) [] (inl e) = absurd (cc e)
some_act (Act.Start call) [] (inr e) = absurd (cc e)
some_act (Act.Pick call word) [] e = absurd (cc e)
some_act (Act.Commit call) [] e = absurd (cc e)
some_act a (entry ∷ now) e = omega arith

some_work : (w : Work) (now : List Entry) → WorkEvents w (map (λ entry. caller_event entry.what) now) → 1 ≤ length now
some_work (Work.Driver what) now e = absurd e
some_work (Work.Caller caller what) now e = some_act what now e

-- each line has an entry
each_line : (lines : List Line) (made : List Entry) → ArePlayed lines made → length lines ≤ length made
each_line lines made all = omega arith
each_line lines made (next line more now later numbers events rest) =
    let here = some_work line.work now events in
    let others = each_line more later rest in
    let both = length-append now later in
    rw both (omega (arith, here, others))

abbrev holds : Option CallerEvent → Bool
holds (Some (CallerEvent.Hold call)) = true
holds _ = false

not_hold : (w : What) (event : CallerEvent) → caller_event w ≡ Some event → holds (Some event) ≡ false → is_hold w ≡ false
not_hold (What.Driver event reply) other is none = refl
not_hold (What.Caller (CallerEvent.Pin call) reply) other is none = refl
not_hold (What.Caller (CallerEvent.Hold call) reply) other is none = let same = ap holds is in absurd (cc (same, none))
not_hold (What.Caller (CallerEvent.Pick id word) reply) other is none = refl
not_hold (What.Caller (CallerEvent.Commit id) reply) other is none = refl

first_act : (a : Act) (now later : List Entry) → ActEvents a (map (λ entry. caller_event entry.what) now) → begins_with_hold (now ++ later) ≡ false
first_act (Act.Start call) [] later (inl e) = absurd (cc e)
first_act (Act.Start call) [] later (inr e) = absurd (cc e)
first_act (Act.Pick call word) [] later e = absurd (cc e)
first_act (Act.Commit call) [] later e = absurd (cc e)
first_act (Act.Start call) (entry ∷ now) later (inl e) = not_hold entry.what (CallerEvent.Pin call) (cc e) refl
first_act (Act.Start call) (entry ∷ now) later (inr e) = not_hold entry.what (CallerEvent.Pin call) (cc e) refl
first_act (Act.Pick call word) (entry ∷ now) later e = not_hold entry.what (CallerEvent.Pick call word) (cc e) refl
first_act (Act.Commit call) (entry ∷ now) later e = not_hold entry.what (CallerEvent.Commit call) (cc e) refl

first_work : (w : Work) (now later : List Entry) → WorkEvents w (map (λ entry. caller_event entry.what) now) → begins_with_hold (now ++ later) ≡ false
first_work (Work.Driver what) now later e = absurd e
first_work (Work.Caller caller what) now later e = first_act what now later e

-- the entries of a caller don't begin with a hold
no_hold_first : (lines : List Line) (made : List Entry) → ArePlayed lines made → begins_with_hold made ≡ false
no_hold_first lines made all = refl
no_hold_first lines made (next line more now later numbers events rest) = first_work line.work now later events

-- ---- small histories

abbrev call : Call
call = record { id = record { 0 = 0 }; path = []; headers = []; word = 0 }

abbrev default : Authority
default = record { 0 = 0 }

abbrev gated : ℕ → Option ℕ → Work → Line
gated number gate work = record { number = number; gate = gate; work = work }

abbrev start_line : Line
start_line = gated 6 (Some 5) (Work.Caller 1 (Act.Start call))

abbrev pick_line : Line
pick_line = gated 7 None (Work.Caller 1 (Act.Pick (record { 0 = 0 }) 0))

abbrev early_pin : Entry
early_pin = on_line 1 6 (called (CallerEvent.Pin call) CallerReply.NoSnapshot)

abbrev pin : Entry
pin = on_line 1 6 (called (CallerEvent.Pin call) (CallerReply.Pinned 1))

abbrev hold : Entry
hold = on_line 1 6 (called (CallerEvent.Hold call) (CallerReply.Routed 1 RouteAnswer.NoRoute))

abbrev pick : Entry
pick = on_line 1 7 (called (CallerEvent.Pick (record { 0 = 0 }) 0) CallerReply.NotHeld)

abbrev response : Entry
response = on_line 0 5 (driven (DriverEvent.Response default []) Verdict.Ignored None [] None [])

abbrev bytes : Entry
bytes = on_line 0 5 (driven (DriverEvent.Bytes default BytesHow.Whole) Verdict.Done None [] None [])

abbrev sweep : Entry
sweep = on_line 0 0 (driven DriverEvent.Sweep Verdict.Done None [] None [])

-- ---- each line once: seen where a line's events may come twice, or not at all

a_line_twice : ArePlayed (pick_line ∷ []) (pick ∷ pick ∷ []) → ⊥
a_line_twice played = let few : 2 ≤ 1 = few_caller (pick_line ∷ []) (pick ∷ pick ∷ []) played in absurd (omega (arith, few))

a_line_left_out : ArePlayed (start_line ∷ pick_line ∷ []) (pick ∷ []) → ⊥
a_line_left_out played = let few : 2 ≤ 1 = each_line (start_line ∷ pick_line ∷ []) (pick ∷ []) played in absurd (omega (arith, few))

-- ---- pins and holds: seen where a start may be a hold alone, or where any pin, or none, is followed by a hold

a_hold_without_a_pin : ArePlayed (start_line ∷ []) (hold ∷ []) → ⊥
a_hold_without_a_pin played = cc (no_hold_first (start_line ∷ []) (hold ∷ []) played)

a_hold_without_a_snapshot : AreStarted (early_pin ∷ hold ∷ []) → ⊥
a_hold_without_a_snapshot started = cc started.0

a_pin_without_its_hold : AreStarted (pin ∷ pick ∷ []) → ⊥
a_pin_without_its_hold started = cc started.0

-- ---- gates: seen where a gate is always open, or is passed at the response of its line, or at an answered pin

abbrev lines : List Line
lines = gated 5 None (Work.Driver (DriverLine.Bytes default (0 ∷ []))) ∷ start_line ∷ gated 8 (Some 6) (Work.Driver DriverLine.Sweep) ∷ []

abbrev gated_sweep : Entry
gated_sweep = on_line 0 8 (driven DriverEvent.Sweep Verdict.Done None [] None [])

a_gate_is_shut_at_first : AreOpen lines (pin ∷ []) → ⊥
a_gate_is_shut_at_first opened = cc opened.0

a_response_ends_no_line : AreOpen lines (pin ∷ response ∷ []) → ⊥
a_response_ends_no_line opened = cc opened.0

an_answered_pin_ends_no_line : AreOpen lines (gated_sweep ∷ pin ∷ bytes ∷ response ∷ []) → ⊥
an_answered_pin_ends_no_line opened = cc opened.0

-- and what passes: the bytes end the line, and so does a hold, and a pin that got no snapshot
gates_that_are_passed : AreOpen lines (gated_sweep ∷ hold ∷ pin ∷ bytes ∷ response ∷ []) × AreOpen lines (gated_sweep ∷ early_pin ∷ bytes ∷ [])
gates_that_are_passed = ((refl, (refl, (refl, (tt, (tt, tt))))), (refl, (refl, (tt, tt))))

-- a line and an event as two tests, which tell entries apart
abbrev is_sweep_of_none : ℕ × Option DriverEvent → Bool
is_sweep_of_none (zero, Some DriverEvent.Sweep) = true
is_sweep_of_none _ = false

-- ---- the last sweep: seen where any last entry will do

no_last_sweep : EndsInSweep (pick ∷ sweep ∷ []) → ⊥
no_last_sweep ends = cc (ap is_sweep_of_none ends)

a_sweep_of_a_line : EndsInSweep (gated_sweep ∷ []) → ⊥
a_sweep_of_a_line ends = cc (ap is_sweep_of_none ends)

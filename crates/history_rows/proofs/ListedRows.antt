-- What entries aren't those of some lines: each differs in one thing from entries that are, and what catches it is said.
use Rattle.std.proofs.Common.{◌≡◌, ◌≤◌, refl, ap, sym, subst, All, ℕ, zero, suc, inl, inr, List, [], ◌∷◌, ◌++◌, length, map, Bool, Option, Some, None, arith}
use Rattle.std.proofs.lemmas.List.Elements.{All-from_recursion, All-head}
use Rattle.xc_base.specs.declared.names.CallId.{CallId}
use Rattle.ads_stream.specs.declared.verdict.Verdict.{Verdict}
use Rattle.call_journal.specs.declared.event.DriverEvent.{DriverEvent}
use Rattle.call_journal.specs.declared.event.CallerEvent.{CallerEvent}
use Rattle.call_journal.specs.declared.reply.CallerReply.{CallerReply}
use Rattle.call_journal.specs.declared.entry.Entry.{Entry}
use Rattle.session_lines.specs.declared.session.Act.{Act}
use Rattle.session_lines.specs.declared.session.DriverLine.{DriverLine}
use Rattle.session_lines.specs.declared.session.Work.{Work}
use Rattle.session_lines.specs.declared.session.Line.{Line}
use Rattle.session_script.specs.Plan.{ActEvents, AreListed, ArePlayed, WorkEvents, all, next, caller_event, driver_list, entries_by, entry_event, lines_by, listed_event, none_up}
use Rattle.legal_history.proofs.Rows.{at_most, called, driven, on_line}

-- ---- what holds of the first entry of a caller's lines

-- the event with which a line begins
abbrev first_event : Act → CallerEvent
first_event (Act.Start call) = CallerEvent.Pin call
first_event (Act.Pick id word) = CallerEvent.Pick id word
first_event (Act.Commit id) = CallerEvent.Commit id

abbrev BeginsWith : Work → Option CallerEvent → Type 0
BeginsWith (Work.Driver what) event = ⊥
BeginsWith (Work.Caller caller what) event = event ≡ Some (first_event what)

-- the first entry is of the first line, and has its event
abbrev Begins : List Line → List Entry → Type 0
Begins [] [] = Unit {0}
Begins [] (entry ∷ made) = ⊥
Begins (line ∷ lines) [] = ⊥
Begins (line ∷ lines) (entry ∷ made) = (entry.line ≡ line.number) × BeginsWith line.work (caller_event entry.what)

act_begins : (what : Act) (event : Option CallerEvent) (more : List (Option CallerEvent)) → ActEvents what (event ∷ more) → event ≡ Some (first_event what)
act_begins (Act.Start call) event more (inl events) = cc events
act_begins (Act.Start call) event more (inr events) = cc events
act_begins (Act.Pick id word) event more events = cc events
act_begins (Act.Commit id) event more events = cc events

work_begins : (work : Work) (event : Option CallerEvent) (more : List (Option CallerEvent)) → WorkEvents work (event ∷ more) → BeginsWith work event
work_begins (Work.Driver what) event more events = events
work_begins (Work.Caller caller what) event more events = act_begins what event more events

act_has_some : (what : Act) → ActEvents what [] → ⊥
act_has_some (Act.Start call) (inl events) = cc events
act_has_some (Act.Start call) (inr events) = cc events
act_has_some (Act.Pick id word) events = cc events
act_has_some (Act.Commit id) events = cc events

work_has_some : (work : Work) → WorkEvents work [] → ⊥
work_has_some (Work.Driver what) events = events
work_has_some (Work.Caller caller what) events = act_has_some what events

line_begins : (line : Line) (lines : List Line) (now later : List Entry) → All (λ entry. entry.line ≡ line.number) now
    → WorkEvents line.work (map (λ entry. caller_event entry.what) now) → Begins (line ∷ lines) (now ++ later)
line_begins line lines [] later numbers events = absurd (work_has_some line.work events)
line_begins line lines (entry ∷ now) later numbers events =
    (All-head (λ e. e.line ≡ line.number) entry now numbers, work_begins line.work (caller_event entry.what) (map (λ e. caller_event e.what) now) events)

begins : (lines : List Line) (made : List Entry) → ArePlayed lines made → Begins lines made
begins lines made all = tt
begins lines made (next line more now later numbers events rest) = line_begins line more now later numbers events

-- ---- lines, and entries that are theirs

abbrev a_call : CallId
a_call = record { 0 = 0 }

abbrev ungated : ℕ → Work → Line
ungated number work = record { number = number; gate = None; work = work }

-- the driver sweeps, two callers pick by the same word, and then the time is told
abbrev lines : List Line
lines =
    ungated 5 (Work.Driver DriverLine.Sweep)
    ∷ ungated 6 (Work.Caller 1 (Act.Pick a_call 0))
    ∷ ungated 7 (Work.Caller 2 (Act.Pick a_call 0))
    ∷ ungated 8 (Work.Driver (DriverLine.Moment (record { 0 = 9 })))
    ∷ []

abbrev by_driver : ℕ → DriverEvent → Entry
by_driver line event = on_line 0 line (driven event Verdict.Done None [] None [])

abbrev sweep : Entry
sweep = by_driver 5 DriverEvent.Sweep

abbrev moment : Entry
moment = by_driver 8 (DriverEvent.Moment (record { 0 = 9 }))

abbrev last_sweep : Entry
last_sweep = by_driver 0 DriverEvent.Sweep

-- a pick of a caller on a line, by a word
abbrev pick : ℕ → ℕ → ℕ → Entry
pick caller line word = on_line caller line (called (CallerEvent.Pick a_call word) CallerReply.NotHeld)

abbrev whole : List Entry
whole = sweep ∷ pick 1 6 0 ∷ pick 2 7 0 ∷ moment ∷ last_sweep ∷ []

-- the entries of a caller are those of its line
played : (number caller : ℕ) → ArePlayed (ungated number (Work.Caller caller (Act.Pick a_call 0)) ∷ []) (pick caller number 0 ∷ [])
played number caller =
    next (ungated number (Work.Caller caller (Act.Pick a_call 0))) [] (pick caller number 0 ∷ []) []
    (All-from_recursion (λ entry. entry.line ≡ number) (pick caller number 0 ∷ []) (refl, tt)) refl all

each_of : (entries : List Entry) → entries_by 1 entries ≡ pick 1 6 0 ∷ [] → entries_by 2 entries ≡ pick 2 7 0 ∷ []
    → (caller : ℕ) → 1 ≤ caller → caller ≤ 2 → ArePlayed (lines_by caller lines) (entries_by caller entries)
each_of entries one two zero low high = absurd (omega (arith, low))
each_of entries one two (suc zero) low high = subst (ArePlayed (lines_by 1 lines)) (sym one) (played 6 1)
each_of entries one two (suc (suc zero)) low high = subst (ArePlayed (lines_by 2 lines)) (sym two) (played 7 2)
each_of entries one two (suc (suc (suc n))) low high = absurd (omega (arith, high))

-- seen where no entries are those of their lines
the_whole : (readable : List ℕ → Bool) → AreListed readable 2 lines whole
unfolding driver_list
the_whole readable = record {
  driver = refl;
  each_caller = each_of whole refl refl;
  actors = All-from_recursion (λ entry. entry.actor ≤ 2) whole (at_most 0 2 refl, (at_most 1 2 refl, (at_most 2 2 refl, (at_most 0 2 refl, (at_most 0 2 refl, tt)))));
}

-- the order in which different actors act is free: seen where all entries stand in one order
in_another_order : (readable : List ℕ → Bool) → AreListed readable 2 lines (pick 2 7 0 ∷ sweep ∷ moment ∷ pick 1 6 0 ∷ last_sweep ∷ [])
unfolding driver_list
in_another_order readable = record {
  driver = refl;
  each_caller = each_of (pick 2 7 0 ∷ sweep ∷ moment ∷ pick 1 6 0 ∷ last_sweep ∷ []) refl refl;
  actors = All-from_recursion (λ entry. entry.actor ≤ 2) (pick 2 7 0 ∷ sweep ∷ moment ∷ pick 1 6 0 ∷ last_sweep ∷ [])
      (at_most 2 2 refl, (at_most 0 2 refl, (at_most 0 2 refl, (at_most 1 2 refl, (at_most 0 2 refl, tt)))));
}

-- ---- actors: seen where `actors` is left out, or where one more than there are may act

abbrev with_a_third : List Entry
with_a_third = pick 3 7 0 ∷ whole

an_actor_above_the_callers : (readable : List ℕ → Bool) → AreListed readable 2 lines with_a_third → ⊥
an_actor_above_the_callers readable listed =
    let few : 3 ≤ 2 = All-head (λ entry. entry.actor ≤ 2) (pick 3 7 0) whole listed.actors in absurd (omega (arith, few))

-- nothing else refuses it
the_third_is_no_other_actor : (readable : List ℕ → Bool) →
    (map entry_event (entries_by 0 with_a_third) ≡ map listed_event (driver_list readable none_up lines))
    × ((caller : ℕ) → 1 ≤ caller → caller ≤ 2 → ArePlayed (lines_by caller lines) (entries_by caller with_a_third))
unfolding driver_list
the_third_is_no_other_actor readable = (refl, each_of with_a_third refl refl)

-- ---- callers

-- seen where only callers above 1 count: `1 < caller`
the_first_caller_is_left_out : (readable : List ℕ → Bool) → AreListed readable 2 lines (sweep ∷ pick 2 7 0 ∷ moment ∷ last_sweep ∷ []) → ⊥
the_first_caller_is_left_out readable listed = begins (lines_by 1 lines) [] (listed.each_caller 1 (at_most 1 1 refl) (at_most 1 2 refl))

-- seen where only callers below the last count: `caller < callers`
the_second_caller_is_left_out : (readable : List ℕ → Bool) → AreListed readable 2 lines (sweep ∷ pick 1 6 0 ∷ moment ∷ last_sweep ∷ []) → ⊥
the_second_caller_is_left_out readable listed = begins (lines_by 2 lines) [] (listed.each_caller 2 (at_most 1 2 refl) (at_most 2 2 refl))

-- seen where a line may be played by any caller: `entries_by` of all callers
another_caller_plays_the_line : (readable : List ℕ → Bool) → AreListed readable 2 lines (sweep ∷ pick 1 6 0 ∷ pick 1 7 0 ∷ moment ∷ last_sweep ∷ []) → ⊥
another_caller_plays_the_line readable listed = begins (lines_by 2 lines) [] (listed.each_caller 2 (at_most 1 2 refl) (at_most 2 2 refl))

-- seen where the numbers of lines don't count: the entries' line left out of `ArePlayed`
callers_that_change_lines : (readable : List ℕ → Bool) → AreListed readable 2 lines (sweep ∷ pick 2 6 0 ∷ pick 1 7 0 ∷ moment ∷ last_sweep ∷ []) → ⊥
callers_that_change_lines readable listed =
    let played = begins (lines_by 1 lines) (pick 1 7 0 ∷ []) (listed.each_caller 1 (at_most 1 1 refl) (at_most 1 2 refl)) in
    let same : 7 ≡ 6 = played.0 in absurd (omega (arith, same))

-- a word of a caller's event
abbrev word_of : Option CallerEvent → ℕ
word_of (Some (CallerEvent.Pick id word)) = word
word_of _ = 0

-- seen where the events of lines don't count: `WorkEvents` left out of `ArePlayed`
another_word : (readable : List ℕ → Bool) → AreListed readable 2 lines (sweep ∷ pick 1 6 0 ∷ pick 2 7 3 ∷ moment ∷ last_sweep ∷ []) → ⊥
another_word readable listed =
    let played = begins (lines_by 2 lines) (pick 2 7 3 ∷ []) (listed.each_caller 2 (at_most 1 2 refl) (at_most 2 2 refl)) in
    let same : 3 ≡ 0 = ap word_of played.1 in absurd (omega (arith, same))

-- ---- the driver

-- seen where the driver's entries don't count, or only some: `driver` left out
a_line_of_the_driver_is_left_out : (readable : List ℕ → Bool) → AreListed readable 2 lines (pick 1 6 0 ∷ pick 2 7 0 ∷ moment ∷ last_sweep ∷ []) → ⊥
unfolding driver_list
a_line_of_the_driver_is_left_out readable listed = let many : 2 ≡ 3 = ap length listed.driver in absurd (omega (arith, many))

the_last_sweep_is_left_out : (readable : List ℕ → Bool) → AreListed readable 2 lines (sweep ∷ pick 1 6 0 ∷ pick 2 7 0 ∷ moment ∷ []) → ⊥
unfolding driver_list
the_last_sweep_is_left_out readable listed = let many : 2 ≡ 3 = ap length listed.driver in absurd (omega (arith, many))

-- seen where entries of other actors count as the driver's
a_caller_sweeps : (readable : List ℕ → Bool) → AreListed readable 2 lines (on_line 1 5 sweep.what ∷ pick 1 6 0 ∷ pick 2 7 0 ∷ moment ∷ last_sweep ∷ []) → ⊥
unfolding driver_list
a_caller_sweeps readable listed = let many : 2 ≡ 3 = ap length listed.driver in absurd (omega (arith, many))

-- the line of the first
abbrev first_line : List (ℕ × Option DriverEvent) → ℕ
first_line [] = 0
first_line (event ∷ events) = event.0

-- seen where the driver's order is free
lines_of_the_driver_turned_round : (readable : List ℕ → Bool) → AreListed readable 2 lines (moment ∷ sweep ∷ pick 1 6 0 ∷ pick 2 7 0 ∷ last_sweep ∷ []) → ⊥
unfolding driver_list
lines_of_the_driver_turned_round readable listed = let same : 8 ≡ 5 = ap first_line listed.driver in absurd (omega (arith, same))

-- the time that the second tells
abbrev second_time : List (ℕ × Option DriverEvent) → ℕ
second_time (first ∷ (line, Some (DriverEvent.Moment time)) ∷ events) = time.0
second_time _ = 0

-- seen where the driver's events don't count, but their lines alone
another_time : (readable : List ℕ → Bool) → AreListed readable 2 lines (sweep ∷ pick 1 6 0 ∷ pick 2 7 0 ∷ by_driver 8 (DriverEvent.Moment (record { 0 = 10 })) ∷ last_sweep ∷ []) → ⊥
unfolding driver_list
another_time readable listed = let same : 10 ≡ 9 = ap second_time listed.driver in absurd (omega (arith, same))

-- No snapshot: written by tools/history_rows.py from examples/call_before_snapshot.session.
-- It is to catch: a hold after a pin that got no snapshot.
use Rattle.std.proofs.Common.{◌≡◌, ◌≤◌, inl, refl, ℕ, zero, suc, List, [], ◌∷◌, Some, None, codes, arith}
use Rattle.std.proofs.lemmas.List.Elements.{All-from_recursion}
use Rattle.xc_base.specs.declared.names.Kind.{Kind}
use Rattle.xc_base.specs.declared.names.Key.{Key}
use Rattle.aggregate_expand.specs.Leaves.{goes_on, ends, leaves_within}
use Rattle.ads_stream.specs.declared.verdict.Verdict.{Verdict}
use Rattle.xds_history.specs.call_journal.declared.event.DriverEvent.{DriverEvent}
use Rattle.xds_history.specs.call_journal.declared.event.CallerEvent.{CallerEvent}
use Rattle.xds_history.specs.call_journal.declared.reply.CallerReply.{CallerReply}
use Rattle.xds_history.specs.call_journal.declared.entry.Entry.{Entry}
use Rattle.grpc_framing.specs.Cut.{cut, cut_within, first_frame}
use Rattle.grpc_framing.specs.Framing.{fault_at}
use Rattle.session_lines.specs.declared.session.Act.{Act}
use Rattle.session_lines.specs.declared.session.Work.{Work}
use Rattle.session_lines.specs.declared.session.Line.{Line}
use Rattle.session_script.specs.Plan.{driver_list, lines_by, entries_by, ArePlayed, all, next, AreListed}
use Rattle.xds_history.specs.config_assembly.Orders.{Name}
use Rattle.xds_history.specs.Setting.{Setting}
use Rattle.legal_history.specs.Legal.{AreOpen, AreStarted, EndsInSweep, is_read}
use Rattle.legal_history.proofs.Rows.{setting_with, key_from, driven, called, on_line, replayed, as_made, snapshots, Step, steps, AreNumbered, at_most}

abbrev text0 : Name
text0 = codes "/p.S/M"

abbrev text1 : Name
text1 = codes "svc"

abbrev key : Kind → Name → Key
key = key_from ([])

abbrev set : Setting
set = setting_with key 1 text1 text1
    ([])
    ([])

abbrev entry1 : Entry
entry1 = on_line 1 5 (called (CallerEvent.Pin (record { id = (record { 0 = 0 }); path = text0; headers = ([]); word = 0 })) CallerReply.NoSnapshot)

abbrev entry2 : Entry
entry2 = on_line 1 6 (called (CallerEvent.Commit (record { 0 = 0 })) CallerReply.NotHeld)

abbrev entry3 : Entry
entry3 = on_line 1 7 (called (CallerEvent.Pick (record { 0 = 0 }) 0) CallerReply.NotHeld)

abbrev entry4 : Entry
entry4 = on_line 0 0 (driven DriverEvent.Sweep Verdict.Done (Some (key Kind.Listener text1)) ([]) None ([]))

-- the newest first
abbrev history : List Entry
history = entry4 ∷ entry3 ∷ entry2 ∷ entry1 ∷ []

replies : replayed set ([]) history ≡ as_made history
unfolding leaves_within goes_on ends
replies = refl

published : snapshots set history ≡ []
unfolding leaves_within goes_on ends
published = refl

-- what stands at each driver's entry, and its number: seen where the first snapshot isn't 1, where one is published that
-- shows nothing new, or where one that does isn't
abbrev told : List Step
told = ((record { stands = None; last = None; number = None }) ∷ [])

stood : steps set history ≡ told
unfolding leaves_within goes_on ends
stood = refl

numbered : AreNumbered told
numbered = (refl, tt)

abbrev line5 : Line
line5 = (record { number = 5; gate = None; work = (Work.Caller 1 (Act.Start (record { id = (record { 0 = 0 }); path = text0; headers = ([]); word = 0 }))) })

abbrev line6 : Line
line6 = (record { number = 6; gate = None; work = (Work.Caller 1 (Act.Commit (record { 0 = 0 }))) })

abbrev line7 : Line
line7 = (record { number = 7; gate = None; work = (Work.Caller 1 (Act.Pick (record { 0 = 0 }) 0)) })

abbrev lines : List Line
lines = line5 ∷ line6 ∷ line7 ∷ []

-- the oldest first
abbrev entries : List Entry
entries = entry1 ∷ entry2 ∷ entry3 ∷ entry4 ∷ []

-- each line's events once and in order: seen where a line is left out, or comes twice
each : (caller : ℕ) → 1 ≤ caller → caller ≤ 1 → ArePlayed (lines_by caller lines) (entries_by caller entries)
each zero low high = absurd (omega (arith, low))
each (suc zero) low high = (next line5 (line6 ∷ line7 ∷ []) (entry1 ∷ []) (entry2 ∷ entry3 ∷ []) (All-from_recursion (λ entry. entry.line ≡ 5) (entry1 ∷ []) (refl, tt)) (inl refl) (next line6 (line7 ∷ []) (entry2 ∷ []) (entry3 ∷ []) (All-from_recursion (λ entry. entry.line ≡ 6) (entry2 ∷ []) (refl, tt)) refl (next line7 ([]) (entry3 ∷ []) ([]) (All-from_recursion (λ entry. entry.line ≡ 7) (entry3 ∷ []) (refl, tt)) refl all)))
each (suc (suc n)) low high = absurd (omega (arith, high))

-- seen where the driver lists nothing, no responses, or not the last sweep
listed : AreListed (is_read set) 1 lines entries
unfolding driver_list cut cut_within first_frame fault_at
listed = record { driver = refl; each_caller = each; actors = All-from_recursion (λ entry. entry.actor ≤ 1) entries (at_most 1 1 refl, (at_most 1 1 refl, (at_most 1 1 refl, (at_most 0 1 refl, tt)))) }

started1 : AreStarted (entries_by 1 entries)
started1 = (refl, (tt, (tt, tt)))

-- seen where a line's end isn't told, so that a gate stays shut
opened : AreOpen lines history
opened = (tt, (tt, (tt, (tt, tt))))

swept : EndsInSweep history
swept = refl

-- No events: written by tools/history_rows.py from examples/no_events.session.
-- It is to catch: a request, a snapshot or an expiry without any event.
use Rattle.std.proofs.Common.{◌≡◌, ◌≤◌, refl, ℕ, zero, suc, List, [], ◌∷◌, Some, None, codes, arith}
use Rattle.std.proofs.lemmas.List.Elements.{All-from_recursion}
use Rattle.xc_base.specs.declared.names.Kind.{Kind}
use Rattle.xc_base.specs.declared.names.Key.{Key}
use Rattle.aggregate_expand.specs.Leaves.{goes_on, ends, leaves_within}
use Rattle.ads_stream.specs.declared.verdict.Verdict.{Verdict}
use Rattle.call_journal.specs.declared.event.DriverEvent.{DriverEvent}
use Rattle.call_journal.specs.declared.entry.Entry.{Entry}
use Rattle.grpc_framing.specs.Cut.{cut, cut_within, first_frame}
use Rattle.grpc_framing.specs.Framing.{fault_at}
use Rattle.session_lines.specs.declared.session.Line.{Line}
use Rattle.session_script.specs.Plan.{driver_list, lines_by, entries_by, ArePlayed, all, AreListed}
use Rattle.config_assembly.specs.Orders.{Name}
use Rattle.xds_history.specs.Setting.{Setting}
use Rattle.xds_history.specs.Responses.{refused_texts}
use Rattle.legal_history.specs.Legal.{AreOpen, AreStarted, EndsInSweep, is_read}
use Rattle.legal_history.proofs.Rows.{setting_with, key_from, driven, on_line, replayed, as_made, snapshots, Step, steps, AreNumbered, at_most}

abbrev text0 : Name
text0 = codes "svc"

abbrev key : Kind → Name → Key
key = key_from ([])

abbrev set : Setting
set = setting_with key 1 text0 text0
    ([])
    ([])

abbrev entry1 : Entry
entry1 = on_line 0 0 (driven DriverEvent.Sweep Verdict.Done (Some (key Kind.Listener text0)) ([]) None ([]))

-- the newest first
abbrev pub history : List Entry
history = entry1 ∷ []

replies : replayed set ([]) history ≡ as_made history
unfolding leaves_within goes_on ends
replies = refl

-- what entries tell as refused, the oldest entry's first: seen where none is told, or the newest first
pub refused : refused_texts history ≡ ([])
refused = refl

published : snapshots set history ≡ []
unfolding leaves_within goes_on ends
published = refl

-- what stands at each driver's entry, and its number: seen where the first snapshot isn't 1, where one is published that
-- shows nothing new, or where one that does isn't
abbrev told : List Step
told = ((record { stands = None; last = None; number = None }) ∷ [])

stood : steps set history ≡ told
unfolding leaves_within goes_on ends
stood = refl

numbered : AreNumbered told
numbered = (refl, tt)

abbrev lines : List Line
lines = []

-- the oldest first
abbrev entries : List Entry
entries = entry1 ∷ []

-- each line's events once and in order: seen where a line is left out, or comes twice
each : (caller : ℕ) → 1 ≤ caller → caller ≤ 1 → ArePlayed (lines_by caller lines) (entries_by caller entries)
each zero low high = absurd (omega (arith, low))
each (suc zero) low high = all
each (suc (suc n)) low high = absurd (omega (arith, high))

-- seen where the driver lists nothing, no responses, or not the last sweep
listed : AreListed (is_read set) 1 lines entries
unfolding driver_list cut cut_within first_frame fault_at
listed = record { driver = refl; each_caller = each; actors = All-from_recursion (λ entry. entry.actor ≤ 1) entries (at_most 0 1 refl, tt) }

started1 : AreStarted (entries_by 1 entries)
started1 = tt

-- seen where a line's end isn't told, so that a gate stays shut
opened : AreOpen lines history
opened = (tt, tt)

swept : EndsInSweep history
swept = refl

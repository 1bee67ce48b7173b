-- Which pattern texts a history tells as refused: those of the oldest entry first. Each row has the wrong word of the
-- definition that it catches. Sessions/BadPatternTold has the texts of a worked history.
use Rattle.std.proofs.Common.{◌≡◌, refl, ℕ, List, [], ◌∷◌, None, codes}
use Rattle.xc_base.specs.declared.call.Call.{Call}
use Rattle.xc_base.specs.declared.names.Authority.{Authority}
use Rattle.xc_base.specs.declared.names.Kind.{Kind}
use Rattle.ads_stream.specs.declared.verdict.Verdict.{Verdict}
use Rattle.call_journal.specs.declared.event.DriverEvent.{DriverEvent}
use Rattle.call_journal.specs.declared.event.CallerEvent.{CallerEvent}
use Rattle.call_journal.specs.declared.reply.CallerReply.{CallerReply}
use Rattle.call_journal.specs.declared.entry.Entry.{Entry}
use Rattle.config_assembly.specs.Orders.{Name}
use Rattle.xds_history.specs.Responses.{refused_texts}
use Rattle.legal_history.proofs.Rows.{called, driven, on_line}

abbrev a : Name
a = codes "("

abbrev b : Name
b = codes "["

abbrev c : Name
c = codes "*"

abbrev default : Authority
default = record { 0 = 0 }

abbrev call : Call
call = record { id = record { 0 = 0 }; path = []; headers = []; word = 0 }

-- a response that is refused for patterns of these texts
abbrev refusing : ℕ → List Name → Entry
refusing line texts = on_line 0 line (driven (DriverEvent.Response default []) (Verdict.Nack Kind.Listener) None [] None texts)

abbrev pin : Entry
pin = on_line 1 7 (called (CallerEvent.Pin call) CallerReply.NoSnapshot)

abbrev sweep : Entry
sweep = on_line 0 0 (driven DriverEvent.Sweep Verdict.Done None [] None [])

-- where the newest entry's texts come first, or those of an entry are turned round: `refused_in e.what ++ refused_texts past`
the_oldest_first : refused_texts (refusing 6 (c ∷ []) ∷ refusing 5 (a ∷ b ∷ []) ∷ []) ≡ a ∷ b ∷ c ∷ []
the_oldest_first = refl

-- where the oldest or the newest entry alone counts, or where one of a caller, or one without texts, ends the search
behind_other_entries : refused_texts (sweep ∷ refusing 8 (b ∷ []) ∷ pin ∷ sweep ∷ refusing 5 (a ∷ []) ∷ pin ∷ []) ≡ a ∷ b ∷ []
behind_other_entries = refl

-- where a text of two entries is told once
a_text_of_two_entries : refused_texts (refusing 6 (b ∷ a ∷ []) ∷ refusing 5 (a ∷ []) ∷ []) ≡ a ∷ b ∷ a ∷ []
a_text_of_two_entries = refl

-- where there are texts before any is refused
none_at_first : refused_texts [] ≡ []
none_at_first = refl

none_is_refused : refused_texts (sweep ∷ pin ∷ []) ≡ []
none_is_refused = refl

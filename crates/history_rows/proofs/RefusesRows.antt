-- What a run says of the texts that its history tells as refused: they are, in order, among those that the builder refused
-- meanwhile. Each row has the wrong word of the definition that it catches.
use Rattle.std.proofs.Common.{◌≡◌, refl, List, [], ◌∷◌, ◌++◌, inl, inr, codes}
use Rattle.check_steps.specs.Asking.{IsSubsequence}
use Rattle.config_assembly.specs.Orders.{Name}
use Rattle.session_player.specs.Stages.{Refuses}
use Rattle.history_rows.proofs.Sessions.BadPatternTold.{history}

-- the text that the history tells as refused, and another one
abbrev told : Name
told = codes "a("

abbrev other : Name
other = codes "["

-- ---- what holds: seen where no history refuses what was refused

-- where no other text may be refused before or meanwhile
the_text_was_refused : Refuses [] history (other ∷ []) (other ∷ other ∷ told ∷ [])
the_text_was_refused = record { told = other ∷ told ∷ []; told_is = refl; kept = told ∷ []; kept_is = refl; among = inr (inl (refl, tt)) }

-- where what older entries tell has to be refused anew: `refused_texts new ≡ kept`
an_older_entry_told_it : Refuses history history (told ∷ []) (told ∷ [])
an_older_entry_told_it = record { told = []; told_is = refl; kept = []; kept_is = refl; among = tt }

-- where all that is refused has to be told: the places of `kept` and `told` changed
refused_and_not_told : Refuses [] [] [] (other ∷ [])
refused_and_not_told = record { told = other ∷ []; told_is = refl; kept = []; kept_is = refl; among = tt }

-- ---- what doesn't hold: seen where each history refuses what was refused

more_than_none : (before new : List Name) (text : Name) → before ≡ before ++ text ∷ new → ⊥
more_than_none [] new text same = cc same
more_than_none (first ∷ before) new text same = more_than_none before new text (cc same)

-- of a history that tells a text
one_of_none : (before refused kept : List Name) (text : Name) → before ≡ before ++ refused → text ∷ [] ≡ kept → IsSubsequence kept refused → ⊥
one_of_none before (first ∷ refused) kept text same kept_is among = more_than_none before refused first same
one_of_none before [] (first ∷ kept) text same kept_is among = among
one_of_none before [] [] text same kept_is among = cc kept_is

-- where nothing needs be among what was refused: `among` left out
nothing_was_refused : Refuses [] history [] [] → ⊥
nothing_was_refused refuses = one_of_none [] refuses.told refuses.kept told refuses.told_is refuses.kept_is refuses.among

-- where a text will do that was refused before the run: `told_is` left out, or `after ≡ told`
it_was_refused_before : Refuses [] history (told ∷ []) (told ∷ []) → ⊥
it_was_refused_before refuses = one_of_none (told ∷ []) refuses.told refuses.kept told refuses.told_is refuses.kept_is refuses.among

-- where the texts of older entries may go: `kept_is` left out
an_older_text_is_lost : Refuses history [] [] (told ∷ []) → ⊥
an_older_text_is_lost refuses = absurd (cc refuses.kept_is)

-- where what was refused before may go
a_refused_text_is_lost : Refuses [] [] (other ∷ []) [] → ⊥
a_refused_text_is_lost refuses = absurd (cc refuses.told_is)

-- Whether a timer has run out, computed by the definition.
use Rattle.std.specs.Prelude.{◌≡◌, refl, ℕ, List, [], ◌∷◌, map, true, false}
use Rattle.xc_base.specs.declared.names.Time.{Time}
use Rattle.watch_timers.specs.Timers.{has_run}

abbrev at : ℕ → Time
at ms = record { 0 = ms }

-- it runs for exactly 15,000 ms from its start
run_out : map (λ now. has_run (at now) (at 5)) (0 ∷ 5 ∷ 15004 ∷ 15005 ∷ 20000 ∷ []) ≡ false ∷ false ∷ false ∷ true ∷ true ∷ []
run_out = refl

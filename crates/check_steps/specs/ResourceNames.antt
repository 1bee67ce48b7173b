-- Names in resources (gRFC A47): in a value each is canonical.
use Rattle.std.specs.Prelude.{ℕ, List, [], ◌∷◌, Bool, true, false, if◌then◌else◌, Result, Ok, Err}
use Rattle.xc_base.specs.declared.reason.Reason.TheVariants.{NoName}
use Rattle.xds_name.specs.Names.{canonical_of}
use Rattle.check_steps.specs.declared.check_fault.Stop.{Stop}
use Rattle.check_steps.specs.declared.check_fault.Stop.TheVariants.{Because}

abbrev pub is_nothing : {A : Type 0} → List A → Bool
is_nothing [] = true
is_nothing (x ∷ xs) = false

-- the canonical text of a name that isn't empty
abbrev pub required_name : List ℕ → Result (List ℕ) Stop
required_name text = if is_nothing text then Err (Because NoName) else Ok (canonical_of text)

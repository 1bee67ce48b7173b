-- Laws of names and targets.
use Rattle.std.specs.Prelude.{◌≡◌, ◌↔◌, ℕ, List, Option, Some}
use Rattle.xc_base.specs.declared.names.Kind.{Kind}
use Rattle.xds_bootstrap.specs.declared.bootstrap.AuthorityEntry.{AuthorityEntry}
use Rattle.xds_name.specs.Names.{Parts, HasForm, parts_of, canonical_of, home_of}
use Rattle.xds_name.specs.Targets.{IsTarget, target_of}

-- `parts_of` finds the parts of exactly the names that have the form
abbrev pub NamesHaveForms : Type 0
NamesHaveForms = (text : List ℕ) (parts : Parts) → (parts_of text ≡ Some parts) ↔ HasForm text parts

-- `target_of` finds the authority and the name of exactly the targets that have one of the forms
abbrev pub TargetsHaveForms : Type 0
TargetsHaveForms = (text : List ℕ) (authority : Option (List ℕ)) (name : List ℕ) → (target_of text ≡ Some (authority, name)) ↔ IsTarget text authority name

-- a canonical text is its own canonical text, and lives where the name lives
pub record CanonicalNamesStay : Type 0 where
  pub name : (text : List ℕ) → canonical_of (canonical_of text) ≡ canonical_of text
  pub home : (entries : List AuthorityEntry) (kind : Kind) (text : List ℕ) → home_of entries kind (canonical_of text) ≡ home_of entries kind text

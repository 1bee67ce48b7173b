-- The target of a channel, and the listener that it names (gRFC A27, A47).
use Rattle.std.specs.Prelude.{◌≡◌, ◌≢◌, ℕ, ◌==◌, ◌&&◌, ◌||◌, List, [], ◌∷◌, ◌++◌, slice_get, Bool, IsTrue, if◌then◌else◌, codes, Option, Some, None, option_map, option_and_then, Result, Ok, Err}
use Rattle.std.specs.Char.{is_ascii_alphanumeric}
use Rattle.std.specs.List.{flat_map, list_any}
use Rattle.percent_encoding.specs.Percent.{percent_encode_byte}
use Rattle.xc_base.specs.declared.names.Kind.TheVariants.{Listener}
use Rattle.xc_base.specs.declared.names.NameFault.TheVariants.{UnknownAuthority}
use Rattle.xc_base.specs.declared.names.Home.{Home}
use Rattle.xc_base.specs.declared.names.Home.TheVariants.{At, Nowhere}
use Rattle.xc_base.specs.declared.names.Key.{Key}
use Rattle.xds_bootstrap.specs.Authorities.{authority_of}
use Rattle.xds_bootstrap.specs.declared.bootstrap.AuthorityEntry.{AuthorityEntry}
use Rattle.xds_name.specs.NameTexts.{lacks, cut_at, after}
use Rattle.xds_name.specs.Names.{is_xdstp, resource_key}
use Rattle.xds_name.specs.declared.target.Target.{Target}
use Rattle.xds_name.specs.declared.target.TargetFault.{TargetFault}
use Rattle.xds_name.specs.declared.target.TargetFault.TheVariants.{BadTarget, Name, Memory}

-- ---- the three forms

-- the target has one of the forms `xds:name`, `xds:///name` and `xds://authority/name`, with this name, and with this authority or none
pub data IsTarget : List ℕ → Option (List ℕ) → List ℕ → Type 0 where
  plain : (name : List ℕ) → name ≢ [] → after (codes "//") name ≡ None → IsTarget (codes "xds:" ++ name) None name
  rooted : (name : List ℕ) → name ≢ [] → IsTarget (codes "xds:///" ++ name) None name
  named : (authority name : List ℕ) → name ≢ [] → authority ≢ [] → IsTrue (lacks 47 authority)
      → IsTarget (codes "xds://" ++ authority ++ 47 ∷ name) (Some authority) name

-- an authority that is there, and a name that isn't empty
abbrev pub target_parts : List ℕ × List ℕ → Option (Option (List ℕ) × List ℕ)
target_parts ([], []) = None
target_parts ([], b ∷ bs) = Some (None, b ∷ bs)
target_parts (c ∷ cs, []) = None
target_parts (c ∷ cs, b ∷ bs) = Some (Some (c ∷ cs), b ∷ bs)

-- what stands after `xds:`: with two slashes an authority, a slash and a name
abbrev pub target_after : List ℕ → Option (List ℕ) → Option (Option (List ℕ) × List ℕ)
target_after rest None = target_parts ([], rest)
target_after rest (Some more) = option_and_then target_parts (cut_at 47 more)

-- the authority and the name of a target
unfoldable pub target_of : List ℕ → Option (Option (List ℕ) × List ℕ)
target_of text = option_and_then (λ rest. target_after rest (after (codes "//") rest)) (after (codes "xds:") text)

-- ---- the name that a template makes

-- what stays in a name that goes into an `xdstp:` name: letters, digits and `-._~!$&'()*+,;=:@/`
abbrev pub stays : ℕ → Bool
stays b = is_ascii_alphanumeric b || list_any (λ c. c == b) (codes "-._~!$&'()*+,;=:@/")

-- the name with all other bytes escaped
unfoldable pub escaped : List ℕ → List ℕ
escaped name = flat_map (λ b. if stays b then b ∷ [] else percent_encode_byte b) name

-- the template with the name in place of each `%s`
unfoldable pub filled : List ℕ → List ℕ → List ℕ
filled name [] = []
filled name (b ∷ []) = b ∷ []
filled name (b ∷ c ∷ rest) = if (b == 37) && (c == 115) then name ++ filled name rest else b ∷ filled name (c ∷ rest)

-- the name goes as it is into a template of another form
abbrev pub name_from : List ℕ → List ℕ → List ℕ
name_from template name = if is_xdstp template then filled (escaped name) template else filled name template

-- ---- the listener

-- a bootstrap without a default entry has the template `%s`
abbrev pub template_at : Option AuthorityEntry → List ℕ
template_at None = codes "%s"
template_at (Some entry) = entry.template

-- the template of an authority: that of the default entry where there is none
unfoldable pub template_for : List AuthorityEntry → Option (List ℕ) → Option (List ℕ)
template_for entries None = Some (template_at (slice_get entries 0))
template_for entries (Some name) = option_map (λ authority. template_at (slice_get entries authority.0)) (authority_of entries name)

-- the target of a name that has a home
abbrev pub with_home : List ℕ → Key → Home → Result Target TargetFault
with_home host key (At authority) = Ok record { key = key; host = host }
with_home host key (Nowhere fault) = Err (Name fault)

abbrev pub with_key : List ℕ → Key → Result Target TargetFault
with_key host key = with_home host key key.home

abbrev pub with_template : List AuthorityEntry → List ℕ → Option (List ℕ) → Result Target TargetFault
with_template entries name None = Err (Name UnknownAuthority)
with_template entries name (Some template) = with_key name (resource_key entries Listener (name_from template name))

abbrev pub with_form : List AuthorityEntry → Option (Option (List ℕ) × List ℕ) → Result Target TargetFault
with_form entries None = Err BadTarget
with_form entries (Some target) = with_template entries target.1 (template_for entries target.0)

-- the listener that the target names, and the host text, which is the target's name as written
unfoldable pub listener_of : List AuthorityEntry → List ℕ → Result Target TargetFault
listener_of entries target = with_form entries (target_of target)

-- what `listener_name` answers where this is the target's listener or fault
abbrev pub Gives : Result Target TargetFault → Result Target TargetFault → Type 0
Gives found (Ok target) = found ≡ Ok target
Gives found (Err BadTarget) = found ≡ Err BadTarget
Gives found (Err (Name fault)) = found ≡ Err (Name fault)
Gives found (Err Memory) = found ≢ Err BadTarget

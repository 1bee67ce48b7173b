-- What is lent, as values.
use Rattle.std.specs.Prelude.{ℕ, List, Option, option_map}
use Rattle.xds_name.specs.Names as names
use Rattle.xds_name.specs.NameTexts.{seen}
use Rattle.xds_name.specs.declared.name_parts.Parts.{Parts}
use Rattle.xds_name.specs.declared.target_forms.Form.{Form}

abbrev pub seen_parts : Option Parts → Option names.Parts
seen_parts found = option_map (λ p. record { authority = p.authority.now; resource = p.resource.now }) found

abbrev pub seen_form : Option Form → Option (Option (List ℕ) × List ℕ)
seen_form found = option_map (λ f. (seen f.authority, f.name.now)) found

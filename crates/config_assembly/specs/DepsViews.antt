-- What is lent, as values.
use Rattle.std.specs.Prelude.{List, Option, option_map}
use Rattle.std.specs.Borrow.{Bor}
use Rattle.xc_base.specs.declared.names.Key.{Key}
use Rattle.config_assembly.specs.Orders.{Name}
use Rattle.config_assembly.specs.ReachedResources.{Resources, resources}
use Rattle.config_assembly.specs.declared.sight.Sight.{Sight}

abbrev pub seen : Sight → Resources
seen sight = resources sight.target.now sight.boot.now.authorities sight.cache.now

abbrev pub seen_name : Option (Bor Name) → Option Name
seen_name found = option_map (λ x. x.now) found

abbrev pub seen_names : Option (Bor (List Name)) → Option (List Name)
seen_names found = option_map (λ x. x.now) found

abbrev pub seen_key : Option (Bor Key) → Option Key
seen_key found = option_map (λ x. x.now) found

-- What is kept serves calls: its roots are those of the clusters that calls refer to (gRFC A74).
use Rattle.std.specs.Prelude.{◌≡◌, ◌++◌, [], map, Contains, IsSomeAnd, List, Option, Some}
use Rattle.xds_config.specs.declared.config.Config.{Config}
use Rattle.config_assembly.specs.Front.{names_of_front}
use Rattle.config_assembly.specs.Orders.{Name, name_cmp, sorted}
use Rattle.dep_manager.specs.KeptAssemblies.{Managed}
use Rattle.dep_manager.specs.declared.kept_assembly.Kept.{Kept}

-- the clusters that the host of what is kept names, and these
abbrev pub roots_with : Kept → List Name → List Name
roots_with kept names = sorted name_cmp (names_of_front kept.config.front ++ names)

-- the roots are those for which it was made, where calls refer to these clusters
abbrev pub Serves : List Name → Kept → Type 0
Serves names kept = roots_with kept names ≡ roots_with kept kept.references

-- what the last update made serves calls that refer to these clusters
abbrev pub IsServing : Managed → List Name → Type 0
IsServing d names = IsSomeAnd d.last (Serves names)

-- calls refer to none but clusters of the configuration that was handed out last, if they refer to any
abbrev pub AreShown : Option Config → List Name → Type 0
AreShown shown names = (name : Name) → Contains names name → IsSomeAnd shown (λ config. Contains (map (λ c. c.name) config.clusters) name)

-- what is kept was handed out, unless a key is awaited
abbrev pub IsHandedOut : Option Config → Kept → Type 0
IsHandedOut shown kept = kept.awaited.keys ≡ [] → shown ≡ Some kept.config

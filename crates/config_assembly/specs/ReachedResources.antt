-- What a configuration is made from.
use Rattle.std.specs.Prelude.{◌≡◌, List, ⊤}
use Rattle.xc_base.specs.declared.names.Kind.{Kind}
use Rattle.xc_base.specs.declared.names.Key.{Key}
use Rattle.xc_base.specs.declared.reason.Reason.{Reason}
use Rattle.xds_config.specs.Values.{IsLawfulValue, kind_of}
use Rattle.xds_bootstrap.specs.declared.bootstrap.AuthorityEntry.{AuthorityEntry}
use Rattle.xds_name.specs.Names.{resource_key}
use Rattle.xds_name.specs.declared.target.Target.{Target}
use Rattle.xds_cache.specs.KeptFates.{Watched, fate_of}
use Rattle.xds_cache.specs.declared.fate.Known.{Known}
use Rattle.config_assembly.specs.Orders.{Name}

pub record Resources : Type 0 where
  -- the listener's key, and the text for which a virtual host is chosen
  pub target : Target
  -- the key of a name of a kind
  pub key : Kind → Name → Key
  -- what is known of each key
  pub fate : Key → Known

-- the resources of a channel with these authorities, of which a cache knows this
abbrev pub resources : Target → List AuthorityEntry → Watched → Resources
resources target entries watched = record { target = target; key = resource_key entries; fate = fate_of watched }

-- what is known of the cluster of a name
abbrev pub cluster_fate : Resources → Name → Known
cluster_fate r name = r.fate (r.key Kind.Cluster name)

-- why a key that isn't wanted has no value
abbrev pub reason_of : Known → Reason
reason_of (Known.Invalid reason) = reason
reason_of _ = Reason.Absent

-- a value that is known passed its checks and is of this kind
abbrev pub IsLawfulOf : Kind → Known → Type 0
IsLawfulOf kind Known.Wanted = ⊤
IsLawfulOf kind (Known.Value value) = IsLawfulValue value × (kind_of value ≡ kind)
IsLawfulOf kind (Known.Invalid reason) = ⊤
IsLawfulOf kind Known.Absent = ⊤

-- Clusters that are configured for calls alone, and roots that stay (gRFC A74).
use Rattle.std.specs.Prelude.{◌≡◌, ◌&&◌, Bool, not, List}
use Rattle.std.specs.List.{list_any}
use Rattle.std.specs.Ordering.{eq_by_cmp}
use Rattle.config_assembly.specs.Orders.{Name, name_cmp}
use Rattle.config_assembly.specs.ReachedResources.{Resources}
use Rattle.config_assembly.specs.Reach.{roots}

-- whether a name is one of these
abbrev pub is_among : List Name → Name → Bool
is_among names name = list_any (eq_by_cmp name_cmp name) names

-- these are the clusters that calls refer to and a host doesn't name, by the names of each
abbrev pub AreCallsAlone : (named references alone : List Name) → Type 0
AreCallsAlone named references alone = (name : Name) → is_among alone name ≡ (is_among references name && not (is_among named name))

-- the roots are the same, where calls referred to such clusters before and refer to such now
abbrev pub KeepsRoots : Resources → (before now : List Name) → Type 0
KeepsRoots r before now = roots r now ≡ roots r before

-- The names of resources as a set.
use Rattle.std.specs.Prelude.{◌≡◌, List, Bool, is_some}
use Rattle.std.specs.List.{list_all, list_any}
use Rattle.std.specs.Ordering.{nat_cmp}
use Rattle.std.specs.Cmp.Lexicographic.{slice_cmp}
use Rattle.std.specs.BTreeSet.{BTreeSet, contains}
use Rattle.config_assembly.specs.Orders.{Name}
use Rattle.xds_history.specs.resource_check.declared.delivery.Delivery.{Delivery}
use Rattle.xds_history.specs.Responses.{is_named}
use Rattle.book_fates.specs.declared.part_names.PartNames.{PartNames}

abbrev pub has_name : BTreeSet Name → Name → Bool
has_name names name = contains (slice_cmp nat_cmp) names name

abbrev pub all_have_names : List Delivery → Bool
all_have_names parts = list_all (λ part. is_some part.name) parts

-- the names are those of these resources
pub record AreNamesOf (parts : List Delivery) (names : PartNames) : Type 0 where
  pub all : names.all_named ≡ all_have_names parts
  pub each : (name : Name) → has_name names.names name ≡ list_any (is_named name) parts

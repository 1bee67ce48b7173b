use Rattle.std.proofs.Common.{◌≡◌, ◌&&◌, ◌||◌, drop}
use Rattle.std.specs.List.{list_any}
use Rattle.config_assembly.specs.Orders.{Name}
use Rattle.xds_history.specs.Responses.{is_named}
use Rattle.book_fates.specs.NamedParts.{all_have_names, has_name}
use Rattle.book_fates.proofs.part_names.PartNames.of.Given as goal

abbrev pub invariant-loop-part : goal.invariant-loop-part
invariant-loop-part l = record {
  all : (l.names.all_named && all_have_names (drop l.part-index l.parts)) ≡ all_have_names l.parts;
  each : (name : Name) → (has_name l.names.names name || list_any (is_named name) (drop l.part-index l.parts)) ≡ list_any (is_named name) l.parts;
}

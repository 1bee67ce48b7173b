use Rattle.std.proofs.Common.{sym, subst}
use Rattle.std.specs.List.Sorted.{IsStrictlySortedBy}
use Rattle.xc_keys.specs.Keys.{key_cmp}
use Rattle.dep_manager.proofs.SortedKeys.{none_rise}
use Rattle.dep_manager.proofs.deps.Deps.new.Goals as goal

pub invariant_of-result : goal.invariant_of-result
invariant_of-result c = (c.requires, tt, subst (IsStrictlySortedBy key_cmp) (sym c.new.ensures) none_rise, tt)

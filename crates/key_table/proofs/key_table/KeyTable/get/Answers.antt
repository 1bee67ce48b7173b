use Rattle.std.proofs.Common.{◌∙◌, Some, None, sym, subst}
use Rattle.std.specs.List.Sorted.{IsStrictlySortedBy}
use Rattle.std.specs.Map.{keys_of}
use Rattle.xc_keys.specs.Keys.{key_cmp}
use Rattle.key_table.proofs.RowLemmas.{value_found}
use Rattle.key_table.proofs.key_table.KeyTable.get.Goals as goal

pub place_of-requires : goal.place_of-requires
place_of-requires g c = subst (λ rows. IsStrictlySortedBy key_cmp (keys_of rows)) (sym c.as_slice-rows.ensures) c.self.invariant

pub returns-in-Some : goal.returns-in-Some
returns-in-Some g c = value_found c.as_slice-rows.result.now c.args.self.now c.args.key.now c.in_ok-place.place (Some c.in-Some.row.now) c.in-Some.ensures c.in_ok-place.ensures (c.as_slice-rows.ensures ∙ c.self.view_is)

pub returns-in-None : goal.returns-in-None
returns-in-None g c = value_found c.as_slice-rows.result.now c.args.self.now c.args.key.now c.in_ok-place.place None c.in-None.ensures c.in_ok-place.ensures (c.as_slice-rows.ensures ∙ c.self.view_is)

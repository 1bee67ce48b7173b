use Rattle.std.proofs.Common.{ap, ◌∙◌, map, not}
use Rattle.std.specs.List.{join_with_byte}
use Rattle.xds_name.proofs.CanonicalLemmas.{sorted_name}
use Rattle.xds_name.proofs.canonical_text.reorder.Goals as goal

pub returns : goal.returns
returns c =
    let parameters = c.in_ok-parameters-2.ensures ∙ ap (join_with_byte 38) (ap (λ ps. map (λ p. p.now) ps) c.deref.ensures.value ∙ c.in_ok-parameters.ensures) in
    rw (← sorted_name c.parts_in.result c.args.text.now c.in-Some.head.now c.in-Some.parameters.now _ _ c.parts_in.ensures (c.is_none.ensures ∙ ap not c.if-is_none.false) c.in-Some.ensures c.in_ok-name.ensures.ok parameters) c.in_ok-name-2.ensures

use Rattle.std.proofs.Common.{◌++◌, List, ap, ◌∙◌}
use Rattle.std.proofs.lemmas.List.{take_all}
use Rattle.std.specs.List.{flat_map}
use Rattle.xc_base.specs.declared.call.Header.{Header}
use Rattle.header_match.proofs.ValueLemmas.{joined_is, next_value}
use Rattle.header_match.proofs.headers.join_values.Goals as goal

pub returns : goal.returns
returns c =
    c.loop-header.invariant
    ∙ (ap (λ (hs : List Header). c.args.first.now ++ flat_map (next_value c.args.name.now) hs) (take_all c.loop-header.header-index c.args.rest.now c.loop-header-test.false)
    ∙ joined_is c.args.first.now c.args.name.now c.args.rest.now)

use Rattle.std.proofs.Common.{◌∙◌, sym, ap, List, ℕ, ◌++◌}
use Rattle.proto_wire.specs.Spelling.{spelled_bytes}
use Rattle.proto_discovery.proofs.NameLemmas.{names_more, names_end}
use Rattle.proto_discovery.proofs.request.put_names.Goals as goal

pub loop-name-preserved : goal.loop-name-preserved
loop-name-preserved c =
    names_more c.loop-name.out c.put_bytes.new.out c.name-item.result c.as_slice-name-items.result.now c.loop-name.name-index c.loop-name-test.true c.name-item.is
    (c.in_ok-put_bytes.ensures.ok ∙ ap (λ (b : List ℕ). c.loop-name.out ++ spelled_bytes 3 b) (c.as_bytes.ensures.value ∙ c.as_str.ensures))
    ∙ c.loop-name.invariant

pub returns : goal.returns
returns c = sym (names_end c.loop-name.out c.as_slice-name-items.result.now c.loop-name.name-index c.loop-name-test.false) ∙ c.loop-name.invariant

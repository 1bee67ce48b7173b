use Rattle.std.proofs.Common.{length}
use Rattle.proto_wire.specs.View.{views}
use Rattle.proto_discovery.proofs.ShortLemmas.{inner-short}
use Rattle.proto_discovery.proofs.wrapper.read_wrapped.Goals as goal

pub returns-clause-short : goal.returns-clause-short
returns-clause-short c =
    let inner = inner-short (views c.deref-2.result.now) (length c.args.bytes.now) c.in_ok-resource.resource (rw c.deref-2.ensures.value c.in_ok-list.ensures.within) c.in_ok-resource.ensures in
    rw (c.unwrap_or.ensures, c.empty.ensures) inner

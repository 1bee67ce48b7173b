use Rattle.std.proofs.Common.{length}
use Rattle.proto_wire.specs.View.{views}
use Rattle.proto_discovery.proofs.ShortLemmas.{resources-short}
use Rattle.proto_discovery.proofs.response.read_response.Goals as goal

pub returns-clause-short : goal.returns-clause-short
returns-clause-short c =
    resources-short (views c.deref-2.result.now) (length c.args.bytes.now) c.in_ok-resources.resources (rw c.deref-2.ensures.value c.in_ok-list.ensures.within) c.in_ok-resources.ensures

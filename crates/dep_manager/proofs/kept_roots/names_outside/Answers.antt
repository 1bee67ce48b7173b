use Rattle.std.proofs.Common.{not}
use Rattle.dep_manager.specs.CallsAlone.{is_among}
use Rattle.dep_manager.proofs.RootLemmas.{filter_next}
use Rattle.dep_manager.proofs.kept_roots.names_outside.Goals as goal

pub loop-name-preserved : goal.loop-name-preserved
loop-name-preserved c =
    filter_next (λ name. not (is_among c.args.set.now.keys name)) c.args.names.now c.loop-name.outside c.put_outside.new.outside c.loop-name.name-index c.name-item.result c.loop-name-test.true c.name-item.is c.in_ok-put_outside.ensures c.loop-name.invariant

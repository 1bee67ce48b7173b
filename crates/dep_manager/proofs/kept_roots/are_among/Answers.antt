use Rattle.dep_manager.proofs.RootLemmas.{among_set}
use Rattle.dep_manager.proofs.kept_roots.are_among.Goals as goal

pub returns : goal.returns
returns c = among_set c.new-set.result.keys c.put_names.new.names.keys c.args.others.now c.args.names.now c.are_in.result c.new-set.ensures.empty c.in_ok-put_names.ensures c.are_in.ensures

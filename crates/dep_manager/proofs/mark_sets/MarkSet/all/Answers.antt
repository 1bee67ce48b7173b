use Rattle.dep_manager.proofs.MarkSetLemmas.{all_marks}
use Rattle.dep_manager.proofs.mark_sets.MarkSet.all.Goals as goal

pub returns : goal.returns
returns c = all_marks c.args.count c.in_ok-places.places.keys c.in_ok-places.ensures

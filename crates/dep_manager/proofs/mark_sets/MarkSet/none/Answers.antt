use Rattle.std.proofs.Common.{ap}
use Rattle.place_marks.specs.Marks.{marks_of}
use Rattle.dep_manager.proofs.mark_sets.MarkSet.none.Goals as goal

pub returns : goal.returns
returns c = ap (marks_of c.args.count) c.new.ensures.empty

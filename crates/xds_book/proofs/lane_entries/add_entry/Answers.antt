use Rattle.std.proofs.Common.{ap}
use Rattle.xds_book.proofs.LaneLemmas.{count_grows, lane_with}
use Rattle.xds_book.proofs.lane_entries.add_entry.Goals as goal

pub returns-clause-lane : goal.returns-clause-lane
returns-clause-lane g c =
    let get = rw (← c.lane.view_is) at c.requires.counted in
    rw (← c.lane.view_is) (ap (lane_with c.lane.inside.actor c.lane.inside.refused)
    (count_grows c.args.journal.now.counts c.args.journal.now.entries c.add.new.self.entries c.lane.inside.actor c.args.line c.args.what c.lane.inside.count c.count-count.result c.requires.counts get c.add.ensures.entries c.count-count.ensures.history))

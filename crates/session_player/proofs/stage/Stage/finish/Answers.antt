use Rattle.std.proofs.Common.{◌≡◌, ◌∙◌, ap}
use Rattle.snapshot_store.specs.Tickets.{values_of}
use Rattle.legal_plan.specs.xds_history.Pages.{pages}
use Rattle.legal_plan.specs.xds_history.References.{snapshots_of}
use Rattle.legal_plan.specs.xds_history.Setting.{setting_of}
use Rattle.xds_book.specs.BookViews.{BookView}
use Rattle.session_player.proofs.StageLemmas.{all_lanes, snapshots_seen}
use Rattle.session_player.proofs.stage.Stage.finish.Goals as goal

pub finish-requires : goal.finish-requires
finish-requires g c = all_lanes c.self.inside.book c.self.inside.lanes.items c.from_vec.result c.self.invariant c.from_vec.ensures

pub returns-clause-snapshots : goal.returns-clause-snapshots
returns-clause-snapshots g c =
    ap values_of c.finish.ensures.tickets
    ∙ (c.finish.ensures.snapshots
    ∙ (snapshots_seen (pages (setting_of g.J.Job.boot g.J.Job.target) c.self.inside.book.entries)
    ∙ ap (λ (b : BookView). snapshots_of (pages (setting_of g.J.Job.boot g.J.Job.target) b.entries)) c.self.view_is))

use Rattle.std.proofs.Common.{refl, subst}
use Rattle.xds_history.specs.config_assembly.Orders.{Name}
use Rattle.book_trees.specs.TreesKept.{IsReport}
use Rattle.book_trees.proofs.CameLemmas.{reported_with}
use Rattle.book_trees.proofs.reported_trees.ReportedTrees.came.Goals as goal

pub returns-in_ok-report-in-Endpoint : goal.returns-in_ok-report-in-Endpoint
returns-in_ok-report-in-Endpoint c = λ past ps at.
    rw (c.in-Endpoint.is)
    (reported_with past ps c.args.self.now _ c.in-Endpoint.address c.in-Endpoint.state at refl refl
    (subst (λ (address : Name). IsReport c.args.self.now.reports.entries c.report.new.reports.entries address c.in-Endpoint.state) c.get.ensures c.in_ok-report-in-Endpoint.ensures))

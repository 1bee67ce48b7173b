use Rattle.std.proofs.Common.{Option, sym, subst}
use Rattle.std.specs.Prelude.{OnOk}
use Rattle.boxcar.specs.Table.{Where}
use Rattle.cluster_tree.specs.declared.snapshot.Snapshot.{Snapshot}
use Rattle.xds_book.specs.Publishing.{Publishes}
use Rattle.xds_book.proofs.DrivenBook.{publishes_none, publishes_some}
use Rattle.xds_book.proofs.driver_steps.publish.Goals as goal

pub returns-in_default-clause-kept : goal.returns-in_default-clause-kept
returns-in_default-clause-kept c =
    subst (λ (t : Option (Where Snapshot)). Publishes c.args.archive.now t c.args.calls.now c.mark_seen.new.self) (sym c.in_default.is) (publishes_none c.args.archive.now c.args.calls.now c.mark_seen.new.self (c.mark_seen.ensures.kept c.args.archive.now))

pub returns-clause-kept : goal.returns-clause-kept
returns-clause-kept c =
    subst (λ (t : Option (Where Snapshot)). OnOk c.publish.result (Publishes c.args.archive.now t c.args.calls.now c.publish.new.self)) (sym c.in-Some.is)
    (publishes_some c.publish.result c.args.archive.now c.in-Some.ticket c.args.calls.now c.publish.new.self c.publish.ensures.kept)

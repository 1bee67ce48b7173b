use Rattle.book_trees.specs.xds_history.References.{references}
use Rattle.book_driver.proofs.ServedLemmas.{if_serving}
use Rattle.book_driver.proofs.call_refs.CallRefs.are_known_served.Goals as goal

pub returns : goal.returns
returns c says entries known ps right referred serves = if_serving c.args.deps.now (references ps) (c.serves_its_host.ensures says entries known (references ps) right referred.shown_are)

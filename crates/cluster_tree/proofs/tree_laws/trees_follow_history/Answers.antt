use Rattle.tree_steps.proofs.HistoryLemmas.{trees_follow_history}
use Rattle.cluster_tree.proofs.tree_laws.trees_follow_history.Goals as goal

pub returns : goal.returns
returns c = trees_follow_history

use Rattle.std.proofs.Common.{Bool, List, [], sym, subst}
use Rattle.cluster_tree.specs.ClusterUsers.{EntriesStay}
use Rattle.cluster_tree.proofs.ReportLemmas.{none_stand}
use Rattle.balancer_tests.proofs.OneMarked.{names_kept_twice, one_marked}
use Rattle.balancer_tests.proofs.tree_tests.trees_take_a_configuration_and_reports.Goals as goal

pub update-requires-clause-changes : goal.update-requires-clause-changes
update-requires-clause-changes g c = none_stand [] c.insert.new.self.entries c.new-trees.result c.new-trees.ensures

pub update-requires-clause-others : goal.update-requires-clause-others
update-requires-clause-others g c =
    subst (λ (marks : List Bool). EntriesStay marks c.new-trees.result.clusters c.in_ok-config.config.clusters) (sym c.in_ok-others.ensures) (one_marked c.new-trees.result.clusters c.in_ok-config.config.clusters c.in_ok-config.ensures.one)

pub update-requires-2-clause-others : goal.update-requires-2-clause-others
update-requires-2-clause-others g c =
    subst (λ (marks : List Bool). EntriesStay marks c.update_states.new.self.clusters c.in_ok-config.config.clusters) (sym c.in_ok-others.ensures) (one_marked c.update_states.new.self.clusters c.in_ok-config.config.clusters c.in_ok-config.ensures.one)

pub update-requires-2-clause-names : goal.update-requires-2-clause-names
update-requires-2-clause-names g c = λ same. names_kept_twice (record { 0 = 0 }) (record { 0 = 1 }) c.insert.new.self.entries c.insert.new.self.entries c.in_ok-config.config.clusters c.new-trees.result c.update.new.self c.update_states.new.self c.in_ok-first.ensures.step c.in_ok-second.ensures.step

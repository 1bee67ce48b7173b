use Rattle.std.proofs.Common.{rules, ap, ◌∙◌}
use Rattle.std.proofs.lemmas.List.Sorted.{answers_always, IsNonDecreasingBy-from_sort}
use Rattle.xds_config.specs.declared.endpoint_values.Locality.{Locality}
use Rattle.check_clusters.specs.Assignments.{by_priority}
use Rattle.check_clusters.proofs.OrderLemmas.{sorted_is}
use Rattle.check_clusters.proofs.localities.by_priority.Goals as goal

pub returns : goal.returns
returns c =
    let keys = answers_always _ _ _ (λ f a r next called. search rules) in
    c.from_vec.ensures
    ∙ sorted_is c.into_vec-localities.result.items c.sort_by_key.new.self.items
    (IsNonDecreasingBy-from_sort (λ (l : Locality). l.priority) c.sort_by_key.new.self.items (c.in_ok-sort_by_key.ensures.sorted (λ (l : Locality). l.priority) keys))
    (c.sort_by_key.ensures.stable (λ (l : Locality). l.priority) keys)
    ∙ ap by_priority c.into_vec-localities.ensures

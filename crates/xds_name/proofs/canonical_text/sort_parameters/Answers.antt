use Rattle.std.proofs.Common.{◌∙◌, ap, rules}
use Rattle.std.proofs.lemmas.List.Sorted.{answers_always}
use Rattle.xds_name.specs.Parameters.{in_order}
use Rattle.xds_name.proofs.OrderLemmas.{before, weak_shown, in_order_shown}
use Rattle.xds_name.proofs.canonical_text.sort_parameters.Goals as goal

pub returns : goal.returns
returns c =
    in_order_shown (λ p. p.now) c.in_ok-parameters.parameters.items c.sort_unstable_by.new.self.items c.sort_unstable_by.ensures.permutation
    (c.sort_unstable_by.ensures.sorted (λ p q. before p.now q.now) (weak_shown (λ p. p.now)) (answers_always _ _ _ (λ f a r g h. search rules)))
    ∙ ap in_order c.in_ok-parameters.ensures

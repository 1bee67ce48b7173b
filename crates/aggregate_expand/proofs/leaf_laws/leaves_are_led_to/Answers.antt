use Rattle.aggregate_expand.proofs.LawLemmas.{are_led_to}
use Rattle.aggregate_expand.proofs.leaf_laws.leaves_are_led_to.Goals as goal

pub returns : goal.returns
returns c = are_led_to

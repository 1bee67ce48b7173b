use Rattle.std.proofs.Common.{subst}
use Rattle.xc_keys.specs.Keys.{is_key}
use Rattle.std.specs.Prelude.{◌≡◌, true}
use Rattle.xc_keys.proofs.KeyLemmas.{key_total, same_key, key_itself}
use Rattle.xc_keys.proofs.keys_are_told_apart.Goals as goal

pub returns : goal.returns
returns c = record { total = key_total; apart = λ key other. (same_key key other, λ is. subst (λ k. is_key key k ≡ true) is (key_itself key)) }

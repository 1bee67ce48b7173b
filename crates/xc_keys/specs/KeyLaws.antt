-- Laws of the order of keys.
use Rattle.std.specs.Prelude.{◌≡◌, ◌↔◌, true}
use Rattle.std.specs.Cmp.{IsTotalOrder}
use Rattle.xc_base.specs.declared.names.Key.{Key}
use Rattle.xc_keys.specs.Keys.{key_cmp, is_key}

-- the order of keys is a total one, and tells all keys apart
pub record TellsKeysApart : Type 0 where
  pub total : IsTotalOrder key_cmp
  pub apart : (key other : Key) → (is_key key other ≡ true) ↔ (key ≡ other)

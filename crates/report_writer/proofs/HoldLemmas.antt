-- The key at which a map of calls is looked up.
use Rattle.std.proofs.Common.{◌≡◌, ℕ, ◌==◌, arith}
use Rattle.std.specs.Ordering.{is_eq, nat_cmp}

pub is_key : (a b : ℕ) → is_eq (nat_cmp a b) ≡ (a == b)
is_key a b = grind arith

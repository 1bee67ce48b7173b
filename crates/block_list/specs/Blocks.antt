-- Lists in blocks.
use Rattle.std.specs.Prelude.{◌≡◌, ◌<◌, ◌≤◌, ◌+◌, ◌*◌, ℕ, List, length, get_or, take, drop}
use Rattle.std.specs.List.{flat_map}

-- the members of all blocks, in order
abbrev pub members_of : {T : Type 0} → List (List T) → List T
members_of blocks = flat_map (λ b. b) blocks

-- each block has the next 32 members, the last one those that are left, of which there is one at least
pub record AreBlocks {T : Type 0} (blocks : List (List T)) : Type 0 where
  pub each : (k : ℕ) (d : List T) → k < length blocks → get_or blocks k d ≡ take 32 (drop (32 * k) (members_of blocks))
  pub most : length (members_of blocks) ≤ 32 * length blocks
  pub least : 32 * length blocks < length (members_of blocks) + 32

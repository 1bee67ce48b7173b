-- Lists in blocks that are made of their members one by one.
use Rattle.std.specs.Prelude.{◌≡◌, ◌<◌, ◌≤◌, ◌%◌, ◌++◌, List, length}
use Rattle.block_list.specs.declared.list_filling.Filling.{Filling}

-- the members so far
abbrev pub filled : {T : Type 0} → Filling T → List T
filled filling = filling.whole ++ filling.rest

-- whole blocks, and fewer members behind them than a block has
pub record IsFilling {T : Type 0} (filling : Filling T) : Type 0 where
  pub whole : length filling.whole % 32 ≡ 0
  pub few : length filling.rest < 32

-- the same with one member more
pub record IsClosing {T : Type 0} (filling : Filling T) : Type 0 where
  pub whole : length filling.whole % 32 ≡ 0
  pub few : length filling.rest ≤ 32

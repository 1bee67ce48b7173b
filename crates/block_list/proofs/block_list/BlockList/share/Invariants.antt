use Rattle.std.proofs.Common.{◌≡◌, take}
use Rattle.block_list.proofs.block_list.BlockList.share.Given as goal

abbrev pub invariant-loop-block : goal.invariant-loop-block
invariant-loop-block g l = l.blocks ≡ take l.block-index l.block-items

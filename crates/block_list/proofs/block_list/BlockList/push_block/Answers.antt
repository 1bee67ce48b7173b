use Rattle.std.proofs.Common.{◌≡◌, ◌%◌, ◌++◌, ◌∷◌, [], length, sym, ap, subst, ◌∙◌}
use Rattle.block_list.specs.Blocks.{members_of}
use Rattle.block_list.proofs.BlockLemmas.{blocks_more, members_more, same_blocks}
use Rattle.block_list.proofs.block_list.BlockList.push_block.Goals as goal

pub invariant_of-self-2 : goal.invariant_of-self-2
invariant_of-self-2 g c =
    same_blocks (c.self.inside.blocks ++ c.args.block ∷ []) c.push.new.self c.in_ok-push.ensures.ok
    (blocks_more c.self.inside.blocks c.args.block c.self.invariant (subst (λ ms. length ms % 32 ≡ 0) (sym c.self.view_is) c.requires.whole) c.requires.some c.requires.most)

pub returns : goal.returns
returns g c = ap (λ bs. members_of bs) c.in_ok-push.ensures.ok ∙ (members_more c.self.inside.blocks c.args.block ∙ ap (λ ms. ms ++ c.args.block) c.self.view_is)

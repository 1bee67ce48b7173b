use Rattle.std.proofs.Common.{◌≡◌, ◌/◌, ◌%◌, Some, sym, ap, ◌∙◌}
use Rattle.std.specs.Prelude.{slice_get}
use Rattle.std.proofs.lemmas.Option.{slice_get_within}
use Rattle.block_list.proofs.BlockLemmas.{member_in}
use Rattle.block_list.proofs.block_list.BlockList.get.Goals as goal

pub returns : goal.returns
returns g c =
    let at : slice_get c.self.inside.blocks (c.args.place / 32) ≡ Some c.in_ok-block.block.now = sym (c.in_ok-block.ensures ∙ ap (λ bs. slice_get bs (c.args.place / 32)) c.as_slice.ensures) in
    c.member_at-2.ensures
    ∙ (ap (λ ms. slice_get ms (c.args.place % 32)) (c.as_slice-2.ensures ∙ c.get.ensures)
    ∙ (member_in c.self.inside.blocks c.args.place c.in_ok-block.block.now c.self.invariant (slice_get_within c.self.inside.blocks (c.args.place / 32) c.in_ok-block.block.now at) at
    ∙ ap (λ ms. slice_get ms c.args.place) c.self.view_is))

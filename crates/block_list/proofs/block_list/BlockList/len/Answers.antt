use Rattle.std.proofs.Common.{◌≡◌, ◌+◌, ◌*◌, ◌++◌, ◌∷◌, [], length, sym, ap, ◌∙◌}
use Rattle.block_list.proofs.BlockLemmas.{last_is_behind}
use Rattle.block_list.proofs.block_list.BlockList.len.Goals as goal

pub returns-in-Some : goal.returns-in-Some
returns-in-Some g c =
    let is = c.as_slice.ensures in
    let last : c.len.result ≡ length c.in-Some.last.now = c.len.ensures ∙ ap (λ ms. length ms) c.get.ensures in
    ap (λ n. 32 * length c.in-Some.whole.now + n) last
    ∙ (last_is_behind c.self.inside.blocks c.in-Some.whole.now c.in-Some.last.now (sym is ∙ c.in-Some.ensures.cases.0) c.self.invariant
    ∙ ap (λ ms. length ms) c.self.view_is)

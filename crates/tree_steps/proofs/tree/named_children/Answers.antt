use Rattle.std.proofs.Common.{◌≡◌, length, ap, ◌∙◌}
use Rattle.priority_lb.specs.declared.view.ChildView.{ChildView}
use Rattle.tree_steps.specs.declared.tree_view.NamedChild.{NamedChild}
use Rattle.tree_steps.proofs.ChildLemmas.{named_more, named_all}
use Rattle.tree_steps.proofs.tree.named_children.Goals as goal

pub loop-place-preserved : goal.loop-place-preserved
loop-place-preserved c =
    let same : length c.deref-child-items.result.now ≡ length c.args.tree.now.children = rw (c.deref-child-items.ensures.value) c.in_ok-children.ensures.count in
    let make : ChildView → NamedChild = λ v. record { leaf = c.child-item.result.leaf.now.name; priority = c.child-item.result.priority; view = v } in
    named_more c.deref-child-items.result.now c.args.tree.now.children c.loop-place.place c.loop-place.named c.push.new.self c.child-item.result c.in_ok-named_child.field-0 c.loop-place-test.true same c.child-item.is
    (c.in_ok-named_child.ensures ∙ ap make c.view.ensures) c.loop-place.invariant c.in_ok-push.ensures.ok

pub returns : goal.returns
returns c =
    let same : length c.deref-child-items.result.now ≡ length c.args.tree.now.children = rw (c.deref-child-items.ensures.value) c.in_ok-children.ensures.count in
    named_all c.deref-child-items.result.now c.args.tree.now.leaves.leaves c.args.tree.now.children c.loop-place.place c.loop-place.named c.loop-place-test.false same
    (rw (c.deref-child-items.ensures.value) c.in_ok-children.ensures.children) c.loop-place.invariant

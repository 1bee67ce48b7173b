use Rattle.std.proofs.Common.{ℕ, List, ◌∙◌, ap, sym, subst, arith}
use Rattle.std.specs.Prelude.{Contains}
use Rattle.std.proofs.lemmas.List.Elements.{All-contains}
use Rattle.tree_steps.specs.Users.{users_at}
use Rattle.tree_timers.specs.EndsKept.{HasPlace}
use Rattle.cluster_tree.proofs.TimerLemmas.{all_more, all_of}
use Rattle.cluster_tree.proofs.cluster_timers.add_readers.Goals as goal

pub loop-address-init : goal.loop-address-init
loop-address-init c k d lt = absurd (omega (arith, lt))

pub loop-address-preserved : goal.loop-address-preserved
loop-address-preserved c =
    all_more (λ (a : List ℕ). (p : ℕ) → Contains (users_at c.args.users.now a) p → HasPlace c.loop-address.due p) (λ (a : List ℕ). (p : ℕ) → Contains (users_at c.args.users.now a) p → HasPlace c.add_places.new.due p)
    c.args.changed.now c.loop-address.address-index c.address-item.result c.loop-address-test.true c.loop-address.invariant (λ a had p reads. c.in_ok-add_places.ensures.kept p (had p reads))
    (λ p reads. c.in_ok-add_places.ensures.added p (subst (λ (ps : List ℕ). Contains ps p) (ap (users_at c.args.users.now) (sym c.address-item.is) ∙ sym c.at.ensures) reads))

pub returns : goal.returns
returns c address place has reads =
    All-contains (λ (a : List ℕ). (p : ℕ) → Contains (users_at c.args.users.now a) p → HasPlace c.loop-address.due p) c.args.changed.now address
    (all_of (λ (a : List ℕ). (p : ℕ) → Contains (users_at c.args.users.now a) p → HasPlace c.loop-address.due p) c.args.changed.now c.loop-address.address-index c.loop-address-test.false c.loop-address.invariant) has place reads

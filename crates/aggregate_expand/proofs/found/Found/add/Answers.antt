use Rattle.std.proofs.Common.{◌≡◌, true, false, rules, sym, ◌∙◌, subst, cond}
use Rattle.std.specs.Ordering.{nat_cmp, is_eq}
use Rattle.std.specs.Cmp.Lexicographic.{slice_cmp}
use Rattle.aggregate_expand.specs.LookedUp.{Name, has_name}
use Rattle.aggregate_expand.proofs.FoundLemmas.{in_keys, index_more, index_back}
use Rattle.aggregate_expand.proofs.found.Found.add.Goals as goal

pub invariant_of-self-in-Ok : goal.invariant_of-self-in-Ok
invariant_of-self-in-Ok c =
    let key : c.in_ok-key.key ≡ c.args.name.now = search rules in
    let listed : c.in_ok-listed.listed ≡ c.args.name.now = search rules in
    let put : Name → Type 0 = λ x. (q : Name) → in_keys c.insert.new.self.keys q ≡ cond (is_eq (slice_cmp nat_cmp x q)) true (in_keys c.self.inside.index.keys q) in
    rw (c.in-Ok.ensures.ok, listed) (index_more c.self.inside.index.keys _ _ c.args.name.now c.self.invariant (subst put key c.in_ok-insert.ensures.updates.0))

pub invariant_of-self-in-Err : goal.invariant_of-self-in-Err
invariant_of-self-in-Err c =
    let key : c.in_ok-key.key ≡ c.args.name.now = search rules in
    let put : Name → Type 0 = λ x. (q : Name) → in_keys c.insert.new.self.keys q ≡ cond (is_eq (slice_cmp nat_cmp x q)) true (in_keys c.self.inside.index.keys q) in
    let absent : has_name c.self.inside.names c.args.name.now ≡ false = sym (c.self.invariant c.args.name.now) ∙ sym c.contains.ensures ∙ c.if-contains.false in
    rw c.in-Err.ensures.err (index_back c.self.inside.index.keys c.insert.new.self.keys _ c.self.inside.names c.args.name.now absent c.self.invariant (subst put key c.in_ok-insert.ensures.updates.0) c.remove.ensures.updates.0)

use Rattle.std.proofs.Common.{◌≡◌, List, ℕ, rules, sym, subst}
use Rattle.std.specs.Prelude.{Contains}
use Rattle.tree_steps.specs.Users.{users_at}
use Rattle.tree_steps.proofs.UserLemmas.{ChangesOne, user_added, users_grow}
use Rattle.tree_steps.proofs.users.Users.add.Goals as goal

pub returns-clause-grows : goal.returns-clause-grows
returns-clause-grows c =
    let key : c.in_ok-clone.field-0 ≡ c.args.address.now = search rules in
    let change : ChangesOne c.self.inside.places.entries c.insert.new.self.entries c.args.address.now c.in_ok-places.places = subst (λ (a : List ℕ). ChangesOne c.self.inside.places.entries c.insert.new.self.entries a c.in_ok-places.places) key c.in_ok-insert.ensures.updates.0 in
    let at : c.at-readers.result.now ≡ users_at c.self.inside.places.entries c.args.address.now = cc in
    rw (← c.self.view_is) (users_grow c.self.inside.places.entries c.insert.new.self.entries c.args.address.now c.in_ok-places.places change (λ p has. c.in_ok-places.ensures.kept p (subst (λ (ps : List ℕ). Contains ps p) (sym at) has)))

pub returns-clause-added : goal.returns-clause-added
returns-clause-added c =
    let key : c.in_ok-clone.field-0 ≡ c.args.address.now = search rules in
    let change : ChangesOne c.self.inside.places.entries c.insert.new.self.entries c.args.address.now c.in_ok-places.places = subst (λ (a : List ℕ). ChangesOne c.self.inside.places.entries c.insert.new.self.entries a c.in_ok-places.places) key c.in_ok-insert.ensures.updates.0 in
    user_added c.self.inside.places.entries c.insert.new.self.entries c.args.address.now c.in_ok-places.places c.args.place change c.in_ok-places.ensures.added

use Rattle.std.proofs.Common.{◌≡◌, ◌∙◌, cond, true, false, sym, ap, rules}
use Rattle.xc_keys.specs.Keys.{is_key, key_cmp}
use Rattle.xc_keys.proofs.KeyLemmas.{derived_cmp, derived_is}
use Rattle.xc_keys.proofs.MemberLemmas.{sorted_alike}
use Rattle.config_assembly.specs.Watching.{has_key}
use Rattle.dep_manager.proofs.NewsLemmas.{set_alike}
use Rattle.dep_manager.proofs.endpoint_news.set_awaited.Goals as goal

pub returns-then-waits-clause-awaited : goal.returns-then-waits-clause-awaited
returns-then-waits-clause-awaited c other =
    let copy : c.in_ok-clone.field-0 ≡ c.args.key.now = search rules in
    set_alike c.args.awaited.now.keys c.insert.new.self.keys c.in_ok-clone.field-0 true c.in_ok-insert.ensures.updates.0 other
    ∙ ap (λ key. cond (is_key key other) true (has_key c.args.awaited.now.keys other)) copy
    ∙ ap (λ b. cond (is_key c.args.key.now other) b (has_key c.args.awaited.now.keys other)) (sym c.if-waits.true)

pub returns-then-waits-clause-rising : goal.returns-then-waits-clause-rising
returns-then-waits-clause-rising c = sorted_alike derived_cmp key_cmp derived_is c.insert.new.self.keys c.in_ok-insert.ensures.ordered

pub returns-clause-awaited : goal.returns-clause-awaited
returns-clause-awaited c other =
    set_alike c.args.awaited.now.keys c.remove.new.self.keys c.args.key.now false c.remove.ensures.updates.0 other
    ∙ ap (λ b. cond (is_key c.args.key.now other) b (has_key c.args.awaited.now.keys other)) (sym c.if-waits.false)

pub returns-clause-rising : goal.returns-clause-rising
returns-clause-rising c = sorted_alike derived_cmp key_cmp derived_is c.remove.new.self.keys c.remove.ensures.ordered

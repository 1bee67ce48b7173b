use Rattle.std.proofs.Common.{◌≡◌, ◌∙◌, cond, Some, sym, ap, subst, rules}
use Rattle.xc_keys.specs.Keys.{is_key}
use Rattle.xc_keys.proofs.KeyLemmas.{changed_alike}
use Rattle.dep_manager.specs.EndpointNews.{AreLawfulNews, state_in}
use Rattle.dep_manager.proofs.NewsLemmas.{lawful_put}
use Rattle.dep_manager.proofs.endpoint_news.Gathered.put.Goals as goal

pub returns-clause-state : goal.returns-clause-state
returns-clause-state c other =
    let copy : c.in_ok-clone.field-0 ≡ c.args.key.now = search rules in
    changed_alike c.self.inside.states.entries c.insert.new.self.entries c.in_ok-clone.field-0 (Some c.args.state) c.in_ok-before.ensures.updates.0 other
    ∙ ap (λ key. cond (is_key key other) (Some c.args.state) (state_in c.self.inside.states.entries other)) copy
    ∙ ap (λ told. cond (is_key c.args.key.now other) (Some c.args.state) (state_in told other)) c.self.view_is

pub returns-clause-lawful : goal.returns-clause-lawful
returns-clause-lawful c lawful =
    lawful_put c.self.inside.states.entries c.insert.new.self.entries c.in_ok-clone.field-0 c.args.state (subst AreLawfulNews (sym c.self.view_is) lawful) c.requires
    (changed_alike c.self.inside.states.entries c.insert.new.self.entries c.in_ok-clone.field-0 (Some c.args.state) c.in_ok-before.ensures.updates.0)

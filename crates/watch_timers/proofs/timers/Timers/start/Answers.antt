use Rattle.std.proofs.Common.{sym, ◌∙◌, ap}
use Rattle.std.specs.Prelude.{is_some}
use Rattle.xc_keys.proofs.KeyLemmas.{found_alike}
use Rattle.watch_timers.proofs.StartLemmas.{starts_again}
use Rattle.watch_timers.proofs.timers.Timers.start.Goals as goal

pub returns-then-contains_key-clause-ok : goal.returns-then-contains_key-clause-ok
returns-then-contains_key-clause-ok c =
    starts_again c.self.inside.starts.entries c.args.self.now c.args.key.now c.args.at c.self.view_is
    (sym (ap (λ o. is_some o) (found_alike c.args.key.now c.self.inside.starts.entries)) ∙ sym c.contains_key.ensures ∙ c.if-contains_key.true)

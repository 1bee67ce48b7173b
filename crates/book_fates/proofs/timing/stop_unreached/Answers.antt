use Rattle.std.proofs.Common.{ap, ◌∙◌, ◌&&◌, not, None}
use Rattle.std.specs.Prelude.{if◌then◌else◌}
use Rattle.watch_timers.specs.Timers.{started_at}
use Rattle.config_assembly.specs.Watching.{has_key}
use Rattle.config_assembly.proofs.WatchLemmas.{has_sorted}
use Rattle.book_fates.proofs.timing.stop_unreached.Goals as goal

pub returns-in_ok-set : goal.returns-in_ok-set
returns-in_ok-set c key =
    c.stop_each_unreached.ensures key
    ∙ ap (λ b. if (has_key c.args.before.now key && not b) then None else started_at c.args.timers.now key)
    (ap (λ keys. has_key keys key) c.in_ok-set.ensures ∙ has_sorted c.args.reached.now key)

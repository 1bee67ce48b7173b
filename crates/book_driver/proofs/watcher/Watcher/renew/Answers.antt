use Rattle.std.proofs.Common.{refl, sym, ◌∙◌, subst}
use Rattle.driver_step.specs.book_streams.StreamsLaws.{came_with}
use Rattle.book_driver.specs.WatcherKept.{IsTimely, assembly_with, setting_by}
use Rattle.book_driver.proofs.WatcherLemmas.{none_there, only_at, only_by}
use Rattle.book_driver.proofs.watcher.Watcher.renew.Goals as goal

pub take_in-requires-clause-only : goal.take_in-requires-clause-only
take_in-requires-clause-only g c = only_at (setting_by c.args.self.now) c.requires.at.past c.args.self.now c.requires.at.at

pub take_in-requires-clause-rising : goal.take_in-requires-clause-rising
take_in-requires-clause-rising g c = c.requires.at.at.rising

pub assemble-requires-clause-only : goal.assemble-requires-clause-only
assemble-requires-clause-only g c =
    only_by (setting_by c.args.self.now) c.requires.at.past (came_with c.args.event.now c.in_ok-heard.heard.verdict c.in_ok-heard.heard.refused) c.args.now c.take_in.new.self
    (c.in_ok-heard.ensures.heard (setting_by c.args.self.now) c.requires.at.past c.requires.at.at)

pub assemble-requires-clause-same : goal.assemble-requires-clause-same
assemble-requires-clause-same g c = (c.in_ok-heard.ensures.heard (setting_by c.args.self.now) c.requires.at.past c.requires.at.at).keys_are

pub assemble-requires-clause-changed : goal.assemble-requires-clause-changed
assemble-requires-clause-changed g c = c.in_ok-heard.ensures.changed c.requires.at.at.right

pub ask-requires : goal.ask-requires
ask-requires g c = record {
  awaits = λ none. c.in_ok-outcome.ensures.assembled.known (none_there c.in_ok-outcome.outcome.missing (sym c.is_some.ensures ∙ none));
  stays = c.in_ok-outcome.ensures.assembled.stays;
  told = (c.in_ok-outcome.ensures.assembled.reached (setting_by c.args.self.now) c.requires.at.past (came_with c.args.event.now c.in_ok-heard.heard.verdict c.in_ok-heard.heard.refused) c.args.now
      (c.in_ok-heard.ensures.heard (setting_by c.args.self.now) c.requires.at.past c.requires.at.at)).told_are;
}

pub returns-clause-step : goal.returns-clause-step
returns-clause-step g c s past at timely =
    let came = came_with c.args.event.now c.in_ok-heard.heard.verdict c.in_ok-heard.heard.refused in
    let by = c.in_ok-heard.ensures.heard s past at in
    let reached = c.in_ok-outcome.ensures.assembled.reached s past came c.args.now by in
    let heard_timely = subst (λ shown. IsTimely s past c.args.event.now c.args.now c.args.calls shown) (sym c.in_ok-heard.ensures.shown) timely in
    let is = c.in_ok-outcome.ensures.assembled.assembly s past came c.args.now by heard_timely in
    let a = assembly_with s past c.in_ok-outcome.outcome.reached c.in_ok-outcome.outcome.missing c.in_ok-outcome.outcome.config in
    record {
      told = c.in_ok-heard.ensures.told s past at;
      reached = c.in_ok-outcome.outcome.reached;
      assembly = is;
      sent_are = c.in_ok-sent.ensures.sent s past came a reached refl;
      kept = λ line number. c.in_ok-sent.ensures.kept s past line c.args.event.now
          (record { verdict = c.in_ok-heard.heard.verdict; sent = c.in_ok-sent.sent; missing = c.in_ok-outcome.outcome.missing; snapshot = number; refused = c.in_ok-heard.heard.refused })
          a reached (c.in_ok-outcome.ensures.assembled.serves s past came c.args.now by heard_timely) is refl timely.now_is refl;
    }

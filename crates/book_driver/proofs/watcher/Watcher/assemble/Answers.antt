use Rattle.std.proofs.Common.{◌≡◌, Ok, sym, ap, ◌∙◌, subst}
use Rattle.book_driver.specs.Assembled.{IsAssembledBy}
use Rattle.book_driver.proofs.InPlaceLemmas.{updated, watcher_by}
use Rattle.book_driver.proofs.watcher.Watcher.assemble.Goals as goal

pub returns : goal.returns
returns g c =
    let same : c.assemble_in_place.new.self ≡ c.args.self.now = c.assemble_in_place.ensures.none (c.in_ok-outcome.was ∙ ap Ok c.in_default.is) in
    record {
      assembled = subst (λ w. IsAssembledBy c.args.calls w (watcher_by c.assemble_in_place.new.self c.update.new.self c.update.new.cache) c.in_ok-outcome-2.outcome) same
          (updated c.args.calls c.assemble_in_place.new.self c.in_ok-names.names c.update.new.self c.update.new.cache c.in_ok-outcome-2.outcome (subst (λ w. w.deps.reached ≡ w.fates.reached) (sym same) c.requires.same) c.in_ok-names.ensures
          (record {
            outcome = record {
              reached_are = c.in_ok-outcome-2.ensures.reached;
              missing_is = c.in_ok-outcome-2.ensures.missing;
              config_is = c.in_ok-outcome-2.ensures.config;
              whole = c.in_ok-outcome-2.ensures.whole;
              lawful = c.in_ok-outcome-2.ensures.lawful;
            };
            serves = c.in_ok-outcome-2.ensures.serves;
            watched = c.in_ok-outcome-2.ensures.watched;
            kept = c.in_ok-outcome-2.ensures.kept;
            held = c.in_ok-outcome-2.ensures.held;
            stays = c.in_ok-outcome-2.ensures.stays;
            rising = c.in_ok-outcome-2.ensures.rising;
            others = c.in_ok-outcome-2.ensures.others;
            shown = c.in_ok-outcome-2.ensures.shown;
          }));
    }

use Rattle.std.proofs.Common.{None, Some, arith, sym, ap, subst, ◌∙◌}
use Rattle.std.specs.Prelude.{if◌then◌else◌}
use Rattle.std.proofs.lemmas.List.{take_all}
use Rattle.xds_cache.specs.KeptFates.{fate_of}
use Rattle.config_assembly.specs.WholeConfigs.{endpoints_of}
use Rattle.config_assembly.specs.Watching.{has_key}
use Rattle.dep_manager.specs.EndpointNews.{AreLawfulNews, is_awaited, state_in}
use Rattle.dep_manager.proofs.NewsLemmas.{told_next}
use Rattle.dep_manager.proofs.endpoint_news.news_of.Goals as goal

pub loop-key-preserved : goal.loop-key-preserved
loop-key-preserved g c = record {
  told = told_next (λ key. Some (endpoints_of (fate_of c.args.cache.now key))) (λ key. None) (state_in c.loop-key.gathered) (state_in c.look.new.gathered) c.args.changed.now c.loop-key.key-index c.key-item.result c.loop-key-test.true c.key-item.is
      c.in_ok-look.ensures.news c.loop-key.invariant.told;
  waits = told_next (is_awaited c.args.cache.now) (has_key c.args.awaited.now.keys) (has_key c.loop-key.awaited.keys) (has_key c.look.new.awaited.keys) c.args.changed.now c.loop-key.key-index c.key-item.result c.loop-key-test.true c.key-item.is
      c.in_ok-look.ensures.awaited c.loop-key.invariant.waits;
  rising = λ rose. c.in_ok-look.ensures.rising;
  lawful = c.in_ok-look.ensures.lawful c.loop-key.invariant.lawful;
  counted = omega (arith, c.look.ensures.one_step, c.loop-key.invariant.counted);
}

pub returns-clause-news : goal.returns-clause-news
returns-clause-news g c key =
    ap (λ told. state_in told key) c.in_ok-news.ensures
    ∙ c.loop-key.invariant.told key
    ∙ ap (λ keys. if has_key keys key then Some (endpoints_of (fate_of c.args.cache.now key)) else None) (take_all c.loop-key.key-index c.args.changed.now (omega (arith, c.loop-key-test.false)))

pub returns-clause-lawful : goal.returns-clause-lawful
returns-clause-lawful g c = subst AreLawfulNews (sym c.in_ok-news.ensures) c.loop-key.invariant.lawful

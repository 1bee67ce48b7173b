use Rattle.std.proofs.Common.{ap, false, ◌∙◌}
use Rattle.std.specs.Prelude.{if◌then◌else◌}
use Rattle.xc_keys.specs.Keys.{is_key, key_cmp}
use Rattle.xc_keys.proofs.KeyLemmas.{derived_cmp, derived_is}
use Rattle.xc_keys.proofs.MemberLemmas.{sorted_alike}
use Rattle.xds_cache.specs.KeptFates.{fate_of}
use Rattle.config_assembly.specs.Reach.{is_wanted}
use Rattle.config_assembly.specs.Watching.{has_key}
use Rattle.dep_manager.proofs.NewsLemmas.{told_next}
use Rattle.dep_manager.proofs.SortedKeys.{all_kept}
use Rattle.dep_manager.proofs.endpoint_news.awaited_of.Goals as goal

pub loop-key-init : goal.loop-key-init
loop-key-init g c = record {
  waits = λ key. ap (λ keys. has_key keys key) c.new-awaited.ensures.empty;
  rising = sorted_alike derived_cmp key_cmp derived_is c.new-awaited.result.keys c.new-awaited.ensures.ordered;
}

pub loop-key-preserved : goal.loop-key-preserved
loop-key-preserved g c = record {
  waits = told_next (λ key. is_wanted (fate_of c.args.cache.now key)) (λ key. false) (has_key c.loop-key.awaited.keys) (has_key c.set_awaited.new.awaited.keys) c.args.keys.now c.loop-key.key-index c.key-item.result c.loop-key-test.true c.key-item.is
      (λ key. c.in_ok-set_awaited.ensures.awaited key ∙ ap (λ waits. if is_key c.key-item.result key then waits else has_key c.loop-key.awaited.keys key) (c.is_wanted.ensures ∙ ap is_wanted c.get.ensures.fate))
      c.loop-key.invariant.waits;
  rising = c.in_ok-set_awaited.ensures.rising;
}

pub returns : goal.returns
returns g c =
    all_kept (λ key. is_wanted (fate_of c.args.cache.now key)) c.args.keys.now c.loop-key.awaited.keys c.loop-key.key-index c.loop-key-test.false c.requires c.loop-key.invariant.rising c.loop-key.invariant.waits

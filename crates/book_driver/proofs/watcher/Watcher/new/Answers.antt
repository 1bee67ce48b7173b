use Rattle.std.proofs.Common.{◌∙◌, None, [], refl, sym, ap, subst}
use Rattle.std.specs.Prelude.{IfSome}
use Rattle.dep_manager.specs.KeptAssemblies.{IsRightBy}
use Rattle.dep_manager.specs.ServedCalls.{Serves}
use Rattle.book_trees.specs.xds_history.Setting.{setting_of}
use Rattle.std.specs.List.Sorted.{IsStrictlySortedBy}
use Rattle.xc_keys.specs.Keys.{key_cmp}
use Rattle.book_driver.proofs.WatcherLemmas.{first_kept, none_rises}
use Rattle.book_driver.proofs.watcher.Watcher.new.Goals as goal

pub returns-clause-at : goal.returns-clause-at
returns-clause-at c = record {
  setting_is = ap (λ d. setting_of c.args.boot d.target) (sym c.in_ok-deps.ensures.new);
  streams_are = c.in_ok-streams.ensures.after (setting_of c.args.boot c.args.target) refl (sym c.len.ensures);
  fates_are = first_kept (record { alloc = c.args.alloc; cache = c.new-3.result; timers = c.new-4.result; reached = c.new-5.result; untimed = None }) c.new-3.ensures c.new-4.ensures c.new-5.ensures refl;
  keys_are = ap (λ d. d.reached) c.in_ok-deps.ensures.new ∙ sym c.new-5.ensures;
  told_are = c.in_ok-streams.ensures.told ∙ sym c.new-5.ensures;
  rising = subst (IsStrictlySortedBy key_cmp) (sym c.new-5.ensures) none_rises;
  right = subst (IsRightBy c.args.boot.authorities c.new-3.result) (sym c.in_ok-deps.ensures.new) tt;
  serves = subst (λ d. IfSome d.last (Serves [])) (sym c.in_ok-deps.ensures.new) tt;
  made = λ driven. absurd (cc driven);
}

pub returns-clause-shown : goal.returns-clause-shown
returns-clause-shown c = ap (λ d. d.shown) c.in_ok-deps.ensures.new

use Rattle.std.proofs.Common.{◌≡◌, false, sym, ap, ◌∙◌, subst}
use Rattle.std.specs.Prelude.{IsSomeAnd}
use Rattle.std.specs.List.Sorted.{IsStrictlySortedBy}
use Rattle.xc_keys.specs.Keys.{key_cmp}
use Rattle.config_assembly.specs.Reach.{reach}
use Rattle.config_assembly.specs.ReachedResources.{Resources, resources}
use Rattle.config_assembly.specs.Watching.{IsKept, IsWatching}
use Rattle.dep_manager.specs.KeptAssemblies.{IsAssembledOf, kept_with}
use Rattle.dep_manager.specs.UpdateOutcomes.{IsOutcomeBy, outcome_of}
use Rattle.dep_manager.proofs.KeptLemmas.{kept_by, outcome_by, right_by}
use Rattle.dep_manager.proofs.ServedLemmas.{serves_own, serving_with}
use Rattle.dep_manager.proofs.SortedKeys.{reach_rises}
use Rattle.dep_manager.proofs.deps.Deps.begin.Goals as goal

pub watch_reached-requires : goal.watch_reached-requires
watch_reached-requires g c =
    let r : Resources = resources c.args.self.now.target c.args.boot.now.authorities c.args.cache.now in
    let is : IsAssembledOf r c.in_ok-made.made.reached c.in_ok-made.made.kept = subst (λ d. IsAssembledOf (resources d.target c.args.boot.now.authorities c.args.cache.now) c.in_ok-made.made.reached c.in_ok-made.made.kept) c.self.view_is c.in_ok-made.ensures.assembled in
    let before : c.as_slice-2.result.now ≡ c.args.self.now.reached = c.as_slice-2.ensures ∙ ap (λ d. d.reached) c.self.view_is in
    let now : c.as_slice-3.result.now ≡ reach r c.args.references.now = c.as_slice-3.ensures ∙ is.reached_are ∙ ap (reach r) (c.in_ok-made.ensures.references ∙ c.as_slice.ensures) in
    subst (λ keys. IsKept c.args.cache.now keys c.as_slice-3.result.now) (sym before) (subst (IsKept c.args.cache.now c.args.self.now.reached) (sym now) c.requires)

pub returns-clause-outcome : goal.returns-clause-outcome
returns-clause-outcome g c =
    let r : Resources = resources c.args.self.now.target c.args.boot.now.authorities c.args.cache.now in
    let is : IsAssembledOf r c.in_ok-made.made.reached c.in_ok-made.made.kept = subst (λ d. IsAssembledOf (resources d.target c.args.boot.now.authorities c.args.cache.now) c.in_ok-made.made.reached c.in_ok-made.made.kept) c.self.view_is c.in_ok-made.ensures.assembled in
    let keys : c.in_ok-shared.shared ≡ c.in_ok-made.made.reached = c.in_ok-shared.ensures ∙ c.in_ok-reached.ensures in
    subst (IsOutcomeBy r c.args.references.now) (sym (c.in_ok-outcome.ensures.outcome ∙ ap (λ ks. outcome_of ks false c.in_ok-made.made.kept c.in_ok-outcome.outcome.others) keys))
    (subst (λ names. IsOutcomeBy r names (outcome_of c.in_ok-made.made.reached false c.in_ok-made.made.kept c.in_ok-outcome.outcome.others)) (c.in_ok-made.ensures.references ∙ c.as_slice.ensures) (outcome_by r c.in_ok-made.made.reached c.in_ok-made.made.kept is false c.in_ok-outcome.outcome.others c.in_ok-made.ensures.lawful))

pub returns-clause-watched : goal.returns-clause-watched
returns-clause-watched g c =
    let keys : c.in_ok-shared.shared ≡ c.in_ok-made.made.reached = c.in_ok-shared.ensures ∙ c.in_ok-reached.ensures in
    subst (IsWatching c.args.cache.now c.watch_reached.new.cache) (c.as_slice-3.ensures ∙ sym (ap (λ o. o.reached) c.in_ok-outcome.ensures.outcome ∙ keys)) c.in_ok-watch_reached.ensures

pub returns-clause-kept : goal.returns-clause-kept
returns-clause-kept g c =
    let r : Resources = resources c.args.self.now.target c.args.boot.now.authorities c.args.cache.now in
    let is : IsAssembledOf r c.in_ok-made.made.reached c.in_ok-made.made.kept = subst (λ d. IsAssembledOf (resources d.target c.args.boot.now.authorities c.args.cache.now) c.in_ok-made.made.reached c.in_ok-made.made.kept) c.self.view_is c.in_ok-made.ensures.assembled in
    right_by c.args.boot.now.authorities c.watch_reached.new.cache c.args.self.now.target c.in_ok-made.made.reached c.in_ok-made.made.kept
    (record { target = c.self-2.inside.target; reached = c.in_ok-reached.reached; last = c.self-2.inside.last; shown = c.self-2.inside.shown })
    (ap (λ d. d.target) c.self-2.view_is ∙ c.keep.ensures.held.0) c.in_ok-reached.ensures
    (subst (λ d. IsSomeAnd d.last (λ kept. kept ≡ kept_with c.in_ok-made.made.kept kept.others)) (sym c.self-2.view_is) c.in_ok-outcome.ensures.kept)
    (kept_by c.args.boot.now.authorities c.args.cache.now c.watch_reached.new.cache c.args.self.now.target c.args.references.now c.in_ok-made.made.reached c.in_ok-made.made.kept is (c.in_ok-made.ensures.references ∙ c.as_slice.ensures) c.in_ok-made.ensures.lawful
    (subst (IsWatching c.args.cache.now c.watch_reached.new.cache) c.as_slice-3.ensures c.in_ok-watch_reached.ensures))

pub invariant_of-self : goal.invariant_of-self
invariant_of-self g c =
    let r : Resources = resources c.args.self.now.target c.args.boot.now.authorities c.args.cache.now in
    let is : IsAssembledOf r c.in_ok-made.made.reached c.in_ok-made.made.kept = subst (λ d. IsAssembledOf (resources d.target c.args.boot.now.authorities c.args.cache.now) c.in_ok-made.made.reached c.in_ok-made.made.kept) c.self.view_is c.in_ok-made.ensures.assembled in
    (c.self-2.invariant.0, c.self-2.invariant.1, subst (IsStrictlySortedBy key_cmp) (sym (c.in_ok-reached.ensures ∙ is.reached_are)) (reach_rises r c.in_ok-made.made.kept.references), c.self-2.invariant.3)

pub returns-clause-serves : goal.returns-clause-serves
returns-clause-serves g c =
    serving_with c.self-2.inside.last c.in_ok-made.made.kept c.args.references.now
    (subst (λ d. IsSomeAnd d.last (λ kept. kept ≡ kept_with c.in_ok-made.made.kept kept.others)) (sym c.self-2.view_is) c.in_ok-outcome.ensures.kept)
    (serves_own c.args.references.now c.in_ok-made.made.kept (sym (c.in_ok-made.ensures.references ∙ c.as_slice.ensures)))

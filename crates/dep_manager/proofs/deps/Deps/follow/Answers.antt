use Rattle.std.proofs.Common.{◌≡◌, true, sym, ap, ◌∙◌, subst}
use Rattle.xc_base.specs.declared.names.Kind.{Kind}
use Rattle.config_assembly.specs.ReachedResources.{Resources, resources}
use Rattle.config_assembly.specs.Watching.{IsWatching}
use Rattle.dep_manager.specs.EndpointNews.{are_endpoints}
use Rattle.dep_manager.specs.KeptAssemblies.{AreChanges, IsKeptOf}
use Rattle.dep_manager.specs.UpdateOutcomes.{IsOutcomeBy, outcome_of}
use Rattle.dep_manager.proofs.KeptLemmas.{right_by, watching_still}
use Rattle.dep_manager.proofs.ServedLemmas.{outcome_on, serves_on, serving_with}
use Rattle.dep_manager.proofs.deps.Deps.follow.Goals as goal

pub renew-requires : goal.renew-requires
renew-requires g c = ap are_endpoints c.as_slice.ensures ∙ c.requires.endpoints

pub keep-requires : goal.keep-requires
keep-requires g c = c.in_ok-kept.ensures.stands c.args.self.now.shown c.requires.stands

pub returns-clause-outcome : goal.returns-clause-outcome
returns-clause-outcome g c entries known references is changes serves =
    let r : Resources = resources c.args.self.now.target entries c.args.cache.now in
    let listener : c.args.self.now.target.key.kind ≡ Kind.Listener = subst (λ d. d.target.key.kind ≡ Kind.Listener) c.self.view_is c.self.invariant.0 in
    let now : IsKeptOf entries c.args.cache.now c.args.self.now.target c.args.self.now.reached c.in_ok-kept.kept =
    c.in_ok-kept.ensures.kept entries known c.args.self.now.target c.args.self.now.reached listener is (subst (AreChanges known c.args.cache.now) (sym c.as_slice.ensures) changes) in
    let keys : c.in_ok-reached.reached ≡ c.args.self.now.reached = c.in_ok-reached.ensures ∙ ap (λ d. d.reached) c.self.view_is in
    subst (IsOutcomeBy r references) (sym (c.in_ok-outcome.ensures.outcome ∙ ap (λ ks. outcome_of ks true c.in_ok-kept.kept c.in_ok-outcome.outcome.others) keys))
    (outcome_on entries known c.args.cache.now c.args.self.now.target c.args.self.now.reached c.args.changed.now c.args.last c.in_ok-kept.kept references listener c.requires.endpoints is changes now c.in_ok-kept.ensures.references serves true c.in_ok-outcome.outcome.others)

pub returns-clause-serves : goal.returns-clause-serves
returns-clause-serves g c entries known references is changes serves =
    let listener : c.args.self.now.target.key.kind ≡ Kind.Listener = subst (λ d. d.target.key.kind ≡ Kind.Listener) c.self.view_is c.self.invariant.0 in
    let now : IsKeptOf entries c.args.cache.now c.args.self.now.target c.args.self.now.reached c.in_ok-kept.kept =
    c.in_ok-kept.ensures.kept entries known c.args.self.now.target c.args.self.now.reached listener is (subst (AreChanges known c.args.cache.now) (sym c.as_slice.ensures) changes) in
    serving_with c.keep.new.self.last c.in_ok-kept.kept references c.in_ok-outcome.ensures.kept
    (serves_on entries known c.args.cache.now c.args.self.now.target c.args.self.now.reached c.args.changed.now c.args.last c.in_ok-kept.kept references listener c.requires.endpoints is changes now c.in_ok-kept.ensures.references serves)

pub returns-clause-watched : goal.returns-clause-watched
returns-clause-watched g c entries known is changes =
    let listener : c.args.self.now.target.key.kind ≡ Kind.Listener = subst (λ d. d.target.key.kind ≡ Kind.Listener) c.self.view_is c.self.invariant.0 in
    let now : IsKeptOf entries c.args.cache.now c.args.self.now.target c.args.self.now.reached c.in_ok-kept.kept =
    c.in_ok-kept.ensures.kept entries known c.args.self.now.target c.args.self.now.reached listener is (subst (AreChanges known c.args.cache.now) (sym c.as_slice.ensures) changes) in
    let keys : c.in_ok-reached.reached ≡ c.args.self.now.reached = c.in_ok-reached.ensures ∙ ap (λ d. d.reached) c.self.view_is in
    subst (IsWatching c.args.cache.now c.args.cache.now) (sym (ap (λ o. o.reached) c.in_ok-outcome.ensures.outcome ∙ keys)) (watching_still c.args.cache.now c.args.self.now.reached now.watched)

pub returns-clause-kept : goal.returns-clause-kept
returns-clause-kept g c entries known is changes =
    let listener : c.args.self.now.target.key.kind ≡ Kind.Listener = subst (λ d. d.target.key.kind ≡ Kind.Listener) c.self.view_is c.self.invariant.0 in
    let now : IsKeptOf entries c.args.cache.now c.args.self.now.target c.args.self.now.reached c.in_ok-kept.kept =
    c.in_ok-kept.ensures.kept entries known c.args.self.now.target c.args.self.now.reached listener is (subst (AreChanges known c.args.cache.now) (sym c.as_slice.ensures) changes) in
    right_by entries c.args.cache.now c.args.self.now.target c.args.self.now.reached c.in_ok-kept.kept c.keep.new.self
    c.keep.ensures.held.0 c.keep.ensures.held.1 c.in_ok-outcome.ensures.kept now

pub returns-clause-held : goal.returns-clause-held
returns-clause-held g c =
    let keys : c.in_ok-reached.reached ≡ c.args.self.now.reached = c.in_ok-reached.ensures ∙ ap (λ d. d.reached) c.self.view_is in
    (c.keep.ensures.held.0, c.keep.ensures.held.1 ∙ sym keys ∙ sym (ap (λ o. o.reached) c.in_ok-outcome.ensures.outcome))

pub returns-clause-stays : goal.returns-clause-stays
returns-clause-stays g c = (ap (λ o. o.stays) c.in_ok-outcome.ensures.outcome, ap (λ o. o.reached) c.in_ok-outcome.ensures.outcome ∙ c.in_ok-reached.ensures ∙ ap (λ d. d.reached) c.self.view_is)

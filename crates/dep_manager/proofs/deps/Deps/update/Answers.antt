use Rattle.std.proofs.Common.{◌≡◌, true, length, sym, ap, ◌∙◌, subst}
use Rattle.std.specs.Prelude.{IfSome}
use Rattle.std.specs.Option.{option_or}
use Rattle.std.specs.List.Sorted.{IsStrictlySortedBy}
use Rattle.std.proofs.lemmas.Bool.{true≢false}
use Rattle.xc_keys.specs.Keys.{key_cmp}
use Rattle.config_assembly.specs.Reach.{reach}
use Rattle.config_assembly.specs.ReachedResources.{Resources, resources}
use Rattle.config_assembly.specs.Watching.{IsKept}
use Rattle.dep_manager.specs.EndpointNews.{are_endpoints}
use Rattle.dep_manager.specs.ShownEntries.{StandAsShown}
use Rattle.dep_manager.specs.UpdateOutcomes.{IsOutcomeBy}
use Rattle.dep_manager.proofs.KeptLemmas.{none_counted}
use Rattle.dep_manager.proofs.RootLemmas.{kept_at, none_found}
use Rattle.dep_manager.proofs.ServedLemmas.{serves_own}
use Rattle.dep_manager.proofs.SortedKeys.{reach_rises}
use Rattle.dep_manager.proofs.deps.Deps.update.Goals as goal

pub begin-requires : goal.begin-requires
begin-requires g c =
    subst (λ d. IsKept c.args.cache.now d.reached (reach (resources d.target c.args.boot.now.authorities c.args.cache.now) c.args.references.now)) (sym c.take_last.ensures.rest) c.requires.watched

pub follow-requires-clause-endpoints : goal.follow-requires-clause-endpoints
follow-requires-clause-endpoints g c = ap are_endpoints (sym c.as_slice.ensures) ∙ subst (λ o. IfSome o (λ kept. are_endpoints c.as_slice.result.now ≡ true)) c.in-Some.is c.in_ok-found.ensures.endpoints

pub follow-requires-clause-stands : goal.follow-requires-clause-stands
follow-requires-clause-stands g c = subst (λ d. StandAsShown c.in-Some.last.others d.shown c.in-Some.last.config) (sym c.take_last.ensures.rest) (subst (λ o. IfSome o (λ kept. StandAsShown kept.others c.args.self.now.shown kept.config)) c.in-Some.is c.in_ok-found.ensures.stands)

pub returns-in_ok-outcome-in-Some-clause-reached : goal.returns-in_ok-outcome-in-Some-clause-reached
returns-in_ok-outcome-in-Some-clause-reached g c =
    let (known, is, changes) = kept_at c.args.boot.now.authorities c.args.self.now c.take_last.new.self c.args.cache.now c.args.changed.now c.in_ok-found.found c.in-Some.last c.in-Some.is c.take_last.ensures.rest c.in_ok-found.ensures.right c.requires.changed in
    (subst (λ d. IsOutcomeBy (resources d.target c.args.boot.now.authorities c.args.cache.now) c.args.references.now c.in_ok-outcome-in-Some.outcome) c.take_last.ensures.rest
    (c.in_ok-outcome-in-Some.ensures.outcome c.args.boot.now.authorities known c.args.references.now is changes
    (serves_own c.args.references.now c.in-Some.last (subst (λ o. IfSome o (λ kept. c.args.references.now ≡ kept.references)) c.in-Some.is c.in_ok-found.ensures.references)))).reached_are

pub returns-in_ok-outcome-in-Some-clause-missing : goal.returns-in_ok-outcome-in-Some-clause-missing
returns-in_ok-outcome-in-Some-clause-missing g c =
    let (known, is, changes) = kept_at c.args.boot.now.authorities c.args.self.now c.take_last.new.self c.args.cache.now c.args.changed.now c.in_ok-found.found c.in-Some.last c.in-Some.is c.take_last.ensures.rest c.in_ok-found.ensures.right c.requires.changed in
    (subst (λ d. IsOutcomeBy (resources d.target c.args.boot.now.authorities c.args.cache.now) c.args.references.now c.in_ok-outcome-in-Some.outcome) c.take_last.ensures.rest
    (c.in_ok-outcome-in-Some.ensures.outcome c.args.boot.now.authorities known c.args.references.now is changes
    (serves_own c.args.references.now c.in-Some.last (subst (λ o. IfSome o (λ kept. c.args.references.now ≡ kept.references)) c.in-Some.is c.in_ok-found.ensures.references)))).missing_is

pub returns-in_ok-outcome-in-Some-clause-config : goal.returns-in_ok-outcome-in-Some-clause-config
returns-in_ok-outcome-in-Some-clause-config g c =
    let (known, is, changes) = kept_at c.args.boot.now.authorities c.args.self.now c.take_last.new.self c.args.cache.now c.args.changed.now c.in_ok-found.found c.in-Some.last c.in-Some.is c.take_last.ensures.rest c.in_ok-found.ensures.right c.requires.changed in
    (subst (λ d. IsOutcomeBy (resources d.target c.args.boot.now.authorities c.args.cache.now) c.args.references.now c.in_ok-outcome-in-Some.outcome) c.take_last.ensures.rest
    (c.in_ok-outcome-in-Some.ensures.outcome c.args.boot.now.authorities known c.args.references.now is changes
    (serves_own c.args.references.now c.in-Some.last (subst (λ o. IfSome o (λ kept. c.args.references.now ≡ kept.references)) c.in-Some.is c.in_ok-found.ensures.references)))).config_is

pub returns-in_ok-outcome-in-Some-clause-whole : goal.returns-in_ok-outcome-in-Some-clause-whole
returns-in_ok-outcome-in-Some-clause-whole g c =
    let (known, is, changes) = kept_at c.args.boot.now.authorities c.args.self.now c.take_last.new.self c.args.cache.now c.args.changed.now c.in_ok-found.found c.in-Some.last c.in-Some.is c.take_last.ensures.rest c.in_ok-found.ensures.right c.requires.changed in
    (subst (λ d. IsOutcomeBy (resources d.target c.args.boot.now.authorities c.args.cache.now) c.args.references.now c.in_ok-outcome-in-Some.outcome) c.take_last.ensures.rest
    (c.in_ok-outcome-in-Some.ensures.outcome c.args.boot.now.authorities known c.args.references.now is changes
    (serves_own c.args.references.now c.in-Some.last (subst (λ o. IfSome o (λ kept. c.args.references.now ≡ kept.references)) c.in-Some.is c.in_ok-found.ensures.references)))).whole

pub returns-in_ok-outcome-in-Some-clause-lawful : goal.returns-in_ok-outcome-in-Some-clause-lawful
returns-in_ok-outcome-in-Some-clause-lawful g c =
    let (known, is, changes) = kept_at c.args.boot.now.authorities c.args.self.now c.take_last.new.self c.args.cache.now c.args.changed.now c.in_ok-found.found c.in-Some.last c.in-Some.is c.take_last.ensures.rest c.in_ok-found.ensures.right c.requires.changed in
    (subst (λ d. IsOutcomeBy (resources d.target c.args.boot.now.authorities c.args.cache.now) c.args.references.now c.in_ok-outcome-in-Some.outcome) c.take_last.ensures.rest
    (c.in_ok-outcome-in-Some.ensures.outcome c.args.boot.now.authorities known c.args.references.now is changes
    (serves_own c.args.references.now c.in-Some.last (subst (λ o. IfSome o (λ kept. c.args.references.now ≡ kept.references)) c.in-Some.is c.in_ok-found.ensures.references)))).lawful

pub returns-in_ok-outcome-in-Some-clause-watched : goal.returns-in_ok-outcome-in-Some-clause-watched
returns-in_ok-outcome-in-Some-clause-watched g c =
    let (known, is, changes) = kept_at c.args.boot.now.authorities c.args.self.now c.take_last.new.self c.args.cache.now c.args.changed.now c.in_ok-found.found c.in-Some.last c.in-Some.is c.take_last.ensures.rest c.in_ok-found.ensures.right c.requires.changed in
    c.in_ok-outcome-in-Some.ensures.watched c.args.boot.now.authorities known is changes

pub returns-in_ok-outcome-in-Some-clause-kept : goal.returns-in_ok-outcome-in-Some-clause-kept
returns-in_ok-outcome-in-Some-clause-kept g c =
    let (known, is, changes) = kept_at c.args.boot.now.authorities c.args.self.now c.take_last.new.self c.args.cache.now c.args.changed.now c.in_ok-found.found c.in-Some.last c.in-Some.is c.take_last.ensures.rest c.in_ok-found.ensures.right c.requires.changed in
    c.in_ok-outcome-in-Some.ensures.kept c.args.boot.now.authorities known is changes

pub returns-in_ok-outcome-in-Some-clause-serves : goal.returns-in_ok-outcome-in-Some-clause-serves
returns-in_ok-outcome-in-Some-clause-serves g c =
    let (known, is, changes) = kept_at c.args.boot.now.authorities c.args.self.now c.take_last.new.self c.args.cache.now c.args.changed.now c.in_ok-found.found c.in-Some.last c.in-Some.is c.take_last.ensures.rest c.in_ok-found.ensures.right c.requires.changed in
    c.in_ok-outcome-in-Some.ensures.serves c.args.boot.now.authorities known c.args.references.now is changes
    (serves_own c.args.references.now c.in-Some.last (subst (λ o. IfSome o (λ kept. c.args.references.now ≡ kept.references)) c.in-Some.is c.in_ok-found.ensures.references))

pub returns-in_ok-outcome-in-Some-clause-held : goal.returns-in_ok-outcome-in-Some-clause-held
returns-in_ok-outcome-in-Some-clause-held g c = (c.in_ok-outcome-in-Some.ensures.held.0 ∙ ap (λ d. d.target) c.take_last.ensures.rest, c.in_ok-outcome-in-Some.ensures.held.1)

pub returns-in_ok-outcome-in-None-clause-held : goal.returns-in_ok-outcome-in-None-clause-held
returns-in_ok-outcome-in-None-clause-held g c = (c.in_ok-outcome-in-None.ensures.held.0 ∙ ap (λ d. d.target) c.take_last.ensures.rest, c.in_ok-outcome-in-None.ensures.held.1)

pub returns-in_ok-outcome-in-None-clause-reached : goal.returns-in_ok-outcome-in-None-clause-reached
returns-in_ok-outcome-in-None-clause-reached g c =
    (subst (λ d. IsOutcomeBy (resources d.target c.args.boot.now.authorities c.args.cache.now) c.args.references.now c.in_ok-outcome-in-None.outcome) c.take_last.ensures.rest c.in_ok-outcome-in-None.ensures.outcome).reached_are

pub returns-in_ok-outcome-in-None-clause-missing : goal.returns-in_ok-outcome-in-None-clause-missing
returns-in_ok-outcome-in-None-clause-missing g c =
    (subst (λ d. IsOutcomeBy (resources d.target c.args.boot.now.authorities c.args.cache.now) c.args.references.now c.in_ok-outcome-in-None.outcome) c.take_last.ensures.rest c.in_ok-outcome-in-None.ensures.outcome).missing_is

pub returns-in_ok-outcome-in-None-clause-config : goal.returns-in_ok-outcome-in-None-clause-config
returns-in_ok-outcome-in-None-clause-config g c =
    (subst (λ d. IsOutcomeBy (resources d.target c.args.boot.now.authorities c.args.cache.now) c.args.references.now c.in_ok-outcome-in-None.outcome) c.take_last.ensures.rest c.in_ok-outcome-in-None.ensures.outcome).config_is

pub returns-in_ok-outcome-in-None-clause-whole : goal.returns-in_ok-outcome-in-None-clause-whole
returns-in_ok-outcome-in-None-clause-whole g c =
    (subst (λ d. IsOutcomeBy (resources d.target c.args.boot.now.authorities c.args.cache.now) c.args.references.now c.in_ok-outcome-in-None.outcome) c.take_last.ensures.rest c.in_ok-outcome-in-None.ensures.outcome).whole

pub returns-in_ok-outcome-in-None-clause-lawful : goal.returns-in_ok-outcome-in-None-clause-lawful
returns-in_ok-outcome-in-None-clause-lawful g c =
    (subst (λ d. IsOutcomeBy (resources d.target c.args.boot.now.authorities c.args.cache.now) c.args.references.now c.in_ok-outcome-in-None.outcome) c.take_last.ensures.rest c.in_ok-outcome-in-None.ensures.outcome).lawful

pub returns-in_ok-outcome-in-None-clause-still : goal.returns-in_ok-outcome-in-None-clause-still
returns-in_ok-outcome-in-None-clause-still g c last kept same none = absurd (none_found c.args.boot.now.authorities c.args.self.now c.args.cache.now c.as_slice.result.now c.args.changed.now c.args.references.now c.in_ok-found.found last c.as_slice.ensures c.in_ok-found.ensures.some c.in-None.is c.requires.changed kept same (ap are_endpoints none))

pub returns-in_ok-outcome-in-None-clause-cost : goal.returns-in_ok-outcome-in-None-clause-cost
returns-in_ok-outcome-in-None-clause-cost g c last kept same endpoints = absurd (none_found c.args.boot.now.authorities c.args.self.now c.args.cache.now c.as_slice.result.now c.args.changed.now c.args.references.now c.in_ok-found.found last c.as_slice.ensures c.in_ok-found.ensures.some c.in-None.is c.requires.changed kept same endpoints)

pub returns-in_err-outcome-in-None-clause-still : goal.returns-in_err-outcome-in-None-clause-still
returns-in_err-outcome-in-None-clause-still g c last kept same none = absurd (none_found c.args.boot.now.authorities c.args.self.now c.args.cache.now c.as_slice.result.now c.args.changed.now c.args.references.now c.in_ok-found.found last c.as_slice.ensures c.in_ok-found.ensures.some c.in-None.is c.requires.changed kept same (ap are_endpoints none))

pub returns-in_err-outcome-in-None-clause-cost : goal.returns-in_err-outcome-in-None-clause-cost
returns-in_err-outcome-in-None-clause-cost g c last kept same endpoints = absurd (none_found c.args.boot.now.authorities c.args.self.now c.args.cache.now c.as_slice.result.now c.args.changed.now c.args.references.now c.in_ok-found.found last c.as_slice.ensures c.in_ok-found.ensures.some c.in-None.is c.requires.changed kept same endpoints)

pub returns-in_ok-outcome-in-Some-clause-still : goal.returns-in_ok-outcome-in-Some-clause-still
returns-in_ok-outcome-in-Some-clause-still g c last kept same none = none_counted c.args.steps.now c.follow.new.steps (length c.args.changed.now) c.follow.ensures.cost c.follow.ensures.rises (ap length none)

pub returns-in_ok-outcome-in-Some-clause-cost : goal.returns-in_ok-outcome-in-Some-clause-cost
returns-in_ok-outcome-in-Some-clause-cost g c last kept same endpoints = c.follow.ensures.cost

pub returns-in_err-outcome-in-Some-clause-still : goal.returns-in_err-outcome-in-Some-clause-still
returns-in_err-outcome-in-Some-clause-still g c last kept same none = none_counted c.args.steps.now c.follow.new.steps (length c.args.changed.now) c.follow.ensures.cost c.follow.ensures.rises (ap length none)

pub returns-in_err-outcome-in-Some-clause-cost : goal.returns-in_err-outcome-in-Some-clause-cost
returns-in_err-outcome-in-Some-clause-cost g c last kept same endpoints = c.follow.ensures.cost

pub returns-in_ok-outcome-in-Some-clause-others : goal.returns-in_ok-outcome-in-Some-clause-others
returns-in_ok-outcome-in-Some-clause-others g c =
    subst (λ d. IfSome c.in_ok-outcome-in-Some.outcome.config (λ config. StandAsShown c.in_ok-outcome-in-Some.outcome.others d.shown config)) c.take_last.ensures.rest c.in_ok-outcome-in-Some.ensures.others

pub returns-in_ok-outcome-in-Some-clause-shown : goal.returns-in_ok-outcome-in-Some-clause-shown
returns-in_ok-outcome-in-Some-clause-shown g c = c.in_ok-outcome-in-Some.ensures.shown ∙ ap (λ d. option_or c.in_ok-outcome-in-Some.outcome.config d.shown) c.take_last.ensures.rest

pub returns-in_ok-outcome-in-None-clause-others : goal.returns-in_ok-outcome-in-None-clause-others
returns-in_ok-outcome-in-None-clause-others g c =
    subst (λ d. IfSome c.in_ok-outcome-in-None.outcome.config (λ config. StandAsShown c.in_ok-outcome-in-None.outcome.others d.shown config)) c.take_last.ensures.rest c.in_ok-outcome-in-None.ensures.others

pub returns-in_ok-outcome-in-None-clause-shown : goal.returns-in_ok-outcome-in-None-clause-shown
returns-in_ok-outcome-in-None-clause-shown g c = c.in_ok-outcome-in-None.ensures.shown ∙ ap (λ d. option_or c.in_ok-outcome-in-None.outcome.config d.shown) c.take_last.ensures.rest

pub returns-in_ok-outcome-in-Some-clause-stays : goal.returns-in_ok-outcome-in-Some-clause-stays
returns-in_ok-outcome-in-Some-clause-stays g c says = c.in_ok-outcome-in-Some.ensures.stays.1 ∙ ap (λ d. d.reached) c.take_last.ensures.rest

pub returns-in_ok-outcome-in-None-clause-stays : goal.returns-in_ok-outcome-in-None-clause-stays
returns-in_ok-outcome-in-None-clause-stays g c says = absurd (true≢false (sym says ∙ c.in_ok-outcome-in-None.ensures.stays))

pub returns-in_ok-outcome-in-Some-clause-follows : goal.returns-in_ok-outcome-in-Some-clause-follows
returns-in_ok-outcome-in-Some-clause-follows g c last kept same endpoints = c.in_ok-outcome-in-Some.ensures.stays.0

pub returns-in_ok-outcome-in-None-clause-follows : goal.returns-in_ok-outcome-in-None-clause-follows
returns-in_ok-outcome-in-None-clause-follows g c last kept same endpoints = absurd (none_found c.args.boot.now.authorities c.args.self.now c.args.cache.now c.as_slice.result.now c.args.changed.now c.args.references.now c.in_ok-found.found last c.as_slice.ensures c.in_ok-found.ensures.some c.in-None.is c.requires.changed kept same endpoints)

pub returns-in_ok-outcome-in-Some-clause-rising : goal.returns-in_ok-outcome-in-Some-clause-rising
returns-in_ok-outcome-in-Some-clause-rising g c =
    let r : Resources = resources c.args.self.now.target c.args.boot.now.authorities c.args.cache.now in
    subst (IsStrictlySortedBy key_cmp) (sym (returns-in_ok-outcome-in-Some-clause-reached g c)) (reach_rises r c.args.references.now)

pub returns-in_ok-outcome-in-None-clause-rising : goal.returns-in_ok-outcome-in-None-clause-rising
returns-in_ok-outcome-in-None-clause-rising g c =
    let r : Resources = resources c.args.self.now.target c.args.boot.now.authorities c.args.cache.now in
    subst (IsStrictlySortedBy key_cmp) (sym (returns-in_ok-outcome-in-None-clause-reached g c)) (reach_rises r c.args.references.now)

use Rattle.std.proofs.Common.{◌≡◌, Option, ap, ap₂, ◌∙◌, subst}
use Rattle.std.specs.Prelude.{IfSome}
use Rattle.xc_base.specs.declared.names.Kind.{Kind}
use Rattle.config_assembly.specs.ReachedResources.{resources}
use Rattle.dep_manager.specs.KeptAssemblies.{Managed}
use Rattle.dep_manager.specs.declared.kept_assembly.Kept.{Kept}
use Rattle.dep_manager.specs.ShownEntries.{StandAsShown}
use Rattle.dep_manager.proofs.RenewLemmas.{kept_roots}
use Rattle.dep_manager.proofs.RootLemmas.{AllStay, IsFoundOf, found_references, found_right, found_stands, kept_of}
use Rattle.dep_manager.proofs.deps.Deps.take_last.Goals as goal

pub returns-clause-rest : goal.returns-clause-rest
returns-clause-rest c =
    let with : Managed → Option Kept → Managed = λ d last. record { target = d.target; reached = d.reached; last = last; shown = d.shown } in
    ap₂ with c.self.view_is c.take.ensures.after

pub returns-clause-references : goal.returns-clause-references
returns-clause-references c = found_references c.args.references.now c.in_ok-found.found c.take.result c.in_ok-found.ensures.kept

pub returns-clause-stands : goal.returns-clause-stands
returns-clause-stands c =
    let is : c.take.result ≡ c.args.self.now.last = c.take.ensures.value ∙ ap (λ d. d.last) c.self.view_is in
    found_stands c.args.references.now c.in_ok-found.found c.args.self.now.last c.args.self.now.shown (subst (IsFoundOf c.args.references.now c.in_ok-found.found) is c.in_ok-found.ensures.kept)
    (subst (λ d. IfSome d.last (λ kept. StandAsShown kept.others d.shown kept.config)) c.self.view_is c.self.invariant.1)

pub returns-clause-right : goal.returns-clause-right
returns-clause-right c =
    let is : c.take.result ≡ c.args.self.now.last = c.take.ensures.value ∙ ap (λ d. d.last) c.self.view_is in
    found_right c.args.references.now c.in_ok-found.found c.args.self.now.last c.args.self.now.target c.args.self.now.reached (subst (IsFoundOf c.args.references.now c.in_ok-found.found) is c.in_ok-found.ensures.kept)
    (subst (λ o. IfSome c.in_ok-found.found (λ kept. AllStay c.args.references.now o)) is c.in_ok-found.ensures.stays)

pub returns-clause-some : goal.returns-clause-some
returns-clause-some c entries known now last right changes is keeps endpoints =
    let listener : c.args.self.now.target.key.kind ≡ Kind.Listener = subst (λ d. d.target.key.kind ≡ Kind.Listener) c.self.view_is c.self.invariant.0 in
    c.in_ok-found.ensures.some last (resources c.args.self.now.target entries known) c.args.self.now.reached (c.take.ensures.value ∙ ap (λ d. d.last) c.self.view_is ∙ is) (kept_of entries known c.args.self.now last right is).assembled
    (kept_roots entries known now c.args.self.now.target c.args.changed.now last.references c.args.references.now listener endpoints changes keeps) endpoints

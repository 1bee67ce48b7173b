use Rattle.std.proofs.Common.{◌∙◌, sym, ap, subst}
use Rattle.std.specs.Prelude.{unwrap_or}
use Rattle.xc_keys.proofs.KeyLemmas.{found_alike}
use Rattle.xds_cache.specs.declared.fate.Known.TheVariants.{Wanted}
use Rattle.xds_cache.specs.KeptFates.{IsLawfulAt, known_of}
use Rattle.xds_cache.proofs.ChangeLemmas.{lawful_known}
use Rattle.xds_cache.proofs.cache.Cache.known_fate.Goals as goal

pub returns-in-Some-clause-fate : goal.returns-in-Some-clause-fate
returns-in-Some-clause-fate c =
    c.fate.ensures ∙ ap (λ o. unwrap_or o Wanted) (c.in-Some.ensures.value ∙ found_alike c.args.key.now c.self.inside.known.entries)
    ∙ ap (λ keys. unwrap_or (known_of keys c.args.key.now) Wanted) c.self.view_is

pub returns-in-Some-clause-lawful : goal.returns-in-Some-clause-lawful
returns-in-Some-clause-lawful c =
    subst (λ known. IsLawfulAt c.args.key.now known) (sym c.fate.ensures)
    (lawful_known c.self.inside.known.entries c.args.key.now c.in-Some.known.now c.self.invariant (sym (found_alike c.args.key.now c.self.inside.known.entries) ∙ sym c.in-Some.ensures.value))

pub returns-in-None-clause-fate : goal.returns-in-None-clause-fate
returns-in-None-clause-fate c =
    ap (λ o. unwrap_or o Wanted) (c.in-None.ensures.value ∙ found_alike c.args.key.now c.self.inside.known.entries)
    ∙ ap (λ keys. unwrap_or (known_of keys c.args.key.now) Wanted) c.self.view_is

use Rattle.std.proofs.Common.{◌∙◌, sym, refl}
use Rattle.xds_cache.specs.declared.fate.Known.TheVariants.{Invalid}
use Rattle.xds_cache.specs.KeptFates.{known_of, refused, settled}
use Rattle.xds_cache.proofs.ChangeLemmas.{stays, changes_alike, refused_value, refused_else, tells_same, tells_alike}
use Rattle.xds_cache.proofs.cache.Cache.refuse.Goals as goal

pub returns-then-has_value-clause-change : goal.returns-then-has_value-clause-change
returns-then-has_value-clause-change c =
    stays c.args.self.now c.args.self.now c.args.key.now (refused c.args.reason) refl (refused_value (known_of c.args.self.now c.args.key.now) c.args.reason (sym c.has_value.ensures ∙ c.if-has_value.true))

pub returns-then-has_value-clause-told : goal.returns-then-has_value-clause-told
returns-then-has_value-clause-told c =
    tells_same c.args.self.now c.args.key.now (refused c.args.reason) (refused_value (known_of c.args.self.now c.args.key.now) c.args.reason (sym c.has_value.ensures ∙ c.if-has_value.true))

pub returns-clause-change : goal.returns-clause-change
returns-clause-change c =
    changes_alike c.args.self.now c.settle-is_other.new.self c.args.key.now (settled (Invalid c.args.reason)) (refused c.args.reason)
    (refused_else (known_of c.args.self.now c.args.key.now) c.args.reason (sym c.has_value.ensures ∙ c.if-has_value.false)) c.settle-is_other.ensures.change

pub returns-clause-told : goal.returns-clause-told
returns-clause-told c =
    tells_alike c.settle-is_other.result c.args.self.now c.args.key.now (settled (Invalid c.args.reason)) (refused c.args.reason)
    (refused_else (known_of c.args.self.now c.args.key.now) c.args.reason (sym c.has_value.ensures ∙ c.if-has_value.false)) c.settle-is_other.ensures.told

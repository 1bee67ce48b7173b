use Rattle.std.proofs.Common.{None, refl}
use Rattle.xc_keys.proofs.KeyLemmas.{changed_alike}
use Rattle.xds_cache.specs.KeptFates.{unwatched}
use Rattle.xds_cache.proofs.ChangeLemmas.{changes_to, all_lawful}
use Rattle.xds_cache.proofs.cache.Cache.unwatch.Goals as goal

pub invariant_of-self : goal.invariant_of-self
invariant_of-self c =
    all_lawful c.self.inside.known.entries c.remove-before.new.self.entries c.args.key.now None c.self.invariant
    (changed_alike c.self.inside.known.entries c.remove-before.new.self.entries c.args.key.now None c.remove-before.ensures.updates.0) tt

pub returns : goal.returns
returns c =
    changes_to c.self.inside.known.entries c.args.self.now c.remove-before.new.self.entries c.args.key.now unwatched None c.self.view_is refl
    (changed_alike c.self.inside.known.entries c.remove-before.new.self.entries c.args.key.now None c.remove-before.ensures.updates.0)

use Rattle.std.proofs.Common.{◌≡◌, ◌∷◌, [], drop}
use Rattle.xds_bootstrap.specs.Document.{entries_from}
use Rattle.xds_bootstrap.specs.BootViews.{seen_members}
use Rattle.xds_bootstrap.proofs.authority_entries.entries_from.Given as goal

abbrev pub invariant-loop-name : goal.invariant-loop-name
invariant-loop-name l =
    entries_from l.entries l.fn.default.server_uri (seen_members (drop l.name-index l.members))
    ≡ entries_from (l.fn.default ∷ []) l.fn.default.server_uri (seen_members l.fn.members)

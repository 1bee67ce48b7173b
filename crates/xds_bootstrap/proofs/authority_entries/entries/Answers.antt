use Rattle.std.proofs.Common.{◌<◌, ◌≤◌, ◌∷◌, [], ap, subst}
use Rattle.xds_bootstrap.specs.Document.{entries_from}
use Rattle.xds_bootstrap.specs.BootViews.{seen_members}
use Rattle.xds_bootstrap.proofs.EntryLemmas.{no_named, too_many, not_many}
use Rattle.xds_bootstrap.proofs.LawLemmas.{none_lawful, all_lawful}
use Rattle.xds_bootstrap.proofs.authority_entries.entries.Goals as goal

pub returns-in_default-clause-gives : goal.returns-in_default-clause-gives
returns-in_default-clause-gives c = rw (← no_named c.args.default _ c.in_default.ensures) c.entries_from.ensures.gives

pub returns-in_default-clause-lawful : goal.returns-in_default-clause-lawful
returns-in_default-clause-lawful c = λ unnamed. none_lawful c.entries_from.result c.args.default.name unnamed c.entries_from.ensures.names

pub returns-then-len-gt-MOST-clause-gives : goal.returns-then-len-gt-MOST-clause-gives
returns-then-len-gt-MOST-clause-gives c =
    too_many c.args.default c.in-Some.members.now.entries _ c.in_ok-name.name c.in-Some.ensures (subst (λ n. 65534 < n) c.len.ensures.len c.if-len-gt-MOST.true) c.in_ok-name.ensures

pub returns-clause-gives : goal.returns-clause-gives
returns-clause-gives c =
    let all = not_many c.args.default c.in_ok-members.members.items c.in-Some.members.now.entries _ c.in_ok-members.ensures c.in-Some.ensures (subst (λ n. n ≤ 65534) c.len.ensures.len c.if-len-gt-MOST.false) in
    let lent = ap (λ ps. entries_from (c.args.default ∷ []) c.args.default.server_uri (seen_members ps)) c.deref.ensures.value in
    rw (← all, ← lent) c.entries_from-2.ensures.gives

pub returns-clause-lawful : goal.returns-clause-lawful
returns-clause-lawful c = λ unnamed.
    all_lawful c.entries_from-2.result c.args.default.name c.deref.result.now c.in_ok-members.members.items c.in-Some.members.now.entries unnamed c.deref.ensures.value c.in_ok-members.ensures
    (subst (λ n. n ≤ 65534) c.len.ensures.len c.if-len-gt-MOST.false) c.len.ensures.ordered c.entries_from-2.ensures.names

use Rattle.std.proofs.lemmas.Result.{err_from_is_err_and}
use Rattle.xds_bootstrap.proofs.EntryLemmas.{fails_on, entries_more, entries_fail, entries_end}
use Rattle.xds_bootstrap.proofs.LawLemmas.{names_found}
use Rattle.xds_bootstrap.proofs.authority_entries.entries_from.Goals as goal

pub returns-in_err-entry-clause-gives : goal.returns-in_err-entry-clause-gives
returns-in_err-entry-clause-gives c =
    let p = err_from_is_err_and c.from_residual-in_err-entry.result c.from_residual-in_err-entry.ensures.1 in
    rw (p.1, p.2)
    (fails_on _ _ _
    (entries_fail c.loop-name.entries c.args.default.server_uri c.in_ok-top.top c.deref.result.now c.args.members.now c.loop-name.name-index c.loop-name-item.result _ c.loop-name-test.true c.loop-name-item.is c.in_ok-top.ensures.cases c.deref.ensures c.loop-name.invariant)
    c.in_err-entry.ensures)

pub loop-name-preserved : goal.loop-name-preserved
loop-name-preserved c =
    entries_more c.loop-name.entries c.push-in-loop-name.new.self c.args.default.server_uri c.in_ok-top.top c.deref.result.now c.args.members.now c.loop-name.name-index c.loop-name-item.result c.in_ok-entry.entry _ c.loop-name-test.true c.loop-name-item.is c.in_ok-top.ensures.cases c.deref.ensures c.in_ok-entry.ensures c.in_ok-push-2.ensures.ok c.loop-name.invariant

pub returns-clause-gives : goal.returns-clause-gives
returns-clause-gives c = entries_end c.loop-name.entries c.args.default.server_uri c.args.members.now c.loop-name.name-index _ c.loop-name-test.false c.loop-name.invariant

pub returns-clause-names : goal.returns-clause-names
returns-clause-names c = names_found c.args.default c.args.members.now c.loop-name.entries (returns-clause-gives c)

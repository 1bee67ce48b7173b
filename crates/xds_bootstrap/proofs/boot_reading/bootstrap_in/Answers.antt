use Rattle.std.proofs.lemmas.Result.{err_from_is_err_and}
use Rattle.std.proofs.Common.{Err}
use Rattle.xds_bootstrap.proofs.EntryLemmas.{fails_on}
use Rattle.xds_bootstrap.proofs.ReadLemmas.{bootstrap_made}
use Rattle.xds_bootstrap.proofs.boot_reading.bootstrap_in.Goals as goal

pub returns-in_err-authorities-2-clause-gives : goal.returns-in_err-authorities-2-clause-gives
returns-in_err-authorities-2-clause-gives c =
    let p = err_from_is_err_and c.from_residual-in_err-authorities-2.result c.from_residual-in_err-authorities-2.ensures.1 in
    rw (p.1, p.2) (fails_on _ _ _ (λ f e. bootstrap_made _ _ _ _ _ _ (Err f) c.get.ensures c.in_ok-server_uri.ensures c.in_ok-node.ensures c.in_ok-text.ensures c.in_ok-authorities.ensures e) c.in_err-authorities-2.ensures.gives)

pub returns-clause-gives : goal.returns-clause-gives
returns-clause-gives c = bootstrap_made _ _ _ _ _ _ _ c.get.ensures c.in_ok-server_uri.ensures c.in_ok-node.ensures c.in_ok-text.ensures c.in_ok-authorities.ensures c.in_ok-authorities-2.ensures.gives

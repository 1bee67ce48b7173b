use Rattle.std.proofs.Common.{◌∙◌, ap, eqb, length}
use Rattle.xds_bootstrap.proofs.EntryLemmas.{empty_list}
use Rattle.xds_bootstrap.proofs.servers.is_empty_list.Goals as goal

pub returns-in-Some : goal.returns-in-Some
returns-in-Some c =
    empty_list c.is_empty.result c.in-Some.list.now.items _ c.in-Some.ensures (c.is_empty.ensures ∙ ap (λ vs. eqb (length vs) 0) c.as_slice.ensures.value)

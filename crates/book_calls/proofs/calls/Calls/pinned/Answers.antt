use Rattle.std.proofs.Common.{sym, ◌∙◌}
use Rattle.std.specs.Option.{option_copied}
use Rattle.book_calls.proofs.CallsProofs.{pin_reads, pin_is_of, if_found}
use Rattle.book_calls.proofs.calls.Calls.pinned.Goals as goal

pub returns-clause-reads : goal.returns-clause-reads
returns-clause-reads c = if_found (option_copied c.get.result) _ (λ p is archive s past right kept. pin_reads archive s past c.args.self.now c.args.call p (sym c.get.ensures.value ∙ is) right kept)

pub returns-clause-ticket : goal.returns-clause-ticket
returns-clause-ticket c = if_found (option_copied c.get.result) _ (λ p is archive ps kept. pin_is_of archive c.args.self.now c.args.call p kept.own (sym c.get.ensures.value ∙ is))

pub returns-clause-own : goal.returns-clause-own
returns-clause-own c = if_found (option_copied c.get.result) _ (λ p is archive ps kept. kept.own.pins c.args.call p (sym c.get.ensures.value ∙ is))

use Rattle.book_calls.proofs.ReferenceProofs.{retained_are_references}
use Rattle.xds_book.proofs.driver_steps.call_refs.Goals as goal

pub returns : goal.returns
returns c archive s past right at = record {
  names_are = λ names retained. retained_are_references s past c.args.calls.now.refs names right at.refs_are retained;
  stay = λ same. c.may_differ.ensures archive s past right at same;
}

use Rattle.xds_history.specs.Pages.{pages}
use Rattle.book_calls.proofs.CallsProofs.{if_failed}
use Rattle.book_calls.proofs.calls.Calls.pin.Goals as goal

pub returns-in_err-pin-clause-err : goal.returns-in_err-pin-clause-err
returns-in_err-pin-clause-err c =
    if_failed c.from_residual-in_err-pin.result (λ ps none kept. c.in_err-pin.ensures.err c.args.archive.now ps none (c.latest_names.ensures.kept ps kept))

pub returns-clause-reply : goal.returns-clause-reply
returns-clause-reply c = λ ps kept. c.in_ok-pin.ensures.reply c.args.archive.now ps (c.latest_names.ensures.kept ps kept)

pub returns-clause-reads : goal.returns-clause-reads
returns-clause-reads c = λ ps kept. c.in_ok-pin.ensures.reads c.args.archive.now ps (c.latest_names.ensures.kept ps kept)

pub returns-clause-kept : goal.returns-clause-kept
returns-clause-kept c = λ s past actor line reply right none holds_none answers kept.
    c.in_ok-pin.ensures.kept c.args.archive.now s past actor line reply right none holds_none answers (c.latest_names.ensures.kept (pages s past) kept)

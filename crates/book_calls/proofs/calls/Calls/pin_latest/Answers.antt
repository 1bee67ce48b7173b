use Rattle.std.proofs.Common.{None, refl}
use Rattle.book_calls.proofs.RefSteps.{pin_over}
use Rattle.book_calls.proofs.CallsProofs.{calls_none, calls_pinned, calls_unpinned, if_failed, latest_is_of, latest_none, named_by}
use Rattle.book_calls.proofs.calls.Calls.pin_latest.Goals as goal
use Rattle.book_calls.proofs.calls.Calls.pin_latest.Goals.{in_default-via-in-Some+in_default, in_default-via-in_default}

pub returns-in_err-set_pin-clause-err : goal.returns-in_err-set_pin-clause-err
returns-in_err-set_pin-clause-err c =
    if_failed c.from_residual-in_err-set_pin.result (λ archive ps none kept. calls_unpinned archive ps c.args.self.now c.args.call.now.id c.set_pin.new.refs c.args.self.now.pins none c.in_err-set_pin.ensures.err refl kept)

pub returns-in-Ok-clause-ticket : goal.returns-in-Ok-clause-ticket
returns-in-Ok-clause-ticket c = λ archive ps kept. latest_is_of archive ps c.args.self.now c.in-Some-Some.latest c.in_ok-given.given c.in-Some-Some.is-0 c.in_ok-given.ensures kept

pub returns-in-Ok-clause-kept : goal.returns-in-Ok-clause-kept
returns-in-Ok-clause-kept c = λ archive s past actor line reply right none holds_none answers kept.
    calls_pinned archive s past actor line c.args.call.now reply c.args.self.now c.in-Some-Some.latest c.in-Some-Some.names c.set_pin.new.refs c.set_pinning.new.pins c.in_ok-kept.kept right none holds_none answers c.in-Some-Some.is-0
    c.in_ok-kept.ensures (named_by c.args.names c.args.self.now.latest c.in-Some-Some.latest c.in-Some-Some.names c.requires.names c.in-Some-Some.is-0 c.in-Some-Some.is-1)
    c.in_ok-set_pin.ensures.ok c.in-Ok.ensures.ok kept

pub returns-clause-err : goal.returns-clause-err
returns-clause-err c = λ archive ps none kept.
    calls_unpinned archive ps c.args.self.now c.args.call.now.id c.unpin.new.self c.set_pinning.new.pins none
    (pin_over c.args.self.now.refs c.set_pin.new.refs c.unpin.new.self c.args.call.now.id _ None c.in_ok-set_pin.ensures.ok c.unpin.ensures.gone) c.in-Err.ensures.err kept

pub returns-in_default-clause-kept : goal.returns-in_default-clause-kept
returns-in_default-clause-kept c = λ archive s past actor line reply right none holds_none answers kept.
    elim c.in_default.branch [
      | in_default-via-in-Some+in_default w ↦ rw (w.self-is) (calls_none archive s past actor line c.args.call.now reply c.args.self.now none answers (latest_none c.args.names c.args.self.now.latest c.requires.names w.in_default.is-1) kept)
      | in_default-via-in_default w ↦ rw (w.self-is) (calls_none archive s past actor line c.args.call.now reply c.args.self.now none answers w.in_default.is-0 kept)
    ]

use Rattle.std.proofs.Common.{sym, ◌∙◌, ap}
use Rattle.xds_config.specs.declared.config.Config.{Config}
use Rattle.cluster_tree.specs.declared.snapshot.Snapshot.{Snapshot}
use Rattle.xds_history.specs.References.{routed_to}
use Rattle.book_calls.proofs.CallsProofs.{pin_is_of, calls_held, calls_unchanged, calls_unheld, held_reply, if_failed}
use Rattle.book_calls.proofs.calls.Calls.hold.Goals as goal

pub read-snapshot-requires : goal.read-snapshot-requires
read-snapshot-requires c = pin_is_of c.args.archive.now c.args.self.now c.args.call.now.id c.in-Some.pinning.now c.requires.own (sym c.in-Some.ensures.value)

pub returns-in_err-set_hold-clause-err : goal.returns-in_err-set_hold-clause-err
returns-in_err-set_hold-clause-err c =
    if_failed c.from_residual.result (λ ps kept. calls_unchanged c.args.archive.now ps c.args.self.now c.args.call.now.id c.in-Some.pinning.now c.set_hold.new.refs (sym c.in-Some.ensures.value) c.in_err-set_hold.ensures.err kept)

pub returns-clause-reply : goal.returns-clause-reply
returns-clause-reply c = λ s past right routed kept. held_reply c.args.archive.now s past c.args.self.now c.args.call.now c.args.answer.now c.in-Some.pinning.now (sym c.in-Some.ensures.value) right routed kept

pub returns-clause-kept : goal.returns-clause-kept
returns-clause-kept c = λ s past actor line reply right routed answers kept.
    calls_held c.args.archive.now s past actor line c.args.call.now reply c.args.answer.now c.args.self.now c.in-Some.pinning.now c.set_hold.new.refs c.end_pinning.new.pins _ c.holds_stay-stays.result right routed answers (sym c.in-Some.ensures.value)
    (c.routed_to-name.ensures ∙ ap (λ (k : Config). routed_to k.front c.args.answer.now) c.get-2.ensures ∙ ap (λ (x : Snapshot). routed_to x.config.front c.args.answer.now) c.read-snapshot.ensures) c.in_ok-set_hold.ensures.ok c.end_pinning.ensures c.holds_stay-stays.ensures.before c.holds_stay-stays.ensures.held kept

pub returns-in_default-clause-kept : goal.returns-in_default-clause-kept
returns-in_default-clause-kept c = λ s past actor line reply right routed answers kept.
    calls_unheld c.args.archive.now s past actor line c.args.call.now reply c.args.self.now (sym c.in_default.ensures.value) answers kept

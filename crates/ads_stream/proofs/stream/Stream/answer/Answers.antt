use Rattle.std.proofs.Common.{◌≡◌, true, sym, ap, ◌∙◌}
use Rattle.ads_stream.specs.declared.stream.StreamState.{StreamState}
use Rattle.ads_stream.specs.StreamSteps.{of_kind, requests_due, with_kind}
use Rattle.ads_stream.proofs.AnswerLemmas.{answer_leaves, answer_sends}
use Rattle.ads_stream.proofs.stream.Stream.answer.Goals as goal

pub returns-clause-due : goal.returns-clause-due
returns-clause-due c =
    let is_up : c.args.self.now.is_up ≡ true = ap (λ (s : StreamState). s.is_up) (sym c.self.view_is) ∙ c.if-not-self.false in
    answer_sends c.args.self.now c.args.now_watched.now c.args.kind is_up c.requires.settled _ _ _ c.of-names.ensures c.new-requests.ensures c.in_ok-add_request.ensures

pub returns-clause-ok : goal.returns-clause-ok
returns-clause-ok c =
    let is_up : c.args.self.now.is_up ≡ true = ap (λ (s : StreamState). s.is_up) (sym c.self.view_is) ∙ c.if-not-self.false in
    let sent : c.add_request.new.requests ≡ requests_due c.args.self.now c.args.now_watched.now =
    answer_sends c.args.self.now c.args.now_watched.now c.args.kind is_up c.requires.settled _ _ _ c.of-names.ensures c.new-requests.ensures c.in_ok-add_request.ensures in
    answer_leaves c.args.self.now c.args.now_watched.now c.args.kind is_up c.requires.settled _ _ _ _ _ _ (c.of.ensures ∙ ap (λ (s : StreamState). of_kind s c.args.kind) c.self.view_is) c.of-names.ensures sent c.in_ok-subscription.ensures
    c.is_greeted_by-self-inside.ensures
    (c.keep.ensures ∙ ap (λ (s : StreamState). with_kind (record s { is_greeted = c.is_greeted_by-self-inside.result }) c.args.kind c.in_ok-subscription.subscription) c.self.view_is)

use Rattle.std.proofs.Common.{◌≡◌, Ok, Option, None, inl, inr, refl, sym, ap, ◌∙◌}
use Rattle.std.proofs.lemmas.Option.{none-some}
use Rattle.judged_session.specs.report_compare.declared.mistakes.Mistake.{Mistake}
use Rattle.report_judge.proofs.Refusals.{err-ok, fault_told, lines_above, no_fault, no_mistake_in, no_mistake_of, none_goes_on, told_fault}
use Rattle.report_judge.proofs.judging.judge.Goals as goal

pub returns-in-Err-clause-session : goal.returns-in-Err-clause-session
returns-in-Err-clause-session g c = λ line cause same.
    told_fault c.args.session.now c.in-Err.fault c.in-Err.ensures.gives line cause (sym c.refusal_of.ensures ∙ same)

pub returns-in-Err-clause-refused : goal.returns-in-Err-clause-refused
returns-in-Err-clause-refused g c = λ line cause refusal.
    rw c.refusal_of.ensures (fault_told c.args.session.now c.in-Err.fault c.in-Err.ensures.gives line cause refusal)

pub returns-in-Err-clause-found : goal.returns-in-Err-clause-found
returns-in-Err-clause-found g c = λ legal same.
    rw c.refusal_of.ensures (no_fault c.args.session.now c.in-Err.fault c.in-Err.ensures.gives legal.session legal.spells)

pub returns-in-Ok-Some-clause-found : goal.returns-in-Ok-Some-clause-found
returns-in-Ok-Some-clause-found g c = λ legal same.
    let none : c.in-Ok-Some.field-0 ≡ None =
    no_mistake_in c.args.session.now c.args.report.now c.in-Ok.session c.in-Ok-Some.field-0 (g.P.Patterns.refused c.judge_session.new.patterns ≡ g.P.Patterns.refused c.args.patterns.now) c.in-Ok.ensures.gives c.in-Ok-Some.ensures.found legal
    same in
    absurd (none-some c.in-Ok-Some.mistake (sym none ∙ c.in-Ok-Some.field-0-is))

pub returns-in-Ok-None-clause-found : goal.returns-in-Ok-None-clause-found
returns-in-Ok-None-clause-found g c = λ legal same. inl refl

pub returns-clause-found : goal.returns-clause-found
returns-clause-found g c = λ legal same. inr refl

pub returns-in-Ok-None-clause-legal : goal.returns-in-Ok-None-clause-legal
returns-in-Ok-None-clause-legal g c = λ same. record {
  session = c.in-Ok.session;
  spells = c.in-Ok.ensures.gives;
  report = c.judge_session.ensures.legal (c.in-Ok-None.is ∙ ap (λ (m : Option Mistake). Ok m) c.in-Ok-None.field-0-is);
}

pub returns-in-Ok-None-clause-session : goal.returns-in-Ok-None-clause-session
returns-in-Ok-None-clause-session g c = λ line cause same. absurd (cc same)

pub returns-in-Ok-None-clause-refused : goal.returns-in-Ok-None-clause-refused
returns-in-Ok-None-clause-refused g c = λ line cause refusal. absurd (err-ok refusal c.in-Ok.ensures.gives)

pub returns-in-Ok-Some-clause-legal : goal.returns-in-Ok-Some-clause-legal
returns-in-Ok-Some-clause-legal g c = λ same. absurd (cc same)

pub returns-in-Ok-Some-clause-session : goal.returns-in-Ok-Some-clause-session
returns-in-Ok-Some-clause-session g c = λ line cause same. absurd (cc same)

pub returns-in-Ok-Some-clause-refused : goal.returns-in-Ok-Some-clause-refused
returns-in-Ok-Some-clause-refused g c = λ line cause refusal. absurd (err-ok refusal c.in-Ok.ensures.gives)

pub returns-clause-legal : goal.returns-clause-legal
returns-clause-legal g c = λ same. absurd (cc same)

pub returns-clause-session : goal.returns-clause-session
returns-clause-session g c = λ line cause same. absurd (cc same)

pub returns-clause-refused : goal.returns-clause-refused
returns-clause-refused g c = λ line cause refusal. inr refl

pub returns-in-Err-clause-above : goal.returns-in-Err-clause-above
returns-in-Err-clause-above g c = λ mistake same. absurd (no_mistake_of c.in-Err.fault mistake (sym c.refusal_of.ensures ∙ same))

pub returns-in-Ok-None-clause-above : goal.returns-in-Ok-None-clause-above
returns-in-Ok-None-clause-above g c = λ mistake same. absurd (cc same)

pub returns-in-Ok-Some-clause-above : goal.returns-in-Ok-Some-clause-above
returns-in-Ok-Some-clause-above g c = λ mistake same.
    lines_above c.args.session.now c.args.report.now c.in-Ok.session c.in-Ok-Some.field-0 c.in-Ok-Some.mistake mistake c.in-Ok.ensures.gives c.in-Ok-Some.field-0-is same c.in-Ok-Some.ensures.above

pub returns-clause-above : goal.returns-clause-above
returns-clause-above g c = λ mistake same. absurd (cc same)

pub returns-in-Err-clause-wrong : goal.returns-in-Err-clause-wrong
returns-in-Err-clause-wrong g c = λ mistake same told goes. no_mistake_of c.in-Err.fault mistake (sym c.refusal_of.ensures ∙ same)

pub returns-in-Ok-None-clause-wrong : goal.returns-in-Ok-None-clause-wrong
returns-in-Ok-None-clause-wrong g c = λ mistake same told goes. absurd (cc same)

pub returns-in-Ok-Some-clause-wrong : goal.returns-in-Ok-Some-clause-wrong
returns-in-Ok-Some-clause-wrong g c = λ mistake same told goes.
    none_goes_on c.args.session.now c.args.report.now c.in-Ok.session c.in-Ok-Some.field-0 c.in-Ok-Some.mistake mistake c.in-Ok.ensures.gives c.in-Ok-Some.field-0-is same (c.in-Ok-Some.ensures.wrong told) goes

pub returns-clause-wrong : goal.returns-clause-wrong
returns-clause-wrong g c = λ mistake same told goes. absurd (cc same)

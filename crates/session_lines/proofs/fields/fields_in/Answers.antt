use Rattle.std.proofs.Common.{◌≡◌, ◌<◌, length, ap, subst, arith}
use Rattle.std.proofs.lemmas.Bool.Decides.{nat_tests}
use Rattle.std.proofs.lemmas.Result.{err_from_is_err_and}
use Rattle.std.specs.Option.{ok_or}
use Rattle.session_lines.specs.SessionViews.{words_in}
use Rattle.session_lines.specs.declared.cause.Cause.TheVariants as cause
use Rattle.session_lines.proofs.FieldLemmas.{AreUnderWay, goes_on, too_many, fails, at_end, is_some}
use Rattle.session_lines.proofs.fields.fields_in.Goals as goal

pub returns-then-len-eq-MOST : goal.returns-then-len-eq-MOST
returns-then-len-eq-MOST c =
    let t = c.if-len-eq-MOST.true in
    let n = c.len.ensures in
    let full : length c.loop-word.fields ≡ 64 = grind (arith, nat_tests) in
    ap (λ o. ok_or o cause.Field)
    (too_many (words_in c.args.words) (words_in c.in-Some.after) c.in-Some.word.now c.loop-word.fields
    (subst (λ rest. AreUnderWay (words_in c.args.words) rest c.loop-word.fields) c.in-Some.ensures c.loop-word.invariant) full)

pub returns-in_err-field_in : goal.returns-in_err-field_in
returns-in_err-field_in c =
    let p = err_from_is_err_and c.from_residual.result c.from_residual.ensures.1 in
    rw (p.1, p.2)
    (fails _ (words_in c.args.words) (words_in c.in-Some.after) c.in-Some.word.now c.loop-word.fields
    (subst (λ rest. AreUnderWay (words_in c.args.words) rest c.loop-word.fields) c.in-Some.ensures c.loop-word.invariant) c.in_err-field_in.ensures)

pub loop-word-preserved : goal.loop-word-preserved
loop-word-preserved c =
    let t = c.if-len-eq-MOST.false in
    let n = c.len.ensures in
    let few = c.loop-word.invariant.few in
    let more : length c.loop-word.fields < 64 = grind (arith, nat_tests) in
    rw c.in_ok-push.ensures.ok
    (goes_on (words_in c.args.words) (words_in c.in-Some.after) c.in-Some.word.now c.in_ok-field_in.field-0 c.loop-word.fields
    (subst (λ rest. AreUnderWay (words_in c.args.words) rest c.loop-word.fields) c.in-Some.ensures c.loop-word.invariant) more (is_some _ _ c.in_ok-field_in.ensures))

pub returns : goal.returns
returns c =
    ap (λ o. ok_or o cause.Field)
    (at_end (words_in c.args.words) c.loop-word.fields
    (subst (λ rest. AreUnderWay (words_in c.args.words) rest c.loop-word.fields) c.in_default.ensures c.loop-word.invariant))

use Rattle.std.proofs.Common.{rules, ◌≡◌, ◌++◌, ℕ, List, Option, true, false, sym, ap, ◌∙◌, append-nil, subst}
use Rattle.check_steps.specs.Sets.{has}
use Rattle.resource_check.specs.Answers.{new_text}
use Rattle.listed_check.specs.ListedTexts.{HasThese}
use Rattle.listed_check.proofs.TextLemmas.{added_by, gained, has_more}
use Rattle.listed_check.proofs.stop_texts.add_once.Goals as goal

pub returns-in_ok-push-clause-texts : goal.returns-in_ok-push-clause-texts
returns-in_ok-push-clause-texts c =
    let new : has c.args.seen.now c.in-Some.text ≡ false = search rules in
    c.in_ok-push.ensures.ok
    ∙ (ap (λ (ts : List (List ℕ)). c.args.texts.now ++ ts) (sym (added_by false c.args.texts.now c.args.seen.now c.in-Some.text c.requires new))
    ∙ ap (λ (t : Option (List ℕ)). c.args.texts.now ++ new_text c.args.texts.now t) (sym c.in-Some.is))

pub returns-in_ok-push-clause-seen : goal.returns-in_ok-push-clause-seen
returns-in_ok-push-clause-seen c =
    subst (λ (ts : List (List ℕ)). HasThese c.insert.new.self ts) (sym c.in_ok-push.ensures.ok)
    (has_more c.args.texts.now c.in-Some.text c.args.seen.now c.insert.new.self c.requires
    (λ other. gained c.in-Some.text c.in_ok-clone.field-0 other c.args.seen.now c.insert.new.self c.in_ok-clone.ensures.cases (c.in_ok-insert.ensures.updates.0 other)))

pub returns-else-branch-clause-texts : goal.returns-else-branch-clause-texts
returns-else-branch-clause-texts c =
    let came : has c.args.seen.now c.in-Some.text ≡ true = search rules in
    sym
    (ap (λ (t : Option (List ℕ)). c.args.texts.now ++ new_text c.args.texts.now t) c.in-Some.is
    ∙ (ap (λ (ts : List (List ℕ)). c.args.texts.now ++ ts) (added_by true c.args.texts.now c.args.seen.now c.in-Some.text c.requires came) ∙ append-nil c.args.texts.now))

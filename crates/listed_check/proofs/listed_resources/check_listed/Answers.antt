use Rattle.std.proofs.Common.{◌≡◌, ◌≢◌, length}
use Rattle.listed_check.specs.ListedAnswers.{refuses}
use Rattle.listed_check.proofs.ListedLemmas.{agrees_listed, all_the_same, gets_longer, nothing_gained}
use Rattle.listed_check.proofs.listed_resources.check_listed.Goals as goal

pub returns-then-refused-before-clause-unbuilt : goal.returns-then-refused-before-clause-unbuilt
returns-then-refused-before-clause-unbuilt g c =
    let grows : length c.check_or_halt.new.asked.refused ≢ length c.args.asked.now.refused = rw (c.refused.ensures, c.refused-before.ensures) at c.if-refused-before.true in
    gets_longer _ _ c.args.asked.now.refused c.check_or_halt.new.asked.refused _ (c.in_ok-stopped.ensures.told _ _ _ c.check_or_halt.ensures.told) c.check_or_halt.ensures.gains grows

pub returns-clause-part : goal.returns-clause-part
returns-clause-part g c = λ listed fits.
    let same : length c.check_or_halt.new.asked.refused ≡ length c.args.asked.now.refused = rw (c.refused.ensures, c.refused-before.ensures) at c.if-refused-before.false in
    let still : c.check_or_halt.new.asked.refused ≡ c.args.asked.now.refused =
    all_the_same c.args.asked.now.refused c.check_or_halt.new.asked.refused _ c.check_or_halt.ensures.gains (nothing_gained c.args.asked.now.refused c.check_or_halt.new.asked.refused _ c.check_or_halt.ensures.gains same) in
    c.in_ok-stopped.ensures.part _ (c.check_or_halt.ensures.later (refuses listed) (agrees_listed c.args.asked.now c.check_or_halt.new.asked listed still fits c.agree.ensures))

pub returns-clause-text : goal.returns-clause-text
returns-clause-text g c = λ listed fits.
    let same : length c.check_or_halt.new.asked.refused ≡ length c.args.asked.now.refused = rw (c.refused.ensures, c.refused-before.ensures) at c.if-refused-before.false in
    let still : c.check_or_halt.new.asked.refused ≡ c.args.asked.now.refused =
    all_the_same c.args.asked.now.refused c.check_or_halt.new.asked.refused _ c.check_or_halt.ensures.gains (nothing_gained c.args.asked.now.refused c.check_or_halt.new.asked.refused _ c.check_or_halt.ensures.gains same) in
    c.in_ok-stopped.ensures.text _ (c.check_or_halt.ensures.later (refuses listed) (agrees_listed c.args.asked.now c.check_or_halt.new.asked listed still fits c.agree.ensures))

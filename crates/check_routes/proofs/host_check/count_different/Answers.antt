use Rattle.std.proofs.Common.{◌≡◌, get_or}
use Rattle.check_steps.specs.Sets.{has}
use Rattle.check_routes.proofs.HostLemmas.{counted_more, few_more, seen_more}
use Rattle.check_routes.proofs.host_check.count_different.Goals as goal

pub loop-name-preserved : goal.loop-name-preserved
loop-name-preserved c =
    let inv = c.loop-name.invariant in
    let is : c.in_ok-clone.field-0 ≡ get_or c.args.names.now c.loop-name.name-index c.in_ok-clone.field-0 = rw c.in_ok-clone.ensures.cases c.name-item.is in
    record {
      seen = λ other. seen_more c.args.names.now c.loop-name.name-index c.in_ok-clone.field-0 other c.loop-name.seen c.see.new.seen c.loop-name-test.true is c.in_ok-count.ensures.seen (inv.seen other);
      count = counted_more c.args.names.now c.loop-name.name-index c.in_ok-clone.field-0 c.loop-name.count c.in_ok-count.field-0 (has c.loop-name.seen c.in_ok-clone.field-0) c.loop-name-test.true is inv.count (inv.seen c.in_ok-clone.field-0) c.in_ok-count.ensures.count;
      few = few_more (has c.loop-name.seen c.in_ok-clone.field-0) c.loop-name.count c.in_ok-count.field-0 c.loop-name.name-index inv.few c.in_ok-count.ensures.count;
    }

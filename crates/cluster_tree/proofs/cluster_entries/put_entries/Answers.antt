use Rattle.std.proofs.lemmas.List.{get_or_default}
use Rattle.cluster_tree.proofs.EntryLemmas.{puts_begin, puts_end, puts_on}
use Rattle.cluster_tree.proofs.cluster_entries.put_entries.Goals as goal

pub loop-place-init : goal.loop-place-init
loop-place-init c = puts_begin c.args.entries.now c.places-places.result.now c.args.stand.now c.requires.none

pub loop-place-preserved : goal.loop-place-preserved
loop-place-preserved c =
    puts_on c.args.entries.now c.places-places.result.now c.loop-place.place-index _ c.args.stand.now c.loop-place.stand c.take.new.self c.loop-place-test.true
    (get_or_default c.places-places.result.now c.loop-place.place-index 0 _ c.loop-place-test.true) c.places-places.ensures.rising c.loop-place.invariant c.in_ok-take.ensures

pub returns-clause-put : goal.returns-clause-put
returns-clause-put c =
    puts_end c.args.entries.now c.args.others.now c.places-places.result.now c.loop-place.place-index c.args.stand.now c.loop-place.stand c.places-places.ensures.marked c.loop-place-test.false c.requires.others
    c.requires.names c.loop-place.invariant

use Rattle.std.proofs.Common.{◌≡◌, rules, length, cond, Some, ap, ◌∙◌}
use Rattle.book_picks.specs.CountedPlaces.{index_of, is_place}
use Rattle.book_picks.proofs.CountedLemmas.{extends}
use Rattle.book_picks.proofs.place_counts.PlaceCounts.add.Goals as goal

pub returns-clause-extends : goal.returns-clause-extends
returns-clause-extends c =
    let at_end : c.len-index.result ≡ length c.args.self.now.counts.items = search rules in
    extends c.args.self.now (record { places = c.insert.new.self; counts = c.push.new.self }) c.args.place (record {
      absent = c.requires;
      counts = c.in_ok-push.ensures.items;
      indexes = λ other. c.in_ok-insert.ensures.updates.0 other ∙ ap (λ n. cond (is_place c.args.place other) (Some n) (index_of c.args.self.now other)) at_end;
    })

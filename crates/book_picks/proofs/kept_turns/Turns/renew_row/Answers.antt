use Rattle.std.proofs.Common.{◌≡◌, rules, map, ap, ◌∙◌, Bor}
use Rattle.std.specs.Prelude.{option_copied}
use Rattle.xds_config.specs.declared.endpoint_values.Locality.{Locality}
use Rattle.book_picks.specs.declared.cluster_rows.Row.{Row}
use Rattle.cluster_tree.specs.ViewChanges.{localities_at}
use Rattle.book_picks.specs.RenewedRows.{child_seen}
use Rattle.book_picks.proofs.RenewedLemmas.{indexes_given, others_stay, row_put}
use Rattle.book_picks.proofs.kept_turns.Turns.renew_row.Goals as goal

pub returns-clause-row : goal.returns-clause-row
returns-clause-row c less =
    let row : Row = record { indexes = c.in_ok-indexes.indexes } in record {
      row = row;
      found = row_put c.args.self.now.rows.items c.put_row.new.rows.items c.args.place row c.put_row.ensures less;
      indexes_are = indexes_given c.indexes_of.new.counts c.in_ok-indexes.indexes c.args.cluster.now (option_copied c.chosen_child-child.result) (child_seen c.args.seen.now)
          (map (λ (r : Bor Locality). r.now) c.deref.result.now) (localities_at c.args.trees.now c.args.place) c.in_ok-indexes.ensures.indexes c.chosen_child-child.ensures
          (ap (map (λ (r : Bor Locality). r.now)) c.deref.ensures.value ∙ c.in_ok-localities.ensures);
    }

pub returns-clause-others : goal.returns-clause-others
returns-clause-others c =
    let row : Row = record { indexes = c.in_ok-indexes.indexes } in
    others_stay c.args.self.now.rows.items c.put_row.new.rows.items c.args.place row c.put_row.ensures

use Rattle.std.proofs.Common.{◌<◌, ◌+◌, ◌∙◌, length, ap, sym, refl, arith}
use Rattle.std.specs.List.{list_any}
use Rattle.std.proofs.lemmas.Bool.Decides.{leb_tells}
use Rattle.dep_manager.specs.EndpointNews.{is_told}
use Rattle.dep_manager.specs.RenewedConfigs.{renewed_entry}
use Rattle.dep_manager.proofs.PairLemmas.{paired_all, paired_next}
use Rattle.dep_manager.proofs.ToldLemmas.{first_tested, told_begin, told_next}
use Rattle.dep_manager.proofs.block_renewal.renewed_entries.Goals as goal

pub loop-at-init : goal.loop-at-init
loop-at-init c = record {
  entries = c.from_vec-list.ensures ∙ c.in_ok-with_capacity.ensures.items;
  told = told_begin c.args.news.now c.args.places.now c.args.first c.args.sources.now c.requires.told;
  same = refl;
}

pub renewed_entry-requires : goal.renewed_entry-requires
renewed_entry-requires c =
    let few : c.loop-at.at < length c.args.sources.now = omega (arith, c.loop-at-test.true, c.min-at-end.ensures) in
    first_tested c.args.news.now c.loop-at.left.now c.loop-at.at (c.args.first + c.loop-at.at) (c.args.first + c.loop-at.at + 1) c.count_before-ahead.result c.args.sources.now c.index-sources-at.result _ (omega arith)
    c.loop-at.invariant.told c.count_before-ahead.ensures few c.index-sources-at.is (leb_tells 1 c.count_before-ahead.result)
    ∙ ap (list_any (is_told c.args.news.now)) (sym c.as_slice-keys.ensures)
    ∙ ap (λ told. list_any (is_told told) c.as_slice-keys.result.now) (sym c.loop-at.invariant.same)

pub loop-at-preserved : goal.loop-at-preserved
loop-at-preserved c = record {
  entries = paired_next (renewed_entry c.args.news.now) c.loop-at.list c.push.new.self c.args.entries.now c.args.sources.now c.loop-at.at c.index-entries-at.result c.index-sources-at.result c.in_ok-renewed_entry.field-0
      (omega (arith, c.loop-at-test.true, c.min-at-end.ensures)) (omega (arith, c.loop-at-test.true, c.min-at-end.ensures)) c.index-entries-at.is c.index-sources-at.is
      (c.in_ok-renewed_entry.ensures.entry ∙ ap (λ told. renewed_entry told c.index-entries-at.result c.as_slice-keys.result.now) c.loop-at.invariant.same ∙ ap (renewed_entry c.args.news.now c.index-entries-at.result) c.as_slice-keys.ensures) c.in_ok-push.ensures.ok c.loop-at.invariant.entries;
  told = told_next c.args.news.now c.loop-at.left.now c.behind-left.result.now (c.args.first + c.loop-at.at) c.loop-at.at 1 (c.args.first + (c.loop-at.at + 1)) (c.args.first + c.loop-at.at + 1) (c.loop-at.at + 1) c.count_before-ahead.result c.args.sources.now
      c.behind-left.ensures (omega arith) (omega arith) refl c.loop-at.invariant.told c.count_before-ahead.ensures;
  same = c.in_ok-renewed_entry.ensures.same ∙ c.loop-at.invariant.same;
}

pub returns-clause-list : goal.returns-clause-list
returns-clause-list c = c.loop-at.invariant.entries ∙ paired_all (renewed_entry c.args.news.now) c.args.entries.now c.args.sources.now c.loop-at.at (omega (arith, c.loop-at-test.false, c.min-at-end.ensures))

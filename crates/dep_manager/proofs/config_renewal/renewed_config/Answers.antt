use Rattle.std.proofs.Common.{◌≡◌, false, length, rules, sym, ap, ◌∙◌}
use Rattle.std.specs.Prelude.{not}
use Rattle.std.specs.List.{list_any}
use Rattle.std.proofs.lemmas.List.{length-map}
use Rattle.dep_manager.specs.EndpointNews.{is_told}
use Rattle.dep_manager.specs.RenewedConfigs.{joined_marks, renewed_entries}
use Rattle.dep_manager.proofs.ShownLemmas.{config_changes, config_stays, marked_any, marks_change, marks_stay, none_if, nothing_told, some_if}
use Rattle.dep_manager.proofs.config_renewal.renewed_config.Goals as goal

pub returns-then-is_empty-clause-config : goal.returns-then-is_empty-clause-config
returns-then-is_empty-clause-config c =
    let none : list_any (list_any (is_told c.args.news.now)) c.args.sources.now ≡ false =
    ap (λ told. list_any (list_any (is_told told)) c.args.sources.now) (c.is_empty.ensures.0 c.if-is_empty.true) ∙ nothing_told c.args.sources.now in
    config_stays c.args.news.now c.args.config c.args.others c.args.sources.now none

pub returns-then-is_empty-clause-others : goal.returns-then-is_empty-clause-others
returns-then-is_empty-clause-others c =
    let none : list_any (list_any (is_told c.args.news.now)) c.args.sources.now ≡ false =
    ap (λ told. list_any (list_any (is_told told)) c.args.sources.now) (c.is_empty.ensures.0 c.if-is_empty.true) ∙ nothing_told c.args.sources.now in
    marks_stay c.args.news.now c.args.config c.args.others c.args.sources.now none

pub returns-then-are_none-clause-config : goal.returns-then-are_none-clause-config
returns-then-are_none-clause-config c = config_stays c.args.news.now c.args.config c.args.others c.args.sources.now (none_if c.are_none.result (list_any (list_any (is_told c.args.news.now)) c.args.sources.now) (c.are_none.ensures ∙ ap not (ap (list_any (λ mark. mark)) (c.in_ok-told.ensures ∙ c.in_ok-gathered.ensures) ∙ marked_any (list_any (is_told c.args.news.now)) c.args.sources.now)) c.if-are_none.true)

pub returns-then-are_none-clause-others : goal.returns-then-are_none-clause-others
returns-then-are_none-clause-others c = marks_stay c.args.news.now c.args.config c.args.others c.args.sources.now (none_if c.are_none.result (list_any (list_any (is_told c.args.news.now)) c.args.sources.now) (c.are_none.ensures ∙ ap not (ap (list_any (λ mark. mark)) (c.in_ok-told.ensures ∙ c.in_ok-gathered.ensures) ∙ marked_any (list_any (is_told c.args.news.now)) c.args.sources.now)) c.if-are_none.true)

pub renewed_clusters-requires : goal.renewed_clusters-requires
renewed_clusters-requires c = c.in_ok-told.ensures ∙ c.in_ok-gathered.ensures

pub joined-requires : goal.joined-requires
joined-requires c = c.len.ensures.count ∙ sym (ap length (c.in_ok-told.ensures ∙ c.in_ok-gathered.ensures) ∙ length-map c.args.sources.now (list_any (is_told c.args.news.now)))

pub returns-clause-config : goal.returns-clause-config
returns-clause-config c =
    let front : c.in_ok-front.front ≡ c.args.config.front = c.in_ok-front.ensures ∙ ap (λ config. config.front) c.get.ensures in
    let clusters : c.in_ok-clusters.clusters ≡ renewed_entries c.args.news.now c.args.config.clusters c.args.sources.now =
    c.in_ok-clusters.ensures ∙ ap (λ config. renewed_entries c.args.news.now config.clusters c.args.sources.now) c.get-2.ensures in
    let with : c.in_ok-config.config ≡ record { front = c.in_ok-front.front; clusters = c.in_ok-clusters.clusters } = search rules in
    with
    ∙ ap (λ found. record { front = found; clusters = c.in_ok-clusters.clusters }) front
    ∙ ap (λ entries. record { front = c.args.config.front; clusters = entries }) clusters
    ∙ config_changes c.args.news.now c.args.config c.args.others c.args.sources.now (some_if c.are_none.result (list_any (list_any (is_told c.args.news.now)) c.args.sources.now) (c.are_none.ensures ∙ ap not (ap (list_any (λ mark. mark)) (c.in_ok-told.ensures ∙ c.in_ok-gathered.ensures) ∙ marked_any (list_any (is_told c.args.news.now)) c.args.sources.now)) c.if-are_none.false)

pub returns-clause-others : goal.returns-clause-others
returns-clause-others c =
    c.in_ok-others.ensures ∙ ap (joined_marks c.args.others) (c.in_ok-told.ensures ∙ c.in_ok-gathered.ensures)
    ∙ marks_change c.args.news.now c.args.config c.args.others c.args.sources.now (some_if c.are_none.result (list_any (list_any (is_told c.args.news.now)) c.args.sources.now) (c.are_none.ensures ∙ ap not (ap (list_any (λ mark. mark)) (c.in_ok-told.ensures ∙ c.in_ok-gathered.ensures) ∙ marked_any (list_any (is_told c.args.news.now)) c.args.sources.now)) c.if-are_none.false)

use Rattle.std.proofs.Common.{◌≡◌, ◌<◌, ◌∙◌, List, ap, sym, subst, rules}
use Rattle.std.specs.Prelude.{Contains, ◌↔◌}
use Rattle.std.specs.List.Sorted.{IsStrictlySortedBy}
use Rattle.std.specs.Map.{keys_of}
use Rattle.std.specs.Result.{IfOk}
use Rattle.std.proofs.lemmas.Result.{IfOk-weaker}
use Rattle.cluster_refs.specs.ReferredNames.{Name, AllCounted, count_of, name_cmp}
use Rattle.cluster_refs.proofs.NameLemmas.{counted_names}
use Rattle.cluster_refs.proofs.counts.Counts.names.Goals as goal

-- they are the keys of the counts
listed : (c : goal.After-drop-names) → IfOk c.copies.result (λ (names : List Name). names ≡ keys_of c.args.self.now)
listed c = search rules

pub returns-clause-members : goal.returns-clause-members
returns-clause-members c =
    let all : AllCounted c.args.self.now = rw (← c.self.view_is) c.self.invariant in
    IfOk-weaker c.copies.result (λ (names : List Name). names ≡ keys_of c.args.self.now) (λ names. (name : Name) → Contains names name ↔ (0 < count_of c.args.self.now name)) (λ names is. counted_names c.args.self.now names all is) (listed c)

pub returns-clause-rising : goal.returns-clause-rising
returns-clause-rising c =
    IfOk-weaker c.copies.result (λ (names : List Name). names ≡ keys_of c.args.self.now) (IsStrictlySortedBy name_cmp)
    (λ names is. subst (IsStrictlySortedBy name_cmp) (ap keys_of c.self.view_is ∙ sym is) c.keys.ensures.ordered) (listed c)

-- The leaves by the places that lead to them.
use Rattle.std.proofs.Common.{◌≡◌, inl, inr, ℕ, List, [], true, false, sym, ◌∙◌, ap, subst, arith, length}
use Rattle.std.specs.Prelude.{Contains}
use Rattle.std.specs.Str.{bytes_eq}
use Rattle.std.proofs.lemmas.Bool.{true≢false, cases_lt}
use Rattle.std.proofs.lemmas.List.Folds.{Any-from_list_any}
use Rattle.std.proofs.lemmas.Slice.Eq.{bytes_eq-Decides}
use Rattle.aggregate_expand.specs.LookedUp.{Name, has_name, with_names}
use Rattle.aggregate_expand.specs.Chains.{Table, LeadsTo, AreLeaves}
use Rattle.aggregate_expand.specs.Leaves.{goes_on, ends}
use Rattle.aggregate_expand.proofs.PlaceLemmas.{In, Placed, placed, names, leads, listed, ascends}
use Rattle.aggregate_expand.proofs.RankLemmas.{AreRanked, AreAllRanked, rank, has_at}
use Rattle.aggregate_expand.proofs.ChainLemmas.{goes_along}

-- each way to a leaf is listed
pub listed_there : (table : Table) (n : ℕ) (cluster : Name) → goes_on table n cluster ≡ false → (e : Placed) → LeadsTo table cluster e.0 e.1 → In e (placed table n cluster)
listed_there table n cluster short e m = elim (cases_lt (length e.0) n) [ inl lt ↦ listed table n cluster e.0 e.1 lt m | inr le ↦ absurd (true≢false (sym (goes_along table n e.0 cluster e.1 le m.0) ∙ short)) ]

pub ranked : (table : Table) (n : ℕ) (cluster : Name) → goes_on table n cluster ≡ false → AreAllRanked (λ e. LeadsTo table cluster e.0 e.1) (with_names [] (ends table n cluster))
ranked table n cluster short =
    subst (λ es. AreAllRanked M (with_names [] es)) (names table n cluster) (rank M (placed table n cluster) [] [] (λ e m. inr (listed_there table n cluster short e m)) (λ e m. absurd m) (leads table n cluster) (λ e f m w. absurd m) (ascends table n cluster) empty)
  where
    M : Placed → Type 0
    M e = LeadsTo table cluster e.0 e.1

    empty : AreRanked M [] []
    empty = record {
      cover = λ e m. absurd m;
      source = λ x h. absurd (true≢false (sym h));
      once = λ i j d lt within. absurd (omega arith);
      pairs = λ i j d lt within. absurd (omega arith);
    }

pub contained : (xs : List Name) (x : Name) → has_name xs x ≡ true → Contains xs x
contained xs x h =
    let (k, y, lt, at, e) = Any-from_list_any (bytes_eq x) xs h in
    subst (Contains xs) (sym ((bytes_eq-Decides x y).0 e)) (k, lt, at)

pub container : (xs : List Name) (x : Name) → Contains xs x → has_name xs x ≡ true
container xs x (k, lt, at) = subst (λ y. has_name xs y ≡ true) at (has_at xs k x lt)

pub by_paths : (table : Table) (n : ℕ) (cluster : Name) → goes_on table n cluster ≡ false → AreLeaves table cluster (with_names [] (ends table n cluster))
by_paths table n cluster short =
    let r = ranked table n cluster short in
    record {
      led = λ x m. r.source x (container _ x m);
      all = λ x path l. contained _ x (r.cover (path, x) l);
      once = r.once;
      ordered = r.pairs;
    }

pub leaves_by_paths : (table : Table) (n : ℕ) (cluster : Name) (ys xs zs : List Name) → goes_on table n cluster ≡ false → ys ≡ [] → xs ≡ with_names ys (ends table n cluster) → zs ≡ xs → AreLeaves table cluster zs
leaves_by_paths table n cluster ys xs zs short empty is same =
    subst (AreLeaves table cluster) (ap (λ l. with_names l (ends table n cluster)) (sym empty) ∙ sym is ∙ sym same) (by_paths table n cluster short)

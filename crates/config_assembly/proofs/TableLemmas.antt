-- Tables of aggregates.
use Rattle.std.proofs.Common.{◌≡◌, ℕ, ◌+◌, ◌<◌, refl, sym, ap, ◌∙◌, subst, List, [], ◌∷◌, ◌++◌, length, get_or, take, Bool, true, false, ◌||◌, Option, Some, None}
use Rattle.std.specs.Prelude.{IfSome, if◌then◌else◌, option_and_then}
use Rattle.std.specs.Ordering.{is_eq}
use Rattle.std.specs.Str.{bytes_eq}
use Rattle.std.specs.Cmp.Lexicographic.{nat_list_eq_equiv}
use Rattle.std.proofs.lemmas.List.{take_more}
use Rattle.std.proofs.lemmas.List.Folds.{list_any-append}
use Rattle.std.proofs.lemmas.Map.Text.{is_eq-slice_cmp}
use Rattle.std.proofs.lemmas.Slice.Eq.{bytes_eq-Decides}
use Rattle.xc_base.specs.declared.names.Kind.{Kind}
use Rattle.xds_config.specs.declared.value.Value.{Value}
use Rattle.xds_config.specs.declared.cluster_values.ClusterValue.{ClusterValue}
use Rattle.xds_config.specs.Clusters.{IsLawfulCluster}
use Rattle.aggregate_expand.specs.LookedUp.{has_name}
use Rattle.aggregate_expand.specs.Chains.{Table}
use Rattle.aggregate_expand.proofs.NameLemmas.{has_last}
use Rattle.xds_cache.specs.declared.fate.Known.{Known}
use Rattle.config_assembly.specs.Orders.{Name, name_cmp}
use Rattle.config_assembly.specs.ReachedResources.{IsLawfulOf}
use Rattle.config_assembly.specs.Reach.{children_in, children_of}
use Rattle.config_assembly.specs.Tables.{AreLawfulRows, Holds, Rows, cluster_of, row_at, value_at, with_row}

-- ---- one row more

has_push : (xs : List Name) (y x : Name) → bytes_eq x y ≡ false → has_name (xs ++ y ∷ []) x ≡ has_name xs x
has_push xs y x e = list_any-append (bytes_eq x) xs (y ∷ []) ∙ ap (λ b. has_name xs x || (b || false)) e ∙ or_none (has_name xs x)
  where
    or_none : (b : Bool) → (b || false) ≡ b
    or_none true = refl
    or_none false = refl

row_cases : (t : Table) (xs : List Name) (y x : Name) (b : Bool) (new old : Option (List Name)) → bytes_eq x y ≡ b → (b ≡ true → new ≡ t y) → (b ≡ false → new ≡ old) → old ≡ (if has_name xs x then t x else None) → new ≡ (if has_name (xs ++ y ∷ []) x then t x else None)
row_cases t xs y x true new old e here there before =
    let same : x ≡ y = (bytes_eq-Decides x y).0 e in
    here refl ∙ ap t (sym same) ∙ ap (λ b. if b then t x else None) (sym (subst (λ z. has_name (xs ++ y ∷ []) z ≡ true) (sym same) (has_last xs y)))
row_cases t xs y x false new old e here there before =
    there refl ∙ before ∙ ap (λ b. if b then t x else None) (sym (has_push xs y x e))

is_name : (x y : Name) (b : Bool) → bytes_eq x y ≡ b → is_eq (name_cmp y x) ≡ b
is_name x y b e = is_eq-slice_cmp y x ∙ nat_list_eq_equiv.symm y x ∙ e

abbrev children_at : Option ClusterValue → Option (List Name)
children_at found = option_and_then (λ cluster. children_in cluster.shape) found

children_are : (known : Known) → children_of known ≡ children_at (cluster_of known)
children_are Known.Wanted = refl
children_are (Known.Value (Value.Listener v)) = refl
children_are (Known.Value (Value.Route v)) = refl
children_are (Known.Value (Value.Cluster v)) = refl
children_are (Known.Value (Value.Endpoint v)) = refl
children_are (Known.Invalid reason) = refl
children_are Known.Absent = refl

-- where there is no cluster, the row of the name is none before and after
none_held : (t : Table) (xs : List Name) (y x : Name) (b c : Bool) (old : Option (List Name)) → has_name xs x ≡ c → bytes_eq x y ≡ b → b ≡ true → t y ≡ None → old ≡ (if c then t x else None) → old ≡ t y
none_held t xs y x b true old h e is leaf before = before ∙ ap t ((bytes_eq-Decides x y).0 (e ∙ is))
none_held t xs y x b false old h e is leaf before = before ∙ sym leaf

held_more : (t : Table) (xs : List Name) (y : Name) (found : Option ClusterValue) (old new : Rows) → t y ≡ children_at found → ((q : Name) → value_at new q ≡ with_row (value_at old) y found q) → Holds t xs (row_at old) → Holds t (xs ++ y ∷ []) (row_at new)
held_more t xs y None old new is put held x =
    ap children_at (put x)
    ∙ row_cases t xs y x (bytes_eq x y) (row_at old x) (row_at old x) refl (λ e. none_held t xs y x (bytes_eq x y) (has_name xs x) (row_at old x) refl refl e is (held x)) (λ e. refl) (held x)
held_more t xs y (Some cluster) old new is put held x =
    row_cases t xs y x (bytes_eq x y) (row_at new x) (row_at old x) refl
    (λ e. ap children_at (put x) ∙ ap (λ b. children_at (if b then Some cluster else value_at old x)) (is_name x y true e) ∙ sym is)
    (λ e. ap children_at (put x) ∙ ap (λ b. children_at (if b then Some cluster else value_at old x)) (is_name x y false e))
    (held x)

pub holds_more : (t : Table) (xs : List Name) (i : ℕ) (y : Name) (known : Known) (old new : Rows) → i < length xs → y ≡ get_or xs i y → t y ≡ children_of known
    → ((q : Name) → value_at new q ≡ with_row (value_at old) y (cluster_of known) q) → Holds t (take i xs) (row_at old) → Holds t (take (i + 1) xs) (row_at new)
holds_more t xs i y known old new lt is same put held =
    subst (λ l. Holds t l (row_at new)) (sym (take_more xs i y lt ∙ ap (λ z. take i xs ++ z ∷ []) (sym is)))
    (held_more t (take i xs) y (cluster_of known) old new (same ∙ children_are known) put held)

-- ---- lawful rows

lawful_if : (b : Bool) (cluster : ClusterValue) (old : Option ClusterValue) → IsLawfulCluster cluster → IfSome old IsLawfulCluster → IfSome (if b then Some cluster else old) IsLawfulCluster
lawful_if true cluster old new held = new
lawful_if false cluster old new held = held

pub lawful_more : (old new : Rows) (name : Name) (cluster : ClusterValue) → AreLawfulRows old → IsLawfulCluster cluster → ((q : Name) → value_at new q ≡ (if is_eq (name_cmp name q) then Some cluster else value_at old q)) → AreLawfulRows new
lawful_more old new name cluster held lawful put q = subst (λ o. IfSome o IsLawfulCluster) (sym (put q)) (lawful_if (is_eq (name_cmp name q)) cluster (value_at old q) lawful (held q))

pub no_rows : AreLawfulRows []
no_rows name = tt

pub lawful_cluster : (known : Known) (cluster : ClusterValue) → known ≡ Known.Value (Value.Cluster cluster) → IsLawfulOf Kind.Cluster known → IsLawfulCluster cluster
lawful_cluster known cluster is lawful = (subst (IsLawfulOf Kind.Cluster) is lawful).0

pub row_put : (inside old new : Rows) (copy name : Name) (known : Known) (cluster : ClusterValue) → known ≡ Known.Value (Value.Cluster cluster) → copy ≡ name → inside ≡ old
    → ((q : Name) → value_at new q ≡ (if is_eq (name_cmp copy q) then Some cluster else value_at inside q)) → (q : Name) → value_at new q ≡ with_row (value_at old) name (cluster_of known) q
row_put inside old new copy name known cluster is same view put q =
    put q ∙ ap (λ rows. if is_eq (name_cmp copy q) then Some cluster else value_at rows q) view ∙ ap (λ n. if is_eq (name_cmp n q) then Some cluster else value_at old q) same
    ∙ ap (λ k. with_row (value_at old) name (cluster_of k) q) (sym is)

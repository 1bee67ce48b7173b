-- What is reached.
use Rattle.std.proofs.Common.{◌≡◌, inl, inr, ℕ, zero, suc, ◌<◌, refl, sym, ap, ◌∙◌, subst, arith, List, [], ◌∷◌, ◌++◌, length, get_or, map, Bool, true, false, Option, Some, None}
use Rattle.std.specs.Prelude.{All, Result, IsNone, IsSome, if◌then◌else◌, is_some, slice_get, option_and_then, option_map, option_to_list, unwrap_or}
use Rattle.std.specs.List.{flat_map}
use Rattle.std.specs.Str.{bytes_eq}
use Rattle.std.proofs.lemmas.Bool.{or_left, or_right, or_cases, true≢false}
use Rattle.std.proofs.lemmas.List.Folds.{list_any-append}
use Rattle.std.proofs.lemmas.Map.Lookups.{exact_bytes}
use Rattle.std.proofs.lemmas.Slice.Eq.{bytes_eq-Decides}
use Rattle.xc_base.specs.declared.names.Kind.{Kind}
use Rattle.xc_base.specs.declared.names.Key.{Key}
use Rattle.xc_keys.specs.Keys.{is_key}
use Rattle.xc_keys.proofs.KeyLemmas.{same_key, key_itself}
use Rattle.aggregate_expand.specs.LookedUp.{has_name}
use Rattle.aggregate_expand.specs.Chains.{Table, child_at, led_to}
use Rattle.aggregate_expand.specs.Leaves.{leaves_of}
use Rattle.aggregate_expand.proofs.NameLemmas.{has_left}
use Rattle.aggregate_expand.proofs.LawLemmas.{leaves_rest_on_chains}
use Rattle.xds_cache.specs.declared.fate.Known.{Known}
use Rattle.xc_base.specs.declared.reason.Reason.{Reason}
use Rattle.xds_config.specs.declared.config.Front.{Front}
use Rattle.xds_config.specs.declared.config.Config.{Config}
use Rattle.config_assembly.specs.Orders.{Name, name_cmp, sorted}
use Rattle.config_assembly.specs.ReachedResources.{Resources}
use Rattle.config_assembly.specs.Front.{IsFrontAwaited, front, named_routes, names_of}
use Rattle.config_assembly.specs.Reach.{children_among, is_wanted, keys_with, missing, on_chains, reach, reached_clusters}
use Rattle.config_assembly.specs.WholeConfigs.{cluster_entry, config_from, config_where, config_with}
use Rattle.config_assembly.specs.Tables.{Holds}
use Rattle.config_assembly.specs.Watching.{has_key}
use Rattle.config_assembly.proofs.OrderLemmas.{any_sorted}
use Rattle.config_assembly.proofs.WatchLemmas.{has_sorted}

-- ---- names

pub has_right : (xs ys : List Name) (x : Name) → has_name ys x ≡ true → has_name (xs ++ ys) x ≡ true
has_right xs ys x h = list_any-append (bytes_eq x) xs ys ∙ or_right _ _ h

pub has_first : (x : Name) (xs : List Name) → has_name (x ∷ xs) x ≡ true
has_first x xs = or_left _ _ ((bytes_eq-Decides x x).1 refl)

pub names_sorted : (names : List Name) (x : Name) → has_name (sorted name_cmp names) x ≡ has_name names x
names_sorted names x = any_sorted name_cmp exact_bytes (bytes_eq x) names

-- a name of one is a name of all
pub flat_names : (of : Name → List Name) (cs : List Name) (c x : Name) → has_name cs c ≡ true → has_name (of c) x ≡ true → has_name (flat_map of cs) x ≡ true
flat_names of [] c x h m = absurd (true≢false (sym h))
flat_names of (r ∷ cs) c x h m =
    elim (or_cases (bytes_eq c r) (has_name cs c) h) [
      | inl w ↦ has_left (of r) (flat_map of cs) x (subst (λ y. has_name (of y) x ≡ true) ((bytes_eq-Decides c r).0 w) m)
      | inr w ↦ has_right (of r) (flat_map of cs) x (flat_names of cs c x w m)
    ]

pub has_at : (xs : List Name) (i : ℕ) (x : Name) → slice_get xs i ≡ Some x → has_name xs x ≡ true
has_at [] i x at = absurd (cc at)
has_at (y ∷ xs) zero x at = let e : y ≡ x = cc at in or_left _ _ ((bytes_eq-Decides x y).1 (sym e))
has_at (y ∷ xs) (suc i) x at = or_right _ _ (has_at xs i x at)

-- ---- chains

child_among : (table : Table) (c : Name) (i : ℕ) (x : Name) (found : Option (List Name)) → table c ≡ found → option_and_then (λ children. slice_get children i) found ≡ Some x → has_name (children_among table c) x ≡ true
child_among table c i x None is at = absurd (cc at)
child_among table c i x (Some children) is at = subst (λ o. has_name (unwrap_or o []) x ≡ true) (sym is) (has_at children i x at)

-- what chains lead to is on chains
led_further : (table : Table) (path : List ℕ) (x : Name) (found : Option Name) → option_and_then (led_to table path) found ≡ Some x → (d : Name) × (found ≡ Some d) × (led_to table path d ≡ Some x)
led_further table path x None led = absurd (cc led)
led_further table path x (Some d) led = (d, refl, led)

pub led_on : (table : Table) (n : ℕ) (names : List Name) (path : List ℕ) (c x : Name) → has_name names c ≡ true → length path < n → led_to table path c ≡ Some x → has_name (on_chains table n names) x ≡ true
led_on table zero names path c x h short led = absurd (omega (arith, short))
led_on table (suc n) names [] c x h short led =
    let e : c ≡ x = cc led in
    has_left names (on_chains table n (sorted name_cmp (flat_map (children_among table) names))) x (subst (λ y. has_name names y ≡ true) e h)
led_on table (suc n) names (i ∷ path) c x h short led =
    let (d, at, further) = led_further table path x (child_at table c i) led in
    let below : List Name = sorted name_cmp (flat_map (children_among table) names) in
    let there : has_name below d ≡ true = names_sorted (flat_map (children_among table) names) d ∙ flat_names (children_among table) names c d h (child_among table c i d (table c) refl at) in
    has_right names (on_chains table n below) x (led_on table n below path d x there (omega (arith, short)) further)

-- ---- leaves by a table

held_at : (table other : Table) (names : List Name) (x : Name) → has_name names x ≡ true → Holds table names other → other x ≡ table x
held_at table other names x h held = held x ∙ ap (λ b. if b then table x else None) h

pub leaves_alike : (table other : Table) (roots : List Name) → Holds table (sorted name_cmp (on_chains table 16 roots)) other → All (λ name. leaves_of other name ≡ leaves_of table name) roots
leaves_alike table other roots held k d lt =
    leaves_rest_on_chains table other (get_or roots k d)
    (λ path x short led. held_at table other (sorted name_cmp (on_chains table 16 roots)) x (names_sorted (on_chains table 16 roots) x ∙ led_on table 16 roots path (get_or roots k d) x (member roots k d lt) short led) held)
  where
    member : (xs : List Name) (k : ℕ) (d : Name) → k < length xs → has_name xs (get_or xs k d) ≡ true
    member [] k d lt = absurd (omega (arith, lt))
    member (x ∷ xs) zero d lt = has_first x xs
    member (x ∷ xs) (suc k) d lt = or_right _ _ (member xs k d (omega (arith, lt)))

-- ---- what is awaited

none_if : (b : Bool) (key : Key) (rest : Option Key) → (if b then Some key else rest) ≡ None → (b ≡ false) × (rest ≡ None)
none_if true key rest is = absurd (cc is)
none_if false key rest is = (refl, is)

none_wanted : (fate : Key → Known) (keys : List Key) (k : Key) → missing fate keys ≡ None → has_key keys k ≡ true → is_wanted (fate k) ≡ false
none_wanted fate [] k is h = absurd (true≢false (sym h))
none_wanted fate (key ∷ keys) k is h =
    let (first, rest) = none_if (is_wanted (fate key)) key (missing fate keys) is in
    elim (or_cases (is_key k key) (has_key keys k) h) [
      | inl w ↦ ap (λ j. is_wanted (fate j)) (same_key k key w) ∙ first
      | inr w ↦ none_wanted fate keys k rest w
    ]

pub has_target : (r : Resources) (references : List Name) → has_key (reach r references) r.target.key ≡ true
has_target r references = has_sorted (keys_with r (reached_clusters r references)) r.target.key ∙ or_left _ _ (key_itself r.target.key)

pub has_route : (r : Resources) (references : List Name) (name : Name) → named_routes (r.fate r.target.key) ≡ Some name → has_key (reach r references) (r.key Kind.Route name) ≡ true
has_route r references name is =
    has_sorted (keys_with r (reached_clusters r references)) (r.key Kind.Route name)
    ∙ or_right _ _ (list_any-append (is_key (r.key Kind.Route name)) (map (r.key Kind.Route) (option_to_list (named_routes (r.fate r.target.key)))) _ ∙ or_left _ _ (subst (λ o. has_key (map (r.key Kind.Route) (option_to_list o)) (r.key Kind.Route name) ≡ true) (sym is) (or_left _ _ (key_itself (r.key Kind.Route name)))))

awaited : (r : Resources) (references : List Name) → IsFrontAwaited r → missing r.fate (reach r references) ≡ None → false ≡ true
awaited r references (inl wanted) none = sym (none_wanted r.fate (reach r references) r.target.key none (has_target r references)) ∙ ap is_wanted wanted
awaited r references (inr (name, named, wanted)) none = sym (none_wanted r.fate (reach r references) (r.key Kind.Route name) none (has_route r references name named)) ∙ ap is_wanted wanted

some_front : {X : Type 0} (r : Resources) (references : List Name) (found : Option X) → (found ≡ None → IsFrontAwaited r) → missing r.fate (reach r references) ≡ None → IsSome found
some_front r references None waits none = absurd (true≢false (sym (awaited r references (waits refl) none)))
some_front r references (Some found) waits none = refl

mapped : {X Y : Type 0} (f : X → Y) (found : Option X) → IsSome found → IsSome (option_map f found)
mapped f None some = some
mapped f (Some x) some = refl

-- there is a configuration exactly where no key is awaited
pub whole_where : (r : Resources) (references : List Name) (least : Option Key) (config : Option Config) → (front r ≡ None → IsFrontAwaited r) → least ≡ missing r.fate (reach r references) → config ≡ config_where least r references → (IsSome config → IsNone least) × (IsNone least → IsSome config)
whole_where r references (Some key) config waits is made = (λ some. absurd (true≢false (sym some ∙ ap is_some made)), λ none. absurd (true≢false none))
whole_where r references None config waits is made = (λ some. refl, λ none. ap is_some made ∙ mapped (config_with r references) (front r) (some_front r references (front r) waits (sym is)))

pub where_from : (r : Resources) (references names : List Name) (least : Option Key) (found : Option (Result Front Reason)) → names ≡ sorted name_cmp (names_of found ++ references) → found ≡ front r → config_from least r names found ≡ config_where least r references
where_from r references names (Some key) found is same = refl
where_from r references names None None is same = ap (option_map (config_with r references)) same
where_from r references names None (Some front) is same =
    ap (λ l. Some (config_of front l)) is ∙ ap (option_map (config_with r references)) same
  where
    config_of : Result Front Reason → List Name → Config
    config_of front names = record { front = front; clusters = map (cluster_entry r) names }

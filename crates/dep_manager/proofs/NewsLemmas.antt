-- What is told of keys that changed, key by key.
use Rattle.std.proofs.Common.{◌≡◌, ℕ, ◌+◌, ◌<◌, refl, sym, ap, ◌∙◌, subst, List, [], ◌∷◌, length, get_or, take, Bool, true, false, ◌||◌, cond, Option, Some}
use Rattle.std.specs.Prelude.{◌&&◌, if◌then◌else◌, IfOk, IfSome}
use Rattle.std.specs.List.{list_any}
use Rattle.std.specs.Ordering.{is_eq}
use Rattle.std.proofs.lemmas.Bool.{true≢false}
use Rattle.xc_base.specs.declared.names.Key.{Key}
use Rattle.xc_keys.specs.Keys.{is_key}
use Rattle.xc_keys.proofs.KeyLemmas.{derived_cmp, derived_is, is_key_equiv, same_key}
use Rattle.xds_config.specs.Endpoints.{IsLawfulEndpoints}
use Rattle.xds_config.specs.declared.value.Value.{Value}
use Rattle.xds_cache.specs.declared.fate.Known.{Known}
use Rattle.xds_cache.specs.KeptFates.{IsLawfulAt}
use Rattle.config_assembly.specs.WholeConfigs.{endpoints_of}
use Rattle.config_assembly.specs.Watching.{has_key}
use Rattle.config_assembly.proofs.WatchLemmas.{has_alike, has_next}
use Rattle.dep_manager.specs.EndpointNews.{AreLawfulNews, State, Told, are_endpoints, is_endpoint_kind, state_in}

-- ---- one key more

told_cases : {V : Type 0} (b h : Bool) (x k : Key) (F : Key → V) (old first : V) → (b ≡ true → x ≡ k) → old ≡ (if h then F k else first) → (if b then F x else old) ≡ (if (h || b) then F k else first)
told_cases true true x k F old first same kept = ap F (same refl)
told_cases true false x k F old first same kept = ap F (same refl)
told_cases false true x k F old first same kept = kept
told_cases false false x k F old first same kept = kept

pub told_next : {V : Type 0} (F first old new : Key → V) (keys : List Key) (i : ℕ) (x : Key) → i < length keys → x ≡ get_or keys i x
    → ((k : Key) → new k ≡ (if is_key x k then F x else old k))
    → ((k : Key) → old k ≡ (if has_key (take i keys) k then F k else first k))
    → (k : Key) → new k ≡ (if has_key (take (i + 1) keys) k then F k else first k)
told_next F first old new keys i x lt is changes kept k =
    changes k
    ∙ told_cases (is_key x k) (has_key (take i keys) k) x k F (old k) (first k) (λ e. same_key x k e) (kept k)
    ∙ ap (λ b. if (has_key (take i keys) k || b) then F k else first k) (is_key_equiv.symm x k)
    ∙ ap (λ b. if b then F k else first k) (sym (has_next keys i x k lt is))

-- ---- sets and maps

-- a set is asked by the order of its type
pub set_alike : (old new : List Key) (key : Key) (b : Bool) →
    ((q : Key) → list_any (λ k. is_eq (derived_cmp q k)) new ≡ cond (is_eq (derived_cmp key q)) b (list_any (λ k. is_eq (derived_cmp q k)) old)) →
    (other : Key) → has_key new other ≡ cond (is_key key other) b (has_key old other)
set_alike old new key b change other =
    sym (has_alike new other) ∙ change other
    ∙ ap (λ o. cond (is_eq o) b (list_any (λ k. is_eq (derived_cmp other k)) old)) (derived_is key other)
    ∙ ap (λ h. cond (is_key key other) b h) (has_alike old other)

lawful_if : (b : Bool) (state : State) (old : Option State) → IfOk state IsLawfulEndpoints → IfSome old (λ s. IfOk s IsLawfulEndpoints) → IfSome (cond b (Some state) old) (λ s. IfOk s IsLawfulEndpoints)
lawful_if true state old lawful before = lawful
lawful_if false state old lawful before = before

pub lawful_put : (old new : Told) (key : Key) (state : State) → AreLawfulNews old → IfOk state IsLawfulEndpoints → ((other : Key) → state_in new other ≡ cond (is_key key other) (Some state) (state_in old other)) → AreLawfulNews new
lawful_put old new key state before lawful put other = subst (λ o. IfSome o (λ s. IfOk s IsLawfulEndpoints)) (sym (put other)) (lawful_if (is_key key other) state (state_in old other) lawful (before other))

pub no_news : AreLawfulNews []
no_news key = tt

-- endpoints that are known passed their checks
pub lawful_endpoints : (key : Key) (known : Known) → IsLawfulAt key known → IfOk (endpoints_of known) IsLawfulEndpoints
lawful_endpoints key Known.Wanted lawful = tt
lawful_endpoints key (Known.Value (Value.Listener value)) lawful = tt
lawful_endpoints key (Known.Value (Value.Route value)) lawful = tt
lawful_endpoints key (Known.Value (Value.Cluster value)) lawful = tt
lawful_endpoints key (Known.Value (Value.Endpoint value)) lawful = lawful.0
lawful_endpoints key (Known.Invalid reason) lawful = tt
lawful_endpoints key Known.Absent lawful = tt

-- ---- keys of Endpoint resources

both_true : (a b : Bool) → (a && b) ≡ true → (a ≡ true) × (b ≡ true)
both_true true true is = (refl, refl)
both_true true false is = absurd (true≢false (sym is))
both_true false b is = absurd (true≢false (sym is))

kind_or_more : (keys : List Key) (x k : Key) (b : Bool) → is_key k x ≡ b → (b || has_key keys k) ≡ true → is_endpoint_kind x.kind ≡ true → (has_key keys k ≡ true → is_endpoint_kind k.kind ≡ true) → is_endpoint_kind k.kind ≡ true
kind_or_more keys x k true is has own more = ap (λ key. is_endpoint_kind key.kind) (same_key k x is) ∙ own
kind_or_more keys x k false is has own more = more has

pub kind_of_changed : (keys : List Key) (k : Key) → are_endpoints keys ≡ true → has_key keys k ≡ true → is_endpoint_kind k.kind ≡ true
kind_of_changed [] k are has = absurd (true≢false (sym has))
kind_of_changed (x ∷ keys) k are has =
    let (own, more) = both_true (is_endpoint_kind x.kind) (are_endpoints keys) are in
    kind_or_more keys x k (is_key k x) refl has own (λ h. kind_of_changed keys k more h)

not_among : (keys : List Key) (k : Key) (b : Bool) → has_key keys k ≡ b → are_endpoints keys ≡ true → is_endpoint_kind k.kind ≡ false → b ≡ false
not_among keys k true has are other = absurd (true≢false (sym (kind_of_changed keys k are has) ∙ other))
not_among keys k false has are other = refl

-- a key of another kind isn't among them
pub unchanged : (keys : List Key) (k : Key) → are_endpoints keys ≡ true → is_endpoint_kind k.kind ≡ false → has_key keys k ≡ false
unchanged keys k are other = not_among keys k (has_key keys k) refl are other

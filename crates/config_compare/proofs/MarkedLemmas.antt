-- What holds at all places, where it holds at the marked ones and elsewhere.
use Rattle.std.proofs.Common.{◌≡◌, ℕ, ◌+◌, ◌<◌, ◌≤◌, ◌⊎◌, inl, inr, Bool, true, false, List, [], length, map, get_or, Some, Err, refl, sym, ap, subst, ◌∙◌, arith}
use Rattle.std.specs.Prelude.{◌↔◌, Contains, slice_get, option_map}
use Rattle.std.proofs.lemmas.Bool.{cases_lt}
use Rattle.std.proofs.lemmas.List.{ext_get_or, get_or_default, length-map}
use Rattle.std.proofs.lemmas.Option.{get_or_from_slice_get, slice_get-get_or, slice_get-map}
use Rattle.xc_base.specs.declared.reason.Reason.{Reason}
use Rattle.xds_config.specs.declared.config.ClusterEntry.{ClusterEntry}
use Rattle.config_compare.specs.MarkedClusters.{AgreeAt, AreNamedAlikeAt, AreSameBut, IsNamedAlikeAt}

-- ---- places in front

-- it holds at so many of the places in front
abbrev pub HoldAt : (ℕ → Type 0) → List ℕ → ℕ → Type 0
HoldAt P places count = (k d : ℕ) → k < count → k < length places → P (get_or places k d)

pub hold_more : (P : ℕ → Type 0) (places : List ℕ) (i place : ℕ) → place ≡ get_or places i place → P place → HoldAt P places i → HoldAt P places (i + 1)
hold_more P places i place is here all k d less lt = by (cases_lt k i)
  where
    by : (k < i) ⊎ (i ≤ k) → P (get_or places k d)
    by (inl before) = all k d before lt
    by (inr past) =
        let last : i ≡ k = omega (arith, less, past) in
        let own : place ≡ get_or places k d = is ∙ (ap (λ (n : ℕ). get_or places n place) last ∙ get_or_default places k place d lt) in
        subst P own here

pub hold_marked : (P : ℕ → Type 0) (marks : List Bool) (places : List ℕ) (count : ℕ) → ((place : ℕ) → (get_or marks place false ≡ true) ↔ Contains places place) → length places ≤ count → HoldAt P places count →
    (place : ℕ) → get_or marks place false ≡ true → P place
hold_marked P marks places count marked le all place on =
    let among : Contains places place = (marked place).0 on in
    subst P among.2 (all among.0 place (omega (arith, le, among.1)) among.1)

-- a place among these is marked
pub is_marked : (marks : List Bool) (places : List ℕ) (i place : ℕ) → ((place : ℕ) → (get_or marks place false ≡ true) ↔ Contains places place) → i < length places → place ≡ get_or places i place → get_or marks place false ≡ true
is_marked marks places i place marked lt is = (marked place).1 (i, lt, sym is)

-- ---- the same entries

no_entry : ClusterEntry
no_entry = record { name = []; state = Err Reason.Failing }

same_at : (marks : List Bool) (entries others : List ClusterEntry) (place : ℕ) → AreSameBut marks entries others → AgreeAt marks entries others → place < length others → slice_get entries place ≡ slice_get others place
same_at marks entries others place unmarked agree lt = by (get_or marks place false) refl
  where
    by : (mark : Bool) → get_or marks place false ≡ mark → slice_get entries place ≡ slice_get others place
    by true on = agree place on
    by false off =
        let here : slice_get others place ≡ Some (get_or others place no_entry) = slice_get-get_or others place no_entry lt in
        unmarked place (get_or others place no_entry) here off ∙ sym here

pub same_all : (marks : List Bool) (entries others : List ClusterEntry) → length entries ≡ length others → AreSameBut marks entries others → AgreeAt marks entries others → entries ≡ others
same_all marks entries others long unmarked agree = ext_get_or no_entry entries others long (λ k lt.
    let less : k < length others = omega (arith, long, lt) in
    get_or_from_slice_get entries k (get_or others k no_entry) no_entry (same_at marks entries others k unmarked agree less ∙ slice_get-get_or others k no_entry less))

pub agree_where_same : (marks : List Bool) (entries others : List ClusterEntry) → entries ≡ others → AgreeAt marks entries others
agree_where_same marks entries others same place on = ap (λ (es : List ClusterEntry). slice_get es place) same

-- ---- the same names

abbrev names_of : List ClusterEntry → List (List ℕ)
names_of entries = map (λ e. e.name) entries

named_at : (marks : List Bool) (entries others : List ClusterEntry) (place : ℕ) → AreSameBut marks entries others → AreNamedAlikeAt marks entries others → place < length others → IsNamedAlikeAt entries others place
named_at marks entries others place unmarked alike lt = by (get_or marks place false) refl
  where
    by : (mark : Bool) → get_or marks place false ≡ mark → IsNamedAlikeAt entries others place
    by true on = alike place on
    by false off =
        let here : slice_get others place ≡ Some (get_or others place no_entry) = slice_get-get_or others place no_entry lt in
        ap (option_map (λ (e : ClusterEntry). e.name)) (unmarked place (get_or others place no_entry) here off ∙ sym here)

pub named_all : (marks : List Bool) (entries others : List ClusterEntry) → length entries ≡ length others → AreSameBut marks entries others → AreNamedAlikeAt marks entries others → names_of entries ≡ names_of others
named_all marks entries others long unmarked alike =
    let many : length (names_of entries) ≡ length (names_of others) = length-map entries (λ (e : ClusterEntry). e.name) ∙ (long ∙ sym (length-map others (λ (e : ClusterEntry). e.name))) in
    ext_get_or [] (names_of entries) (names_of others) many (λ k lt.
    let less : k < length others = omega (arith, long, lt, length-map entries (λ (e : ClusterEntry). e.name)) in
    let other : slice_get (names_of others) k ≡ Some (get_or (names_of others) k []) = slice_get-get_or (names_of others) k [] (omega (arith, less, length-map others (λ (e : ClusterEntry). e.name))) in
    get_or_from_slice_get (names_of entries) k (get_or (names_of others) k []) []
    (slice_get-map (λ (e : ClusterEntry). e.name) entries k ∙ (named_at marks entries others k unmarked alike less ∙ (sym (slice_get-map (λ (e : ClusterEntry). e.name) others k) ∙ other))))

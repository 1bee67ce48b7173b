-- The laws of the order of keys.
use Rattle.std.proofs.Common.{◌≡◌, ℕ, true, cond, List, [], ◌∷◌, Option, Some, refl, sym, ap, ◌∙◌, arith, Ordering}
use Rattle.std.specs.declared.cmp.Ordering.TheVariants.{Less, Equal, Greater}
use Rattle.std.specs.Cmp.{IsTotalOrder, IsEquivalence}
use Rattle.std.specs.Cmp.Lexicographic.{slice_cmp}
use Rattle.std.specs.Ordering.{nat_cmp, is_eq, on, then_cmp, ordering_then, ordering_reverse}
use Rattle.std.proofs.lemmas.Cmp.{nat_cmp_total, nat_list_cmp_total, on_total, then_total, eq_by_cmp_equiv}
use Rattle.std.proofs.lemmas.Map.Lookups.{CmpEqualImpliesEq, exact_unsigned, exact_bytes}
use Rattle.std.specs.Map.{lookup}
use Rattle.xc_base.specs.contracts.names.HomeOrd.TheImpl.Laws.{total-law as home_law}
use Rattle.xc_base.specs.contracts.names.KeyOrd.TheImpl.Laws.{total-law}
use Rattle.xc_base.specs.contracts.names.KindOrd.TheImpl.Laws.{total-law as kind_law}
use Rattle.xc_base.specs.contracts.names.NameFaultOrd.TheImpl.Laws.{total-law as fault_law}
use Rattle.xc_base.specs.declared.names.Kind.{Kind}
use Rattle.xc_base.specs.declared.names.Kind.TheVariants.{Listener, Route, Cluster, Endpoint}
use Rattle.xc_base.specs.declared.names.NameFault.{NameFault}
use Rattle.xc_base.specs.declared.names.NameFault.TheVariants.{BadEscape, WrongType, UnknownAuthority}
use Rattle.xc_base.specs.declared.names.Home.{Home}
use Rattle.xc_base.specs.declared.names.Home.TheVariants.{At, Nowhere}
use Rattle.xc_base.specs.declared.names.Key.{Key}
use Rattle.xc_keys.specs.Keys.{kind_place, fault_place, home_cmp, key_cmp, is_key}

-- homes by two numbers, in which they are in the same order
abbrev home_place : Home → ℕ
home_place (At authority) = 0
home_place (Nowhere fault) = 1

abbrev place_within : Home → ℕ
place_within (At authority) = authority.0
place_within (Nowhere fault) = fault_place fault

abbrev places_cmp : Home → Home → Ordering
places_cmp = then_cmp (on home_place nat_cmp) (on place_within nat_cmp)

home_is : (home other : Home) → home_cmp home other ≡ places_cmp home other
home_is (At authority) (At other) = refl
home_is (At authority) (Nowhere fault) = refl
home_is (Nowhere fault) (At authority) = refl
home_is (Nowhere fault) (Nowhere other) = refl

home_total : IsTotalOrder home_cmp
home_total =
    let total : IsTotalOrder places_cmp = then_total (on_total home_place nat_cmp_total) (on_total place_within nat_cmp_total) in record {
      antisymm = λ x y. home_is x y ∙ total.antisymm x y ∙ ap ordering_reverse (sym (home_is y x));
      trans = λ x y z one two. home_is x z ∙ total.trans x y z (sym (home_is x y) ∙ one) (sym (home_is y z) ∙ two);
      congr = λ x y z same. home_is x z ∙ total.congr x y z (sym (home_is x y) ∙ same) ∙ sym (home_is y z);
    }

pub key_total : IsTotalOrder key_cmp
key_total = then_total (on_total (λ key. kind_place key.kind) nat_cmp_total) (then_total (on_total (λ key. key.name) nat_list_cmp_total) (on_total (λ key. key.home) home_total))

pub is_key_equiv : IsEquivalence is_key
is_key_equiv = eq_by_cmp_equiv key_total

pub equal_from_is_eq : (o : Ordering) → is_eq o ≡ true → o ≡ Equal
equal_from_is_eq Less is = cc
equal_from_is_eq Equal is = refl
equal_from_is_eq Greater is = cc

-- two comparisons in turn find equal what both find equal
pub both_equal : (o p : Ordering) → ordering_then o p ≡ Equal → (o ≡ Equal) × (p ≡ Equal)
both_equal Less p is = cc
both_equal Equal p is = (refl, is)
both_equal Greater p is = cc

same_kind : (kind other : Kind) → kind_place kind ≡ kind_place other → kind ≡ other
same_kind Listener Listener is = refl
same_kind Listener Route is = absurd (omega (arith, is))
same_kind Listener Cluster is = absurd (omega (arith, is))
same_kind Listener Endpoint is = absurd (omega (arith, is))
same_kind Route Listener is = absurd (omega (arith, is))
same_kind Route Route is = refl
same_kind Route Cluster is = absurd (omega (arith, is))
same_kind Route Endpoint is = absurd (omega (arith, is))
same_kind Cluster Listener is = absurd (omega (arith, is))
same_kind Cluster Route is = absurd (omega (arith, is))
same_kind Cluster Cluster is = refl
same_kind Cluster Endpoint is = absurd (omega (arith, is))
same_kind Endpoint Listener is = absurd (omega (arith, is))
same_kind Endpoint Route is = absurd (omega (arith, is))
same_kind Endpoint Cluster is = absurd (omega (arith, is))
same_kind Endpoint Endpoint is = refl

same_fault : (fault other : NameFault) → fault_place fault ≡ fault_place other → fault ≡ other
same_fault BadEscape BadEscape is = refl
same_fault BadEscape WrongType is = absurd (omega (arith, is))
same_fault BadEscape UnknownAuthority is = absurd (omega (arith, is))
same_fault WrongType BadEscape is = absurd (omega (arith, is))
same_fault WrongType WrongType is = refl
same_fault WrongType UnknownAuthority is = absurd (omega (arith, is))
same_fault UnknownAuthority BadEscape is = absurd (omega (arith, is))
same_fault UnknownAuthority WrongType is = absurd (omega (arith, is))
same_fault UnknownAuthority UnknownAuthority is = refl

same_home : (home other : Home) → home_place home ≡ home_place other → place_within home ≡ place_within other → home ≡ other
same_home (At authority) (At other) place within = let make : ℕ → Home = λ n. At (record { 0 = n }) in ap make within
same_home (At authority) (Nowhere fault) place within = absurd (omega (arith, place))
same_home (Nowhere fault) (At authority) place within = absurd (omega (arith, place))
same_home (Nowhere fault) (Nowhere other) place within = ap (λ f. Nowhere f) (same_fault fault other within)

pub exact_keys : CmpEqualImpliesEq key_cmp
exact_keys key other is =
    let (kind, rest) = both_equal (nat_cmp (kind_place key.kind) (kind_place other.kind)) _ is in
    let (name, home) = both_equal (slice_cmp nat_cmp key.name other.name) _ rest in
    let (place, within) = both_equal (nat_cmp (home_place key.home) (home_place other.home)) _ (sym (home_is key.home other.home) ∙ home) in
    let kinds = same_kind key.kind other.kind (exact_unsigned _ _ kind) in
    let names = exact_bytes key.name other.name name in
    let homes = same_home key.home other.home (exact_unsigned _ _ place) (exact_unsigned _ _ within) in
    same_parts key other kinds names homes
  where
    same_parts : (key other : Key) → key.kind ≡ other.kind → key.name ≡ other.name → key.home ≡ other.home → key ≡ other
    same_parts key other kinds names homes =
        let make : Kind → List ℕ → Home → Key = λ kind name home. record { kind = kind; name = name; home = home } in
        ap (λ kind. make kind key.name key.home) kinds ∙ ap (λ name. make other.kind name key.home) names ∙ ap (λ home. make other.kind other.name home) homes

-- keys that are told to be one are equal
pub same_key : (key other : Key) → is_key key other ≡ true → key ≡ other
same_key key other is = exact_keys key other (equal_from_is_eq (key_cmp key other) is)

-- a key is found to be itself
pub key_itself : (key : Key) → is_key key key ≡ true
key_itself key = is_key_equiv.refl key

-- the order that the type's own comparison has
abbrev pub order_of : {K : Type 0} {R : K → K → Ordering} → IsTotalOrder R → K → K → Ordering
order_of {K} {R} total = R

abbrev pub derived_cmp : Key → Key → Ordering
derived_cmp = order_of total-law

abbrev derived_kind : Kind → Kind → Ordering
derived_kind = order_of kind_law

abbrev derived_fault : NameFault → NameFault → Ordering
derived_fault = order_of fault_law

abbrev derived_home : Home → Home → Ordering
derived_home = order_of home_law

kind_is : (kind other : Kind) → derived_kind kind other ≡ nat_cmp (kind_place kind) (kind_place other)
kind_is Listener Listener = refl
kind_is Listener Route = refl
kind_is Listener Cluster = refl
kind_is Listener Endpoint = refl
kind_is Route Listener = refl
kind_is Route Route = refl
kind_is Route Cluster = refl
kind_is Route Endpoint = refl
kind_is Cluster Listener = refl
kind_is Cluster Route = refl
kind_is Cluster Cluster = refl
kind_is Cluster Endpoint = refl
kind_is Endpoint Listener = refl
kind_is Endpoint Route = refl
kind_is Endpoint Cluster = refl
kind_is Endpoint Endpoint = refl

fault_is : (fault other : NameFault) → derived_fault fault other ≡ nat_cmp (fault_place fault) (fault_place other)
fault_is BadEscape BadEscape = refl
fault_is BadEscape WrongType = refl
fault_is BadEscape UnknownAuthority = refl
fault_is WrongType BadEscape = refl
fault_is WrongType WrongType = refl
fault_is WrongType UnknownAuthority = refl
fault_is UnknownAuthority BadEscape = refl
fault_is UnknownAuthority WrongType = refl
fault_is UnknownAuthority UnknownAuthority = refl

same_home_order : (home other : Home) → derived_home home other ≡ home_cmp home other
same_home_order (At authority) (At other) = refl
same_home_order (At authority) (Nowhere fault) = refl
same_home_order (Nowhere fault) (At authority) = refl
same_home_order (Nowhere fault) (Nowhere other) = fault_is fault other

pub derived_is : (key other : Key) → derived_cmp key other ≡ key_cmp key other
derived_is key other =
    ap (λ o. ordering_then o (ordering_then (slice_cmp nat_cmp key.name other.name) (derived_home key.home other.home))) (kind_is key.kind other.kind)
    ∙ ap (λ o. ordering_then (nat_cmp (kind_place key.kind) (kind_place other.kind)) (ordering_then (slice_cmp nat_cmp key.name other.name) o)) (same_home_order key.home other.home)

-- a look-up by that order is one by the order of keys
pub found_alike : {X : Type 0} (key : Key) (entries : List (Key × X)) → lookup (λ other. is_eq (derived_cmp key other)) entries ≡ lookup (is_key key) entries
found_alike key [] = refl
found_alike key (e ∷ entries) =
    ap (λ o. cond (is_eq o) (Some e.1) (lookup (λ other. is_eq (derived_cmp key other)) entries)) (derived_is key e.0)
    ∙ ap (λ o. cond (is_key key e.0) (Some e.1) o) (found_alike key entries)

-- so is a change at one key
pub changed_alike : {X : Type 0} (old new : List (Key × X)) (key : Key) (value : Option X) →
    ((other : Key) → lookup (λ k. is_eq (derived_cmp other k)) new ≡ cond (is_eq (derived_cmp key other)) value (lookup (λ k. is_eq (derived_cmp other k)) old)) →
    (other : Key) → lookup (is_key other) new ≡ cond (is_key key other) value (lookup (is_key other) old)
changed_alike old new key value change other =
    sym (found_alike other new) ∙ change other
    ∙ ap (λ o. cond (is_eq o) value (lookup (λ k. is_eq (derived_cmp other k)) old)) (derived_is key other)
    ∙ ap (λ o. cond (is_key key other) value o) (found_alike other old)

-- The names of resources, one after the other.
use Rattle.std.proofs.Common.{◌≡◌, ◌<◌, ◌≤◌, ℕ, ◌+◌, Bool, true, false, cond, ◌&&◌, ◌||◌, not, List, [], ◌∷◌, length, drop, get_or, refl, sym, ap, ap₂, ◌∙◌, is_some}
use Rattle.std.specs.List.{list_all, list_any}
use Rattle.std.specs.Str.{bytes_eq}
use Rattle.std.specs.Ordering.{nat_cmp, is_eq}
use Rattle.std.specs.Cmp.Lexicographic.{slice_cmp, texts_ties}
use Rattle.std.proofs.lemmas.List.{drop_more, drop_all}
use Rattle.std.proofs.lemmas.Slice.Eq.{bytes_eq-Decides}
use Rattle.xc_base.specs.declared.names.Key.{Key}
use Rattle.config_assembly.specs.Orders.{Name}
use Rattle.xds_history.specs.resource_check.declared.delivery.Delivery.{Delivery}
use Rattle.xds_history.specs.declared.responses.Told.{Told}
use Rattle.xds_history.specs.Responses.{is_named}
use Rattle.xds_history.specs.Fates.{has_another_name, lacks}
use Rattle.book_fates.specs.declared.part_names.PartNames.{PartNames}
use Rattle.book_fates.specs.NamedParts.{AreNamesOf, all_have_names, has_name}

-- ---- one more name

one_bool : (a b : Bool) → (a ≡ true → b ≡ true) → (b ≡ true → a ≡ true) → a ≡ b
one_bool true b there back = sym (there refl)
one_bool false true there back = back refl
one_bool false false there back = refl

either_way : (a b : Name) → bytes_eq a b ≡ bytes_eq b a
either_way a b = one_bool (bytes_eq a b) (bytes_eq b a) (λ is. (bytes_eq-Decides b a).1 (sym ((bytes_eq-Decides a b).0 is))) (λ is. (bytes_eq-Decides a b).1 (sym ((bytes_eq-Decides b a).0 is)))

gained_by : (b old : Bool) → cond b true old ≡ (b || old)
gained_by true old = refl
gained_by false old = refl

pub gained : (name other : Name) (old new : Bool) → new ≡ cond (is_eq (slice_cmp nat_cmp name other)) true old → new ≡ (bytes_eq other name || old)
gained name other old new is = is ∙ gained_by (is_eq (slice_cmp nat_cmp name other)) old ∙ ap (λ b. b || old) (sym (texts_ties name other) ∙ either_way name other)

-- ---- a loop over resources

and_later : (b x rest : Bool) → ((b && x) && rest) ≡ (b && (x && rest))
and_later true x rest = refl
and_later false x rest = refl

or_later : (b x rest : Bool) → ((x || b) || rest) ≡ (b || (x || rest))
or_later true true rest = refl
or_later true false rest = refl
or_later false true rest = refl
or_later false false rest = refl

pub all_more : (parts : List Delivery) (i : ℕ) (part : Delivery) (b new : Bool) → i < length parts → part ≡ get_or parts i part → new ≡ (b && is_some part.name) → (b && all_have_names (drop i parts)) ≡ all_have_names parts → (new && all_have_names (drop (i + 1) parts)) ≡ all_have_names parts
all_more parts i part b new lt is more so_far =
    ap (λ n. n && all_have_names (drop (i + 1) parts)) more ∙ and_later b (is_some part.name) (all_have_names (drop (i + 1) parts))
    ∙ ap (λ (x : Delivery). b && all_have_names (x ∷ drop (i + 1) parts)) is ∙ ap (λ ps. b && all_have_names ps) (sym (drop_more parts i part lt)) ∙ so_far

pub named_more : (name : Name) (parts : List Delivery) (i : ℕ) (part : Delivery) (b new : Bool) → i < length parts → part ≡ get_or parts i part → new ≡ (is_named name part || b) → (b || list_any (is_named name) (drop i parts)) ≡ list_any (is_named name) parts → (new || list_any (is_named name) (drop (i + 1) parts)) ≡ list_any (is_named name) parts
named_more name parts i part b new lt is more so_far =
    ap (λ n. n || list_any (is_named name) (drop (i + 1) parts)) more ∙ or_later b (is_named name part) (list_any (is_named name) (drop (i + 1) parts))
    ∙ ap (λ (x : Delivery). b || list_any (is_named name) (x ∷ drop (i + 1) parts)) is ∙ ap (λ ps. b || list_any (is_named name) ps) (sym (drop_more parts i part lt)) ∙ so_far

and_true : (b : Bool) → b ≡ (b && true)
and_true true = refl
and_true false = refl

or_false : (b : Bool) → b ≡ (b || false)
or_false true = refl
or_false false = refl

pub names_end : (parts : List Delivery) (i : ℕ) (names : PartNames) → length parts ≤ i → (names.all_named && all_have_names (drop i parts)) ≡ all_have_names parts → ((name : Name) → (has_name names.names name || list_any (is_named name) (drop i parts)) ≡ list_any (is_named name) parts) → AreNamesOf parts names
names_end parts i names done all each = record {
  all = and_true names.all_named ∙ ap (λ ps. names.all_named && all_have_names ps) (sym (drop_all i parts done)) ∙ all;
  each = λ name. or_false (has_name names.names name) ∙ ap (λ ps. has_name names.names name || list_any (is_named name) ps) (sym (drop_all i parts done)) ∙ each name;
}

-- ---- what a response lacks

both : (s n a b : Bool) → ((s && not n) && (a && not b)) ≡ ((s && a) && not (n || b))
both false n a b = refl
both true false a b = refl
both true true true b = refl
both true true false b = refl

lacks_all : (key : Key) (parts : List Delivery) → list_all (has_another_name key) parts ≡ (all_have_names parts && not (list_any (is_named key.name) parts))
lacks_all key [] = refl
lacks_all key (part ∷ parts) =
    ap (λ b. (is_some part.name && not (is_named key.name part)) && b) (lacks_all key parts)
    ∙ both (is_some part.name) (is_named key.name part) (all_have_names parts) (list_any (is_named key.name) parts)

pub lacks_is : (names : PartNames) (key : Key) (told : Told) → AreNamesOf told.parts names → (names.all_named && not (has_name names.names key.name)) ≡ lacks told key
lacks_is names key told are = ap₂ (λ a b. a && not b) are.all (are.each key.name) ∙ sym (lacks_all key told.parts)

-- The key of a part, and changes at one key.
use Rattle.std.proofs.Common.{◌≡◌, ℕ, Bool, true, false, List, Option, Some, None, Ok, Err, refl, sym, ap, ◌∙◌, subst, option_map, eq-eqb, eqb-true, ◌++◌, ◌∷◌, []}
use Rattle.std.specs.Prelude.{◌&&◌, if◌then◌else◌}
use Rattle.std.specs.Option.{option_map_or}
use Rattle.std.specs.Str.{bytes_eq}
use Rattle.std.proofs.lemmas.Slice.Eq.{bytes_eq-Decides}
use Rattle.xc_base.specs.declared.names.Authority.{Authority}
use Rattle.xc_base.specs.declared.names.Kind.{Kind}
use Rattle.xc_base.specs.declared.names.Kind.TheVariants.{Listener, Route, Cluster, Endpoint}
use Rattle.xc_base.specs.declared.names.Key.{Key}
use Rattle.xc_base.specs.declared.names.Home.{Home}
use Rattle.xc_base.specs.declared.reason.Reason.{Reason}
use Rattle.xc_keys.specs.Keys.{is_key, kind_place}
use Rattle.xc_keys.proofs.KeyLemmas.{same_key, key_itself}
use Rattle.xds_config.specs.declared.value.Value.{Value}
use Rattle.xds_cache.specs.declared.fate.Known.{Known}
use Rattle.xds_cache.specs.KeptFates.{Watched as Rows, known_of, Changes, accepted, refused}
use Rattle.config_assembly.specs.Orders.{Name}
use Rattle.xds_history.specs.Words.{same_kind, lives_at}
use Rattle.xds_history.specs.resource_check.declared.delivery.Delivery.{Delivery}
use Rattle.xds_history.specs.Fates.{mark_of}
use Rattle.book_fates.specs.FateSteps.{Stepped, after_mark, key_at, part_step, parts_step}
use Rattle.book_fates.proofs.PartLemmas.{parts_last}

by_two : (a b : Bool) → (a ≡ true → b ≡ true) → (b ≡ true → a ≡ true) → a ≡ b
by_two true b there back = sym (there refl)
by_two false true there back = back refl
by_two false false there back = refl

one_way : (key other : Key) → is_key key other ≡ true → is_key other key ≡ true
one_way key other is = subst (λ k. is_key k key ≡ true) (same_key key other is) (key_itself key)

pub key_sym : (key other : Key) → is_key key other ≡ is_key other key
key_sym key other = by_two (is_key key other) (is_key other key) (one_way key other) (one_way other key)

-- ---- the key of a part

equal_kinds : (kind other : Kind) → same_kind kind other ≡ true → kind ≡ other
equal_kinds Listener Listener is = refl
equal_kinds Listener Route is = absurd (cc is)
equal_kinds Listener Cluster is = absurd (cc is)
equal_kinds Listener Endpoint is = absurd (cc is)
equal_kinds Route Listener is = absurd (cc is)
equal_kinds Route Route is = refl
equal_kinds Route Cluster is = absurd (cc is)
equal_kinds Route Endpoint is = absurd (cc is)
equal_kinds Cluster Listener is = absurd (cc is)
equal_kinds Cluster Route is = absurd (cc is)
equal_kinds Cluster Cluster is = refl
equal_kinds Cluster Endpoint is = absurd (cc is)
equal_kinds Endpoint Listener is = absurd (cc is)
equal_kinds Endpoint Route is = absurd (cc is)
equal_kinds Endpoint Cluster is = absurd (cc is)
equal_kinds Endpoint Endpoint is = refl

equal_homes : (a : Authority) (home : Home) → lives_at a home ≡ true → Home.At a ≡ home
equal_homes a (Home.At other) is = let make : ℕ → Home = λ n. Home.At (record { 0 = n }) in ap make (eqb-true a.0 other.0 is)
equal_homes a (Home.Nowhere fault) is = absurd (cc is)

three : (a b c : Bool) → ((a && b) && c) ≡ true → (a ≡ true) × (b ≡ true) × (c ≡ true)
three true true true is = (refl, refl, refl)
three true true false is = absurd (cc is)
three true false c is = absurd (cc is)
three false b c is = absurd (cc is)

three_true : (a b c : Bool) → a ≡ true → b ≡ true → c ≡ true → ((a && b) && c) ≡ true
three_true true true true x y z = refl
three_true true true false x y z = z
three_true true false c x y z = y
three_true false b c x y z = x

from_parts : (a : Authority) (kind : Kind) (name : Name) (other : Key) → ((same_kind kind other.kind && lives_at a other.home) && bytes_eq other.name name) ≡ true → key_at a kind name ≡ other
from_parts a kind name other is =
    let (kinds, homes, names) = three (same_kind kind other.kind) (lives_at a other.home) (bytes_eq other.name name) is in
    let make : Kind → Name → Home → Key = λ kind name home. record { kind = kind; name = name; home = home } in
    ap (λ k. make k name (Home.At a)) (equal_kinds kind other.kind kinds)
    ∙ ap (λ n. make other.kind n (Home.At a)) (sym ((bytes_eq-Decides other.name name).0 names))
    ∙ ap (λ h. make other.kind other.name h) (equal_homes a other.home homes)

own_parts : (a : Authority) (kind : Kind) (name : Name) → ((same_kind kind kind && lives_at a (Home.At a)) && bytes_eq name name) ≡ true
own_parts a kind name =
    three_true (same_kind kind kind) (lives_at a (Home.At a)) (bytes_eq name name) (eq-eqb (kind_place kind) (kind_place kind) refl) (eq-eqb a.0 a.0 refl) ((bytes_eq-Decides name name).1 refl)

pub of_part : (a : Authority) (kind : Kind) (name : Name) (other : Key) → is_key (key_at a kind name) other ≡ ((same_kind kind other.kind && lives_at a other.home) && bytes_eq other.name name)
of_part a kind name other =
    by_two (is_key (key_at a kind name) other) ((same_kind kind other.kind && lives_at a other.home) && bytes_eq other.name name)
    (λ is. subst (λ k. ((same_kind kind k.kind && lives_at a k.home) && bytes_eq k.name name) ≡ true) (same_key (key_at a kind name) other is) (own_parts a kind name))
    (λ is. subst (λ k. is_key (key_at a kind name) k ≡ true) (from_parts a kind name other is) (key_itself (key_at a kind name)))

-- ---- a change at one key

same_still : (o : Option Known) → o ≡ option_map (λ known. known) o
same_still None = refl
same_still (Some known) = refl

at_key : (t : Bool) (f : Known → Known) (old : Rows) (key other : Key) → is_key key other ≡ t →
    (if t then option_map f (known_of old key) else known_of old other) ≡ option_map (λ known. if t then f known else known) (known_of old other)
at_key true f old key other is = ap (λ k. option_map f (known_of old k)) (same_key key other is)
at_key false f old key other is = same_still (known_of old other)

-- a change at one key is a step of all
pub one_key : (old new : Rows) (key : Key) (f : Known → Known) → Changes old new key (option_map f) → Stepped old new (λ other known. if is_key key other then f known else known)
one_key old new key f changes other = changes other ∙ at_key (is_key key other) f old key other refl

pub part_changes : (old new : Rows) (a : Authority) (kind : Kind) (part : Delivery) (name : Name) → part.name ≡ Some name → Changes old new (key_at a kind name) (option_map (after_mark (mark_of part.result))) → Stepped old new (part_step a kind part)
part_changes old new a kind part name named changes other =
    let tested : Bool → Option Known = λ t. option_map (λ known. if t then after_mark (mark_of part.result) known else known) (known_of old other) in
    one_key old new (key_at a kind name) (after_mark (mark_of part.result)) changes other
    ∙ ap tested (of_part a kind name other ∙ ap (λ o. (same_kind kind other.kind && lives_at a other.home) && option_map_or (bytes_eq other.name) o false) (sym named))

pub valid_changes : (old new : Rows) (a : Authority) (kind : Kind) (part : Delivery) (name : Name) (v : Value) → part.name ≡ Some name → part.result ≡ Ok v → Changes old new (key_at a kind name) (accepted v) → Stepped old new (part_step a kind part)
valid_changes old new a kind part name v named is changes =
    part_changes old new a kind part name named (subst (λ r. Changes old new (key_at a kind name) (option_map (after_mark (mark_of r)))) (sym is) changes)

pub invalid_changes : (old new : Rows) (a : Authority) (kind : Kind) (part : Delivery) (name : Name) (reason : Reason) → part.name ≡ Some name → part.result ≡ Err reason → Changes old new (key_at a kind name) (refused reason) → Stepped old new (part_step a kind part)
invalid_changes old new a kind part name reason named is changes =
    part_changes old new a kind part name named (subst (λ r. Changes old new (key_at a kind name) (option_map (after_mark (mark_of r)))) (sym is) changes)

-- ---- one part less is left

last_first : (a : Authority) (kind : Kind) (parts : List Delivery) (part : Delivery) (key : Key) (o : Option Known) → option_map (parts_step a kind parts key) (option_map (part_step a kind part key) o) ≡ option_map (parts_step a kind (parts ++ part ∷ []) key) o
last_first a kind parts part key None = refl
last_first a kind parts part key (Some known) = ap Some (sym (parts_last a kind parts part key known))

pub fewer_parts : (mid new : Rows) (a : Authority) (kind : Kind) (all left : List Delivery) (part : Delivery) (end : Key → Option Known) → all ≡ left ++ part ∷ [] → Stepped mid new (part_step a kind part) →
    ((key : Key) → option_map (parts_step a kind all key) (known_of mid key) ≡ end key) → (key : Key) → option_map (parts_step a kind left key) (known_of new key) ≡ end key
fewer_parts mid new a kind all left part end is stepped to key =
    ap (option_map (parts_step a kind left key)) (stepped key) ∙ last_first a kind left part key (known_of mid key)
    ∙ ap (λ parts. option_map (parts_step a kind parts key) (known_of mid key)) (sym is) ∙ to key

pub no_part_left : (new : Rows) (a : Authority) (kind : Kind) (left : List Delivery) (end : Key → Option Known) → left ≡ [] → ((key : Key) → option_map (parts_step a kind left key) (known_of new key) ≡ end key) → (key : Key) → known_of new key ≡ end key
no_part_left new a kind left end is to key = same_still (known_of new key) ∙ ap (λ parts. option_map (parts_step a kind parts key) (known_of new key)) (sym is) ∙ to key

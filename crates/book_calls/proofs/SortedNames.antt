-- Names in order, each once, are one list.
use Rattle.std.proofs.Common.{◌≡◌, Bool, true, false, List, refl, sym}
use Rattle.std.specs.Prelude.{Contains, ◌↔◌}
use Rattle.std.specs.List.Sorted.{IsStrictlySortedBy}
use Rattle.std.proofs.lemmas.Cmp.{nat_list_cmp_total}
use Rattle.std.proofs.lemmas.Map.Lookups.{exact_bytes, btree_set_from_contains}
use Rattle.std.proofs.lemmas.Map.Views.{btree_set_contains_iff}
use Rattle.xds_history.specs.config_assembly.Orders.{Name, name_cmp}

one_bool : (a b : Bool) → (a ≡ true → b ≡ true) → (b ≡ true → a ≡ true) → a ≡ b
one_bool true b to from = sym (to refl)
one_bool false true to from = from refl
one_bool false false to from = refl

-- names that rise and have the same members are the same
pub same_names : (names others : List Name) → IsStrictlySortedBy name_cmp names → IsStrictlySortedBy name_cmp others → ((name : Name) → Contains names name ↔ Contains others name) → names ≡ others
same_names names others rising also alike =
    btree_set_from_contains nat_list_cmp_total (record { keys = names }) (record { keys = others }) rising also
    (λ q.
    let own = btree_set_contains_iff nat_list_cmp_total exact_bytes (record { keys = names }) q in
    let other = btree_set_contains_iff nat_list_cmp_total exact_bytes (record { keys = others }) q in
    one_bool _ _ (λ is. other.1 ((alike q).0 (own.0 is))) (λ is. own.1 ((alike q).1 (other.0 is))))
    exact_bytes

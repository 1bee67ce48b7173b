-- A key is found among rows whose keys rise.
use Rattle.std.proofs.Common.{◌≡◌, ◌⊎◌, inl, inr, ℕ, ◌+◌, ◌≤◌, ◌<◌, List, length, get_or, Option, Some, None, true, Result, Ok, Err, sym, ap, subst, ◌∙◌, arith, Less, Equal, Greater}
use Rattle.std.specs.Prelude.{Bool, option_and_then, option_map, slice_get}
use Rattle.std.specs.List.Sorted.{IsStrictlySortedBy, IsSearchInRange, IsBinarySearchResult, IsNonDecreasingBy}
use Rattle.std.specs.Map.{keys_of, lookup}
use Rattle.std.specs.Ordering.{is_eq, is_lt, ordering_index, ordering_reverse}
use Rattle.std.specs.Result.{result_ok}
use Rattle.std.proofs.lemmas.List.{get_or-map, length-map}
use Rattle.std.proofs.lemmas.List.Sorted.{searchable_from_sorted}
use Rattle.std.proofs.lemmas.Map.Entries.{lookup_at_gap, lookup_from_place}
use Rattle.std.proofs.lemmas.Map.Keys.{IsDistinct-from_sorted, Less-from_sorted}
use Rattle.std.proofs.lemmas.Option.{get_or_from_slice_get, slice_get_cases, slice_get_within}
use Rattle.xc_base.specs.declared.names.Key.{Key}
use Rattle.xc_keys.specs.Keys.{is_key, key_cmp}
use Rattle.xc_keys.proofs.KeyLemmas.{derived_cmp, derived_is, exact_keys, is_key_equiv, key_total, same_key}
use Rattle.xc_keys.proofs.MemberLemmas.{sorted_alike}
use Rattle.key_table.specs.Rows.{value_at}

module _ {V : Type 0} (rows : List (Key × V)) (rising : IsStrictlySortedBy key_cmp (keys_of rows)) where
  -- the row at a place is that of its key
  pub found_at : (key : Key) (place : ℕ) (row : Key × V) → slice_get rows place ≡ Some row → row.0 ≡ key → value_at rows place ≡ lookup (is_key key) rows
  found_at key place row at same =
      rw (at) (sym (lookup_from_place is_key_equiv rows place key row.1 (IsDistinct-from_sorted key_cmp (keys_of rows) rising) (at ∙ ap (λ k. Some (k, row.1)) same)))

  -- a row is below each later one
  below : (i j : ℕ) (d : Key × V) → i < j → j < length rows → key_cmp (get_or rows i d).0 (get_or rows j d).0 ≡ Less
  below i j d lt within =
      let same = length-map rows (λ (row : Key × V). row.0) in
      let is = Less-from_sorted key_cmp (keys_of rows) i j d.0 rising lt (omega (arith, within, same)) in
      rw (get_or-map (λ (row : Key × V). row.0) rows i d d.0 (omega (arith, lt, within)), get_or-map (λ (row : Key × V). row.0) rows j d d.0 within) at is

  -- so the comparisons with a key rise
  comparisons_rise : (key : Key) → IsNonDecreasingBy (λ row. ordering_index (key_cmp row.0 key)) rows
  comparisons_rise key = searchable_from_sorted key_total (λ (row : Key × V). row.0) rows key
      (λ k d least within.
      let is = below k (k + 1) d (omega arith) within in
      let back = key_total.antisymm (get_or rows (k + 1) d).0 (get_or rows k d).0 in
      ap is_lt (back ∙ ap ordering_reverse is))

  found : (key : Key) (place : ℕ) → place < length rows → ((d : Key × V) → key_cmp (get_or rows place d).0 key ≡ Equal)
      → ((row : Key × V) × (place < length rows) × (slice_get rows place ≡ Some row) × (get_or rows place row ≡ row)) ⊎ ((length rows ≤ place) × (slice_get rows place ≡ None)) → value_at rows place ≡ lookup (is_key key) rows
  found key place within equal (inl (row, lt, at, own)) = found_at key place row at (exact_keys row.0 key (subst (λ r. key_cmp r.0 key ≡ Equal) own (equal row)))
  found key place within equal (inr (past, none)) = absurd (omega (arith, within, past))

  -- what a binary search answers
  pub searched : (key : Key) (r : Result ℕ ℕ) → IsSearchInRange r (length rows) → IsBinarySearchResult (λ row. key_cmp row.0 key) rows r → option_and_then (value_at rows) (result_ok r) ≡ lookup (is_key key) rows
  searched key (Ok place) within equal = found key place within equal (slice_get_cases rows place).1
  searched key (Err place) within parted =
      sym (lookup_at_gap key_total key rows place rising
      (λ j row lt at. key_total.antisymm key row.0 ∙ ap ordering_reverse (subst (λ r. key_cmp r.0 key ≡ Less) (get_or_from_slice_get rows j row row at) ((parted (comparisons_rise key)).0 j row (omega arith) lt)))
      (λ row at. key_total.antisymm key row.0 ∙ ap ordering_reverse (subst (λ r. key_cmp r.0 key ≡ Greater) (get_or_from_slice_get rows place row row at) ((parted (comparisons_rise key)).1 place row (omega arith) (slice_get_within rows place row at)))))

-- the row at a place is that of a key with which its key compares as equal
pub tried : {V : Type 0} (rows : List (Key × V)) (key : Key) (place : ℕ) (row : Key × V) (b : Bool) → IsStrictlySortedBy key_cmp (keys_of rows) → slice_get rows place ≡ Some row → b ≡ is_eq (key_cmp row.0 key) → b ≡ true → value_at rows place ≡ lookup (is_key key) rows
tried rows key place row b rising at is equal = found_at rows rising key place row at (same_key row.0 key (sym is ∙ equal))

-- the rows of a map are in the order of keys
pub rows_rise : {V : Type 0} (rows entries : List (Key × V)) → rows ≡ entries → IsStrictlySortedBy derived_cmp (keys_of entries) → IsStrictlySortedBy key_cmp (keys_of rows)
rows_rise rows entries same sorted = subst (λ es. IsStrictlySortedBy key_cmp (keys_of es)) (sym same) (sorted_alike derived_cmp key_cmp derived_is (keys_of entries) sorted)

-- the value that a place shows is that of the key
pub value_found : {V : Type 0} (rows now : List (Key × V)) (key : Key) (place : ℕ) (row : Option (Key × V)) → row ≡ slice_get rows place → value_at rows place ≡ lookup (is_key key) rows → rows ≡ now → option_map (λ r. r.1) row ≡ lookup (is_key key) now
value_found rows now key place row at is same = ap (option_map (λ r. r.1)) at ∙ is ∙ ap (lookup (is_key key)) same

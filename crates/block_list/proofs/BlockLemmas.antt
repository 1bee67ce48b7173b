-- Members of lists in blocks.
use Rattle.std.proofs.Common.{◌≡◌, ◌<◌, ◌≤◌, ◌+◌, ◌-◌, ◌*◌, ◌/◌, ◌%◌, ◌⊎◌, ℕ, zero, suc, List, [], ◌∷◌, ◌++◌, length, take, drop, get_or, Some, None, inl, inr, refl, sym, ap, subst, ◌∙◌, arith}
use Rattle.std.specs.Prelude.{slice_get}
use Rattle.std.proofs.Math.Nat.{div-add-mod}
use Rattle.std.proofs.Math.Seq.{drop-append_seam, get_or-append_seam}
use Rattle.std.proofs.lemmas.Grind.{flat_map-append}
use Rattle.std.proofs.lemmas.List.{append-nil, drop-append-le, get_or_append_left, length-append, length-drop, take_all, take-append-le}
use Rattle.std.proofs.lemmas.Option.{get_or_from_slice_get, slice_get_past}
use Rattle.block_list.specs.Blocks.{AreBlocks, members_of}

pub get_drop : {T : Type 0} (xs : List T) (k i : ℕ) → slice_get (drop k xs) i ≡ slice_get xs (k + i)
get_drop [] zero i = refl
get_drop {T} (x ∷ xs) zero i = ap (λ (n : ℕ). slice_get (x ∷ xs) n) (let none : i ≡ 0 + i = omega arith in none)
get_drop [] (suc k) i = refl
get_drop {T} (x ∷ xs) (suc k) i = get_drop xs k i ∙ ap (λ (n : ℕ). slice_get (x ∷ xs) n) (let more : suc (k + i) ≡ suc k + i = omega arith in more)

pub get_take : {T : Type 0} (xs : List T) (n i : ℕ) → i < n → slice_get (take n xs) i ≡ slice_get xs i
get_take xs zero i lt = absurd (omega (arith, lt))
get_take [] (suc n) i lt = refl
get_take (x ∷ xs) (suc n) zero lt = refl
get_take (x ∷ xs) (suc n) (suc i) lt = get_take xs n i (omega (arith, lt))

-- ---- the member at a place

pub member_in : {T : Type 0} (blocks : List (List T)) (place : ℕ) (block : List T) → AreBlocks blocks → place / 32 < length blocks → slice_get blocks (place / 32) ≡ Some block → slice_get block (place % 32) ≡ slice_get (members_of blocks) place
member_in {T} blocks place block are lt is =
    let whole : 32 * (place / 32) + place % 32 ≡ place = div-add-mod place 32 in
    let own : block ≡ take 32 (drop (32 * (place / 32)) (members_of blocks)) = sym (get_or_from_slice_get blocks (place / 32) block block is) ∙ are.each (place / 32) block lt in
    ap (λ (b : List T). slice_get b (place % 32)) own
    ∙ (get_take (drop (32 * (place / 32)) (members_of blocks)) 32 (place % 32) (omega (arith))
    ∙ (get_drop (members_of blocks) (32 * (place / 32)) (place % 32)
    ∙ ap (λ (n : ℕ). slice_get (members_of blocks) n) whole))

pub none_past : {T : Type 0} (blocks : List (List T)) (place : ℕ) → AreBlocks blocks → length blocks ≤ place / 32 → slice_get (members_of blocks) place ≡ None
none_past blocks place are past =
    let whole : 32 * (place / 32) + place % 32 ≡ place = div-add-mod place 32 in
    slice_get_past (members_of blocks) place (omega (arith, are.most, past, whole))

-- ---- one more block

pub members_more : {T : Type 0} (blocks : List (List T)) (block : List T) → members_of (blocks ++ block ∷ []) ≡ members_of blocks ++ block
members_more {T} blocks block = flat_map-append (λ (b : List T). b) blocks (block ∷ []) ∙ ap (λ (b : List T). members_of blocks ++ b) (append-nil block)

pub blocks_more : {T : Type 0} (blocks : List (List T)) (block : List T) → AreBlocks blocks → length (members_of blocks) % 32 ≡ 0 → 0 < length block → length block ≤ 32 → AreBlocks (blocks ++ block ∷ [])
blocks_more {T} blocks block are whole some most =
    let members : members_of (blocks ++ block ∷ []) ≡ members_of blocks ++ block = members_more blocks block in
    let parts : 32 * (length (members_of blocks) / 32) + length (members_of blocks) % 32 ≡ length (members_of blocks) = div-add-mod (length (members_of blocks)) 32 in
    let full : length (members_of blocks) ≡ 32 * length blocks = omega (arith, parts, whole, are.most, are.least) in
    let longer : length (blocks ++ block ∷ []) ≡ length blocks + 1 = length-append blocks (block ∷ []) in
    let long : length (members_of (blocks ++ block ∷ [])) ≡ length (members_of blocks) + length block = ap (λ (ms : List T). length ms) members ∙ length-append (members_of blocks) block in
    record {
      each = λ k d lt. subst (λ (ms : List T). get_or (blocks ++ block ∷ []) k d ≡ take 32 (drop (32 * k) ms)) (sym members) (at full k d (cases k (length blocks) (omega (arith, lt, longer))));
      most = omega (arith, long, longer, full, most);
      least = omega (arith, long, longer, full, some);
    }
  where
    cases : (k n : ℕ) → k < n + 1 → (k < n) ⊎ (k ≡ n)
    cases zero zero lt = inr refl
    cases zero (suc n) lt = inl (omega arith)
    cases (suc k) zero lt = absurd (omega (arith, lt))
    cases (suc k) (suc n) lt = more (cases k n (omega (arith, lt)))
      where
        more : (k < n) ⊎ (k ≡ n) → (suc k < suc n) ⊎ (suc k ≡ suc n)
        more (inl before) = inl (omega (arith, before))
        more (inr same) = inr (ap suc same)

    at : length (members_of blocks) ≡ 32 * length blocks → (k : ℕ) (d : List T) → (k < length blocks) ⊎ (k ≡ length blocks) → get_or (blocks ++ block ∷ []) k d ≡ take 32 (drop (32 * k) (members_of blocks ++ block))
    at full k d (inl before) =
        let left : length (drop (32 * k) (members_of blocks)) ≡ length (members_of blocks) - 32 * k = length-drop (32 * k) (members_of blocks) in
        get_or_append_left blocks (block ∷ []) d k before
        ∙ (are.each k d before
        ∙ sym (ap (λ (ms : List T). take 32 ms) (drop-append-le (32 * k) (members_of blocks) block (omega (arith, full, before)))
        ∙ take-append-le 32 (drop (32 * k) (members_of blocks)) block (omega (arith, left, full, before))))
    at full k d (inr same) =
        subst (λ (n : ℕ). get_or (blocks ++ block ∷ []) n d ≡ take 32 (drop (32 * n) (members_of blocks ++ block))) (sym same)
        (get_or-append_seam blocks block [] d
        ∙ sym (ap (λ (n : ℕ). take 32 (drop n (members_of blocks ++ block))) (sym full)
        ∙ (ap (λ (ms : List T). take 32 ms) (drop-append_seam (members_of blocks) block) ∙ take_all 32 block most)))

pub same_blocks : {T : Type 0} (blocks others : List (List T)) → others ≡ blocks → AreBlocks blocks → AreBlocks others
same_blocks {T} blocks others is are = subst (λ (bs : List (List T)). AreBlocks bs) (sym is) are

-- ---- how many members there are

pub last_is_behind : {T : Type 0} (blocks whole : List (List T)) (last : List T) → blocks ≡ whole ++ last ∷ [] → AreBlocks blocks → 32 * length whole + length last ≡ length (members_of blocks)
last_is_behind {T} blocks whole last is are =
    let count : length blocks ≡ length whole + 1 = ap (λ (bs : List (List T)). length bs) is ∙ length-append whole (last ∷ []) in
    let own : last ≡ take 32 (drop (32 * length whole) (members_of blocks)) =
    sym (ap (λ (bs : List (List T)). get_or bs (length whole) []) is ∙ get_or-append_seam whole last [] []) ∙ are.each (length whole) [] (omega (arith, count)) in
    let left : length (drop (32 * length whole) (members_of blocks)) ≡ length (members_of blocks) - 32 * length whole = length-drop (32 * length whole) (members_of blocks) in
    let long : length last ≡ length (members_of blocks) - 32 * length whole =
    ap (λ (ms : List T). length ms) own
    ∙ (ap (λ (ms : List T). length ms) (take_all 32 (drop (32 * length whole) (members_of blocks)) (omega (arith, left, are.most, count))) ∙ left) in
    omega (arith, long, are.least, count)

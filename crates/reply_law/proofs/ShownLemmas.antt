-- What stands is the same as what a snapshot shows, or differs from it: both have a code, and codes are compared number by
-- number. So there is a right number for what stands.
use Rattle.std.proofs.Common.{◌≡◌, ℕ, ◌+◌, Option, Some, None, ap, refl}
use Rattle.std.specs.Coded.{Coded, codes}
use base.Stored.{Gv, gnil, gnum, gcons}
use native.Mathlib.Decide.{map_dec, ℕ_discrete}
use Rattle.cluster_tree.specs.declared.snapshot.Snapshot.{Snapshot}
use Rattle.xds_history.specs.Right.{IsNumber, Shown, shown}

-- ---- codes

compare_pairs : (a b c d : Gv) → Dec (a ≡ c) → Dec (b ≡ d) → Dec (gcons a b ≡ gcons c d)
compare_pairs a b c d (yes first) (yes second) = yes (cc (first, second))
compare_pairs a b c d (no first) second = no (λ is. first (cc is))
compare_pairs a b c d (yes first) (no second) = no (λ is. second (cc is))

compare_codes : (a b : Gv) → Dec (a ≡ b)
compare_codes gnil gnil = yes refl
compare_codes gnil (gnum n) = no (λ is. absurd (cc is))
compare_codes gnil (gcons c d) = no (λ is. absurd (cc is))
compare_codes (gnum m) gnil = no (λ is. absurd (cc is))
compare_codes (gnum m) (gnum n) = map_dec (ap gnum) (λ is. cc is) (ℕ_discrete m n)
compare_codes (gnum m) (gcons c d) = no (λ is. absurd (cc is))
compare_codes (gcons a b) gnil = no (λ is. absurd (cc is))
compare_codes (gcons a b) (gnum n) = no (λ is. absurd (cc is))
compare_codes (gcons a b) (gcons c d) = compare_pairs a b c d (compare_codes a c) (compare_codes b d)

-- ---- what snapshots show

shown_code : Coded Shown
shown_code = hlevel codes

compare_shown : (now last : Shown) → Dec (now ≡ last)
compare_shown now last = map_dec (shown_code.inj now last) (ap shown_code.code) (compare_codes (shown_code.code now) (shown_code.code last))

-- ---- numbers

-- the number under which what stands is rightly published after the last snapshot, or none where it isn't published
abbrev pub HasNumber : Option Shown → Option Snapshot → Type 0
HasNumber stands last = (number : Option ℕ) × IsNumber stands last number

number_after : (stands : Shown) (last : Snapshot) → Dec (stands ≡ shown last) → HasNumber (Some stands) (Some last)
number_after stands last (yes same) = (None, same)
number_after stands last (no differs) = (Some (last.number + 1), (refl, differs))

pub number_for : (stands : Option Shown) (last : Option Snapshot) → HasNumber stands last
number_for None last = (None, refl)
number_for (Some stands) None = (Some 1, refl)
number_for (Some stands) (Some last) = number_after stands last (compare_shown stands (shown last))

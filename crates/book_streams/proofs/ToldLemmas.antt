-- The names that are kept, once those of one authority more are.
use Rattle.std.proofs.Common.{◌≡◌, ◌==◌, ℕ, Bool, true, false, if◌then◌else◌, List, Some, eqb-true, refl, sym, ap, ◌∙◌}
use Rattle.std.proofs.lemmas.Option.{same_Some}
use Rattle.xc_base.specs.declared.names.Key.{Key}
use Rattle.ads_stream.specs.declared.request_names.Names.{Names}
use Rattle.book_streams.specs.declared.told_keys.KeptNames.{KeptNames}
use Rattle.book_streams.specs.StreamsKept.{names_among, place_of}
use Rattle.book_streams.specs.ToldNames.{AreNamesAmong, kept_for}

pub kept_more : (keys : List Key) (old new : KeptNames) (at : ℕ) (names : Names) → AreNamesAmong keys old → names ≡ names_among keys (place_of at) →
    ((place : ℕ) → kept_for new place ≡ (if at == place then Some names else kept_for old place)) → AreNamesAmong keys new
kept_more keys old new at names are is after place found kept = by (at == place) refl
  where
    by : (b : Bool) → (at == place) ≡ b → found ≡ names_among keys (place_of place)
    by true here =
        let put : Some names ≡ Some found = sym (after place ∙ ap (λ (b : Bool). if b then Some names else kept_for old place) here) ∙ kept in
        sym (same_Some names found put) ∙ is ∙ ap (λ (n : ℕ). names_among keys (place_of n)) (eqb-true at place here)
    by false other = are place found (sym (after place ∙ ap (λ (b : Bool). if b then Some names else kept_for old place) other) ∙ kept)

-- The names that are kept beside the keys that streams were told.
use Rattle.std.specs.Prelude.{◌≡◌, ℕ, List, Option, Some}
use Rattle.std.specs.BTreeMap.{get}
use Rattle.std.specs.Ordering.{nat_cmp}
use Rattle.xc_base.specs.declared.names.Key.{Key}
use Rattle.ads_stream.specs.declared.request_names.Names.{Names}
use Rattle.book_streams.specs.declared.told_keys.KeptNames.{KeptNames}
use Rattle.book_streams.specs.StreamsKept.{names_among, place_of}

-- the names that are kept for the authority at a place
abbrev pub kept_for : KeptNames → ℕ → Option Names
kept_for kept place = get nat_cmp kept.names place

-- what is kept for an authority are its names among these keys
abbrev pub AreNamesAmong : List Key → KeptNames → Type 0
AreNamesAmong keys kept = (place : ℕ) (names : Names) → kept_for kept place ≡ Some names → names ≡ names_among keys (place_of place)

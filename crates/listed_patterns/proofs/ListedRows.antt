-- Lines that list patterns, read by the definitions.
use Rattle.std.specs.Prelude.{◌≡◌, [], ◌∷◌, codes, Some, None, refl}
use Rattle.std.specs.Str.{chars, is_utf8}
use Rattle.std.proofs.Math.Utf8.{encode}
use Rattle.percent_encoding.specs.Percent.{percent_decode}
use Rattle.session_lines.specs.Lines.{lines_of}
use Rattle.session_lines.specs.WordValues.{decoded}
use Rattle.listed_patterns.specs.ListedPatterns.{listed_in}

-- patterns before a request, of which one has an escape and one is empty; a pattern behind the request isn't listed
before_request : listed_in (codes "  pat a%2Cb\n  pat \n  req - x\n  pat c\n2 6 c1 x\n") ≡ Some (codes "a,b" ∷ [] ∷ [])
unfolding listed_in lines_of decoded percent_decode is_utf8 chars encode
before_request = refl

-- the last line lacks its line feed
cut_off : listed_in (codes "  pat a") ≡ Some (codes "a" ∷ [])
unfolding listed_in lines_of decoded percent_decode is_utf8 chars encode
cut_off = refl

-- a line that spells no text, and one that stands behind the list
no_text : listed_in (codes "  pat a\n  pat %FF\n") ≡ None
unfolding listed_in lines_of decoded percent_decode is_utf8 chars encode
no_text = refl

no_text_behind : listed_in (codes "  pat a\n pat b\n  pat %FF\n") ≡ Some (codes "a" ∷ [])
unfolding listed_in lines_of decoded percent_decode is_utf8 chars encode
no_text_behind = refl

none : listed_in [] ≡ Some []
unfolding listed_in lines_of
none = refl

-- What the words of a line say, each by itself (this project's own format).
use Rattle.std.specs.Prelude.{ℕ, List, [], ◌∷◌, length, codes, Bool, not, ◌==◌, ◌&&◌, ◌||◌, nat_lt, nat_le, slice_index, if◌then◌else◌, Option, Some, None, option_and_then}
use Rattle.std.specs.Char.{is_digit}
use Rattle.std.specs.List.{list_all}
use Rattle.std.specs.Str.{bytes_eq, is_utf8}
use Rattle.std.specs.Result.{result_ok}
use Rattle.hex.specs.Hex.{decode_of}
use Rattle.percent_encoding.specs.Percent.{percent_decode}
use Rattle.xc_base.specs.Numbers.{number_of}
use Rattle.xc_base.specs.declared.call.Header.{Header}
use Rattle.xc_base.specs.declared.names.Authority.{Authority}
use Rattle.xc_base.specs.declared.names.State.{State}
use Rattle.xc_base.specs.declared.names.State.TheVariants.{Connecting, Ready, Failing}
use Rattle.xds_bootstrap.specs.Authorities.{authority_of}
use Rattle.xds_bootstrap.specs.declared.bootstrap.AuthorityEntry.{AuthorityEntry}
use Rattle.xds_name.specs.NameTexts.{after, cut_at}

-- ---- authorities: `-` is the default one, and `+` and a name a named one

abbrev pub default : Authority
default = record { 0 = 0 }

unfoldable pub authority_in : List AuthorityEntry → List ℕ → Option Authority
authority_in entries word =
    if bytes_eq word (codes "-") then Some default else option_and_then (λ name. authority_of entries name) (after (codes "+") word)

-- ---- numbers

-- a number that is at most this one
abbrev pub at_most : ℕ → Option ℕ → Option ℕ
at_most most found = option_and_then (λ n. if nat_le n most then Some n else None) found

-- a number up to this one, written in decimal digits without a leading zero
unfoldable pub number_up_to : ℕ → List ℕ → Option ℕ
number_up_to most word = at_most most (number_of word)

-- the same, from this one on
unfoldable pub number_within : ℕ → ℕ → List ℕ → Option ℕ
number_within least most word = option_and_then (λ n. if nat_le least n then Some n else None) (number_up_to most word)

abbrev pub all_digits : List ℕ → Bool
all_digits word = list_all (λ b. is_digit b 10) word

-- a number of any length, written so
unfoldable pub is_number : List ℕ → Bool
is_number word = not (length word == 0) && all_digits word && ((length word == 1) || not (slice_index word 0 == 48))

-- ---- data: hexadecimal digits, which may have either case, of at least one byte

unfoldable pub bytes_in : List ℕ → Option (List ℕ)
bytes_in word = if length word == 0 then None else result_ok (decode_of word)

-- ---- states: an idle endpoint counts as connecting

unfoldable pub state_in : List ℕ → Option State
state_in word =
    if bytes_eq word (codes "idle") then Some Connecting
    else if bytes_eq word (codes "connecting") then Some Connecting
    else if bytes_eq word (codes "ready") then Some Ready
    else if bytes_eq word (codes "failing") then Some Failing
    else None

-- ---- paths

abbrev pub path_in : List ℕ → Option (List ℕ)
path_in word = if slice_index word 0 == 47 then Some word else None

-- ---- header fields

-- a lower-case letter, a digit, or one of `-`, `_` and `.`
unfoldable pub is_name_byte : ℕ → Bool
is_name_byte b = (nat_le 97 b && nat_le b 122) || (nat_le 48 b && nat_le b 57) || (b == 45) || (b == 95) || (b == 46)

abbrev pub is_name : List ℕ → Bool
is_name name = not (length name == 0) && list_all is_name_byte name

-- the text that a value decodes to: each `%` with two hexadecimal digits after it is one byte
unfoldable pub decoded : List ℕ → Option (List ℕ)
decoded value = if is_utf8 (percent_decode value) then Some (percent_decode value) else None

abbrev pub field_with : List ℕ → Option (List ℕ) → Option Header
field_with name None = None
field_with name (Some value) = if is_name name then Some record { name = name; value = value } else None

abbrev pub field_of : Option (List ℕ × List ℕ) → Option Header
field_of None = None
field_of (Some parts) = field_with parts.0 (decoded parts.1)

-- a name, `=` and a value
unfoldable pub field_in : List ℕ → Option Header
field_in word = field_of (cut_at 61 word)

-- all of them, in their order
abbrev pub and_fields : Option Header → Option (List Header) → Option (List Header)
and_fields None fields = None
and_fields (Some field) None = None
and_fields (Some field) (Some fields) = Some (field ∷ fields)

unfoldable pub all_fields : List (List ℕ) → Option (List Header)
all_fields [] = Some []
all_fields (word ∷ words) = and_fields (field_in word) (all_fields words)

-- at most 64 fields
unfoldable pub fields_in : List (List ℕ) → Option (List Header)
fields_in words = if nat_lt 64 (length words) then None else all_fields words

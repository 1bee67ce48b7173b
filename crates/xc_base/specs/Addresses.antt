-- Addresses: a numeric host and a port. IPv4 text is dotted decimal; IPv6 text is that of RFC 4291, 2.2, forms 1 and 2, and stands in brackets before a port (RFC 3986, 3.2.2).
use Rattle.std.specs.Prelude.{◌≡◌, ℕ, ◌+◌, ◌≤◌, ◌⊎◌, ◌↔◌, Bool, false, ◌&&◌, ◌||◌, ◌==◌, nat_lt, nat_le, if◌then◌else◌, IsTrue, List, [], ◌∷◌, ◌++◌, length, drop, slice_index, codes, Option, Some, None, IsSome, Result, Ok, Err}
use Rattle.std.specs.Char.{is_digit}
use Rattle.std.specs.Fmt.{decimal}
use Rattle.std.specs.List.{AllPass, list_all, list_any, join_with_byte, slice_split, before_first, after_first}
use Rattle.std.specs.Option.{option_map_or}
use Rattle.std.specs.Str.{str_to_ascii_lowercase}
use Rattle.xc_base.specs.Numbers.{number_of}
use Rattle.xc_base.specs.declared.addresses.AddressFault.{AddressFault}
use Rattle.xc_base.specs.declared.addresses.AddressFault.TheVariants.{NotNumeric, Memory}

-- n parts that pass the test, joined by the byte
pub record IsJoined (byte : ℕ) (test : List ℕ → Bool) (n : ℕ) (text : List ℕ) : Type 0 where
  pub parts : List (List ℕ)
  pub count : length parts ≡ n
  pub passes : AllPass test parts
  pub spelled : text ≡ join_with_byte byte parts

-- a number up to this one, written in decimal
unfoldable pub is_number_up_to : ℕ → List ℕ → Bool
is_number_up_to most text = option_map_or (λ n. nat_le n most) (number_of text) false

-- one to four hexadecimal digits
abbrev pub is_group : List ℕ → Bool
is_group text = nat_lt 0 (length text) && nat_le (length text) 4 && list_all (λ b. is_digit b 16) text

-- four decimal numbers 0 to 255 joined by dots
abbrev pub IsIpv4 : List ℕ → Type 0
IsIpv4 host = IsJoined 46 (is_number_up_to 255) 4 host

-- some groups joined by colons
abbrev pub AreGroups : ℕ → List ℕ → Type 0
AreGroups n text = IsJoined 58 is_group n text

-- at most seven groups with one `::` between or beside them
pub record IsElided (host : List ℕ) : Type 0 where
  pub before : List ℕ
  pub after : List ℕ
  pub m : ℕ
  pub n : ℕ
  pub few : m + n ≤ 7
  pub before_groups : AreGroups m before
  pub after_groups : AreGroups n after
  pub spelled : host ≡ before ++ codes "::" ++ after

-- eight groups joined by colons, or fewer with `::`
abbrev pub IsIpv6 : List ℕ → Type 0
IsIpv6 host = AreGroups 8 host ⊎ IsElided host

abbrev pub IsNumericHost : List ℕ → Type 0
IsNumericHost host = IsIpv4 host ⊎ IsIpv6 host

abbrev pub IsPort : ℕ → Type 0
IsPort port = (1 ≤ port) × (port ≤ 65535)

-- a host, in brackets where it has a colon, and its port after a colon
abbrev pub address_text : List ℕ → ℕ → List ℕ
address_text host port =
    (if list_any (λ b. b == 58) host then codes "[" ++ host ++ codes "]" else host) ++ codes ":" ++ decimal port

-- the text of a numeric host and a port
pub record IsAddress (text : List ℕ) : Type 0 where
  pub host : List ℕ
  pub port : ℕ
  pub numeric : IsNumericHost host
  pub in_range : IsPort port
  pub spelled : text ≡ address_text host port

-- The same as tests that compute.

-- the parts between the bytes
abbrev pub parts_at : ℕ → List ℕ → List (List ℕ)
parts_at byte text = slice_split (λ b. b == byte) text

unfoldable pub is_ipv4 : List ℕ → Bool
is_ipv4 host = (length (parts_at 46 host) == 4) && list_all (is_number_up_to 255) (parts_at 46 host)

-- the groups between the colons, none in an empty text
abbrev pub groups_of : List ℕ → List (List ℕ)
groups_of [] = []
groups_of (b ∷ bs) = parts_at 58 (b ∷ bs)

-- the byte before the first of two texts
abbrev pub with_first : ℕ → Option (List ℕ × List ℕ) → Option (List ℕ × List ℕ)
with_first b None = None
with_first b (Some p) = Some (b ∷ p.0, p.1)

-- what stands before the first `::`, and what stands after it
abbrev pub around_elision : List ℕ → Option (List ℕ × List ℕ)
around_elision [] = None
around_elision (b ∷ bs) = if (b == 58) && (slice_index bs 0 == 58) then Some ([], drop 1 bs) else with_first b (around_elision bs)

abbrev pub are_few_groups : List ℕ × List ℕ → Bool
are_few_groups p =
    nat_le (length (groups_of p.0) + length (groups_of p.1)) 7 && list_all is_group (groups_of p.0) && list_all is_group (groups_of p.1)

abbrev pub are_eight_groups : List ℕ → Bool
are_eight_groups host = (length (parts_at 58 host) == 8) && list_all is_group (parts_at 58 host)

unfoldable pub is_ipv6 : List ℕ → Bool
is_ipv6 host = option_map_or are_few_groups (around_elision host) (are_eight_groups host)

abbrev pub is_in_port_range : ℕ → Bool
is_in_port_range port = nat_lt 0 port && nat_le port 65535

unfoldable pub is_port : List ℕ → Bool
is_port text = option_map_or is_in_port_range (number_of text) false

abbrev pub is_numeric_host : List ℕ → Bool
is_numeric_host host = is_ipv4 host || is_ipv6 host

-- a port after a colon
abbrev pub is_colon_port : List ℕ → Bool
is_colon_port text = (slice_index text 0 == 58) && is_port (drop 1 text)

abbrev pub is_ipv4_with_port : List ℕ → Bool
is_ipv4_with_port text = is_ipv4 (before_first (λ b. b == 58) text) && is_port (after_first (λ b. b == 58) text)

-- what stands after an opening bracket
abbrev pub is_ipv6_with_port : List ℕ → Bool
is_ipv6_with_port text = is_ipv6 (before_first (λ b. b == 93) text) && is_colon_port (after_first (λ b. b == 93) text)

unfoldable pub is_address : List ℕ → Bool
is_address text = if slice_index text 0 == 91 then is_ipv6_with_port (drop 1 text) else is_ipv4_with_port text

-- the address that the text is, with its letters in lower case
unfoldable pub address_in : List ℕ → Option (List ℕ)
address_in text = if is_address text then Some (str_to_ascii_lowercase text) else None

-- the address of a host and a port
unfoldable pub address_of : List ℕ → ℕ → Option (List ℕ)
address_of host port =
    if is_numeric_host host && is_in_port_range port then Some (str_to_ascii_lowercase (address_text host port)) else None

-- what `address` and `address_of` answer where this is the address that there is, if there is one
abbrev pub GivesAddress : Option (List ℕ) → Result (List ℕ) AddressFault → Type 0
GivesAddress found (Ok address) = found ≡ Some address
GivesAddress found (Err NotNumeric) = found ≡ None
GivesAddress found (Err Memory) = IsSome found

-- the tests find what the definitions say, and an address reads as itself
pub record AddressesAreNumeric : Type 0 where
  pub hosts : (host : List ℕ) → IsTrue (is_numeric_host host) ↔ IsNumericHost host
  pub addresses : (text : List ℕ) → IsTrue (is_address text) ↔ IsAddress text
  pub stays : (text address : List ℕ) → address_in text ≡ Some address → address_in address ≡ Some address
  pub made : (host : List ℕ) (port : ℕ) (address : List ℕ) → address_of host port ≡ Some address → address_in address ≡ Some address

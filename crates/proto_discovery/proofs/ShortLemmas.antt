-- Resources are no longer than the messages that they come in.
use Rattle.std.proofs.Common.{◌≡◌, ◌≤◌, ℕ, List, [], length, Option, Some, None, Result, Ok, Err, ap, arith}
use Rattle.std.specs.Prelude.{unwrap_or, All, IfSome}
use Rattle.proto_wire.specs.Reading.{◌>>=◌}
use Rattle.proto_wire.specs.FieldValues.{delimited_len, last_bytes, last_text, read_repeated, read_singular}
use Rattle.proto_wire.specs.Wire.{WireField, fields}
use Rattle.proto_wire.proofs.WithinLemmas.{both_ok, fields-within, last_bytes-within, read_repeated-within, read_singular-within}
use Rattle.proto_discovery.specs.Any.{any_of, empty_any}
use Rattle.proto_discovery.specs.declared.any.AnyValue.{AnyValue}

abbrev size : AnyValue → ℕ
size any = length any.value

abbrev size_read : Result AnyValue ℕ → ℕ
size_read (Ok any) = size any
size_read (Err at) = 0

any-short : (bs : List ℕ) (any : AnyValue) → any_of bs ≡ Ok any → size any ≤ length bs
unfolding any_of
any-short bs any e =
    both_ok (fields bs) (λ (fs : List WireField). last_text 1 fs >>= λ (type_url : List ℕ). Ok (record { type_url = type_url; value = last_bytes 2 fs })) any e (λ fs is e'.
    both_ok (last_text 1 fs) (λ (type_url : List ℕ). Ok (record { type_url = type_url; value = last_bytes 2 fs })) any e' (λ type_url tells e''.
    let same = ap size_read e'' in
    let last = last_bytes-within 2 fs in
    let within = fields-within bs fs is in
    omega (arith, same, last, within)))

-- the resources of a response
pub resources-short : (fs : List WireField) (most : ℕ) (resources : List AnyValue) → delimited_len fs ≤ most → read_repeated any_of 2 fs ≡ Ok resources → All (λ any. length any.value ≤ most) resources
resources-short fs most resources le e = read_repeated-within any_of size any-short 2 most fs resources le e

inner_size : (most : ℕ) (inner : Option AnyValue) → IfSome inner (λ any. size any ≤ most) → size (unwrap_or inner empty_any) ≤ most
inner_size most None h = omega arith
inner_size most (Some any) h = h

-- the resource in a wrapper
pub inner-short : (fs : List WireField) (most : ℕ) (inner : Option AnyValue) → delimited_len fs ≤ most → read_singular any_of 2 fs ≡ Ok inner → length (unwrap_or inner empty_any).value ≤ most
inner-short fs most inner le e = inner_size most inner (read_singular-within any_of size any-short 2 most fs inner le e)

-- Fields and the bytes that are lent with them as contracts see them, whichever buffer they lie in.
use Rattle.std.specs.Borrow.{Bor}
use Rattle.std.specs.Prelude.{ℕ, List, map, Option, Some, None}
use Rattle.proto_wire.specs.Wire.{Payload, WireField, varint, eight, bytes, four}
use Rattle.proto_wire.specs.declared.field.Body.{Body}
use Rattle.proto_wire.specs.declared.field.Body.TheVariants.{Varint, Eight, Bytes, Four}
use Rattle.proto_wire.specs.declared.field.Field.{Field}

abbrev pub payload_of : Body → Payload
payload_of (Varint v) = varint v
payload_of (Eight v) = eight v
payload_of (Bytes b) = bytes b.now
payload_of (Four v) = four v

abbrev pub view : Field → WireField
view f = record { at = f.at; number = f.number; payload = payload_of f.body }

abbrev pub views : List Field → List WireField
views = map view

abbrev pub now : Bor (List ℕ) → List ℕ
now b = b.now

-- bytes that are lent, if any
abbrev pub seen_bytes : Option (Bor (List ℕ)) → Option (List ℕ)
seen_bytes None = None
seen_bytes (Some b) = Some b.now

-- a value with the bytes after it
abbrev pub seen : {A : Type 0} → Option (A × Bor (List ℕ)) → Option (A × List ℕ)
seen None = None
seen (Some r) = Some (r.0, r.1.now)

abbrev pub seen_delimited : Option (Bor (List ℕ) × Bor (List ℕ)) → Option (List ℕ × List ℕ)
seen_delimited None = None
seen_delimited (Some r) = Some (r.0.now, r.1.now)

abbrev pub seen_payload : Option (Body × Bor (List ℕ)) → Option (Payload × List ℕ)
seen_payload None = None
seen_payload (Some r) = Some (payload_of r.0, r.1.now)

abbrev pub seen_field : Option (ℕ × Body × Bor (List ℕ)) → Option ((ℕ × Payload) × List ℕ)
seen_field None = None
seen_field (Some r) = Some ((r.0, payload_of r.1), r.2.now)

-- UTF-8 as a test.
use Rattle.std.proofs.Common.{◌≡◌, ℕ, List, true, arith}
use Rattle.std.specs.Str.{IsUtf8}
use Rattle.std.proofs.lemmas.Str.{utf8_valid_len-IsUtf8}
use Rattle.std.proofs.lemmas.Bool.Decides.{nat_tests}
use Rattle.proto_wire.specs.FieldValues.{is_text}

pub is_text-utf8 : (b : List ℕ) → IsUtf8 b → is_text b ≡ true
is_text-utf8 b h = let e = utf8_valid_len-IsUtf8 b h in grind (arith, nat_tests)

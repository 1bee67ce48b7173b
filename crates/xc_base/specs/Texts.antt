-- The bytes of a text.
use Rattle.std.specs.Prelude.{ℕ, List, string_bytes}
use Rattle.xc_base.specs.declared.text.TextBody.{TextBody}
use Rattle.xc_base.specs.declared.text.TextBody.TheVariants.{Short, Long}

-- they lie in the text itself, or in a string
abbrev pub body_bytes : TextBody → List ℕ
body_bytes (Short short) = short.bytes
body_bytes (Long long) = string_bytes long

-- What a response comes to where the texts that are refused as patterns are given.
use Rattle.std.specs.Prelude.{◌≡◌, ◌≢◌, ◌<◌, ℕ, List, Bool, Option, length}
use Rattle.xc_base.specs.declared.names.Kind.{Kind}
use Rattle.proto_discovery.specs.declared.any.AnyValue.{AnyValue}
use Rattle.proto_discovery.specs.Response.{response_of}
use Rattle.resource_check.specs.declared.delivery.Delivery.{Delivery}
use Rattle.resource_check.specs.declared.delivery.Prepared.{Prepared}
use Rattle.resource_check.specs.Deliveries.{AreLawfulIn, IsPrepared, among, parts_in, stops_in, stops_with}
use Rattle.listed_check.specs.declared.listed_resources.ListedParts.{ListedParts}
use Rattle.listed_check.specs.declared.listed_resources.ListedParts.TheVariants as parts
use Rattle.listed_check.specs.declared.listed_preparation.ListedAnswer.{ListedAnswer}
use Rattle.listed_check.specs.declared.listed_preparation.ListedAnswer.TheVariants as answer

-- exactly the listed texts are refused
abbrev pub refuses : List (List ℕ) → List ℕ → Bool
refuses listed = λ text. among text listed

-- ---- the resources of a response

-- what the resources deliver where the listed texts are refused, which are those at which their checks stop
pub record AreDelivered (listed : List (List ℕ)) (kind : Option Kind) (resources : List AnyValue) (delivered : List Delivery) : Type 0 where
  pub parts : delivered ≡ parts_in (refuses listed) kind resources
  pub stops : listed ≡ stops_in (refuses listed) kind resources
  pub lawful : AreLawfulIn kind delivered

abbrev pub AreParts : List (List ℕ) → Option Kind → List AnyValue → ListedParts → Type 0
AreParts listed kind resources (parts.Delivered delivered) = AreDelivered listed kind resources delivered
AreParts listed kind resources parts.OtherTexts = listed ≢ stops_in (refuses listed) kind resources
AreParts listed kind resources parts.Unbuilt = Unit {0}

-- the builder refused a text exactly where the answer says so
abbrev pub TellParts : List (List ℕ) → List (List ℕ) → ListedParts → Type 0
TellParts told tells (parts.Delivered delivered) = tells ≡ told
TellParts told tells parts.OtherTexts = tells ≡ told
TellParts told tells parts.Unbuilt = length told < length tells

-- ---- payloads

-- the texts at which the checks of a payload's resources stop where the listed texts are refused, each once, in the order in
-- which the checks come to them
abbrev pub stops_at : List (List ℕ) → List ℕ → List (List ℕ)
stops_at listed payload = stops_with (refuses listed) (response_of payload)

-- the reading of the bytes, whose refused texts are the listed ones
pub record IsPreparedWith (bytes : List ℕ) (listed : List (List ℕ)) (found : Prepared) : Type 0 where
  pub payload : found.payload ≡ bytes
  pub prepared : IsPrepared found
  pub refused : found.refused ≡ listed

abbrev pub IfPrepared : List ℕ → List (List ℕ) → ListedAnswer → Type 0
IfPrepared payload listed (answer.Prepared prepared) = IsPreparedWith payload listed prepared
IfPrepared payload listed answer.OtherTexts = Unit {0}
IfPrepared payload listed answer.Unbuilt = Unit {0}

-- the checks stop at other texts than the listed ones, or in another order
abbrev pub IfOthers : List ℕ → List (List ℕ) → ListedAnswer → Type 0
IfOthers payload listed (answer.Prepared prepared) = Unit {0}
IfOthers payload listed answer.OtherTexts = listed ≢ stops_at listed payload
IfOthers payload listed answer.Unbuilt = Unit {0}

-- the builder refused a text, and none where another answer is given
abbrev pub TellsUnbuilt : List (List ℕ) → List (List ℕ) → ListedAnswer → Type 0
TellsUnbuilt told tells (answer.Prepared prepared) = tells ≡ told
TellsUnbuilt told tells answer.OtherTexts = tells ≡ told
TellsUnbuilt told tells answer.Unbuilt = length told < length tells

-- ---- one reading

-- a payload and the texts that were refused decide what was prepared
abbrev pub OnePrepared : Type 0
OnePrepared = (a b : Prepared) → IsPrepared a → IsPrepared b → a.payload ≡ b.payload → a.refused ≡ b.refused → a ≡ b

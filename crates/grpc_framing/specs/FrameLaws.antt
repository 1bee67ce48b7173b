-- Laws of the framing.
use Rattle.std.specs.Prelude.{◌≡◌, ◌↔◌, ℕ, ◌<◌, List, All}
use Rattle.grpc_framing.specs.Framing.{Parts, IsCut}
use Rattle.grpc_framing.specs.Cut.{cut}
use Rattle.grpc_framing.specs.FeedRuns.{Call, IsRun, AreFramed}

-- bytes have one cut, and it is the computed one
abbrev pub CutIsTheOnlyOne : Type 0
CutIsTheOnlyOne = (bytes : List ℕ) (parts : Parts) → All (λ byte. byte < 256) bytes → IsCut bytes parts ↔ (parts ≡ cut bytes)

-- in whatever pieces bytes come, they give the same
abbrev pub AnyPieces : Type 0
AnyPieces = (calls : List Call) → IsRun calls → AreFramed calls

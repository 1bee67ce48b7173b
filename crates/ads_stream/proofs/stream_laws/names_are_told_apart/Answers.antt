use Rattle.std.proofs.Common.{◌==◌, refl}
use Rattle.std.specs.Cmp.Lexicographic.{pointwise}
use Rattle.std.proofs.lemmas.Bool.Decides.{Decides-eqb}
use Rattle.std.proofs.lemmas.Slice.Eq.{slice_eq-Decides}
use Rattle.ads_stream.proofs.stream_laws.names_are_told_apart.Goals as goal

pub returns : goal.returns
returns c = λ names others. slice_eq-Decides (λ a b. slice_eq-Decides Decides-eqb a b (pointwise ◌==◌ a b) refl) names others (pointwise (pointwise ◌==◌) names others) refl

-- What the walk found is what the cluster stands for.
use Rattle.std.proofs.Common.{◌≡◌, ℕ, List, [], true, false, sym, ◌∙◌, ap}
use Rattle.std.specs.Prelude.{Ok, Err, if◌then◌else◌}
use Rattle.aggregate_expand.specs.declared.expand_fault.ExpandFault.TheVariants.{Depth}
use Rattle.aggregate_expand.specs.LookedUp.{Name, with_names}
use Rattle.aggregate_expand.specs.Chains.{Table}
use Rattle.aggregate_expand.specs.Leaves.{goes_on, ends, leaves_within}

pub leaves_found : (most : ℕ) (table : Table) (cluster : Name) (start found names : List Name) → goes_on table most cluster ≡ false → start ≡ [] → found ≡ with_names start (ends table most cluster) → names ≡ found →
    leaves_within most table cluster ≡ Ok names
unfolding leaves_within
leaves_found most table cluster start found names free empty is same =
    ap (λ b. if b then Err Depth else Ok (with_names [] (ends table most cluster))) free ∙ ap (λ l. Ok (with_names l (ends table most cluster))) (sym empty) ∙ ap (λ l. Ok l) (sym (same ∙ is))

pub leaves_deep : (most : ℕ) (table : Table) (cluster : Name) → goes_on table most cluster ≡ true → leaves_within most table cluster ≡ Err Depth
unfolding leaves_within
leaves_deep most table cluster deep = ap (λ b. if b then Err Depth else Ok (with_names [] (ends table most cluster))) deep

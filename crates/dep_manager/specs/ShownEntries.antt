-- Which entries of a configuration may be other ones than in the configuration that was handed out last.
use Rattle.std.specs.Prelude.{◌≡◌, ℕ, Bool, false, List, [], length, get_or, replicate, slice_get, Option, None, Some, option_and_then}
use Rattle.xc_base.specs.declared.names.Key.{Key}
use Rattle.xds_config.specs.declared.config.ClusterEntry.{ClusterEntry}
use Rattle.xds_config.specs.declared.config.Config.{Config}

-- each cluster has a mark, and the entry of one that isn't marked stood at its place in what was shown
pub record StandAsShown (marks : List Bool) (shown : Option Config) (config : Config) : Type 0 where
  pub count : length marks ≡ length config.clusters
  pub each : (place : ℕ) (entry : ClusterEntry) → slice_get config.clusters place ≡ Some entry → get_or marks place false ≡ false → option_and_then (λ c. slice_get c.clusters place) shown ≡ Some entry

-- the marks that are handed out: those of the configuration that is
abbrev pub marks_if : Option Key → List Bool → List Bool
marks_if None marks = marks
marks_if (Some key) marks = []

-- the marks that are kept: none is set once the configuration is handed out
abbrev pub marks_left : Option Key → List Bool → List Bool
marks_left None marks = replicate (length marks) false
marks_left (Some key) marks = marks

-- When the timers of trees end (gRFC A56).
use Rattle.std.specs.Prelude.{ℕ, Bool, ◌&&◌, true, min}
use Rattle.std.specs.Option.{option_map_or}
use Rattle.xc_base.specs.declared.names.Time.{Time}
use Rattle.graceful_switch.specs.Takeover.{Pair}
use Rattle.priority_lb.specs.RunningTimers.{first_end, never, run_on}
use Rattle.tree_steps.specs.TreeSteps.{TreeFacts}

-- none of the timers of the trees that run has ended at a time
abbrev pub stand_at : Time → Pair TreeFacts → Bool
stand_at now trees = run_on now trees.serving.children && option_map_or (λ t. run_on now t.children) trees.waiting true

-- when the first timer of the trees that runs ends
abbrev pub trees_end : Pair TreeFacts → ℕ
trees_end trees = min (first_end trees.serving.children) (option_map_or (λ t. first_end t.children) trees.waiting never)

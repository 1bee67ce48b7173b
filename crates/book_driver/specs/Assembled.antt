-- What an update of all that is reached, awaited and configured comes to.
use Rattle.std.specs.Prelude.{◌≡◌, ◌↔◌, true, List, IfSome, IsNone, IsSome}
use Rattle.std.specs.Option.{option_or}
use Rattle.xc_base.specs.declared.names.Time.{Time}
use Rattle.xds_config.specs.Configs.{IsLawfulConfig}
use Rattle.call_journal.specs.declared.entry.Entry.{Entry}
use Rattle.dep_manager.specs.ServedCalls.{IsServing}
use Rattle.dep_manager.specs.ShownEntries.{StandAsShown}
use Rattle.dep_manager.specs.declared.deps.Outcome.{Outcome}
use Rattle.book_trees.specs.xds_history.Setting.{Setting}
use Rattle.book_trees.specs.xds_history.Responses.{Came}
use Rattle.book_trees.specs.xds_history.Pages.{pages}
use Rattle.book_trees.specs.xds_history.References.{references}
use Rattle.driver_step.specs.DriverSteps.{IsAssembly}
use Rattle.driver_step.specs.book_fates.Timing.{NoneWanted}
use Rattle.book_driver.specs.declared.call_refs.CallRefs.{CallRefs}
use Rattle.book_driver.specs.declared.watcher.Watcher.{Watcher}
use Rattle.book_driver.specs.WatcherKept.{IsHeardBy, IsReachedBy, IsTimely, assembly_with}

-- what was heard before is reached now, by the history, with these calls
pub record IsAssembledBy (calls : CallRefs) (old new : Watcher) (o : Outcome) : Type 0 where
  pub reached : (s : Setting) (past : List Entry) (c : Came) (now : Time) → IsHeardBy s past c now old → IsReachedBy s past c now o.reached new
  pub assembly : (s : Setting) (past : List Entry) (c : Came) (now : Time) → IsHeardBy s past c now old → IsTimely s past c.event now calls old.deps.shown → IsAssembly s c past (pages s past) (assembly_with s past o.reached o.missing o.config)
  -- what was made serves the calls
  pub serves : (s : Setting) (past : List Entry) (c : Came) (now : Time) → IsHeardBy s past c now old → IsTimely s past c.event now calls old.deps.shown → IsServing new.deps (references (pages s past))
  -- no reached key is wanted where none is awaited
  pub known : IsNone o.missing → NoneWanted new.fates.cache o.reached
  pub stays : o.stays ≡ true → o.reached ≡ new.fates.reached
  pub whole : IsSome o.config ↔ IsNone o.missing
  pub lawful : IfSome o.config IsLawfulConfig
  pub others : IfSome o.config (λ config. StandAsShown o.others old.deps.shown config)
  pub shown : new.deps.shown ≡ option_or o.config old.deps.shown

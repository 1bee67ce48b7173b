-- What the threads of a session play (this project's own).
use Rattle.std.specs.Prelude.{◌≡◌, List, ◌++◌, length, take}
use Rattle.check_steps.specs.Asking.{IsSubsequence}
use Rattle.config_assembly.specs.Orders.{Name}
use Rattle.closed_book.specs.xds_book.BookViews.{LaneView}

-- the texts that a builder has refused have grown at their end
abbrev pub HasGrown : List Name → List Name → Type 0
HasGrown before after = take (length before) after ≡ before

-- the driver's lane has refused some of the texts by which a builder's have grown, in their order
pub record IsDriverFrom (told tells : List Name) (lane : LaneView) : Type 0 where
  pub driver : lane.actor ≡ 0
  pub texts : List Name
  pub told_them : tells ≡ told ++ texts
  pub among : IsSubsequence lane.refused texts

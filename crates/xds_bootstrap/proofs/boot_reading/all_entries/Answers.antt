use Rattle.std.proofs.Common.{ap}
use Rattle.xds_bootstrap.specs.Document.{all_entries}
use Rattle.xds_bootstrap.proofs.boot_reading.all_entries.Goals as goal

pub returns-clause-gives : goal.returns-clause-gives
unfolding all_entries
returns-clause-gives c = rw (← c.in_ok-default.ensures) c.entries.ensures.gives

pub returns-clause-lawful : goal.returns-clause-lawful
returns-clause-lawful c = c.entries.ensures.lawful (ap (λ e. e.name) c.in_ok-default.ensures)

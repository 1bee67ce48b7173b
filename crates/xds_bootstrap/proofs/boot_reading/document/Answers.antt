use Rattle.xds_bootstrap.proofs.EntryLemmas.{read_text}
use Rattle.xds_bootstrap.proofs.boot_reading.document.Goals as goal

pub returns-in-Ok-from_str : goal.returns-in-Ok-from_str
returns-in-Ok-from_str c = read_text c.args.bytes.now c.in-Ok.text.now _ c.in-Ok.ensures.cases.0 c.in-Ok.ensures.cases.1 c.in-Ok-from_str.ensures.ok

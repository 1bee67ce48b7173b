use Rattle.std.proofs.Common.{◌≡◌, Ok, subst}
use Rattle.xds_bootstrap.specs.Document.{read_bootstrap}
use Rattle.session_input.proofs.BootLemmas.{boot_is}
use Rattle.session_input.proofs.well_formed_input.bootstrap.Goals as goal

pub returns-in-Ok-clause-same : goal.returns-in-Ok-clause-same
returns-in-Ok-clause-same c = λ session spells.
    boot_is c.args.bytes.now c.in-Some.document.now c.in-Ok.boot session c.in-Some.ensures
    (subst (λ document. read_bootstrap document ≡ Ok c.in-Ok.boot) c.as_bytes.ensures.value c.in-Ok.ensures.gives) spells

use Rattle.std.proofs.Common.{◌∙◌, ap, take, drop, length}
use Rattle.std.proofs.lemmas.List.{take_min, drop_min}
use Rattle.std.proofs.Math.Nat.{min_comm}
use Rattle.xds_bootstrap.proofs.bootstrap.named_entries.Goals as goal

pub returns-clause-named : goal.returns-clause-named
returns-clause-named c =
    let entries = c.args.entries.now in
    let rest = c.split_at.result.1.now in
    c.split_at-2.ensures.front
    ∙ ap (λ n. take n rest) (c.min-2.ensures ∙ min_comm (length rest) 65534)
    ∙ take_min 65534 rest
    ∙ ap (take 65534) (c.split_at.ensures.back ∙ ap (λ n. drop n entries) (c.min.ensures ∙ min_comm (length entries) 1) ∙ drop_min 1 entries)

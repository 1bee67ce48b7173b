use Rattle.std.proofs.Common.{rules, ◌≡◌, true}
use Rattle.grpc_framing.specs.Feeding.{is_taken}
use Rattle.grpc_framing.proofs.FaultLemmas.{taken_at, ended_told}
use Rattle.grpc_framing.proofs.frames.Frames.feed.Goals as goal

pub returns-in-Ok-clause-payloads : goal.returns-in-Ok-clause-payloads
returns-in-Ok-clause-payloads c =
    let taken : is_taken c.can_follow-in-Ok.result ≡ true = rw c.can_follow-in-Ok.ensures (taken_at _) in rw taken (search rules)

pub returns-in-Ok-clause-waiting : goal.returns-in-Ok-clause-waiting
returns-in-Ok-clause-waiting c =
    let taken : is_taken c.can_follow-in-Ok.result ≡ true = rw c.can_follow-in-Ok.ensures (taken_at _) in rw taken (search rules)

pub returns-in-Ok-clause-ended : goal.returns-in-Ok-clause-ended
returns-in-Ok-clause-ended c = ended_told c.args.self.now _ c.can_follow-in-Ok.result (search rules) c.can_follow-in-Ok.ensures

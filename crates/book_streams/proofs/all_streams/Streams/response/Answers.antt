use Rattle.book_streams.proofs.PlaceLemmas.{responded_all, responded_verdict}
use Rattle.book_streams.proofs.all_streams.Streams.response.Goals as goal

pub returns-clause-verdict : goal.returns-clause-verdict
returns-clause-verdict c = λ s past payload r refused is told. responded_verdict s past c.args.self.now.states _ c.args.authority payload r c.args.kind refused _ is c.requires told.reads told.kind_is told.error_is c.in_ok-verdict.ensures.verdict

pub returns-clause-after : goal.returns-clause-after
returns-clause-after c = λ s past payload r refused is told. responded_all s past c.args.self.now.states _ c.args.authority payload r c.args.kind refused _ is c.requires told.reads told.kind_is told.error_is (rw (← told.version_is, ← told.nonce_is) c.in_ok-verdict.ensures.ok)

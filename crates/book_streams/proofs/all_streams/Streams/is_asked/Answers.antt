use Rattle.std.proofs.Common.{◌∙◌}
use Rattle.book_streams.specs.StreamsKept.{state_of}
use Rattle.book_streams.proofs.PlaceLemmas.{state_at}
use Rattle.book_streams.proofs.QuietLemmas.{asked_is_kept}
use Rattle.book_streams.proofs.all_streams.Streams.is_asked.Goals as goal

pub returns : goal.returns
returns c = λ s past is. c.asked_at.ensures (state_of s c.args.authority past) (state_at s past c.args.self.now.states c.args.authority is c.requires) ∙ asked_is_kept s c.args.authority past c.args.kind

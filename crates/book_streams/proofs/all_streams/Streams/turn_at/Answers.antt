use Rattle.std.proofs.Common.{slice_set, sym, ap, ◌∙◌}
use Rattle.book_streams.specs.StreamsLaws.{turned_state}
use Rattle.book_streams.proofs.PlaceLemmas.{stays_all}
use Rattle.book_streams.proofs.all_streams.Streams.turn_at.Goals as goal

pub returns-in-Stays-clause-state : goal.returns-in-Stays-clause-state
returns-in-Stays-clause-state c = λ state is. stays_all c.args.self.now.states c.args.place state is ∙ ap (λ t. slice_set c.args.self.now.states c.args.place (turned_state t state)) (sym c.in-Stays.is)

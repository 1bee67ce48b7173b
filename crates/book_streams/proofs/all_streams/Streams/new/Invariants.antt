use Rattle.std.proofs.Common.{◌≡◌, ◌≤◌}
use Rattle.book_streams.proofs.StepLemmas.{unopened_to}
use Rattle.book_streams.proofs.all_streams.Streams.new.Given as goal

abbrev pub invariant-loop-place : goal.invariant-loop-place
invariant-loop-place l = record { few : l.place ≤ l.count; items : l.streams.items ≡ unopened_to l.node l.place }

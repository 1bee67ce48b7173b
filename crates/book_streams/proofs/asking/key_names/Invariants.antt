use Rattle.std.proofs.Common.{◌≡◌, ◌++◌, drop}
use Rattle.book_streams.specs.StreamsKept.{key_names}
use Rattle.book_streams.proofs.asking.key_names.Given as goal

abbrev pub invariant-loop-key : goal.invariant-loop-key
invariant-loop-key l = l.names ++ key_names l.authority l.kind (drop l.key-index l.keys) ≡ key_names l.authority l.kind l.keys

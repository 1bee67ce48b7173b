use Rattle.std.proofs.Common.{◌≤◌, ◌≡◌, vec_len}
use Rattle.std.specs.Io.KnownBytes.{Consumes}
use Rattle.xc_base.proofs.streams.read_all.Given as goal

abbrev pub invariant-loop-turn : goal.invariant-loop-turn
invariant-loop-turn g l = record {
  some : l.turn ≤ vec_len l.bytes;
  room : vec_len l.bytes ≤ l.most;
  left : vec_len l.bytes ≡ l.most → l.most ≤ l.turn;
  bytes : Consumes (g.S.Source.left l.fn.source) (g.S.Source.left l.source) l.bytes.items;
  later : g.S.Source.faults l.fn.source ≤ g.S.Source.faults l.source;
}

use Rattle.std.proofs.Common.{◌∙◌, arith}
use Rattle.proto_wire.proofs.VarintLemmas.{cut_none, cut_empty, cut_last, cut_more}
use Rattle.proto_wire.proofs.varint.+varint_within.Goals as goal

pub returns-then-n-eq0-clause-value : goal.returns-then-n-eq0-clause-value
returns-then-n-eq0-clause-value t c = cut_none c.args.n c.args.bytes.now c.if-n-eq0.true

pub returns-in-empty-clause-value : goal.returns-in-empty-clause-value
returns-in-empty-clause-value t c = cut_empty c.args.n c.args.bytes.now (omega arith)

pub returns-then-first-lt128-clause-value : goal.returns-then-first-lt128-clause-value
returns-then-first-lt128-clause-value t c = cut_last c.args.n c.from.result c.args.bytes.now (omega arith) c.in-len1-up.len_at_least c.if-first-lt128.true c.from.ensures

pub returns-in-Some-clause-value : goal.returns-in-Some-clause-value
returns-in-Some-clause-value t c =
    c.onto_low_before.ensures.value ∙ cut_more c.args.n c.args.bytes.now _ (omega arith) c.in-len1-up.len_at_least c.if-first-lt128.false c.in-Some.ensures.value

pub returns-in-None-clause-value : goal.returns-in-None-clause-value
returns-in-None-clause-value t c = cut_more c.args.n c.args.bytes.now _ (omega arith) c.in-len1-up.len_at_least c.if-first-lt128.false c.in-None.ensures.value

use Rattle.std.proofs.Common.{◌<◌, arith}
use Rattle.proto_wire.proofs.SpellingLemmas.{spelled_none, spelled_last, spelled_more}
use Rattle.proto_wire.proofs.writing.+put_within.Goals as goal

pub returns-then-n-eq0 : goal.returns-then-n-eq0
returns-then-n-eq0 t c = spelled_none c.args.n c.args.v c.args.out.now.items c.if-n-eq0.true

pub returns-then-v-lt128 : goal.returns-then-v-lt128
returns-then-v-lt128 t c =
    let some : 0 < c.args.n = omega arith in
    rw (spelled_last c.args.n c.args.v some c.if-v-lt128.true) c.in_ok-push.ensures.items

pub returns : goal.returns
returns t c =
    let some : 0 < c.args.n = omega arith in
    rw (← spelled_more c.args.n c.args.v c.args.out.now.items some c.if-v-lt128.false, ← c.in_ok-push-2.ensures.items) c.in_ok-put_within.ensures

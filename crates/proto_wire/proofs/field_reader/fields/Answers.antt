use Rattle.std.proofs.Common.{◌≡◌, ◌<◌, ◌-◌, length, sym, ◌∙◌, arith, vec_len}
use Rattle.std.proofs.lemmas.List.{map-append}
use Rattle.proto_wire.specs.View.{views, payload_of}
use Rattle.proto_wire.proofs.LenLemmas.{delimited_len-none, delimited_len-push}
use Rattle.proto_wire.proofs.FieldLemmas.{field_more, field_fails, fields_end, fields_begin, nonempty, emptied}
use Rattle.proto_wire.proofs.field_reader.fields.Goals as goal

pub loop-rest-init : goal.loop-rest-init
loop-rest-init c = record {
  few = omega (arith, c.new-list.ensures.len);
  within = rw (c.new-list.ensures.items, delimited_len-none) (omega arith);
  read = let z : length c.args.bytes.now - length c.args.bytes.now ≡ 0 = omega arith in
      let n : length c.args.bytes.now - vec_len c.new-list.result ≡ length c.args.bytes.now = omega (arith, c.new-list.ensures.len) in
      rw (z, n, c.new-list.ensures.items) (fields_begin c.args.bytes.now);
}

pub returns-in_default-clause-list : goal.returns-in_default-clause-list
returns-in_default-clause-list c =
    let some : 0 < length c.loop-rest.rest.now = nonempty _ (let e = c.is_empty.ensures in let t = c.loop-rest-test.true in cc) in
    sym c.loop-rest.invariant.read ∙ field_fails (views c.loop-rest.list.items) _ _ c.loop-rest.rest.now some c.in_default.ensures.value

pub loop-rest-preserved : goal.loop-rest-preserved
loop-rest-preserved c =
    let some : 0 < length c.loop-rest.rest.now = nonempty _ (let e = c.is_empty.ensures in let t = c.loop-rest-test.true in cc) in
    let inv = c.loop-rest.invariant in
    let len = c.in-Ok.ensures.len in
    let shorter = c.in-Some.ensures.shorter in
    record {
      few = omega (arith, len, shorter, inv.few);
      within = rw (c.in-Ok.ensures.items, map-append, delimited_len-push) (omega (arith, shorter, inv.within));
      read =
          rw (c.in-Ok.ensures.items, map-append)
          (sym (field_more (views c.loop-rest.list.items) (length c.args.bytes.now - vec_len c.loop-rest.list) (length c.args.bytes.now - vec_len c.push.new.self) (length c.args.bytes.now - length c.loop-rest.rest.now) (length c.args.bytes.now - length c.in-Some.after.now) c.in-Some.number (payload_of c.in-Some.body) c.loop-rest.rest.now c.in-Some.after.now some (omega (arith, len, inv.few, some)) (omega (arith, shorter, inv.few)) c.in-Some.ensures.value) ∙ inv.read);
    }

pub returns-clause-list : goal.returns-clause-list
returns-clause-list c =
    sym c.loop-rest.invariant.read ∙ fields_end (views c.loop-rest.list.items) _ _ c.loop-rest.rest.now (emptied _ (let e = c.is_empty.ensures in let t = c.loop-rest-test.false in cc))

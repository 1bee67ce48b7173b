use Rattle.std.proofs.Common.{◌≡◌, List, Some, slice_set, refl, sym, subst, ap, ◌∙◌, ◌+◌, arith}
use Rattle.std.specs.Prelude.{IfSome}
use Rattle.xc_base.specs.declared.names.Key.{Key}
use Rattle.ads_stream.specs.StreamSteps.{IsSettledBut}
use Rattle.book_streams.specs.StreamsKept.{names_among, place_of}
use Rattle.book_streams.specs.Settling.{AreKept, IsTelling}
use Rattle.book_streams.proofs.DueLemmas.{settled_given}
use Rattle.book_streams.proofs.TellLemmas.{all_sent_now, all_told_now, kept_but, telling_begins, telling_keeps, telling_passed, telling_same, telling_told}
use Rattle.book_streams.proofs.marked_streams.tell_marked.Goals.{then-is_marked+in_ok-tell, else-is_marked}
use Rattle.book_streams.proofs.marked_streams.tell_marked.Goals as goal

pub loop-place-init : goal.loop-place-init
loop-place-init c = record {
  telling =
      subst (λ sent. IsTelling (names_among c.args.told.now) c.args.streams.now.items c.args.streams.now.items c.args.marks.now sent c.first-place.result c.end-place-end.result) (sym c.new-sent.ensures)
      (telling_begins c.args.streams.now.items c.args.marks.now c.args.told.now c.first-place.result c.end-place-end.result c.requires.kept c.first-place.ensures.none c.end-place-end.ensures.none c.first-place.ensures.within c.end-place-end.ensures.within);
  told = refl;
}

pub tell-requires : goal.tell-requires
tell-requires c = record {
  settled =
      subst (λ (keys : List Key). IfSome c.kind_at-kind.result (λ kind. IsSettledBut c.index_mut.result.now (names_among keys (place_of c.loop-place.place)) kind)) (sym c.loop-place.invariant.told)
      (settled_given (names_among c.args.told.now) c.args.streams.now.items c.loop-place.streams.items c.loop-place.marks c.loop-place.sent c.loop-place.place c.end-place-end.result c.args.due c.index_mut.result.now c.kind_at-kind.result
      c.loop-place.invariant.telling c.requires.due (omega (arith, c.loop-place-test.true)) c.index_mut.ensures.value c.kind_at-kind.ensures);
}

pub returns-in_err-tell-clause-kept : goal.returns-in_err-tell-clause-kept
returns-in_err-tell-clause-kept c =
    subst (λ keys. AreKept (slice_set c.loop-place.streams.items c.loop-place.place c.tell.new.stream) c.loop-place.marks keys) (sym (c.tell.ensures.told ∙ c.loop-place.invariant.told))
    (kept_but c.loop-place.streams.items c.loop-place.marks c.args.told.now c.loop-place.place c.tell.new.stream
    (telling_keeps c.args.streams.now.items c.loop-place.streams.items c.loop-place.marks c.args.told.now c.loop-place.sent c.loop-place.place c.end-place-end.result c.requires.kept.few c.loop-place.invariant.telling)
    (c.is_marked.ensures ∙ ap (λ b. Some b) c.if-is_marked.true))

pub loop-place-preserved : goal.loop-place-preserved
loop-place-preserved c = elim c.if-is_marked.branch [
  | then-is_marked+in_ok-tell w ↦
      let same : c.loop-place.told ≡ c.args.told.now = c.loop-place.invariant.told in record {
        telling =
            telling_same (names_among c.args.told.now) c.args.streams.now.items _ _ _ _ _ _ (c.loop-place.place + 1) c.end-place-end.result (ap (λ v. v.items) w.streams-is) c.pass.ensures w.sent-is
            (telling_told (names_among c.args.told.now) c.args.streams.now.items c.loop-place.streams.items c.loop-place.marks c.loop-place.sent c.loop-place.place c.end-place-end.result c.loop-place.invariant.telling
            (c.loop-place.place + 1) w.index_mut.result.now w.tell.new.stream w.tell.new.sent refl (omega (arith, c.loop-place-test.true)) w.index_mut.ensures.value (rw (← same) w.in_ok-tell.ensures.state) (rw (← same) w.in_ok-tell.ensures.sent));
        told = w.told-is ∙ w.tell.ensures.told ∙ same;
      }
  | else-is_marked w ↦ record {
    telling =
        telling_same (names_among c.args.told.now) c.args.streams.now.items _ _ _ _ _ _ (c.loop-place.place + 1) c.end-place-end.result (ap (λ v. v.items) w.streams-is) c.pass.ensures w.sent-is
        (telling_passed (names_among c.args.told.now) c.args.streams.now.items c.loop-place.streams.items c.loop-place.marks c.loop-place.sent c.loop-place.place c.end-place-end.result c.loop-place.invariant.telling
        (c.loop-place.place + 1) refl (omega (arith, c.loop-place-test.true)) (c.is_marked.ensures ∙ ap (λ b. Some b) w.if-is_marked.false));
    told = w.told-is ∙ c.loop-place.invariant.told;
  }
]

pub returns-clause-sent : goal.returns-clause-sent
returns-clause-sent c =
    all_sent_now (names_among c.args.told.now) c.args.streams.now.items c.loop-place.streams.items c.loop-place.marks c.loop-place.sent c.loop-place.place c.end-place-end.result c.loop-place.invariant.telling (omega (arith, c.loop-place-test.false))

pub returns-clause-state : goal.returns-clause-state
returns-clause-state c =
    all_told_now (names_among c.args.told.now) c.args.streams.now.items c.loop-place.streams.items c.loop-place.marks c.loop-place.sent c.loop-place.place c.end-place-end.result c.loop-place.invariant.telling (omega (arith, c.loop-place-test.false))

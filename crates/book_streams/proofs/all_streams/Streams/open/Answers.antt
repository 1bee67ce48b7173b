use Rattle.std.proofs.Common.{List, slice_set, sym, subst, ap, ap₂, ◌∙◌}
use Rattle.ads_stream.specs.StreamSteps.{opened}
use Rattle.book_streams.specs.StreamsKept.{StreamsKept, names_among}
use Rattle.book_streams.specs.Settling.{AreKept}
use Rattle.ads_stream.specs.declared.stream.StreamState.{StreamState}
use Rattle.book_streams.proofs.DueLemmas.{any_settled}
use Rattle.book_streams.proofs.TellLemmas.{item_at, kept_marked}
use Rattle.book_streams.proofs.all_streams.Streams.open.Goals as goal

pub invariant_of-self : goal.invariant_of-self
invariant_of-self c =
    let now : List StreamState = slice_set c.self.inside.streams.items c.args.place c.opened.new.self in (
      subst (λ marks. AreKept now marks c.self.inside.told) (sym c.mark.ensures)
          (kept_marked c.self.inside.streams.items c.self.inside.marks c.self.inside.told c.args.place c.opened.new.self c.self.invariant.0),
      any_settled now (names_among c.self.inside.told),
    )

pub returns-clause-state : goal.returns-clause-state
returns-clause-state c = λ state at.
    ap₂ (λ states x. slice_set states c.args.place x) (ap (λ (b : StreamsKept). b.states) c.self.view_is)
    (c.opened.ensures ∙ ap opened (item_at c.args.self.now.states c.self.inside.streams.items c.args.place c.index_mut.result.now state (ap (λ (b : StreamsKept). b.states) c.self.view_is) c.requires c.index_mut.ensures.value at))

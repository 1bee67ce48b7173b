use Rattle.std.proofs.Common.{◌<◌, List, length, slice_set, sym, subst}
use Rattle.std.specs.Option.{option_copied}
use Rattle.ads_stream.specs.declared.stream.StreamState.{StreamState}
use Rattle.book_streams.specs.StreamsKept.{StreamsKept, names_among}
use Rattle.book_streams.specs.DueRequests.{AreSettledBut}
use Rattle.book_streams.specs.Settling.{AreKept}
use Rattle.book_streams.proofs.DueLemmas.{settled_responded}
use Rattle.book_streams.proofs.TellLemmas.{kept_marked}
use Rattle.book_streams.proofs.all_streams.Streams.respond.Goals as goal

pub invariant_of-self : goal.invariant_of-self
invariant_of-self c =
    let now : List StreamState = slice_set c.self.inside.streams.items c.args.place c.response.new.self in
    let inside : c.args.place < length c.self.inside.streams.items = subst (λ (b : StreamsKept). c.args.place < length b.states) (sym c.self.view_is) c.requires in (
      subst (λ marks. AreKept now marks c.self.inside.told) (sym c.mark.ensures)
          (kept_marked c.self.inside.streams.items c.self.inside.marks c.self.inside.told c.args.place c.response.new.self c.self.invariant.0),
      subst (λ due. AreSettledBut now (names_among c.self.inside.told) due) (sym c.after_response-self-inside.ensures)
          (settled_responded c.self.inside.streams.items c.self.inside.marks c.self.inside.told c.args.place c.args.kind c.index_mut.result.now c.response.new.self c.is_marked.result c.args.version.now c.args.nonce.now (option_copied c.args.error) c.response.result c.self.invariant.0 inside c.index_mut.ensures.value c.is_marked.ensures c.response.ensures.ok c.response.ensures.err),
    )

use Rattle.std.proofs.Common.{◌≡◌, Some, None, sym, refl, ◌∙◌, ap}
use Rattle.std.specs.Prelude.{Ok, Err, slice_get}
use Rattle.book_picks.specs.declared.kept_turns.Turns.{Turns}
use Rattle.book_picks.proofs.RowLemmas.{IsFound, none_held, rowless, seen_held, turns_for, takes_turn}
use Rattle.book_picks.proofs.kept_turns.Turns.pick_held.Goals as goal

pub returns-in_default-clause-reply : goal.returns-in_default-clause-reply
returns-in_default-clause-reply c ps are shows = none_held ps c.args.self.now c.args.word c.args.cluster.now c.args.snapshot.now are shows (sym c.in_default.ensures.value)

pub returns-in_default-row_at-clause-reply : goal.returns-in_default-row_at-clause-reply
returns-in_default-row_at-clause-reply c ps are shows = absurd (rowless ps c.args.self.now c.args.cluster.now c.args.snapshot.now c.in-Some.place.now are shows (sym c.in-Some.ensures.value) (sym c.in_default-row_at.ensures))

pub returns-in_default-view_at-clause-reply : goal.returns-in_default-view_at-clause-reply
returns-in_default-view_at-clause-reply c ps are shows =
    let found : IsFound c.args.self.now c.args.cluster.now c.in-Some.place.now c.in-Some-row_at.row.now = record { place_is = sym c.in-Some.ensures.value; row_is = sym c.in-Some-row_at.ensures } in
    let none : slice_get c.args.snapshot.now.trees c.in-Some.place.now ≡ None = sym c.in_default-view_at.ensures in
    seen_held ps c.args.self.now c.args.word c.args.cluster.now c.args.snapshot.now c.in-Some.place.now c.in-Some-row_at.row.now None are shows found none

pub returns-in-Ok-clause-reply : goal.returns-in-Ok-clause-reply
returns-in-Ok-clause-reply c ps are shows =
    let found : IsFound c.args.self.now c.args.cluster.now c.in-Some.place.now c.in-Some-row_at.row.now = record { place_is = sym c.in-Some.ensures.value; row_is = sym c.in-Some-row_at.ensures } in
    let seen : slice_get c.args.snapshot.now.trees c.in-Some.place.now ≡ Some (Ok c.view-view.result.now) =
    sym c.in-Some-view_at.ensures ∙ ap (λ v. Some v) (c.in-Ok.is ∙ ap (λ v. Ok v) (sym (c.view-view.ensures ∙ c.get-in-Ok.ensures))) in
    c.pick_in.ensures.reply ps c.args.cluster.now (turns_for ps c.args.self.now c.args.cluster.now c.args.snapshot.now c.in-Some.place.now c.in-Some-row_at.row.now c.view-view.result.now are shows found seen)
    ∙ seen_held ps c.args.self.now c.args.word c.args.cluster.now c.args.snapshot.now c.in-Some.place.now c.in-Some-row_at.row.now (Some (Ok c.view-view.result.now)) are shows found seen

pub returns-in-Ok-clause-takes : goal.returns-in-Ok-clause-takes
returns-in-Ok-clause-takes c ps are shows =
    let found : IsFound c.args.self.now c.args.cluster.now c.in-Some.place.now c.in-Some-row_at.row.now = record { place_is = sym c.in-Some.ensures.value; row_is = sym c.in-Some-row_at.ensures } in
    let seen : slice_get c.args.snapshot.now.trees c.in-Some.place.now ≡ Some (Ok c.view-view.result.now) =
    sym c.in-Some-view_at.ensures ∙ ap (λ v. Some v) (c.in-Ok.is ∙ ap (λ v. Ok v) (sym (c.view-view.ensures ∙ c.get-in-Ok.ensures))) in
    let new : Turns = record { alloc = c.args.self.now.alloc; counts = c.pick_in.new.counts; places = c.args.self.now.places; rows = c.args.self.now.rows } in
    takes_turn ps c.args.self.now new c.args.cluster.now c.args.snapshot.now c.in-Some.place.now c.in-Some-row_at.row.now c.view-view.result.now c.pick_in.result are shows found seen c.pick_in.ensures.child refl refl c.pick_in.ensures.counts

pub returns-in-Err-clause-reply : goal.returns-in-Err-clause-reply
returns-in-Err-clause-reply c ps are shows =
    let found : IsFound c.args.self.now c.args.cluster.now c.in-Some.place.now c.in-Some-row_at.row.now = record { place_is = sym c.in-Some.ensures.value; row_is = sym c.in-Some-row_at.ensures } in
    let seen : slice_get c.args.snapshot.now.trees c.in-Some.place.now ≡ Some (Err c.in-Err.reason) =
    sym c.in-Some-view_at.ensures ∙ ap (λ v. Some v) c.in-Err.is in
    seen_held ps c.args.self.now c.args.word c.args.cluster.now c.args.snapshot.now c.in-Some.place.now c.in-Some-row_at.row.now (Some (Err c.in-Err.reason)) are shows found seen

-- What the steps of a Book make of a lane.
use Rattle.std.proofs.Common.{◌≡◌, ℕ, List, [], ◌∷◌, Option, Some, None, refl, sym, ap, ◌∙◌, subst, append-nil, inl}
use Rattle.std.specs.Prelude.{option_map}
use Rattle.xc_base.specs.declared.call.Call.{Call}
use Rattle.xc_base.specs.declared.names.Kind.{Kind}
use Rattle.cluster_tree.specs.declared.snapshot.Snapshot.{Snapshot}
use Rattle.resource_check.specs.declared.delivery.Prepared.{Prepared}
use Rattle.call_journal.specs.declared.event.CallerEvent.{CallerEvent}
use Rattle.call_journal.specs.declared.event.DriverEvent.{DriverEvent}
use Rattle.call_journal.specs.declared.reply.CallerReply.{CallerReply}
use Rattle.call_journal.specs.declared.entry.What.{What}
use Rattle.call_journal.specs.declared.plan.Count.{Count}
use Rattle.check_steps.specs.Asking.{IsSubsequence}
use Rattle.config_assembly.specs.Orders.{Name}
use Rattle.planned_calls.specs.xds_history.Setting.{Setting}
use Rattle.planned_calls.specs.xds_history.Page.{latest, latest_number}
use Rattle.planned_calls.specs.xds_history.Pages.{pages}
use Rattle.planned_calls.specs.xds_history.Responses.{answered_kind}
use Rattle.planned_calls.specs.xds_history.Right.{pin_reply}
use Rattle.book_progress.specs.ActorCounts.{count_after}
use Rattle.lane_checks.specs.book_hearing.HeardEvents.{texts_of}
use Rattle.lane_checks.specs.xds_book.BookEntries.{Drives, IsTokenOf, answered_call, lane_after, texts_for}
use Rattle.lane_checks.specs.xds_book.BookViews.{BookView, LaneView, PinnedView}
use Rattle.channel_calls.specs.LockedBooks.{IsAfterEvent, IsAfterPin}

abbrev lane_with : LaneView → Count → List Name → LaneView
lane_with lane count texts = record { actor = lane.actor; count = count; refused = texts }

-- ---- callers

-- a caller's step refuses no text
called_lane : (lane : LaneView) (event : CallerEvent) (reply : CallerReply) → lane_after (What.Caller event reply) lane ≡ lane_with lane (count_after (What.Caller event reply) lane.count) lane.refused
called_lane lane event reply = ap (λ (texts : List Name). lane_with lane (count_after (What.Caller event reply) lane.count) texts) (append-nil lane.refused)

no_number : (last : Option Snapshot) → last ≡ None → option_map (λ (x : Snapshot). x.number) last ≡ None
no_number None is = refl
no_number (Some x) is = absurd (cc is)

some_number : (last : Option Snapshot) (x : Snapshot) → last ≡ Some x → option_map (λ (y : Snapshot). y.number) last ≡ Some x.number
some_number last x is = ap (λ (o : Option Snapshot). option_map (λ (y : Snapshot). y.number) o) is

-- a pin, whose token says whether there was a snapshot
pub pinned_lane : (lane after : LaneView) (s : Setting) (old new : BookView) (call : Call) (token : Option PinnedView) → after ≡ lane_after (answered_call s old.entries (CallerEvent.Pin call)) lane
    → IsTokenOf s old new call token → IsAfterPin lane after call token
pinned_lane lane after s old new call None is of =
    let none : latest_number (pages s old.entries) ≡ None = no_number (latest (pages s old.entries)) of in
    is
    ∙ called_lane lane (CallerEvent.Pin call) (pin_reply (latest_number (pages s old.entries)))
    ∙ ap (λ (o : Option ℕ). lane_with lane (count_after (What.Caller (CallerEvent.Pin call) (pin_reply o)) lane.count) lane.refused) none
pinned_lane lane after s old new call (Some token) is of =
    let some : latest_number (pages s old.entries) ≡ Some token.ticket.value.number = some_number (latest (pages s old.entries)) token.ticket.value of.1 in (
      is
          ∙ called_lane lane (CallerEvent.Pin call) (pin_reply (latest_number (pages s old.entries)))
          ∙ ap (λ (o : Option ℕ). lane_with lane (count_after (What.Caller (CallerEvent.Pin call) (pin_reply o)) lane.count) lane.refused) some,
      of.0,
    )

-- ---- the driver

none_among : (texts : List Name) → IsSubsequence [] texts
none_among [] = tt
none_among (x ∷ xs) = tt

all_among : (texts : List Name) → IsSubsequence texts texts
all_among [] = tt
all_among (x ∷ xs) = inl (refl, all_among xs)

texts_among : (kind : Option Kind) (prepared : Option Prepared) → IsSubsequence (texts_for kind prepared) (texts_of prepared)
texts_among None prepared = none_among (texts_of prepared)
texts_among (Some kind) prepared = all_among (texts_of prepared)

pub driven_lane : (line : ℕ) (event : DriverEvent) (prepared : Option Prepared) (old new : BookView) (lane after : LaneView) → Drives line event prepared old new lane after
    → IsAfterEvent lane after (texts_of prepared)
driven_lane line event prepared old new lane after drives = record {
  actor = ap (λ (l : LaneView). l.actor) drives.makes.lane;
  count = ap (λ (l : LaneView). l.count) drives.makes.lane;
  gained = drives.reply.refused;
  refused = ap (λ (l : LaneView). l.refused) drives.makes.lane;
  among = subst (λ (texts : List Name). IsSubsequence texts (texts_of prepared)) (sym drives.refused) (texts_among (answered_kind drives.reply.verdict) prepared);
}

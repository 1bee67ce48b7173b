-- A Book after a step of the driver.
use Rattle.std.proofs.Common.{◌≡◌, ◌<◌, ◌≤◌, ℕ, ◌+◌, ◌-◌, true, false, List, ◌∷◌, ◌++◌, length, Option, Some, None, refl, sym, ap, ◌∙◌, subst, arith}
use Rattle.std.specs.Prelude.{All, IfSome, OnErr, OnOk, Result, Ok, Err, is_err, option_map, option_to_list, slice_get}
use Rattle.boxcar.specs.Table.{Shelves, Where}
use Rattle.xc_base.specs.declared.names.Kind.{Kind}
use Rattle.xds_bootstrap.specs.declared.bootstrap.Bootstrap.{Bootstrap}
use Rattle.xds_name.specs.declared.target.Target.{Target}
use Rattle.cluster_tree.specs.declared.snapshot.Snapshot.{Snapshot}
use Rattle.snapshot_store.specs.Tickets.{AreTicketsOf, IsTicketOf, values_of}
use Rattle.book_calls.specs.resource_check.declared.delivery.Prepared.{Prepared}
use Rattle.call_journal.specs.declared.event.DriverEvent.{DriverEvent}
use Rattle.call_journal.specs.declared.reply.DriverReply.{DriverReply}
use Rattle.call_journal.specs.declared.entry.What.{What}
use Rattle.call_journal.specs.declared.entry.Entry.{Entry}
use Rattle.call_journal.specs.declared.plan.Count.{Count}
use Rattle.call_journal.specs.declared.plan.Listed.{Listed}
use Rattle.book_driver.specs.config_assembly.Orders.{Name}
use Rattle.book_calls.specs.xds_history.Setting.{Setting, setting_of}
use Rattle.book_calls.specs.xds_history.Page.{latest_number}
use Rattle.book_calls.specs.xds_history.Pages.{driven, page_of, pages}
use Rattle.book_calls.specs.xds_history.Right.{Right}
use Rattle.book_calls.specs.CallsKept.{AreCallsAt}
use Rattle.book_calls.proofs.xds_history.KeepProofs.{latest_has_references}
use Rattle.book_calls.specs.declared.calls.Calls.{Calls}
use Rattle.book_driver.proofs.book_trees.DueNumberLemmas.{latest_shows_what_stands}
use Rattle.book_picks.specs.declared.kept_turns.Turns.{Turns}
use Rattle.book_driver.specs.DriverKept.{IsDueAt, IsStepAt, reply_in}
use Rattle.book_driver.specs.ShownTrees.{number_in, snapshot_by}
use Rattle.book_driver.specs.ReferredClusters.{AreCalledAt}
use Rattle.book_driver.specs.declared.call_refs.CallRefs.{CallRefs}
use Rattle.book_driver.specs.declared.channel_driver.Driver.{Driver}
use Rattle.book_driver.specs.declared.channel_driver.Stepped.{Stepped}
use Rattle.book_progress.specs.ActorCounts.{count_after}
use Rattle.book_progress.specs.PlayedPlans.{IsNext}
use Rattle.book_progress.specs.PlayedPlans as played
use Rattle.book_progress.specs.ProgressKept.{CountedView, counts_of, most_entries}
use Rattle.xds_book.specs.BookViews.{BookView, LaneView}
use Rattle.xds_book.specs.BookEntries.{Drives, entry_of}
use Rattle.xds_book.specs.BookKept.{IsBook, IsKeptIn, IsLawfulShown, IsReady}
use Rattle.xds_book.specs.Publishing.{Publishes, Renews, snapshot_in}
use Rattle.xds_book.proofs.MakeLemmas.{IsKeptWith, book_with, next_driven}
use Rattle.xds_book.proofs.DriveLemmas.{complete, driven_ready, more_lawful, more_snapshots, more_stored}

-- ---- results

pub on_ok : {T E : Type 0} (r : Result T E) (P : Type 0) → is_err r ≡ false → OnOk r P → P
on_ok (Ok x) P is p = p
on_ok (Err e) P is p = absurd (cc is)

pub on_err : {T E : Type 0} (r : Result T E) (P : Type 0) → is_err r ≡ true → OnErr r P → P
on_err (Ok x) P is p = absurd (cc is)
on_err (Err e) P is p = p

-- ---- tickets

pub publishes_none : (archive : Shelves) (calls new : Calls) → ((s : Setting) (past : List Entry) (actor line : ℕ) (event : DriverEvent) (reply : DriverReply) → Right s (driven actor line event reply ∷ past)
    → (page_of s (driven actor line event reply) (What.Driver event reply) past (pages s past)).snapshot ≡ None → AreCallsAt archive (pages s past) calls → AreCallsAt archive (pages s (driven actor line event reply ∷ past)) new)
    → Publishes archive None calls new
publishes_none archive calls new kept = λ s past line event reply right none at. kept s past 0 line event reply right none at

pub publishes_some : {T E : Type 0} (result : Result T E) (archive : Shelves) (ticket : Where Snapshot) (calls new : Calls)
    → OnOk result ((s : Setting) (past : List Entry) (actor line : ℕ) (event : DriverEvent) (reply : DriverReply) → Right s (driven actor line event reply ∷ past)
    → (page_of s (driven actor line event reply) (What.Driver event reply) past (pages s past)).snapshot ≡ Some ticket.value → AreCallsAt archive (pages s past) calls → AreCallsAt archive (pages s (driven actor line event reply ∷ past)) new)
    → OnOk result (Publishes archive (Some ticket) calls new)
publishes_some (Ok x) archive ticket calls new kept = λ s past line event reply right is at. kept s past 0 line event reply right is at
publishes_some (Err e) archive ticket calls new kept = tt

-- ---- what a step of the driver is due by

pub due_at : (archive : Shelves) (boot : Bootstrap) (target : Target) (past : List Entry) (refs : CallRefs) (latest : Option ℕ) (calls : Calls) (turns : Turns) (driver : Driver) → target.key.kind ≡ Kind.Listener → Right (setting_of boot target) past
    → IsReady archive (setting_of boot target) past calls turns driver → AreCalledAt (pages (setting_of boot target) past) refs → latest ≡ latest_number (pages (setting_of boot target) past)
    → IsDueAt (setting_of boot target) past refs latest driver
due_at archive boot target past refs latest calls turns driver listener right ready called is = record {
  at = ready.driver_is;
  called = called;
  latest_has = latest_has_references (setting_of boot target) past right;
  latest_is = is;
  shows = latest_shows_what_stands boot target past listener right;
}

-- ---- what is kept

-- where memory ran out
pub kept_spent : (plan : Option (List (List Listed))) (archive : Shelves) (s : Setting) (own : Shelves) (journal : CountedView) (calls after : Calls) (turns : Turns) (driver : Driver) (refused texts : List Name) → IsBook plan archive s own journal calls.tickets refused
    → after ≡ calls → texts ≡ refused → IsKeptIn plan archive s own journal after turns driver texts true
kept_spent plan archive s own journal calls after turns driver refused texts book same is = record {
  book = subst (λ (names : List Name). IsBook plan archive s own journal after.tickets names) (sym is) (subst (λ (c : Calls). IsBook plan archive s own journal c.tickets refused) (sym same) book);
  ready = λ going. absurd (cc going);
}

abbrev pub reply_with : Stepped → Option ℕ → DriverReply
reply_with stepped number = record { verdict = stepped.verdict; sent = stepped.sent; missing = stepped.missing; snapshot = number; refused = stepped.refused }

-- the entry that was added
pub entry_is : (past after : List Entry) (actor line : ℕ) (event : DriverEvent) (stepped : Stepped) (number : Option ℕ) → actor ≡ 0 → number ≡ number_in stepped.published → after ≡ entry_of actor line (What.Driver event (reply_with stepped number)) ∷ past
    → after ≡ driven 0 line event (reply_in stepped) ∷ past
entry_is past after actor line event stepped number driver is entries =
    entries ∙ ap (λ (n : Option ℕ). entry_of actor line (What.Driver event (reply_with stepped n)) ∷ past) is ∙ ap (λ a. driven a line event (reply_in stepped) ∷ past) driver

-- the entry and all that it leaves
pub record IsDriven (plan : Option (List (List Listed))) (archive : Shelves) (s : Setting) (old new : CountedView) (calls after : Calls) (turns turned : Turns) (next : Driver) (refused texts : List Name) (ticket : Option (Where Snapshot))
    (line : ℕ) (event : DriverEvent) (prepared : Option Prepared) (stepped : Stepped) : Type 0 where
  pub at : IsStepAt s old.entries event prepared stepped next
  pub renews : Renews next.trees.trees.trees stepped.published turns turned
  pub value : snapshot_in ticket ≡ option_map snapshot_by stepped.published
  pub stored : IfSome ticket (IsTicketOf archive)
  pub publishes : Publishes archive ticket calls after
  pub tickets : after.tickets ≡ calls.tickets ++ option_to_list ticket
  pub texts_are : texts ≡ refused ++ stepped.refused
  pub entries : new.entries ≡ driven 0 line event (reply_in stepped) ∷ old.entries
  pub counts : new.counts ≡ counts_of (length old.counts) new.entries

kept_with_driven : (plan : Option (List (List Listed))) (archive : Shelves) (s : Setting) (old new : CountedView) (calls after : Calls) (turns turned : Turns) (next : Driver) (refused texts : List Name) (ticket : Option (Where Snapshot))
    (line : ℕ) (event : DriverEvent) (prepared : Option Prepared) (stepped : Stepped) (own : Shelves) → IsBook plan archive s own old calls.tickets refused
    → IsDriven plan archive s old new calls after turns turned next refused texts ticket line event prepared stepped → IsKeptWith archive s (driven 0 line event (reply_in stepped)) old.entries after.tickets refused texts
kept_with_driven plan archive s old new calls after turns turned next refused texts ticket line event prepared stepped own book d =
    let is : after.tickets ≡ calls.tickets ++ option_to_list ticket = d.tickets in
    record {
      stored = subst (λ (ts : List (Where Snapshot)). AreTicketsOf archive ts) (sym is) (more_stored archive calls.tickets ticket book.stored d.stored);
      snapshots = ap values_of is ∙ more_snapshots s old.entries line event (reply_in stepped) calls.tickets ticket book.snapshots (d.at.snapshot_is line ∙ sym d.value);
      lawful = subst (λ (ts : List (Where Snapshot)). All (λ (t : Where Snapshot). IsLawfulShown t.value) ts) (sym is)
          (more_lawful calls.tickets ticket stepped.published book.lawful d.value (complete s event old.entries next.trees.config stepped.published d.at.published));
      texts_are = d.texts_are;
    }

pub kept_after_drive : (plan : Option (List (List Listed))) (archive : Shelves) (boot : Bootstrap) (target : Target) (own : Shelves) (old new : CountedView) (calls after : Calls) (turns turned : Turns) (driver next : Driver) (refused texts : List Name)
    (ticket : Option (Where Snapshot)) (count : Count) (line : ℕ) (event : DriverEvent) (prepared : Option Prepared) (stepped : Stepped) → IsBook plan archive (setting_of boot target) own old calls.tickets refused
    → IsReady archive (setting_of boot target) old.entries calls turns driver → slice_get old.counts 0 ≡ Some count → IsNext plan 0 count line (played.driver event) old.entries → length old.entries < most_entries
    → IsDriven plan archive (setting_of boot target) old new calls after turns turned next refused texts ticket line event prepared stepped
    → IsKeptIn plan archive (setting_of boot target) own new after turned next texts false
kept_after_drive plan archive boot target own old new calls after turns turned driver next refused texts ticket count line event prepared stepped book ready get listed few d =
    let s = setting_of boot target in
    let e = driven 0 line event (reply_in stepped) in
    let right : Right s (e ∷ old.entries) = (d.at.reply_is line, book.right) in
    let kept = d.publishes s old.entries line event (reply_in stepped) right (d.at.snapshot_is line ∙ sym d.value) ready.calls_are in
    record {
      book = book_with plan archive s own old calls.tickets after.tickets refused texts e new book
          (next_driven plan s old.counts old.entries 0 line count event (reply_in stepped) book.counted get refl listed (d.at.reply_is line) few)
          (kept_with_driven plan archive s old new calls after turns turned next refused texts ticket line event prepared stepped own book d)
          (d.counts ∙ ap (λ (h : List Entry). counts_of (length old.counts) h) d.entries) d.entries;
      ready = λ going. subst (λ (h : List Entry). IsReady archive s h after turned next) (sym d.entries)
          (driven_ready archive boot target old.entries line event prepared stepped calls after turns turned driver next book.listener book.right ready d.at d.renews kept);
    }

-- ---- what the step makes

one_less : (n new : ℕ) → new ≡ n - 1 → n ≤ new + 1
one_less n new is = omega (arith, is)

pub drives_by : (s : Setting) (past : List Entry) (line : ℕ) (event : DriverEvent) (prepared : Option Prepared) (stepped : Stepped) (next : Driver) (view new : BookView) (lane after : LaneView) (number : Option ℕ) (other : List Name)
    → IsStepAt s past event prepared stepped next → number ≡ number_in stepped.published → new.entries ≡ entry_of lane.actor line (What.Driver event (reply_with stepped number)) ∷ view.entries
    → new.counts ≡ counts_of (length view.counts) new.entries → new.spare ≡ view.spare - 1 → new.is_spent ≡ false → view.is_spent ≡ false
    → after ≡ record { actor = lane.actor; count = count_after (What.Driver event (reply_with stepped number)) lane.count; refused = other } → other ≡ lane.refused ++ stepped.refused → slice_get new.counts lane.actor ≡ Some after.count
    → Drives line event prepared view new lane after
drives_by s past line event prepared stepped next view new lane after number other at is entries counts spare ended going lane_is other_is counted = record {
  reply = reply_in stepped;
  makes = record {
    entries = entries ∙ ap (λ (n : Option ℕ). entry_of lane.actor line (What.Driver event (reply_with stepped n)) ∷ view.entries) is;
    counts = counts;
    lane = lane_is ∙ ap (λ (texts : List Name). record { actor = lane.actor; count = count_after (What.Driver event (reply_in stepped)) lane.count; refused = texts }) other_is;
    counted = subst (λ n. slice_get new.counts n ≡ Some after.count) (sym (ap (λ (l : LaneView). l.actor) lane_is)) counted;
    spare = one_less view.spare new.spare spare;
    goes_on = ended ∙ sym going;
  };
  refused = at.texts_are;
}

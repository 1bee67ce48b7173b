-- A Book with one entry more.
use Rattle.std.proofs.Common.{◌≡◌, ◌<◌, ◌≤◌, ℕ, List, ◌∷◌, ◌++◌, length, Option, Some, sym, ap, ◌∙◌, subst, append-nil, arith}
use Rattle.std.specs.Prelude.{All, slice_get}
use Rattle.std.proofs.lemmas.List.Elements.{All-cons}
use Rattle.std.proofs.lemmas.Option.{slice_get_within}
use Rattle.std.proofs.lemmas.List.FromFn.{length-map-range_with_len}
use Rattle.boxcar.specs.Table.{Shelves, Where}
use Rattle.cluster_tree.specs.declared.snapshot.Snapshot.{Snapshot}
use Rattle.snapshot_store.specs.Tickets.{AreTicketsOf, values_of}
use Rattle.call_journal.specs.declared.event.CallerEvent.{CallerEvent}
use Rattle.call_journal.specs.declared.event.DriverEvent.{DriverEvent}
use Rattle.call_journal.specs.declared.reply.DriverReply.{DriverReply}
use Rattle.call_journal.specs.declared.reply.CallerReply.{CallerReply}
use Rattle.call_journal.specs.declared.entry.What.{What}
use Rattle.call_journal.specs.declared.entry.Entry.{Entry}
use Rattle.call_journal.specs.declared.plan.Count.{Count}
use Rattle.call_journal.specs.declared.plan.Listed.{Listed}
use Rattle.book_driver.specs.config_assembly.Orders.{Name}
use Rattle.book_calls.specs.xds_history.Setting.{Setting}
use Rattle.book_calls.specs.xds_history.Pages.{pages}
use Rattle.book_calls.specs.xds_history.Responses.{refused_in, refused_texts}
use Rattle.book_calls.specs.xds_history.Right.{IsReply, Right, caller_reply}
use Rattle.book_progress.specs.ActorCounts.{count_of}
use Rattle.book_progress.specs.PlayedPlans.{IsNext, IsPlayed, step_in}
use Rattle.book_progress.specs.PlayedPlans as played
use Rattle.book_progress.specs.ProgressKept.{CountedView, counts_of, most_entries}
use Rattle.book_progress.proofs.PlayLemmas.{play_goes_on}
use Rattle.book_progress.proofs.TallyLemmas.{count_is}
use Rattle.book_calls.specs.xds_history.References.{snapshots_of}
use Rattle.xds_book.specs.BookEntries.{entry_of}
use Rattle.xds_book.specs.BookKept.{HasActors, IsBook, IsBy, IsLawfulShown}

-- ---- counts

pub counts_long : (n : ℕ) (counts : List Count) (history : List Entry) → counts ≡ counts_of n history → length counts ≡ n
counts_long n counts history is = ap length is ∙ length-map-range_with_len (λ a. count_of a history) 0 n

pub counts_as_long : (n : ℕ) (counts : List Count) (history : List Entry) → counts ≡ counts_of n history → counts ≡ counts_of (length counts) history
counts_as_long n counts history is = is ∙ ap (λ m. counts_of m history) (sym (counts_long n counts history is))

-- ---- one entry more

few_more : (e : Entry) (past : List Entry) (most : ℕ) → length past < most → length (e ∷ past) ≤ most
few_more e past most less = omega (arith, less)

-- the entry is the next of a right history, and the next one of its actor
pub record IsNextEntry (plan : Option (List (List Listed))) (s : Setting) (actors : ℕ) (e : Entry) (past : List Entry) : Type 0 where
  pub reply : IsReply s e e.what past (pages s past)
  pub next : IsNext plan e.actor (count_of e.actor past) e.line (step_in e.what) past
  pub by : IsBy actors e
  pub few : length past < most_entries

-- the snapshots and the refused texts are those with the entry
pub record IsKeptWith (archive : Shelves) (s : Setting) (e : Entry) (past : List Entry) (tickets : List (Where Snapshot)) (old texts : List Name) : Type 0 where
  pub stored : AreTicketsOf archive tickets
  pub snapshots : values_of tickets ≡ snapshots_of (pages s (e ∷ past))
  pub lawful : All (λ ticket. IsLawfulShown ticket.value) tickets
  pub texts_are : texts ≡ old ++ refused_in e.what

pub book_with : (plan : Option (List (List Listed))) (archive : Shelves) (s : Setting) (own : Shelves) (old : CountedView) (tickets more : List (Where Snapshot)) (refused texts : List Name) (e : Entry) (new : CountedView)
    → IsBook plan archive s own old tickets refused → IsNextEntry plan s (length old.counts) e old.entries → IsKeptWith archive s e old.entries more refused texts
    → new.counts ≡ counts_of (length old.counts) (e ∷ old.entries) → new.entries ≡ e ∷ old.entries → IsBook plan archive s own new more texts
book_with plan archive s own old tickets more refused texts e new book next kept counts entries =
    let long : length new.counts ≡ length old.counts = counts_long (length old.counts) new.counts (e ∷ old.entries) counts in
    record {
      archive_is = book.archive_is;
      listener = book.listener;
      right = subst (λ (h : List Entry). Right s h) (sym entries) (next.reply, book.right);
      counted = counts_as_long (length old.counts) new.counts (e ∷ old.entries) counts ∙ ap (λ (h : List Entry). counts_of (length new.counts) h) (sym entries);
      few = subst (λ (h : List Entry). length h ≤ most_entries) (sym entries) (few_more e old.entries most_entries next.few);
      actors = subst (λ n. HasActors plan n) (sym long) book.actors;
      made = subst (λ n. All (IsBy n) new.entries) (sym long) (subst (λ (h : List Entry). All (IsBy (length old.counts)) h) (sym entries) (All-cons (IsBy (length old.counts)) e old.entries next.by book.made));
      played = subst (λ (h : List Entry). IsPlayed plan h) (sym entries) (play_goes_on plan e old.entries book.played next.next);
      stored = kept.stored;
      lawful = kept.lawful;
      snapshots = kept.snapshots ∙ ap (λ (h : List Entry). snapshots_of (pages s h)) (sym entries);
      refused_is = kept.texts_are ∙ ap (λ (texts : List Name). texts ++ refused_in e.what) book.refused_is ∙ ap refused_texts (sym entries);
    }

-- ---- a caller's entry

no_snapshot_more : (s : Setting) (actor line : ℕ) (event : CallerEvent) (reply : CallerReply) (past : List Entry) (tickets : List (Where Snapshot)) → values_of tickets ≡ snapshots_of (pages s past)
    → values_of tickets ≡ snapshots_of (pages s (entry_of actor line (What.Caller event reply) ∷ past))
no_snapshot_more s actor line event reply past tickets is = is ∙ sym (append-nil (snapshots_of (pages s past)))

pub kept_with_call : (archive : Shelves) (s : Setting) (actor line : ℕ) (event : CallerEvent) (reply : CallerReply) (past : List Entry) (tickets : List (Where Snapshot)) (refused : List Name) → AreTicketsOf archive tickets
    → values_of tickets ≡ snapshots_of (pages s past) → All (λ ticket. IsLawfulShown ticket.value) tickets → IsKeptWith archive s (entry_of actor line (What.Caller event reply)) past tickets refused refused
kept_with_call archive s actor line event reply past tickets refused stored is lawful = record {
  stored = stored;
  lawful = lawful;
  snapshots = no_snapshot_more s actor line event reply past tickets is;
  texts_are = sym (append-nil refused);
}

pub book_with_call : (plan : Option (List (List Listed))) (archive : Shelves) (s : Setting) (own : Shelves) (old : CountedView) (tickets : List (Where Snapshot)) (refused : List Name) (actor line : ℕ) (event : CallerEvent) (reply : CallerReply) (new : CountedView)
    → IsBook plan archive s own old tickets refused → IsNextEntry plan s (length old.counts) (entry_of actor line (What.Caller event reply)) old.entries
    → new.counts ≡ counts_of (length old.counts) (entry_of actor line (What.Caller event reply) ∷ old.entries) → new.entries ≡ entry_of actor line (What.Caller event reply) ∷ old.entries
    → IsBook plan archive s own new tickets refused
book_with_call plan archive s own old tickets refused actor line event reply new book next counts entries =
    book_with plan archive s own old tickets tickets refused refused (entry_of actor line (What.Caller event reply)) new book next
    (kept_with_call archive s actor line event reply old.entries tickets refused book.stored book.snapshots book.lawful) counts entries

-- ---- the next entry of a lane's actor

pub next_call : (plan : Option (List (List Listed))) (s : Setting) (counts : List Count) (past : List Entry) (actor line : ℕ) (count : Count) (event : CallerEvent) (reply : CallerReply) → counts ≡ counts_of (length counts) past
    → slice_get counts actor ≡ Some count → 0 < actor → IsNext plan actor count line (played.caller event) past → reply ≡ caller_reply (pages s past) event → length past < most_entries
    → IsNextEntry plan s (length counts) (entry_of actor line (What.Caller event reply)) past
next_call plan s counts past actor line count event reply counted get caller next is few = record {
  reply = is;
  next = subst (λ (c : Count). IsNext plan actor c line (played.caller event) past) (count_is (length counts) past counts actor count counted get) next;
  by = record { actor = slice_get_within counts actor count get; own = caller };
  few = few;
}

pub next_driven : (plan : Option (List (List Listed))) (s : Setting) (counts : List Count) (past : List Entry) (actor line : ℕ) (count : Count) (event : DriverEvent) (reply : DriverReply) → counts ≡ counts_of (length counts) past
    → slice_get counts actor ≡ Some count → actor ≡ 0 → IsNext plan actor count line (played.driver event) past
    → IsReply s (entry_of actor line (What.Driver event reply)) (What.Driver event reply) past (pages s past) → length past < most_entries
    → IsNextEntry plan s (length counts) (entry_of actor line (What.Driver event reply)) past
next_driven plan s counts past actor line count event reply counted get driver next is few = record {
  reply = is;
  next = subst (λ (c : Count). IsNext plan actor c line (played.driver event) past) (count_is (length counts) past counts actor count counted get) next;
  by = record { actor = slice_get_within counts actor count get; own = driver };
  few = few;
}

-- A Book in which nothing was done.
use Rattle.std.proofs.Common.{◌≡◌, ◌≤◌, ℕ, List, [], length, false, Option, Some, None, sym, ap, ◌∙◌, subst, arith}
use Rattle.std.specs.Prelude.{All}
use Rattle.std.proofs.lemmas.List.Elements.{All-nil}
use Rattle.boxcar.specs.Table.{Shelves, Where}
use Rattle.xc_base.specs.declared.names.Kind.{Kind}
use Rattle.cluster_tree.specs.declared.snapshot.Snapshot.{Snapshot}
use Rattle.snapshot_store.specs.Tickets.{IsTicketOf}
use Rattle.call_journal.specs.declared.entry.Entry.{Entry}
use Rattle.call_journal.specs.declared.plan.Count.{Count}
use Rattle.call_journal.specs.declared.plan.Listed.{Listed}
use Rattle.book_driver.specs.config_assembly.Orders.{Name}
use Rattle.book_calls.specs.xds_history.Setting.{Setting}
use Rattle.book_calls.specs.xds_history.Pages.{pages}
use Rattle.book_calls.specs.xds_history.Responses.{refused_texts}
use Rattle.book_calls.specs.xds_history.Right.{Right}
use Rattle.book_calls.specs.xds_history.References.{snapshots_of}
use Rattle.book_progress.specs.PlayedPlans as played
use Rattle.book_progress.specs.PlayedPlans.{IsPlayed}
use Rattle.book_progress.specs.ProgressKept.{CountedView, counts_of}
use Rattle.book_picks.specs.declared.kept_turns.Turns.{Turns}
use Rattle.book_driver.specs.declared.channel_driver.Driver.{Driver}
use Rattle.book_calls.specs.declared.calls.Calls.{Calls}
use Rattle.xds_book.specs.BookViews.{BookView}
use Rattle.xds_book.specs.BookEntries.{first_book}
use Rattle.xds_book.specs.BookKept.{HasActors, IsBook, IsBy, IsKeptIn, IsLawfulShown, IsReady}
use Rattle.xds_book.proofs.MakeLemmas.{counts_as_long, counts_long}

none_played : (plan : Option (List (List Listed))) → IsPlayed plan []
none_played None = tt
none_played (Some plan) = record { played = λ actor list listed. played.none; gated = tt }

zero_few : 0 ≤ 1048576
zero_few = omega arith

book_none : (plan : Option (List (List Listed))) (archive : Shelves) (s : Setting) (own : Shelves) (journal : CountedView) (actors : ℕ) → own ≡ archive → s.target.key.kind ≡ Kind.Listener → HasActors plan actors
    → journal.entries ≡ [] → journal.counts ≡ counts_of actors [] → IsBook plan archive s own journal [] []
book_none plan archive s own journal actors archive_is listener plan_is entries counts =
    let long : length journal.counts ≡ actors = counts_long actors journal.counts [] counts in
    record {
      archive_is = archive_is;
      listener = listener;
      right = subst (λ (h : List Entry). Right s h) (sym entries) tt;
      counted = counts_as_long actors journal.counts [] counts ∙ ap (λ (h : List Entry). counts_of (length journal.counts) h) (sym entries);
      few = subst (λ (h : List Entry). length h ≤ 1048576) (sym entries) zero_few;
      actors = subst (λ n. HasActors plan n) (sym long) plan_is;
      made = subst (λ (h : List Entry). All (IsBy (length journal.counts)) h) (sym entries) (All-nil (IsBy (length journal.counts)));
      played = subst (λ (h : List Entry). IsPlayed plan h) (sym entries) (none_played plan);
      stored = All-nil (λ (t : Where Snapshot). IsTicketOf archive t);
      snapshots = ap (λ (h : List Entry). snapshots_of (pages s h)) (sym entries);
      lawful = All-nil (λ (t : Where Snapshot). IsLawfulShown t.value);
      refused_is = ap refused_texts (sym entries);
    }

pub kept_first : (plan : Option (List (List Listed))) (archive : Shelves) (s : Setting) (own : Shelves) (journal : CountedView) (calls : Calls) (turns : Turns) (driver : Driver) (refused : List Name) (actors : ℕ) → own ≡ archive
    → s.target.key.kind ≡ Kind.Listener → HasActors plan actors → journal.entries ≡ [] → journal.counts ≡ counts_of actors [] → calls.tickets ≡ [] → refused ≡ [] → IsReady archive s [] calls turns driver
    → IsKeptIn plan archive s own journal calls turns driver refused false
kept_first plan archive s own journal calls turns driver refused actors archive_is listener plan_is entries counts tickets texts ready = record {
  book = subst (λ (ts : List (Where Snapshot)). IsBook plan archive s own journal ts refused) (sym tickets)
      (subst (λ (names : List Name). IsBook plan archive s own journal [] names) (sym texts) (book_none plan archive s own journal actors archive_is listener plan_is entries counts));
  ready = λ going. subst (λ (h : List Entry). IsReady archive s h calls turns driver) (sym entries) ready;
}

abbrev view_with : List Entry → ℕ → List Count → List (Where Snapshot) → BookView
view_with entries spare counts tickets = record { entries = entries; spare = spare; counts = counts; tickets = tickets; is_spent = false }

pub first_seen : (entries : List Entry) (spare : ℕ) (counts : List Count) (tickets : List (Where Snapshot)) (actors room : ℕ) → entries ≡ [] → spare ≡ room → counts ≡ counts_of actors [] → tickets ≡ []
    → view_with entries spare counts tickets ≡ first_book actors room
first_seen entries spare counts tickets actors room none same count no_ticket =
    ap (λ (es : List Entry). view_with es spare counts tickets) none ∙ ap (λ n. view_with [] n counts tickets) same ∙ ap (λ (cs : List Count). view_with [] room cs tickets) count
    ∙ ap (λ (ts : List (Where Snapshot)). view_with [] room (counts_of actors []) ts) no_ticket

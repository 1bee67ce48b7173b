-- The lanes of actors, one more.
use Rattle.std.proofs.Common.{◌≡◌, ℕ, ◌+◌, List, [], ◌∷◌, ◌++◌, length, map, refl, sym, ap, ◌∙◌, if◌then◌else◌, eq-eqb, arith}
use Rattle.std.specs.Prelude.{Some, slice_get}
use Rattle.std.proofs.lemmas.List.FromFn.{map-range_with_len_more}
use Rattle.std.specs.List.{range_with_len}
use Rattle.call_journal.specs.declared.entry.What.{What}
use Rattle.call_journal.specs.declared.entry.Entry.{Entry}
use Rattle.call_journal.specs.declared.plan.Count.{Count}
use Rattle.book_progress.specs.ActorCounts.{count_after, count_of}
use Rattle.book_progress.specs.ProgressKept.{counts_of}
use Rattle.book_progress.proofs.TallyLemmas.{count_is}
use Rattle.book_driver.specs.config_assembly.Orders.{Name}
use Rattle.xds_book.specs.BookViews.{LaneView}
use Rattle.xds_book.specs.BookEntries.{entry_of, first_lane}

pub lanes_more : (n : ℕ) → map first_lane (range_with_len 0 n) ++ first_lane n ∷ [] ≡ map first_lane (range_with_len 0 (n + 1))
lanes_more n = sym (map-range_with_len_more first_lane 0 n n (omega arith))

-- ---- an actor's count after an entry of its own

own_count : (e : Entry) (past : List Entry) → count_of e.actor (e ∷ past) ≡ count_after e.what (count_of e.actor past)
own_count e past = ap (λ b. if b then count_after e.what (count_of e.actor past) else count_of e.actor past) (eq-eqb e.actor e.actor refl)

pub count_grows : (counts : List Count) (past after : List Entry) (actor line : ℕ) (what : What) (count next : Count) → counts ≡ counts_of (length counts) past → slice_get counts actor ≡ Some count
    → after ≡ entry_of actor line what ∷ past → next ≡ count_of actor after → next ≡ count_after what count
count_grows counts past after actor line what count next counted get entries is =
    is ∙ ap (λ (h : List Entry). count_of actor h) entries ∙ own_count (entry_of actor line what) past ∙ ap (count_after what) (sym (count_is (length counts) past counts actor count counted get))

abbrev pub lane_with : ℕ → List Name → Count → LaneView
lane_with actor refused count = record { actor = actor; count = count; refused = refused }

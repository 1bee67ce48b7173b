-- A journal whose entries are counted, one entry on.
use Rattle.std.proofs.Common.{◌≡◌, ◌<◌, ◌≤◌, ℕ, ◌+◌, Bool, List, [], ◌∷◌, length, sym, ap, ap₂, ◌∙◌, subst, arith}
use Rattle.std.specs.Prelude.{Some, slice_get}
use Rattle.std.proofs.lemmas.List.FromFn.{length-map-range_with_len}
use Rattle.call_journal.specs.declared.entry.Entry.{Entry}
use Rattle.call_journal.specs.declared.plan.Count.{Count}
use Rattle.book_progress.specs.ActorCounts.{count_of}
use Rattle.book_progress.specs.EndedLines.{has_ended}
use Rattle.book_progress.specs.ProgressKept.{IsCounted, Tally, counts_of, ends_of, most_entries, tally_of}
use Rattle.book_progress.proofs.CountLemmas.{counts_are_few}
use Rattle.book_progress.proofs.TallyLemmas.{count_is}

abbrev tally_with : List Count → List Bool → Tally
tally_with counts ended = record { counts = counts; ended = ended }

as_long : (n : ℕ) (counts : List Count) (history : List Entry) → counts ≡ counts_of n history → counts ≡ counts_of (length counts) history
as_long n counts history is =
    let long : length counts ≡ n = ap length is ∙ length-map-range_with_len (λ a. count_of a history) 0 n in
    is ∙ ap (λ m. counts_of m history) (sym long)

ends_as_long : (n : ℕ) (ended : List Bool) (history : List Entry) → ended ≡ ends_of n history → ended ≡ ends_of (length ended) history
ends_as_long n ended history is =
    let long : length ended ≡ n = ap length is ∙ length-map-range_with_len (λ l. has_ended l history) 0 n in
    is ∙ ap (λ m. ends_of m history) (sym long)

tally_is_of : (actors lines : ℕ) (t : Tally) (history : List Entry) → t.counts ≡ counts_of actors history → t.ended ≡ ends_of lines history → t ≡ tally_of (length t.counts) (length t.ended) history
tally_is_of actors lines t history counts ended = ap₂ tally_with (as_long actors t.counts history counts) (ends_as_long lines t.ended history ended)

few_none : 0 ≤ 1048576
few_none = omega arith

pub counted_first : (actors lines : ℕ) (t : Tally) → t ≡ tally_of actors lines [] → IsCounted [] t
counted_first actors lines t is = record {
  tally_is = tally_is_of actors lines t [] (ap (λ (x : Tally). x.counts) is) (ap (λ (x : Tally). x.ended) is);
  few = few_none;
}

pub counts_kept : (entries : List Entry) (t : Tally) → IsCounted entries t → t.counts ≡ counts_of (length t.counts) entries
counts_kept entries t counted = ap (λ (x : Tally). x.counts) counted.tally_is

pub ends_kept : (entries : List Entry) (t : Tally) → IsCounted entries t → t.ended ≡ ends_of (length t.ended) entries
ends_kept entries t counted = ap (λ (x : Tally). x.ended) counted.tally_is

more_few : (e : Entry) (entries : List Entry) (most : ℕ) → length entries < most → length (e ∷ entries) ≤ most
more_few e entries most less = omega (arith, less)

pub counted_more : (e : Entry) (entries : List Entry) (old new : Tally) → length entries < most_entries → new.counts ≡ counts_of (length old.counts) (e ∷ entries)
    → new.ended ≡ ends_of (length old.ended) (e ∷ entries) → IsCounted (e ∷ entries) new
counted_more e entries old new less counts ended = record {
  tally_is = tally_is_of (length old.counts) (length old.ended) new (e ∷ entries) counts ended;
  few = more_few e entries most_entries less;
}

-- a count is below what the journal takes
pub count_few : (entries : List Entry) (t : Tally) (actor : ℕ) (count : Count) (most : ℕ) → IsCounted entries t → slice_get t.counts actor ≡ Some count → length entries < most → count.ended + count.pins < most
count_few entries t actor count most counted get less =
    let few = counts_are_few actor entries in
    subst (λ (c : Count). c.ended + c.pins < most) (sym (count_is (length t.counts) entries t.counts actor count (counts_kept entries t counted) get)) (omega (arith, few, less))

pub ended_few : (entries : List Entry) (t : Tally) (actor : ℕ) (count : Count) → IsCounted entries t → slice_get t.counts actor ≡ Some count → length entries < most_entries → count.ended < 4294967295
ended_few entries t actor count counted get less =
    let few : count.ended + count.pins < 1048576 = count_few entries t actor count most_entries counted get less in
    omega (arith, few)

pub pins_few : (entries : List Entry) (t : Tally) (actor : ℕ) (count : Count) → IsCounted entries t → slice_get t.counts actor ≡ Some count → length entries < most_entries → count.pins < 4294967295
pins_few entries t actor count counted get less =
    let few : count.ended + count.pins < 1048576 = count_few entries t actor count most_entries counted get less in
    omega (arith, few)

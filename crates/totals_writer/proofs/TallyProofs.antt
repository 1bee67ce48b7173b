-- A tally, one entry on, and the totals of a whole journal.
use Rattle.std.proofs.Common.{◌≡◌, ◌<◌, ◌≤◌, ◌^◌, ◌-◌, ℕ, ◌+◌, arith, List, [], ◌∷◌, ◌++◌, filter, length, reverse, Bool, true, false, Option, Some, None, refl, sym, ap, ◌∙◌, subst, append-nil, if◌then◌else◌}
use Rattle.std.specs.List.{cons_option, slice_get}
use Rattle.std.specs.Str.{bytes_eq}
use Rattle.std.proofs.lemmas.List.{length-append}
use Rattle.std.proofs.lemmas.List.Elements.{filter-append, filter_map-append}
use Rattle.cluster_tree.specs.declared.snapshot.Snapshot.{Snapshot}
use Rattle.call_journal.specs.declared.entry.What.{What}
use Rattle.call_journal.specs.declared.entry.Entry.{Entry}
use Rattle.config_assembly.specs.Orders.{Name}
use Rattle.report_text.specs.ReportLines.{Shown}
use Rattle.report_writer.specs.JournalReport.{held_after, named_in, picked_in, shown_as, shown_entries}
use Rattle.report_writer.proofs.ReportLemmas.{all_entries, first_entries, first_more, shown_count}
use Rattle.totals_writer.specs.Totals.{address_given, counted, given_in, how_many, is_pick, is_start, one_if, times, totals_of, totals_text}
use Rattle.totals_writer.specs.Tallying.{HasRoom, IsTallyOf, count_of, counted_once_more, totals_in}
use Rattle.totals_writer.specs.declared.tallies.Tally.{Tally}
use Rattle.totals_writer.proofs.CountedLemmas.{count_counted, counted_more}

-- ---- one entry on

kind_more : (kind : What → Bool) (shown : List Shown) (x : Shown) → how_many kind (shown ++ x ∷ []) ≡ how_many kind shown + one_if (kind x.entry.what)
kind_more kind shown x =
    ap length (filter-append (λ y. kind y.entry.what) shown (x ∷ []))
    ∙ length-append (filter (λ y. kind y.entry.what) shown) (filter (λ y. kind y.entry.what) (x ∷ []))
    ∙ ap (λ n. how_many kind shown + n) (either (kind x.entry.what))
  where
    either : (b : Bool) → length (if b then x ∷ [] else []) ≡ one_if b
    either true = refl
    either false = refl

abbrev listed : Option Name → List Name
listed o = cons_option o []

given_more : (shown : List Shown) (x : Shown) → given_in (shown ++ x ∷ []) ≡ given_in shown ++ listed (address_given x.snapshot x.cluster x.entry.what)
given_more shown x = filter_map-append (λ y. address_given y.snapshot y.cluster y.entry.what) shown (x ∷ [])

counted_on : (o : Option Name) (given : List Name) → counted_once_more o (counted given) ≡ counted (given ++ listed o)
counted_on None given = ap counted (sym (append-nil given))
counted_on (Some a) given = counted_more a given

pub tally_more : (shown : List Shown) (x : Shown) (old new : Tally) → IsTallyOf shown old → new.starts ≡ old.starts + one_if (is_start x.entry.what) → new.picks ≡ old.picks + one_if (is_pick x.entry.what)
    → new.endpoints.entries ≡ counted_once_more (address_given x.snapshot x.cluster x.entry.what) old.endpoints.entries → IsTallyOf (shown ++ x ∷ []) new
tally_more shown x old new is starts picks endpoints = record {
  starts = starts ∙ ap (λ n. n + one_if (is_start x.entry.what)) is.starts ∙ sym (kind_more is_start shown x);
  picks = picks ∙ ap (λ n. n + one_if (is_pick x.entry.what)) is.picks ∙ sym (kind_more is_pick shown x);
  endpoints = endpoints
      ∙ ap (counted_once_more (address_given x.snapshot x.cluster x.entry.what)) is.endpoints
      ∙ counted_on (address_given x.snapshot x.cluster x.entry.what) (given_in shown)
      ∙ ap counted (sym (given_more shown x));
}

-- one entry of a journal on
pub tally_next : (published : List Snapshot) (entries : List Entry) (i : ℕ) (e : Entry) (snapshot : Option Snapshot) (cluster : Option Name) (old new : Tally) → slice_get (reverse entries) i ≡ Some e
    → snapshot ≡ named_in published e.what → cluster ≡ picked_in (held_after published (first_entries i entries)) e.what → IsTallyOf (shown_entries published (first_entries i entries)) old
    → new.starts ≡ old.starts + one_if (is_start e.what) → new.picks ≡ old.picks + one_if (is_pick e.what) → new.endpoints.entries ≡ counted_once_more (address_given snapshot cluster e.what) old.endpoints.entries
    → IsTallyOf (shown_entries published (first_entries (i + 1) entries)) new
tally_next published entries i e snapshot cluster old new at named picked is starts picks endpoints =
    let past = first_entries i entries in
    let given : counted_once_more (address_given snapshot cluster e.what) old.endpoints.entries ≡ counted_once_more (address_given (named_in published e.what) (picked_in (held_after published past) e.what) e.what) old.endpoints.entries =
    ap (λ s. counted_once_more (address_given s cluster e.what) old.endpoints.entries) named ∙ ap (λ k. counted_once_more (address_given (named_in published e.what) k e.what) old.endpoints.entries) picked in
    subst (λ es. IsTallyOf (shown_entries published es) new) (sym (first_more entries i e at))
    (tally_more (shown_entries published past) (shown_as published e past) old new is starts picks (endpoints ∙ given))

pub tally_whole : (published : List Snapshot) (entries : List Entry) (i : ℕ) (tally : Tally) → i ≡ length entries → IsTallyOf (shown_entries published (first_entries i entries)) tally → IsTallyOf (shown_entries published entries) tally
tally_whole published entries i tally end is =
    subst (λ es. IsTallyOf (shown_entries published es) tally) (ap (λ n. first_entries n entries) end ∙ all_entries entries) is

-- ---- room for one more

filtered_at_most : {X : Type 0} (b : Bool) (x : X) (kept : List X) (n : ℕ) → length kept ≤ n → length (if b then x ∷ kept else kept) ≤ n + 1
filtered_at_most true x kept n few = omega (arith, few)
filtered_at_most false x kept n few = omega (arith, few)

kept_at_most : {X : Type 0} (kind : X → Bool) (xs : List X) → length (filter kind xs) ≤ length xs
kept_at_most kind [] = omega arith
kept_at_most kind (x ∷ xs) =
    let rest = kept_at_most kind xs in
    let most = filtered_at_most (kind x) x (filter kind xs) (length xs) rest in
    omega (arith, most)

given_at_most : (o : Option Name) (given : List Name) (n : ℕ) → length given ≤ n → length (cons_option o given) ≤ n + 1
given_at_most None given n few = omega (arith, few)
given_at_most (Some a) given n few = omega (arith, few)

addresses_at_most : (shown : List Shown) → length (given_in shown) ≤ length shown
addresses_at_most [] = omega arith
addresses_at_most (x ∷ shown) =
    let rest = addresses_at_most shown in
    let most = given_at_most (address_given x.snapshot x.cluster x.entry.what) (given_in shown) (length shown) rest in
    omega (arith, most)

-- what is counted of fewer than 2^32 - 1 entries can grow by one
pub has_room : (shown : List Shown) (tally : Tally) → IsTallyOf shown tally → length shown < 2 ^ 32 - 1 → HasRoom tally
has_room shown tally is few =
    let starts = kept_at_most (λ y. is_start y.entry.what) shown in
    let picks = kept_at_most (λ y. is_pick y.entry.what) shown in
    let addresses = addresses_at_most shown in
    let started = is.starts in
    let picked = is.picks in
    record {
      starts = omega (arith, starts, started, few);
      picks = omega (arith, picks, picked, few);
      endpoints = λ address.
          let times : count_of tally.endpoints.entries address ≡ times address (given_in shown) = ap (λ es. count_of es address) is.endpoints ∙ count_counted address (given_in shown) in
          let most = kept_at_most (bytes_eq address) (given_in shown) in
          omega (arith, times, most, addresses, few);
    }

-- ---- the totals of a journal

pub tallied_text : (rounds entries snapshots : ℕ) (published : List Snapshot) (es : List Entry) (tally : Tally) (text : List ℕ) → IsTallyOf (shown_entries published es) tally → entries ≡ length es → snapshots ≡ length published
    → text ≡ totals_text (totals_in rounds entries snapshots tally) → text ≡ totals_text (totals_of rounds (shown_entries published es) (length published))
tallied_text rounds entries snapshots published es tally text is count many spelled =
    let shown : entries ≡ length (shown_entries published es) = count ∙ sym (shown_count published es) in
    let starts = is.starts in
    let picks = is.picks in
    let endpoints = is.endpoints in
    let same : totals_in rounds entries snapshots tally ≡ totals_of rounds (shown_entries published es) (length published) = cc (shown, many, starts, picks, endpoints) in
    spelled ∙ ap totals_text same

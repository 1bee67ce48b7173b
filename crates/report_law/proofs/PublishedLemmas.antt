-- The snapshots of a right history are numbered from 1, in their order.
use Rattle.std.proofs.Common.{◌≡◌, ℕ, zero, suc, ◌+◌, ◌-◌, ◌==◌, arith, Bool, true, false, Option, Some, None, List, [], ◌∷◌, ◌++◌, length, refl, sym, ap, ◌∙◌, if◌then◌else◌, eqb-true, option_map, option_and_then, option_to_list, unwrap_or, append-nil}
use Rattle.std.specs.Prelude.{slice_get}
use Rattle.std.specs.Option.{option_or}
use Rattle.std.proofs.lemmas.Bool.{eqb-false}
use Rattle.xds_config.specs.declared.config.Config.{Config}
use Rattle.cluster_tree.specs.declared.snapshot.Snapshot.{Snapshot}
use Rattle.call_journal.specs.declared.entry.What.{What}
use Rattle.call_journal.specs.declared.entry.Entry.{Entry}
use Rattle.legal_history.specs.xds_history.Setting.{Setting}
use Rattle.legal_history.specs.xds_history.declared.page.Page.{Page}
use Rattle.legal_history.specs.xds_history.declared.page.ClusterTrees.{ClusterTrees}
use Rattle.legal_history.specs.xds_history.Page.{latest, latest_number, trees_now}
use Rattle.legal_history.specs.xds_history.References.{snapshot_at}
use Rattle.legal_history.specs.xds_history.Trees.{Present, trees_after}
use Rattle.legal_history.specs.xds_history.Pickers.{views}
use Rattle.legal_history.specs.xds_history.Pages.{caller_page, pages, page_of, present_after, snapshot_of}
use Rattle.legal_history.specs.xds_history.Right.{Right, IsReply, IsNumber, standing}
use Rattle.legal_history.proofs.xds_history.LawProofs.{entry_of}
use Rattle.legal_history.proofs.xds_history.KeepProofs.{config_at}
use Rattle.report_writer.specs.JournalReport.{numbered}
use Rattle.legal_history.specs.xds_history.References.{snapshots_of}

-- ---- lists

push_here : {X : Type 0} (xs : List X) (x : X) (n : ℕ) → n ≡ length xs → slice_get (xs ++ x ∷ []) n ≡ Some x
push_here [] x zero is = refl
push_here [] x (suc n) is = absurd (omega (arith, is))
push_here (y ∷ xs) x zero is = absurd (omega (arith, is))
push_here (y ∷ xs) x (suc n) is = push_here xs x n (omega (arith, is))

push_other : {X : Type 0} (xs : List X) (x : X) (n : ℕ) → (n ≡ length xs → ⊥) → slice_get (xs ++ x ∷ []) n ≡ slice_get xs n
push_other [] x zero not = absurd (not refl)
push_other [] x (suc n) not = refl
push_other (y ∷ xs) x zero not = refl
push_other (y ∷ xs) x (suc n) not = push_other xs x n (λ is. not (omega (arith, is)))

push_length : {X : Type 0} (xs : List X) (x : X) → length (xs ++ x ∷ []) ≡ length xs + 1
push_length [] x = refl
push_length (y ∷ xs) x = let more = push_length xs x in omega (arith, more)

front_kept : {X : Type 0} (xs ys : List X) (n : ℕ) (x : X) → slice_get xs n ≡ Some x → slice_get (xs ++ ys) n ≡ Some x
front_kept [] ys n x is = absurd (cc is)
front_kept (y ∷ xs) ys zero x is = is
front_kept (y ∷ xs) ys (suc n) x is = front_kept xs ys n x is

-- ---- numbers

-- a snapshot keeps its number, whatever is published later
kept_by : (b : Bool) (xs ys : List Snapshot) (n : ℕ) (x : Snapshot) → (if b then None else slice_get xs n) ≡ Some x → (if b then None else slice_get (xs ++ ys) n) ≡ Some x
kept_by true xs ys n x is = is
kept_by false xs ys n x is = front_kept xs ys n x is

pub number_kept : (xs ys : List Snapshot) (n : ℕ) (x : Snapshot) → numbered xs n ≡ Some x → numbered (xs ++ ys) n ≡ Some x
number_kept xs ys n x = kept_by (n == 0) xs ys (n - 1) x

-- the next one has the next number
next_by : (zeroth same : Bool) (xs : List Snapshot) (x : Snapshot) (n : ℕ) → (n == 0) ≡ zeroth → (x.number == n) ≡ same → x.number ≡ length xs + 1
    → (if same then Some x else (if zeroth then None else slice_get xs (n - 1))) ≡ (if zeroth then None else slice_get (xs ++ x ∷ []) (n - 1))
next_by true true xs x n zeroth same next =
    let none : n ≡ 0 = eqb-true n 0 zeroth in
    let here : x.number ≡ n = eqb-true x.number n same in
    absurd (omega (arith, none, here, next))
next_by true false xs x n zeroth same next = refl
next_by false true xs x n zeroth same next =
    let here : x.number ≡ n = eqb-true x.number n same in
    sym (push_here xs x (n - 1) (omega (arith, here, next)))
next_by false false xs x n zeroth same next =
    let some : n ≡ 0 → ⊥ = eqb-false n 0 zeroth in
    let other : x.number ≡ n → ⊥ = eqb-false x.number n same in
    sym (push_other xs x (n - 1) (λ is. absurd (grind (arith, is, some, other, next))))

number_next : (xs : List Snapshot) (x : Snapshot) (n : ℕ) → x.number ≡ length xs + 1 → (if x.number == n then Some x else numbered xs n) ≡ numbered (xs ++ x ∷ []) n
number_next xs x n = next_by (n == 0) (x.number == n) xs x n refl refl

-- ---- pages

-- the latest number is the count of the snapshots, and each is found by its number at its place
pub record AreCounted (ps : List Page) : Type 0 where
  pub count : unwrap_or (latest_number ps) 0 ≡ length (snapshots_of ps)
  pub at : (n : ℕ) → snapshot_at n ps ≡ numbered (snapshots_of ps) n

abbrev none_found : Option Snapshot
none_found = None

none_by : (b : Bool) → none_found ≡ (if b then None else none_found)
none_by true = refl
none_by false = refl

counted_first : AreCounted []
counted_first = record {
  count = refl;
  at = λ n. none_by (n == 0);
}

-- the snapshot of a number, of which a page published this one, or none
abbrev found_or : Option Snapshot → ℕ → Option Snapshot → Option Snapshot
found_or new n old = option_or (option_and_then (λ x. if x.number == n then Some x else None) new) old

same_list : (p : Page) (ps : List Page) → p.snapshot ≡ None → snapshots_of (p ∷ ps) ≡ snapshots_of ps
same_list p ps none = ap (λ o. snapshots_of ps ++ option_to_list o) none ∙ append-nil (snapshots_of ps)

new_list : (p : Page) (ps : List Page) (x : Snapshot) → p.snapshot ≡ Some x → snapshots_of (p ∷ ps) ≡ snapshots_of ps ++ x ∷ []
new_list p ps x is = ap (λ o. snapshots_of ps ++ option_to_list o) is

abbrev last_number : Option Snapshot → ℕ
last_number o = unwrap_or (option_map (λ x. x.number) o) 0

-- a page without a snapshot
quiet : (p : Page) (ps : List Page) → AreCounted ps → p.snapshot ≡ None → AreCounted (p ∷ ps)
quiet p ps counted none = record {
  count = ap (λ o. last_number (option_or o (latest ps))) none ∙ counted.count ∙ ap length (sym (same_list p ps none));
  at = λ n. ap (λ o. found_or o n (snapshot_at n ps)) none ∙ counted.at n ∙ ap (λ xs. numbered xs n) (sym (same_list p ps none));
}

joined : (b : Bool) (x : Snapshot) (old : Option Snapshot) → option_or (if b then Some x else None) old ≡ (if b then Some x else old)
joined true x old = refl
joined false x old = refl

-- a page with one, which has the next number
publishes : (p : Page) (ps : List Page) (x : Snapshot) → AreCounted ps → p.snapshot ≡ Some x → x.number ≡ length (snapshots_of ps) + 1 → AreCounted (p ∷ ps)
publishes p ps x counted is next = record {
  count = ap (λ o. last_number (option_or o (latest ps))) is ∙ next ∙ sym (push_length (snapshots_of ps) x) ∙ ap length (sym (new_list p ps x is));
  at = λ n. ap (λ o. found_or o n (snapshot_at n ps)) is
      ∙ joined (x.number == n) x (snapshot_at n ps)
      ∙ ap (λ o. if x.number == n then Some x else o) (counted.at n)
      ∙ number_next (snapshots_of ps) x n next
      ∙ ap (λ xs. numbered xs n) (sym (new_list p ps x is));
}

-- ---- entries

next_number : (present : Present) (config : Config) (trees : List ClusterTrees) (last : Option Snapshot) (n : ℕ) → IsNumber (standing present (Some config) trees) last (Some n) → n ≡ last_number last + 1
next_number present config trees None n is = cc is
next_number present config trees (Some x) n is = is.0

counted_driver : (p : Page) (ps : List Page) (present : Present) (config : Option Config) (trees : List ClusterTrees) (number : Option ℕ) → AreCounted ps → p.snapshot ≡ option_and_then (snapshot_of present config trees) number →
    IsNumber (standing present config trees) (latest ps) number → AreCounted (p ∷ ps)
counted_driver p ps present config trees None counted made is = quiet p ps counted made
counted_driver p ps present None trees (Some n) counted made is = absurd (cc is)
counted_driver p ps present (Some config) trees (Some n) counted made is =
    publishes p ps (record { number = n; config = config; trees = views present.state trees config }) counted made (next_number present config trees (latest ps) n is ∙ ap (λ m. m + 1) counted.count)

counted_at : (s : Setting) (ps : List Page) (past : List Entry) (actor line : ℕ) (what : What) → AreCounted ps → IsReply s (entry_of actor line what) what past ps → AreCounted (page_of s (entry_of actor line what) what past ps ∷ ps)
counted_at s ps past actor line (What.Driver event reply) counted right =
    counted_driver (page_of s (entry_of actor line (What.Driver event reply)) (What.Driver event reply) past ps) ps (present_after past event) (config_at s event reply past ps)
    (trees_after (present_after past event) (trees_now ps) (config_at s event reply past ps)) reply.snapshot counted refl right.number_is
counted_at s ps past actor line (What.Caller event reply) counted right = quiet (caller_page (entry_of actor line (What.Caller event reply)) past ps) ps counted refl

pub are_counted : (s : Setting) (history : List Entry) → Right s history → AreCounted (pages s history)
are_counted s [] right = counted_first
are_counted s (e ∷ past) right = counted_at s (pages s past) past e.actor e.line e.what (are_counted s past right.1) right.0

-- The snapshots of a right history are numbered in their order.
use Rattle.std.proofs.Common.{◌≡◌, ℕ, zero, suc, ◌+◌, ◌≤◌, ◌==◌, arith, Bool, true, false, true≢false, Option, Some, None, List, [], ◌∷◌, ◌++◌, length, refl, sym, ap, ◌∙◌, if◌then◌else◌, eq-eqb, eqb-true, ne_eqb, option_and_then, option_to_list}
use Rattle.std.specs.Prelude.{slice_get}
use Rattle.std.specs.List.{last_or}
use Rattle.std.specs.Option.{option_or}
use Rattle.std.proofs.lemmas.List.{append-nil}
use Rattle.std.proofs.lemmas.Option.{slice_get_within}
use Rattle.xc_base.specs.declared.names.CallId.{CallId}
use Rattle.xds_config.specs.declared.config.Config.{Config}
use Rattle.cluster_tree.specs.declared.snapshot.Snapshot.{Snapshot}
use Rattle.call_journal.specs.declared.entry.What.{What}
use Rattle.call_journal.specs.declared.entry.Entry.{Entry}
use Rattle.xds_history.specs.Setting.{Setting}
use Rattle.xds_history.specs.declared.page.Page.{Page}
use Rattle.xds_history.specs.declared.page.ClusterTrees.{ClusterTrees}
use Rattle.xds_history.specs.Page.{latest, trees_now}
use Rattle.xds_history.specs.References.{snapshot_at, pinned, snapshots_of}
use Rattle.xds_history.specs.Trees.{Present, trees_after}
use Rattle.xds_history.specs.Pickers.{views}
use Rattle.xds_history.proofs.LawProofs.{entry_of}
use Rattle.xds_history.proofs.KeepProofs.{config_at, kept}
use Rattle.xds_history.specs.Pages.{pages, page_of, present_after, snapshot_of, caller_page}
use Rattle.xds_history.specs.Right.{Right, IsReply, IsNumber, standing}
use Rattle.book_calls.specs.PublishedSnapshots.{AreNumbered, SnapshotsAreNumbered, PinsHaveSnapshots}

-- ---- lists

pub push_here : {X : Type 0} (xs : List X) (x : X) (n : ℕ) → n ≡ length xs → slice_get (xs ++ x ∷ []) n ≡ Some x
push_here [] x zero is = refl
push_here [] x (suc n) is = absurd (omega (arith, is))
push_here (y ∷ xs) x zero is = absurd (omega (arith, is))
push_here (y ∷ xs) x (suc n) is = push_here xs x n (omega (arith, is))

push_other : {X : Type 0} (xs : List X) (x : X) (n : ℕ) → (n ≡ length xs → ⊥) → slice_get (xs ++ x ∷ []) n ≡ slice_get xs n
push_other [] x zero not = absurd (not refl)
push_other [] x (suc n) not = refl
push_other (y ∷ xs) x zero not = refl
push_other (y ∷ xs) x (suc n) not = push_other xs x n (λ is. not (omega (arith, is)))

last_push : {X : Type 0} (o : Option X) (xs : List X) (x : X) → last_or o (xs ++ x ∷ []) ≡ Some x
last_push o [] x = refl
last_push o (y ∷ xs) x = last_push (Some y) xs x

pub length_push : {X : Type 0} (xs : List X) (x : X) → length (xs ++ x ∷ []) ≡ length xs + 1
length_push [] x = refl
length_push (y ∷ xs) x = let more = length_push xs x in omega (arith, more)

first : AreNumbered []
first = record {
  counted = λ x is. absurd (cc is);
  none = λ is. refl;
  last = refl;
  zero = refl;
  at = λ n. refl;
}

-- ---- an entry without a snapshot

same_at : (p : Page) (ps : List Page) (number : ℕ) → p.snapshot ≡ None → snapshot_at number (p ∷ ps) ≡ snapshot_at number ps
same_at p ps number none = ap (λ o. option_or (option_and_then (λ x. if x.number == number then Some x else None) o) (snapshot_at number ps)) none

pub same_list : (p : Page) (ps : List Page) → p.snapshot ≡ None → snapshots_of (p ∷ ps) ≡ snapshots_of ps
same_list p ps none = ap (λ o. snapshots_of ps ++ option_to_list o) none ∙ append-nil (snapshots_of ps)

pub same_latest : (p : Page) (ps : List Page) → p.snapshot ≡ None → latest (p ∷ ps) ≡ latest ps
same_latest p ps none = ap (λ o. option_or o (latest ps)) none

quiet : (p : Page) (ps : List Page) → AreNumbered ps → p.snapshot ≡ None → AreNumbered (p ∷ ps)
quiet p ps kept none = record {
  counted = λ x is. kept.counted x (sym (same_latest p ps none) ∙ is) ∙ ap length (sym (same_list p ps none));
  none = λ is. same_list p ps none ∙ kept.none (sym (same_latest p ps none) ∙ is);
  last = same_latest p ps none ∙ kept.last ∙ ap (last_or None) (sym (same_list p ps none));
  zero = same_at p ps 0 none ∙ kept.zero;
  at = λ n. same_at p ps (n + 1) none ∙ kept.at n ∙ ap (λ xs. slice_get xs n) (sym (same_list p ps none));
}

-- ---- an entry with one

new_at : (p : Page) (ps : List Page) (x : Snapshot) (number : ℕ) → p.snapshot ≡ Some x → snapshot_at number (p ∷ ps) ≡ (if x.number == number then Some x else snapshot_at number ps)
new_at p ps x number is = ap (λ o. option_or (option_and_then (λ y. if y.number == number then Some y else None) o) (snapshot_at number ps)) is ∙ joined (x.number == number) x (snapshot_at number ps)
  where
    joined : (b : Bool) (x : Snapshot) (old : Option Snapshot) → option_or (if b then Some x else None) old ≡ (if b then Some x else old)
    joined true x old = refl
    joined false x old = refl

pub new_list : (p : Page) (ps : List Page) (x : Snapshot) → p.snapshot ≡ Some x → snapshots_of (p ∷ ps) ≡ snapshots_of ps ++ x ∷ []
new_list p ps x is = ap (λ o. snapshots_of ps ++ option_to_list o) is

pub new_latest : (p : Page) (ps : List Page) (x : Snapshot) → p.snapshot ≡ Some x → latest (p ∷ ps) ≡ Some x
new_latest p ps x is = ap (λ o. option_or o (latest ps)) is

at_push : (ps : List Page) (x : Snapshot) (n : ℕ) → AreNumbered ps → x.number ≡ length (snapshots_of ps) + 1 → (b : Bool) → (x.number == n + 1) ≡ b → (if b then Some x else snapshot_at (n + 1) ps) ≡ slice_get (snapshots_of ps ++ x ∷ []) n
at_push ps x n kept next true test = let same : x.number ≡ n + 1 = eqb-true x.number (n + 1) test in sym (push_here (snapshots_of ps) x n (omega (arith, same, next)))
at_push ps x n kept next false test = kept.at n ∙ sym (push_other (snapshots_of ps) x n (λ e. true≢false (sym (eq-eqb x.number (n + 1) (omega (arith, e, next))) ∙ test)))

with_one : (p : Page) (ps : List Page) (x : Snapshot) → AreNumbered ps → p.snapshot ≡ Some x → x.number ≡ length (snapshots_of ps) + 1 → AreNumbered (p ∷ ps)
with_one p ps x kept is next = record {
  counted = λ y are.
      let same : x ≡ y = cc (new_latest p ps x is, are) in
      ap (λ (z : Snapshot). z.number) (sym same) ∙ next ∙ sym (length_push (snapshots_of ps) x) ∙ ap length (sym (new_list p ps x is));
  none = λ none. absurd (cc (new_latest p ps x is, none));
  last = new_latest p ps x is ∙ sym (last_push None (snapshots_of ps) x) ∙ ap (last_or None) (sym (new_list p ps x is));
  zero = new_at p ps x 0 is ∙ ap (λ b. if b then Some x else snapshot_at 0 ps) (ne_eqb x.number 0 (λ e. absurd (omega (arith, e, next)))) ∙ kept.zero;
  at = λ n. new_at p ps x (n + 1) is
      ∙ at_push ps x n kept next (x.number == n + 1) refl
      ∙ ap (λ xs. slice_get xs n) (sym (new_list p ps x is));
}

-- ---- a driver's entry

next_number : (ps : List Page) → AreNumbered ps → (present : Present) (config : Config) (trees : List ClusterTrees) (last : Option Snapshot) → latest ps ≡ last → (n : ℕ) → IsNumber (standing present (Some config) trees) last (Some n) → n ≡ length (snapshots_of ps) + 1
next_number ps kept present config trees None are n is = let none : length (snapshots_of ps) ≡ 0 = ap length (kept.none are) in let one : n ≡ 1 = cc is in omega (arith, none, one)
next_number ps kept present config trees (Some x) are n is = let count : x.number ≡ length (snapshots_of ps) = kept.counted x are in let next : n ≡ x.number + 1 = is.0 in omega (arith, count, next)

at_driver : (p : Page) (ps : List Page) (present : Present) (config : Option Config) (trees : List ClusterTrees) (number : Option ℕ) → AreNumbered ps → p.snapshot ≡ option_and_then (snapshot_of present config trees) number →
    IsNumber (standing present config trees) (latest ps) number → AreNumbered (p ∷ ps)
at_driver p ps present config trees None kept made is = quiet p ps kept made
at_driver p ps present None trees (Some n) kept made is = absurd (cc is)
at_driver p ps present (Some config) trees (Some n) kept made is =
    with_one p ps (record { number = n; config = config; trees = views present.state trees config }) kept made (next_number ps kept present config trees (latest ps) refl n is)

-- ---- every entry

numbered_at : (s : Setting) (ps : List Page) (past : List Entry) (actor line : ℕ) (what : What) → AreNumbered ps → IsReply s (entry_of actor line what) what past ps → AreNumbered (page_of s (entry_of actor line what) what past ps ∷ ps)
numbered_at s ps past actor line (What.Driver event reply) kept right =
    at_driver (page_of s (entry_of actor line (What.Driver event reply)) (What.Driver event reply) past ps) ps (present_after past event) (config_at s event reply past ps)
    (trees_after (present_after past event) (trees_now ps) (config_at s event reply past ps)) reply.snapshot kept refl right.number_is
numbered_at s ps past actor line (What.Caller event reply) kept right = quiet (caller_page (entry_of actor line (What.Caller event reply)) past ps) ps kept refl

pub are_numbered : SnapshotsAreNumbered
are_numbered s [] right = first
are_numbered s (e ∷ past) right = numbered_at s (pages s past) past e.actor e.line e.what (are_numbered s past right.1) right.0

-- ---- pins

within : (ps : List Page) (n : ℕ) (x : Snapshot) → AreNumbered ps → snapshot_at n ps ≡ Some x → (1 ≤ n) × (n ≤ length (snapshots_of ps))
within ps zero x numbered at = absurd (cc (numbered.zero, at))
within ps (suc n) x numbered at =
    let next : n + 1 ≡ suc n = omega arith in
    let less = slice_get_within (snapshots_of ps) n x (sym (numbered.at n) ∙ ap (λ m. snapshot_at m ps) next ∙ at) in
    (omega arith, omega (arith, less))

-- the snapshot of a pin stands
pub pin_stands : (s : Setting) (history : List Entry) (id : CallId) (n : ℕ) → Right s history → pinned (pages s history) id ≡ Some n → (x : Snapshot) × (snapshot_at n (pages s history) ≡ Some x)
pin_stands s history id n right is = let (x, at, keeps) = ((kept s history right).pins id n is).1 in (x, at)

pub pins_have_snapshots : PinsHaveSnapshots
pins_have_snapshots s history id n right is =
    let (x, at) = pin_stands s history id n right is in
    within (pages s history) n x (are_numbered s history right) at

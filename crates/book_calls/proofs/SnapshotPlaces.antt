-- Snapshots by their places, and their tickets.
use Rattle.std.proofs.Common.{◌≡◌, ℕ, zero, suc, ◌+◌, ◌-◌, ◌≤◌, ◌<◌, ◌==◌, arith, true, Option, Some, None, List, [], ◌∷◌, ◌++◌, length, map, refl, sym, ap, ◌∙◌, subst, if◌then◌else◌, eq-eqb, option_map, option_and_then, option_to_list}
use Rattle.std.specs.Prelude.{slice_get}
use Rattle.std.specs.Option.{option_or}
use Rattle.boxcar.specs.Table.{Where}
use Rattle.cluster_tree.specs.declared.snapshot.Snapshot.{Snapshot}
use Rattle.snapshot_store.specs.Tickets.{values_of}
use Rattle.xds_history.specs.declared.page.Page.{Page}
use Rattle.xds_history.specs.Page.{latest}
use Rattle.xds_history.specs.References.{snapshot_at, snapshots_of}
use Rattle.book_calls.specs.PublishedSnapshots.{AreNumbered}
use Rattle.book_calls.specs.CallsKept.{IsTicketAt}

-- ---- lists

pub get_map : {X Y : Type 0} (f : X → Y) (xs : List X) (n : ℕ) (x : X) → slice_get xs n ≡ Some x → slice_get (map f xs) n ≡ Some (f x)
get_map f [] n x is = absurd (cc is)
get_map f (y ∷ xs) zero x is = ap (option_map f) is
get_map f (y ∷ xs) (suc n) x is = get_map f xs n x is

-- what stands in a list stands there when it grows
pub get_more : {X : Type 0} (xs ys : List X) (n : ℕ) (x : X) → slice_get xs n ≡ Some x → slice_get (xs ++ ys) n ≡ Some x
get_more [] ys n x is = absurd (cc is)
get_more (y ∷ xs) ys zero x is = is
get_more (y ∷ xs) ys (suc n) x is = get_more xs ys n x is

pub get_front : {X : Type 0} (xs ys : List X) (n : ℕ) → n < length xs → slice_get (xs ++ ys) n ≡ slice_get xs n
get_front [] ys n less = absurd (omega (arith, less))
get_front (x ∷ xs) ys zero less = refl
get_front (x ∷ xs) ys (suc n) less = get_front xs ys n (omega (arith, less))

pub map_push : {X Y : Type 0} (f : X → Y) (xs : List X) (x : X) → map f (xs ++ x ∷ []) ≡ map f xs ++ f x ∷ []
map_push f [] x = refl
map_push f (y ∷ xs) x = ap (λ ys. f y ∷ ys) (map_push f xs x)

pub length_map : {X Y : Type 0} (f : X → Y) (xs : List X) → length (map f xs) ≡ length xs
length_map f [] = refl
length_map f (x ∷ xs) = let more = length_map f xs in omega (arith, more)

-- ---- the snapshot of a number

-- a ticket at the place of a number reads the snapshot of this number
pub ticket_reads : (ps : List Page) (tickets : List (Where Snapshot)) (n : ℕ) (ticket : Where Snapshot) → AreNumbered ps → values_of tickets ≡ snapshots_of ps → 1 ≤ n → IsTicketAt tickets n ticket → snapshot_at n ps ≡ Some ticket.value
ticket_reads ps tickets zero ticket numbered are least is = absurd (omega (arith, least))
ticket_reads ps tickets (suc n) ticket numbered are least is =
    let next : n + 1 ≡ suc n = omega arith in
    let back : suc n - 1 ≡ n = omega arith in
    sym (ap (λ m. snapshot_at m ps) next) ∙ numbered.at n ∙ ap (λ xs. slice_get xs n) (sym are)
    ∙ get_map (λ (t : Where Snapshot). t.value) tickets n ticket (ap (slice_get tickets) (sym back) ∙ is)

-- a snapshot that stands stays where it was
pub stays_at : (p : Page) (ps : List Page) → AreNumbered ps → AreNumbered (p ∷ ps) → (n : ℕ) → n ≤ length (snapshots_of ps) → snapshot_at n (p ∷ ps) ≡ snapshot_at n ps
stays_at p ps old new zero most = new.zero ∙ sym old.zero
stays_at p ps old new (suc n) most =
    let next : n + 1 ≡ suc n = omega arith in
    subst (λ m. snapshot_at m (p ∷ ps) ≡ snapshot_at m ps) next (new.at n ∙ get_front (snapshots_of ps) (option_to_list p.snapshot) n (omega (arith, most)) ∙ sym (old.at n))

-- ---- the latest is the one of its number

found_at : (o : Option Snapshot) (ps : List Page) (x : Snapshot) → (latest ps ≡ Some x → snapshot_at x.number ps ≡ Some x) → option_or o (latest ps) ≡ Some x →
    option_or (option_and_then (λ y. if y.number == x.number then Some y else None) o) (snapshot_at x.number ps) ≡ Some x
found_at None ps x more is = more is
found_at (Some y) ps x more is =
    let same : y ≡ x = cc is in
    let test : (x.number == x.number) ≡ true = eq-eqb x.number x.number refl in
    let here : option_or (if x.number == x.number then Some x else None) (snapshot_at x.number ps) ≡ Some x = subst (λ b. option_or (if b then Some x else None) (snapshot_at x.number ps) ≡ Some x) (sym test) refl in
    subst (λ (z : Snapshot). option_or (if z.number == x.number then Some z else None) (snapshot_at x.number ps) ≡ Some x) (sym same) here

pub latest_found : (ps : List Page) (x : Snapshot) → latest ps ≡ Some x → snapshot_at x.number ps ≡ Some x
latest_found [] x is = absurd (cc is)
latest_found (p ∷ ps) x is = found_at p.snapshot ps x (latest_found ps x) is

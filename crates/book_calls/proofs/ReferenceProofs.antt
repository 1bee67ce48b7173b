-- What calls refer to: what is retained, and what a driver's entry leaves.
use Rattle.std.proofs.Common.{◌≡◌, inl, inr, ℕ, ◌==◌, Bool, true, false, Option, Some, None, List, [], ◌∷◌, ◌++◌, refl, sym, ap, ◌∙◌, subst, if◌then◌else◌, eqb-true, option_map, option_and_then, option_to_list}
use Rattle.std.specs.Prelude.{◌⊎◌, ◌↔◌, Contains, IfSome}
use Rattle.std.specs.List.{flat_map}
use Rattle.std.specs.List.Sorted.{IsStrictlySortedBy}
use Rattle.std.specs.Option.{option_map_or}
use Rattle.std.proofs.lemmas.List.Elements.{Contains-append_cases}
use Rattle.std.proofs.lemmas.Cmp.{nat_list_cmp_total}
use Rattle.std.proofs.lemmas.Map.Lookups.{exact_bytes}
use Rattle.xc_base.specs.declared.names.CallId.{CallId}
use Rattle.xc_keys.proofs.MemberLemmas.{no_member}
use Rattle.cluster_tree.specs.declared.snapshot.Snapshot.{Snapshot}
use Rattle.call_journal.specs.declared.event.DriverEvent.{DriverEvent}
use Rattle.call_journal.specs.declared.reply.DriverReply.{DriverReply}
use Rattle.call_journal.specs.declared.entry.What.{What}
use Rattle.call_journal.specs.declared.entry.Entry.{Entry}
use Rattle.cluster_refs.specs.declared.pins.Pin.{Pin}
use Rattle.cluster_refs.specs.CallReferences.{References, pin_of, IsPinned, IsHeld}
use Rattle.xds_history.specs.config_assembly.Orders.{Name, name_cmp, sorted}
use Rattle.xds_history.proofs.config_assembly.Members.{from_joined, from_option, from_sorted}
use Rattle.xds_history.specs.Setting.{Setting}
use Rattle.xds_history.specs.declared.page.Page.{Page}
use Rattle.xds_history.specs.References.{snapshot_at, pinned, held, calls, names_in, refers_to, references, references_seen, seen_after}
use Rattle.xds_history.specs.Pages.{pages, page_of, driven}
use Rattle.xds_history.specs.Right.{Right}
use Rattle.xds_history.proofs.KeepLemmas.{IsKept, held_referred, pin_referred}
use Rattle.xds_history.proofs.KeepProofs.{kept}
use Rattle.xds_history.proofs.LawProofs.{entry_of}
use Rattle.book_calls.specs.RefsKept.{list_at, AreRefsAt, at_call}
use Rattle.book_calls.specs.SeenReferences.{HoldsStay, IsHeldBy, WasUnpinned, held_seen}
use Rattle.book_calls.specs.CallsLaws.{DriversChangeNoReferences, RetainedAreReferences}
use Rattle.book_calls.proofs.RefSteps.{same_id}
use Rattle.book_calls.proofs.SnapshotNumbers.{are_numbered, pins_have_snapshots}
use Rattle.book_calls.proofs.SnapshotPlaces.{stays_at}
use Rattle.xds_history.proofs.config_assembly.SortedLists.{sorted_rises}
use Rattle.book_calls.proofs.SortedNames.{same_names}

-- ---- a driver's entry

abbrev page_at : Setting → List Entry → ℕ → ℕ → DriverEvent → DriverReply → Page
page_at s past actor line event reply = page_of s (driven actor line event reply) (What.Driver event reply) past (pages s past)

-- a pinned snapshot stays where it was
pub pin_stays_at : (s : Setting) (past : List Entry) (actor line : ℕ) (event : DriverEvent) (reply : DriverReply) → Right s (driven actor line event reply ∷ past) → (id : CallId) (n : ℕ) → pinned (pages s past) id ≡ Some n →
    snapshot_at n (pages s (driven actor line event reply ∷ past)) ≡ snapshot_at n (pages s past)
pin_stays_at s past actor line event reply right id n is =
    stays_at (page_at s past actor line event reply) (pages s past) (are_numbered s past right.1) (are_numbered s (driven actor line event reply ∷ past) right) n (pins_have_snapshots s past id n right.1 is).1

pin_stays : (p : Page) (ps : List Page) (o : Option ℕ) → ((n : ℕ) → o ≡ Some n → snapshot_at n (p ∷ ps) ≡ snapshot_at n ps) → option_map (list_at ps) o ≡ option_map (list_at (p ∷ ps)) o
pin_stays p ps None same = refl
pin_stays p ps (Some n) same = ap (λ (ns : List Name). with_names n ns) (ap (λ o. option_map_or names_in o []) (sym (same n refl)))
  where
    with_names : ℕ → List Name → Option Pin
    with_names n ns = Some (record { number = n; names = ns })

pub refs_driven : (s : Setting) (past : List Entry) (actor line : ℕ) (event : DriverEvent) (reply : DriverReply) (refs : References) → Right s (driven actor line event reply ∷ past) → AreRefsAt (pages s past) refs →
    AreRefsAt (pages s (driven actor line event reply ∷ past)) refs
refs_driven s past actor line event reply refs right are = record {
  pins = λ id. are.pins id ∙ pin_stays (page_at s past actor line event reply) (pages s past) (pinned (pages s past) id) (pin_stays_at s past actor line event reply right id);
  holds = are.holds;
}

refers_at : (p : Page) (ps : List Page) (id : CallId) (o : Option ℕ) → ((n : ℕ) → o ≡ Some n → snapshot_at n (p ∷ ps) ≡ snapshot_at n ps) →
    option_map_or names_in (option_and_then (λ number. snapshot_at number (p ∷ ps)) o) [] ≡ option_map_or names_in (option_and_then (λ number. snapshot_at number ps) o) []
refers_at p ps id None same = refl
refers_at p ps id (Some n) same = ap (λ o. option_map_or names_in o []) (same n refl)

same_joined : {X Y : Type 0} (f g : X → List Y) (xs : List X) → ((x : X) → f x ≡ g x) → flat_map f xs ≡ flat_map g xs
same_joined f g [] same = refl
same_joined f g (x ∷ xs) same = ap (λ ys. ys ++ flat_map f xs) (same x) ∙ ap (λ ys. g x ++ ys) (same_joined f g xs same)

pub drivers_change_none : DriversChangeNoReferences
drivers_change_none s past actor line event reply right =
    ap (sorted name_cmp) (same_joined (refers_to (pages s (driven actor line event reply ∷ past))) (refers_to (pages s past)) (calls (pages s past))
    (λ id. ap (λ ns. option_to_list (held (pages s past) id) ++ ns)
    (refers_at (page_at s past actor line event reply) (pages s past) id (pinned (pages s past) id) (pin_stays_at s past actor line event reply right id))))

-- ---- what is retained

to_pin_at : (ps : List Page) (id : CallId) (n : ℕ) (o : Option Snapshot) (name : Name) → Contains (calls ps) id → pinned ps id ≡ Some n → snapshot_at n ps ≡ o → Contains (option_map_or names_in o []) name → Contains (references ps) name
to_pin_at ps id n None name called pin at has = absurd (no_member name has)
to_pin_at ps id n (Some x) name called pin at has = pin_referred ps id n x name called pin at has

to_pin : (ps : List Page) (id : CallId) (o : Option ℕ) (list : Pin) (name : Name) → IsKept ps → pinned ps id ≡ o → option_map (list_at ps) o ≡ Some list → Contains list.names name → Contains (references ps) name
to_pin ps id None list name stands pin is has = absurd (cc is)
to_pin ps id (Some n) list name stands pin is has =
    let same : list_at ps n ≡ list = cc is in
    to_pin_at ps id n (snapshot_at n ps) name (stands.pins id n pin).0 pin refl (subst (λ (l : Pin). Contains l.names name) (sym same) has)

to_reference : (ps : List Page) (refs : References) (name : Name) → IsKept ps → AreRefsAt ps refs → (IsPinned refs name ⊎ IsHeld refs name) → Contains (references ps) name
to_reference ps refs name stands are (inl pin) =
    let (id, list, is, has) = pin in
    to_pin ps id (pinned ps id) list name stands refl (sym (are.pins id) ∙ is) has
to_reference ps refs name stands are (inr hold) =
    let (id, is) = hold in
    let own : held ps id ≡ Some name = sym (are.holds id) ∙ is in
    held_referred ps id name (stands.holds id name own).0 own

from_pin : (ps : List Page) (refs : References) (id : CallId) (o : Option ℕ) (name : Name) → pin_of refs id ≡ option_map (list_at ps) o → Contains (option_map_or names_in (option_and_then (λ number. snapshot_at number ps) o) []) name → IsPinned refs name
from_pin ps refs id None name is has = absurd (no_member name has)
from_pin ps refs id (Some n) name is has = (id, list_at ps n, is, has)

from_call : (ps : List Page) (refs : References) (id : CallId) (name : Name) → AreRefsAt ps refs → Contains (refers_to ps id) name → IsPinned refs name ⊎ IsHeld refs name
from_call ps refs id name are has =
    elim (Contains-append_cases (option_to_list (held ps id)) (option_map_or names_in (option_and_then (λ number. snapshot_at number ps) (pinned ps id)) []) name has) [
      | inl holds ↦ inr (id, are.holds id ∙ from_option (held ps id) name holds)
      | inr pins ↦ inl (from_pin ps refs id (pinned ps id) name (are.pins id) pins)
    ]

from_reference : (ps : List Page) (refs : References) (name : Name) → AreRefsAt ps refs → Contains (references ps) name → IsPinned refs name ⊎ IsHeld refs name
from_reference ps refs name are has =
    let (id, called, own) = from_joined (refers_to ps) (calls ps) name (from_sorted name_cmp exact_bytes (flat_map (refers_to ps) (calls ps)) name has) in
    from_call ps refs id name are own

pub retained_are_references : RetainedAreReferences
retained_are_references s past refs names right are retained =
    same_names names (references (pages s past)) retained.rising (sorted_rises name_cmp nat_list_cmp_total (flat_map (refers_to (pages s past)) (calls (pages s past))))
    (λ name. (λ has. to_reference (pages s past) refs name (kept s past right) are ((retained.members name).0 has), λ has. (retained.members name).1 (from_reference (pages s past) refs name are has)))

-- ---- what calls held at the driver's last entry

no_list : (ps : List Page) (o : Option ℕ) → o ≡ None → option_map_or names_in (option_and_then (λ number. snapshot_at number ps) o) [] ≡ []
no_list ps None is = refl
no_list ps (Some n) is = absurd (cc is)

from_hold : (ps : List Page) (id : CallId) (name : Name) → pinned ps id ≡ None → Contains (refers_to ps id) name → held ps id ≡ Some name
from_hold ps id name none has =
    elim (Contains-append_cases (option_to_list (held ps id)) (option_map_or names_in (option_and_then (λ number. snapshot_at number ps) (pinned ps id)) []) name has) [
      | inl holds ↦ from_option (held ps id) name holds
      | inr pins ↦ absurd (no_member name (subst (λ (names : List Name). Contains names name) (no_list ps (pinned ps id) none) pins))
    ]

-- where no pin is open, calls refer to what they hold
unpinned_references : (ps : List Page) (name : Name) → IsKept ps → ((id : CallId) → pinned ps id ≡ None) → Contains (references ps) name ↔ IsHeldBy (held ps) name
unpinned_references ps name stands none = (
  λ has.
      let (id, called, own) = from_joined (refers_to ps) (calls ps) name (from_sorted name_cmp exact_bytes (flat_map (refers_to ps) (calls ps)) name has) in
      (id, from_hold ps id name (none id) own),
  λ (id, is). held_referred ps id name (stands.holds id name is).0 is,
)

-- so did they where no pin was open
abbrev AreSeen : List Page → Type 0
AreSeen ps = WasUnpinned ps → (name : Name) → Contains (references_seen ps) name ↔ IsHeldBy (held_seen ps) name

seen_at : (s : Setting) (ps : List Page) (past : List Entry) (actor line : ℕ) (what : What) → IsKept ps → AreSeen ps → AreSeen (page_of s (entry_of actor line what) what past ps ∷ ps)
seen_at s ps past actor line (What.Driver event reply) stands seen none name = unpinned_references ps name stands none
seen_at s ps past actor line (What.Caller event reply) stands seen none name = seen none name

seen : (s : Setting) (history : List Entry) → Right s history → AreSeen (pages s history)
seen s [] right none name = (λ has. absurd (no_member name has), λ (id, is). absurd (cc is))
seen s (e ∷ past) right none name = seen_at s (pages s past) past e.actor e.line e.what (kept s past right.1) (seen s past right.1) none name

rises : (ps : List Page) → IsStrictlySortedBy name_cmp (references ps)
rises ps = sorted_rises name_cmp nat_list_cmp_total (flat_map (refers_to ps) (calls ps))

rises_after : (what : What) (now before : List Name) → IsStrictlySortedBy name_cmp now → IsStrictlySortedBy name_cmp before → IsStrictlySortedBy name_cmp (seen_after what now before)
rises_after (What.Driver event reply) now before one other = one
rises_after (What.Caller event reply) now before one other = other

seen_rises : (ps : List Page) → IsStrictlySortedBy name_cmp (references_seen ps)
seen_rises [] = sorted_rises name_cmp nat_list_cmp_total []
seen_rises (p ∷ ps) = rises_after p.entry.what (references ps) (references_seen ps) (rises ps) (seen_rises ps)

-- where they hold the same then and now, and no pin was open then or is now, they refer to the same
pub references_stay : (s : Setting) (past : List Entry) → Right s past → ((id : CallId) → pinned (pages s past) id ≡ None) → WasUnpinned (pages s past) → HoldsStay (pages s past) → references (pages s past) ≡ references_seen (pages s past)
references_stay s past right none unpinned stay =
    same_names (references (pages s past)) (references_seen (pages s past)) (rises (pages s past)) (seen_rises (pages s past))
    (λ name.
    let now = unpinned_references (pages s past) name (kept s past right) none in
    let then_ = seen s past right unpinned name in
    (λ has. then_.1 ((stay name).0 (now.0 has)), λ has. now.1 ((stay name).1 (then_.0 has))))

-- ---- a call that begins to hold a name, and one that leaves it

either : {X : Type 0} (b : Bool) (x y z : X) (goal : Type 0) → (if b then x else y) ≡ z → (b ≡ true → x ≡ z → goal) → (b ≡ false → y ≡ z → goal) → goal
either true x y z goal is one other = one refl is
either false x y z goal is one other = other refl is

else_is : {X : Type 0} (b : Bool) (x y : X) → b ≡ false → (if b then x else y) ≡ y
else_is true x y is = absurd (cc is)
else_is false x y is = refl

held_some : (o : Option Name) (P : Name → Type 0) (name : Name) → IfSome o P → o ≡ Some name → P name
held_some o P name all is = subst (λ x. IfSome x P) is all

-- a call that held nothing begins to hold what another one holds
pub hold_stays : (ps : List Page) (now : CallId → Option Name) (own : CallId) (found : Option Name) → held ps own ≡ None → ((id : CallId) → at_call own found (held ps) id ≡ now id) → IfSome found (IsHeldBy (held ps)) → HoldsStay ps →
    (name : Name) → IsHeldBy now name ↔ IsHeldBy (held_seen ps) name
hold_stays ps now own found none at others stay name = (
  λ (id, is). (stay name).0
      (either (own.0 == id.0) found (held ps id) (Some name) (IsHeldBy (held ps) name) (at id ∙ is) (λ same is_found. held_some found (IsHeldBy (held ps)) name others is_found) (λ other is_held. (id, is_held))),
  λ was. let (id, is) = (stay name).1 was in (id, sym (at id) ∙ else_is (own.0 == id.0) found (held ps id) (not_own id (own.0 == id.0) refl is) ∙ is),
)
  where
    not_own : (id : CallId) (b : Bool) → (own.0 == id.0) ≡ b → held ps id ≡ Some name → (own.0 == id.0) ≡ false
    not_own id true test is = let never = sym (ap (held ps) (same_id own id (eqb-true own.0 id.0 test)) ∙ is) ∙ none in absurd (cc never)
    not_own id false test is = test

-- a call leaves what another one holds
pub release_stays : (ps : List Page) (now : CallId → Option Name) (own : CallId) → ((id : CallId) → at_call own None (held ps) id ≡ now id) → IfSome (held ps own) (IsHeldBy now) → HoldsStay ps →
    (name : Name) → IsHeldBy now name ↔ IsHeldBy (held_seen ps) name
release_stays ps now own at others stay name = (
  λ (id, is). (stay name).0 (either (own.0 == id.0) None (held ps id) (Some name) (IsHeldBy (held ps) name) (at id ∙ is) (λ same gone. absurd (cc gone)) (λ other is_held. (id, is_held))),
  λ was. let (id, is) = (stay name).1 was in by_own id (own.0 == id.0) refl is,
)
  where
    by_own : (id : CallId) (b : Bool) → (own.0 == id.0) ≡ b → held ps id ≡ Some name → IsHeldBy now name
    by_own id true test is = held_some (held ps own) (IsHeldBy now) name others (ap (held ps) (same_id own id (eqb-true own.0 id.0 test)) ∙ is)
    by_own id false test is = (id, sym (at id) ∙ else_is (own.0 == id.0) None (held ps id) test ∙ is)

-- What calls refer to stays in the latest snapshot of a right history.
use Rattle.std.proofs.Common.{◌≡◌, inl, inr, ℕ, ◌+◌, ◌<◌, ◌≤◌, ◌==◌, arith, Bool, true, false, Option, Some, None, Result, Ok, Err, List, [], ◌∷◌, ◌++◌, map, refl, sym, ap, ◌∙◌, subst, if◌then◌else◌, eq-eqb, eqb-true, ne_eqb, option_map, option_and_then, option_to_list, unwrap_or}
use Rattle.std.specs.Prelude.{Contains}
use Rattle.std.specs.List.{flat_map}
use Rattle.std.specs.Option.{option_map_or, option_or}
use Rattle.std.proofs.lemmas.List.Elements.{Contains-append_left, Contains-append_right, Contains-append_cases}
use Rattle.std.proofs.lemmas.Map.Lookups.{exact_bytes}
use Rattle.xc_base.specs.declared.names.CallId.{CallId}
use Rattle.xc_base.specs.declared.names.Key.{Key}
use Rattle.xc_base.specs.declared.call.Call.{Call}
use Rattle.xc_base.specs.declared.reason.Reason.{Reason}
use Rattle.xc_keys.proofs.MemberLemmas.{no_member, here, there}
use Rattle.xds_config.specs.declared.config.Front.{Front}
use Rattle.xds_config.specs.declared.config.Config.{Config}
use Rattle.xds_config.specs.Configs.{front_clusters}
use Rattle.route_match.specs.declared.answer.RouteAnswer.{RouteAnswer}
use Rattle.route_match.specs.NamedClusters.{answer_cluster}
use Rattle.route_match.specs.Routes.{route}
use Rattle.route_match.proofs.ClusterLemmas.{cluster_named}
use Rattle.cluster_tree.specs.declared.snapshot.Snapshot.{Snapshot}
use Rattle.call_journal.specs.declared.event.DriverEvent.{DriverEvent}
use Rattle.call_journal.specs.declared.event.CallerEvent.{CallerEvent}
use Rattle.call_journal.specs.declared.reply.DriverReply.{DriverReply}
use Rattle.call_journal.specs.declared.reply.CallerReply.{CallerReply}
use Rattle.call_journal.specs.declared.entry.What.{What}
use Rattle.call_journal.specs.declared.entry.Entry.{Entry}
use Rattle.config_assembly.specs.Orders.{Name, name_cmp}
use Rattle.config_assembly.specs.Front.{names_of_front}
use Rattle.xds_history.specs.Words.{first_some}
use Rattle.xds_history.specs.declared.page.Page.{Page}
use Rattle.xds_history.specs.declared.page.Watched.{Watched}
use Rattle.xds_history.specs.declared.page.ClusterTrees.{ClusterTrees}
use Rattle.xds_history.specs.Page.{config_now, latest, latest_number}
use Rattle.xds_history.specs.References.{snapshot_at, routed_to, found_in, held, pinned, pins_after, calls, names_in, refers_to, references}
use Rattle.xds_history.specs.Trees.{Present}
use Rattle.xds_history.specs.Pickers.{views}
use Rattle.xds_history.specs.Pages.{page_with_trees, caller_page}
use Rattle.xds_history.specs.Right.{IsNumber, Shown, shown, standing, pin_reply, hold_reply, caller_reply}
use Rattle.xds_history.specs.HistoryLaws.{HasCluster, LatestHas}
use Rattle.xds_history.proofs.LawProofs.{entry_of}
use Rattle.config_assembly.proofs.Members.{in_joined, from_joined, from_option, in_sorted, from_sorted}

-- ---- what holds after each entry

-- the pinned snapshot stands, and the latest one has the clusters that its host names
abbrev pub IsPinKept : List Page → ℕ → Option Snapshot → Type 0
IsPinKept ps number last = (x : Snapshot) × (snapshot_at number ps ≡ Some x) × ((name : Name) → Contains (names_in x) name → LatestHas last name)

abbrev pub IsAtMost : ℕ → Option Snapshot → Type 0
IsAtMost number None = ⊥
IsAtMost number (Some last) = number ≤ last.number

abbrev pub IsShownIn : Config → Option Snapshot → Type 0
IsShownIn config None = ⊥
IsShownIn config (Some last) = config ≡ last.config

abbrev pub HasHosts : Option Snapshot → Type 0
HasHosts None = Unit {0}
HasHosts (Some last) = (name : Name) → Contains (names_in last) name → HasCluster last name

pub record IsKept (ps : List Page) : Type 0 where
  pub holds : (id : CallId) (name : Name) → held ps id ≡ Some name → Contains (calls ps) id × LatestHas (latest ps) name
  pub pins : (id : CallId) (number : ℕ) → pinned ps id ≡ Some number → Contains (calls ps) id × IsPinKept ps number (latest ps)
  pub stands : (config : Config) → config_now ps ≡ Some config → IsShownIn config (latest ps)
  pub hosts : HasHosts (latest ps)
  pub numbers : (number : ℕ) (x : Snapshot) → snapshot_at number ps ≡ Some x → IsAtMost number (latest ps)

pub kept_first : IsKept []
kept_first = record {
  holds = λ id name is. absurd (cc is);
  pins = λ id number is. absurd (cc is);
  stands = λ config is. absurd (cc is);
  hosts = tt;
  numbers = λ number x is. absurd (cc is);
}

-- ---- references

from_pin : (ps : List Page) → IsKept ps → (id : CallId) (o : Option ℕ) (name : Name) → pinned ps id ≡ o → Contains (option_map_or names_in (option_and_then (λ number. snapshot_at number ps) o) []) name → LatestHas (latest ps) name
from_pin ps kept id None name is has = absurd (no_member name has)
from_pin ps kept id (Some number) name is has =
    let (x, at, keeps) = (kept.pins id number is).1 in
    keeps name (subst (λ o. Contains (option_map_or names_in o []) name) at has)

pub from_call : (ps : List Page) → IsKept ps → (id : CallId) (name : Name) → Contains (refers_to ps id) name → LatestHas (latest ps) name
from_call ps kept id name has =
    elim (Contains-append_cases (option_to_list (held ps id)) (option_map_or names_in (option_and_then (λ number. snapshot_at number ps) (pinned ps id)) []) name has) [
      | inl holds ↦ (kept.holds id name (from_option (held ps id) name holds)).1
      | inr pins ↦ from_pin ps kept id (pinned ps id) name refl pins
    ]

pub referred : (ps : List Page) → IsKept ps → (name : Name) → Contains (references ps) name → LatestHas (latest ps) name
referred ps kept name has =
    let (id, called, own) = from_joined (refers_to ps) (calls ps) name (from_sorted name_cmp exact_bytes (flat_map (refers_to ps) (calls ps)) name has) in
    from_call ps kept id name own

refers : (ps : List Page) (id : CallId) (name : Name) → Contains (calls ps) id → Contains (refers_to ps id) name → Contains (references ps) name
refers ps id name called own = in_sorted name_cmp exact_bytes (flat_map (refers_to ps) (calls ps)) name (in_joined (refers_to ps) (calls ps) id name called own)

pub held_referred : (ps : List Page) (id : CallId) (name : Name) → Contains (calls ps) id → held ps id ≡ Some name → Contains (references ps) name
held_referred ps id name called is =
    refers ps id name called
    (Contains-append_left (option_to_list (held ps id)) (option_map_or names_in (option_and_then (λ number. snapshot_at number ps) (pinned ps id)) []) name
    (subst (λ o. Contains (option_to_list o) name) (sym is) (here name [])))

pub pin_referred : (ps : List Page) (id : CallId) (number : ℕ) (x : Snapshot) (name : Name) → Contains (calls ps) id → pinned ps id ≡ Some number → snapshot_at number ps ≡ Some x → Contains (names_in x) name → Contains (references ps) name
pin_referred ps id number x name called is at has =
    refers ps id name called
    (Contains-append_right (option_to_list (held ps id)) (option_map_or names_in (option_and_then (λ number. snapshot_at number ps) (pinned ps id)) []) name
    (subst (λ o. Contains (option_map_or names_in (option_and_then (λ number. snapshot_at number ps) o) []) name) (sym is)
    (subst (λ o. Contains (option_map_or names_in o []) name) (sym at) has)))

-- ---- a driver's entry

-- the configuration has what its host names and what calls refer to
abbrev pub HasAll : List Page → Config → Type 0
HasAll ps config = (name : Name) → Contains (names_of_front config.front ++ references ps) name → Contains (map (λ c. c.name) config.clusters) name

shown_last : (present : Present) (config : Config) (trees : List ClusterTrees) (last : Option Snapshot) → IsNumber (standing present (Some config) trees) last None → IsShownIn config last
shown_last present config trees None is = absurd (cc is)
shown_last present config trees (Some last) is = ap (λ s. s.0) is

unpublished : (ps : List Page) (actor line : ℕ) (event : DriverEvent) (reply : DriverReply) (present : Present) (watched : List Watched) (least : Option Key) (config : Option Config) (trees : List ClusterTrees) → IsKept ps →
    IsNumber (standing present config trees) (latest ps) None → IsKept (page_with_trees (entry_of actor line (What.Driver event reply)) present watched least config None trees ∷ ps)
unpublished ps actor line event reply present watched least config trees kept number = record {
  holds = kept.holds;
  pins = kept.pins;
  stands = λ c is. shown_last present c trees (latest ps) (subst (λ o. IsNumber (standing present o trees) (latest ps) None) is number);
  hosts = kept.hosts;
  numbers = kept.numbers;
}

is_newer : (number n : ℕ) (last : Option Snapshot) (stands : Shown) → IsAtMost number last → IsNumber (Some stands) last (Some n) → number < n
is_newer number n None stands most is = absurd most
is_newer number n (Some last) stands most is = let next : n ≡ last.number + 1 = is.0 in omega (arith, next, most)

not_this : (b : Bool) (x : Snapshot) (old : Option Snapshot) → b ≡ false → option_or (if b then Some x else None) old ≡ old
not_this true x old is = absurd (cc is)
not_this false x old is = refl

at_most : (b : Bool) (number n : ℕ) (x y : Snapshot) (old : Option Snapshot) → (n == number) ≡ b → (old ≡ Some y → number < n) → option_or (if b then Some x else None) old ≡ Some y → number ≤ n
at_most true number n x y old test older is = let same : n ≡ number = eqb-true n number test in omega (arith, same)
at_most false number n x y old test older is = let less : number < n = older is in omega (arith, less)

published : (ps : List Page) (actor line : ℕ) (event : DriverEvent) (reply : DriverReply) (present : Present) (watched : List Watched) (least : Option Key) (config : Config) (trees : List ClusterTrees) (n : ℕ) → IsKept ps →
    IsNumber (standing present (Some config) trees) (latest ps) (Some n) → HasAll ps config → IsKept (page_with_trees (entry_of actor line (What.Driver event reply)) present watched least (Some config) (Some n) trees ∷ ps)
published ps actor line event reply present watched least config trees n kept number all =
    let newer : (m : ℕ) (x : Snapshot) → snapshot_at m ps ≡ Some x → m < n = λ m x is. is_newer m n (latest ps) (config, views present.state trees config) (kept.numbers m x is) number in
    let new : Snapshot = record { number = n; config = config; trees = views present.state trees config } in record {
      holds = λ id name is.
          let called : Contains (calls ps) id = (kept.holds id name is).0 in
          (called, all name (Contains-append_right (names_of_front config.front) (references ps) name (held_referred ps id name called is)));
      pins = λ id m is.
          let (called, (x, at, keeps)) = kept.pins id m is in
          let less : m < n = newer m x at in (
            called,
            (
              x,
              not_this (n == m) new (snapshot_at m ps) (ne_eqb n m (λ e. absurd (omega (arith, e, less)))) ∙ at,
              λ name has. all name (Contains-append_right (names_of_front config.front) (references ps) name (pin_referred ps id m x name called is at has)),
            ),
          );
      stands = λ c is. sym (cc is);
      hosts = λ name has. all name (Contains-append_left (names_of_front config.front) (references ps) name has);
      numbers = λ m x is. at_most (n == m) m n new x (snapshot_at m ps) refl (newer m x) is;
    }

pub kept_driver : (ps : List Page) (actor line : ℕ) (event : DriverEvent) (reply : DriverReply) (present : Present) (watched : List Watched) (least : Option Key) (config : Option Config) (trees : List ClusterTrees) (number : Option ℕ) → IsKept ps →
    IsNumber (standing present config trees) (latest ps) number → ((c : Config) → config ≡ Some c → HasAll ps c) → IsKept (page_with_trees (entry_of actor line (What.Driver event reply)) present watched least config number trees ∷ ps)
kept_driver ps actor line event reply present watched least config trees None kept is all = unpublished ps actor line event reply present watched least config trees kept is
kept_driver ps actor line event reply present watched least None trees (Some n) kept is all = absurd (cc is)
kept_driver ps actor line event reply present watched least (Some c) trees (Some n) kept is all = published ps actor line event reply present watched least c trees n kept is (all c refl)

-- a configuration that stays has all
stays_shown : (last : Option Snapshot) (config : Config) (name : Name) → IsShownIn config last → LatestHas last name → Contains (map (λ c. c.name) config.clusters) name
stays_shown None config name shown has = absurd has
stays_shown (Some last) config name shown has = subst (λ (c : Config). Contains (map (λ c. c.name) c.clusters) name) (sym shown) has

host_shown : (last : Option Snapshot) (config : Config) (name : Name) → HasHosts last → IsShownIn config last → Contains (names_of_front config.front) name → LatestHas last name
host_shown None config name hosts shown has = absurd shown
host_shown (Some last) config name hosts shown has = hosts name (subst (λ (c : Config). Contains (names_of_front c.front) name) shown has)

pub stays_all : (ps : List Page) (config : Config) → IsKept ps → config_now ps ≡ Some config → HasAll ps config
stays_all ps config kept is name has =
    elim (Contains-append_cases (names_of_front config.front) (references ps) name has) [
      | inl own ↦ stays_shown (latest ps) config name (kept.stands config is) (host_shown (latest ps) config name kept.hosts (kept.stands config is) own)
      | inr refers ↦ stays_shown (latest ps) config name (kept.stands config is) (referred ps kept name refers)
    ]

-- ---- a caller's entry

pub same_id : (a b : CallId) → a.0 ≡ b.0 → a ≡ b
same_id a b is = let make : ℕ → CallId = λ n. record { 0 = n } in ap make is

-- ---- a pin

found_at : (o : Option Snapshot) (ps : List Page) (x : Snapshot) → (latest ps ≡ Some x → snapshot_at x.number ps ≡ Some x) → option_or o (latest ps) ≡ Some x →
    option_or (option_and_then (λ y. if y.number == x.number then Some y else None) o) (snapshot_at x.number ps) ≡ Some x
found_at None ps x more is = more is
found_at (Some y) ps x more is =
    let same : y ≡ x = cc is in
    let test : (x.number == x.number) ≡ true = eq-eqb x.number x.number refl in
    let here : option_or (if x.number == x.number then Some x else None) (snapshot_at x.number ps) ≡ Some x = subst (λ b. option_or (if b then Some x else None) (snapshot_at x.number ps) ≡ Some x) (sym test) refl in
    subst (λ (z : Snapshot). option_or (if z.number == x.number then Some z else None) (snapshot_at x.number ps) ≡ Some x) (sym same) here

pub latest_found : (ps : List Page) (x : Snapshot) → latest ps ≡ Some x → snapshot_at x.number ps ≡ Some x
latest_found [] x is = absurd (cc is)
latest_found (p ∷ ps) x is = found_at p.snapshot ps x (latest_found ps x) is

-- where an entry tells of a call's pin, and where it doesn't
told_pin : (b : Bool) (new : Option ℕ) (older : Option (Option ℕ)) (number : ℕ) (Goal : Type 0) → (b ≡ true → new ≡ Some number → Goal) → (unwrap_or older None ≡ Some number → Goal) → unwrap_or (option_or (if b then Some new else None) older) None ≡ Some number → Goal
told_pin true new older number Goal own other is = own refl is
told_pin false new older number Goal own other is = other is

told_hold : (b : Bool) (new older : Option Name) (name : Name) (Goal : Type 0) → (b ≡ true → new ≡ Some name → Goal) → (older ≡ Some name → Goal) → unwrap_or (if b then Some new else None) older ≡ Some name → Goal
told_hold true new older name Goal own other is = own refl is
told_hold false new older name Goal own other is = other is

pin_kept : (ps : List Page) → IsKept ps → (last : Option Snapshot) (number : ℕ) → latest ps ≡ last → option_map (λ x. x.number) last ≡ Some number → IsPinKept ps number last
pin_kept ps kept None number are is = absurd (cc is)
pin_kept ps kept (Some x) number are is =
    let same : x.number ≡ number = cc is in
    let hosts : HasHosts (Some x) = subst (λ o. HasHosts o) are kept.hosts in
    (x, subst (λ n. snapshot_at n ps ≡ Some x) same (latest_found ps x are), hosts)

kept_pin : (ps : List Page) (past : List Entry) (actor line : ℕ) (call : Call) → IsKept ps → (last : Option ℕ) → latest_number ps ≡ last → IsKept (caller_page (entry_of actor line (What.Caller (CallerEvent.Pin call) (pin_reply last))) past ps ∷ ps)
kept_pin ps past actor line call kept None are = record {
  holds = λ id name is. let (called, has) = kept.holds id name is in (there call.id (calls ps) id called, has);
  pins = λ id number is.
      told_pin (call.id.0 == id.0) None (first_some (λ p. pins_after id p.entry.what) ps) number (Contains (call.id ∷ calls ps) id × IsPinKept ps number (latest ps))
      (λ test new. absurd (cc new))
      (λ old. let (called, has) = kept.pins id number old in (there call.id (calls ps) id called, has)) is;
  stands = kept.stands;
  hosts = kept.hosts;
  numbers = kept.numbers;
}
kept_pin ps past actor line call kept (Some n) are = record {
  holds = λ id name is. let (called, has) = kept.holds id name is in (there call.id (calls ps) id called, has);
  pins = λ id number is.
      told_pin (call.id.0 == id.0) (Some n) (first_some (λ p. pins_after id p.entry.what) ps) number (Contains (call.id ∷ calls ps) id × IsPinKept ps number (latest ps))
      (λ test new. (subst (λ i. Contains (call.id ∷ calls ps) i) (same_id call.id id (eqb-true call.id.0 id.0 test)) (here call.id (calls ps)), pin_kept ps kept (latest ps) number refl (are ∙ new)))
      (λ old. let (called, has) = kept.pins id number old in (there call.id (calls ps) id called, has)) is;
  stands = kept.stands;
  hosts = kept.hosts;
  numbers = kept.numbers;
}

-- ---- a hold

pub answer_named : (front : Front) (answer : RouteAnswer) (name : Name) → answer_cluster front answer ≡ Some name → Contains (front_clusters front) name
answer_named front answer name is = cluster_named front answer (Some (record { ref_ptr = (0, 0); now = name })) (sym is)

routed_named : (front : Result Front Reason) (answer : RouteAnswer) (name : Name) → routed_to front answer ≡ Some name → Contains (names_of_front front) name
routed_named (Ok front) answer name is = answer_named front answer name is
routed_named (Err reason) answer name is = absurd (cc is)

kept_hold_routed : (ps : List Page) (past : List Entry) (actor line : ℕ) (call : Call) (number : ℕ) (x : Snapshot) (answer : RouteAnswer) → IsKept ps → pinned ps call.id ≡ Some number → snapshot_at number ps ≡ Some x →
    IsKept (caller_page (entry_of actor line (What.Caller (CallerEvent.Hold call) (CallerReply.Routed number answer))) past ps ∷ ps)
kept_hold_routed ps past actor line call number x answer kept pin at = record {
  holds = λ id name is.
      told_hold (call.id.0 == id.0) (found_in number answer ps) (held ps id) name (Contains (calls ps) id × LatestHas (latest ps) name)
      (λ test new.
      let (called, (y, at_y, keeps)) = kept.pins call.id number pin in
      let found : routed_to x.config.front answer ≡ Some name = subst (λ o. option_and_then (λ z. routed_to z.config.front answer) o ≡ Some name) at new in
      let same : x ≡ y = cc (at, at_y) in
      (subst (λ i. Contains (calls ps) i) (same_id call.id id (eqb-true call.id.0 id.0 test)) called, keeps name (subst (λ (z : Snapshot). Contains (names_in z) name) same (routed_named x.config.front answer name found))))
      (kept.holds id name) is;
  pins = λ id m is.
      told_pin (call.id.0 == id.0) None (first_some (λ p. pins_after id p.entry.what) ps) m (Contains (calls ps) id × IsPinKept ps m (latest ps)) (λ test new. absurd (cc new)) (kept.pins id m) is;
  stands = kept.stands;
  hosts = kept.hosts;
  numbers = kept.numbers;
}

kept_hold : (ps : List Page) (past : List Entry) (actor line : ℕ) (call : Call) → IsKept ps → (pin : Option ℕ) → pinned ps call.id ≡ pin → IsKept (caller_page (entry_of actor line (What.Caller (CallerEvent.Hold call) (hold_reply ps call pin))) past ps ∷ ps)
kept_hold ps past actor line call kept None is = record {
  holds = kept.holds;
  pins = λ id m is.
      told_pin (call.id.0 == id.0) None (first_some (λ p. pins_after id p.entry.what) ps) m (Contains (calls ps) id × IsPinKept ps m (latest ps)) (λ test new. absurd (cc new)) (kept.pins id m) is;
  stands = kept.stands;
  hosts = kept.hosts;
  numbers = kept.numbers;
}
kept_hold ps past actor line call kept (Some number) is =
    let (x, at, keeps) = (kept.pins call.id number is).1 in
    let reply : Option Snapshot → CallerReply = λ o. option_map_or (λ x. CallerReply.Routed number (route x.config.front call)) o CallerReply.NoSnapshot in
    subst (λ o. IsKept (caller_page (entry_of actor line (What.Caller (CallerEvent.Hold call) (reply o))) past ps ∷ ps)) (sym at) (kept_hold_routed ps past actor line call number x (route x.config.front call) kept is at)

-- ---- any event of a caller

kept_caller : (ps : List Page) (past : List Entry) (actor line : ℕ) (event : CallerEvent) → IsKept ps → IsKept (caller_page (entry_of actor line (What.Caller event (caller_reply ps event))) past ps ∷ ps)
kept_caller ps past actor line (CallerEvent.Pin call) kept = kept_pin ps past actor line call kept (latest_number ps) refl
kept_caller ps past actor line (CallerEvent.Hold call) kept = kept_hold ps past actor line call kept (pinned ps call.id) refl
kept_caller ps past actor line (CallerEvent.Pick id word) kept = record {
  holds = kept.holds;
  pins = kept.pins;
  stands = kept.stands;
  hosts = kept.hosts;
  numbers = kept.numbers;
}
kept_caller ps past actor line (CallerEvent.Commit other) kept = record {
  holds = λ id name is. told_hold (other.0 == id.0) None (held ps id) name (Contains (calls ps) id × LatestHas (latest ps) name) (λ test new. absurd (cc new)) (kept.holds id name) is;
  pins = kept.pins;
  stands = kept.stands;
  hosts = kept.hosts;
  numbers = kept.numbers;
}

pub kept_reply : (ps : List Page) (past : List Entry) (actor line : ℕ) (event : CallerEvent) (reply : CallerReply) → IsKept ps → reply ≡ caller_reply ps event → IsKept (caller_page (entry_of actor line (What.Caller event reply)) past ps ∷ ps)
kept_reply ps past actor line event reply kept right = subst (λ r. IsKept (caller_page (entry_of actor line (What.Caller event r)) past ps ∷ ps)) (sym right) (kept_caller ps past actor line event kept)

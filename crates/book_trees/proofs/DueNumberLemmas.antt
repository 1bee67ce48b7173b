-- The latest snapshot shows what stands, and how snapshots are numbered.
use Rattle.std.proofs.Common.{◌≡◌, ℕ, ◌+◌, ◌≤◌, Bool, true, false, List, [], ◌∷◌, length, Option, Some, None, refl, sym, ap, ◌∙◌, subst, arith}
use Rattle.std.specs.Prelude.{IfSome, option_map}
use Rattle.std.specs.Option.{option_and_then, option_or}
use Rattle.xds_config.specs.declared.config.Config.{Config}
use Rattle.cluster_tree.specs.declared.snapshot.Snapshot.{Snapshot}
use Rattle.cluster_tree.specs.ViewChanges.{IsChangeMark}
use Rattle.call_journal.specs.declared.entry.What.{What}
use Rattle.call_journal.specs.declared.entry.Entry.{Entry}
use Rattle.xds_history.specs.Setting.{Setting, setting_of}
use Rattle.xds_history.specs.declared.page.ClusterTrees.{ClusterTrees}
use Rattle.xds_history.specs.declared.page.Page.{Page}
use Rattle.xds_history.specs.Clock.{now, state, reported_by, time_by}
use Rattle.xds_history.specs.Page.{config_now, trees_now, latest, latest_number}
use Rattle.xds_history.specs.Trees.{Present}
use Rattle.xds_history.specs.Pages.{pages, page_of, present_after, snapshot_of}
use Rattle.xds_history.specs.Right.{IsNumber, IsReply, Right, Shown, shown, standing}
use Rattle.book_trees.specs.TreesKept.{present}
use Rattle.book_trees.specs.ReportedLaws.{LatestShowsWhatStands, NumbersAreFew, ShowsWhatStands, stands_now}
use Rattle.book_trees.proofs.TypedLemmas.{configs_are_kept}

-- ---- one entry

abbrev some_shown : Shown → Option Shown
some_shown x = Some x

none_shown : (last : Option Snapshot) → None ≡ option_map shown last → last ≡ None
none_shown None is = refl
none_shown (Some x) is = absurd (cc)

snapshot_shows : (p : Present) (config : Option Config) (trees : List ClusterTrees) (number : Option ℕ) (last : Option Snapshot) → IsNumber (standing p config trees) last number → (config ≡ None → last ≡ None) →
    standing p config trees ≡ option_map shown (option_or (option_and_then (snapshot_of p config trees) number) last)
snapshot_shows p None trees number last is none =
    sym (ap (λ (n : Option ℕ). option_map shown (option_or (option_and_then (snapshot_of p None trees) n) last)) is ∙ ap (option_map shown) (none refl))
snapshot_shows p (Some config) trees number None is none = sym (ap (λ (n : Option ℕ). option_map shown (option_or (option_and_then (snapshot_of p (Some config) trees) n) None)) is)
snapshot_shows p (Some config) trees None (Some last) is none = ap some_shown is
snapshot_shows p (Some config) trees (Some number) (Some last) is none = refl

shows_by : (s : Setting) (e : Entry) (what : What) (past : List Entry) (ps : List Page) → IsReply s e what past ps → ((page_of s e what past ps).config ≡ None → config_now ps ≡ None) → ShowsWhatStands past ps →
    standing (record { state = λ address. reported_by what address (state past address); now = time_by what (now past) }) (page_of s e what past ps).config (page_of s e what past ps).trees ≡ option_map shown (latest (page_of s e what past ps ∷ ps))
shows_by s e (What.Driver event reply) past ps right keeps shows =
    let page : Page = page_of s e (What.Driver event reply) past ps in
    snapshot_shows (present_after past event) page.config page.trees reply.snapshot (latest ps) right.number_is
    (λ none. none_shown (latest ps) (sym (ap (λ (c : Option Config). standing (present past) c (trees_now ps)) (keeps none)) ∙ shows))
shows_by s e (What.Caller event reply) past ps right keeps shows = shows

latest_shows : (s : Setting) (past : List Entry) → ((e : Entry) (earlier : List Entry) → config_now (pages s (e ∷ earlier)) ≡ None → config_now (pages s earlier) ≡ None) → Right s past → ShowsWhatStands past (pages s past)
latest_shows s [] keeps right = refl
latest_shows s (e ∷ past) keeps right = shows_by s e e.what past (pages s past) right.0 (keeps e past) (latest_shows s past keeps right.1)

pub latest_shows_what_stands : LatestShowsWhatStands
latest_shows_what_stands boot target past kind right = latest_shows (setting_of boot target) past (λ e earlier none. configs_are_kept boot target e earlier kind none) right

-- ---- numbers

snapshot_few : (p : Present) (config : Option Config) (trees : List ClusterTrees) (number : Option ℕ) (last : Option Snapshot) (count : ℕ) → IsNumber (standing p config trees) last number → IfSome (option_map (λ x. x.number) last) (λ n. n ≤ count) →
    IfSome (option_map (λ x. x.number) (option_or (option_and_then (snapshot_of p config trees) number) last)) (λ n. n ≤ count + 1)
snapshot_few p config trees None last count is few = more last few
  where
    more : (last : Option Snapshot) → IfSome (option_map (λ x. x.number) last) (λ n. n ≤ count) → IfSome (option_map (λ x. x.number) last) (λ n. n ≤ count + 1)
    more None few = tt
    more (Some x) few = omega (arith, few)
snapshot_few p None trees (Some number) last count is few = absurd (cc)
snapshot_few p (Some config) trees (Some number) None count is few = let one : number ≡ 1 = cc in omega (arith, one)
snapshot_few p (Some config) trees (Some number) (Some last) count is few = let next = is.0 in omega (arith, next, few)

few_by : (s : Setting) (e : Entry) (what : What) (past : List Entry) (ps : List Page) (count : ℕ) → IsReply s e what past ps → IfSome (latest_number ps) (λ n. n ≤ count) → IfSome (latest_number (page_of s e what past ps ∷ ps)) (λ n. n ≤ count + 1)
few_by s e (What.Driver event reply) past ps count right few =
    let page : Page = page_of s e (What.Driver event reply) past ps in
    snapshot_few (present_after past event) page.config page.trees reply.snapshot (latest ps) count right.number_is few
few_by s e (What.Caller event reply) past ps count right few = more (latest_number ps) few
  where
    more : (last : Option ℕ) → IfSome last (λ n. n ≤ count) → IfSome last (λ n. n ≤ count + 1)
    more None few = tt
    more (Some x) few = omega (arith, few)

at_most : (last : Option ℕ) (a b : ℕ) → a ≡ b → IfSome last (λ n. n ≤ a) → IfSome last (λ n. n ≤ b)
at_most last a b same few = subst (λ k. IfSome last (λ n. n ≤ k)) same few

pub numbers_are_few : NumbersAreFew
numbers_are_few s [] right = tt
numbers_are_few s (e ∷ past) right =
    at_most (latest_number (pages s (e ∷ past))) (length past + 1) (length (e ∷ past)) (omega arith) (few_by s e e.what past (pages s past) (length past) right.0 (numbers_are_few s past right.1))

-- ---- the number that is due

some_number : (last : Option Snapshot) (n : ℕ) → Some n ≡ option_map (λ x. x.number) last → (x : Snapshot) × (last ≡ Some x) × (n ≡ x.number)
some_number None n is = absurd (cc)
some_number (Some x) n is = (x, refl, cc)

no_number : (last : Option Snapshot) → None ≡ option_map (λ (x : Snapshot). x.number) last → last ≡ None
no_number None is = refl
no_number (Some x) is = absurd (cc)

pub first_due : (past : List Entry) (ps : List Page) (stands : Shown) (differs : Bool) → ShowsWhatStands past ps → None ≡ latest_number ps → IsChangeMark differs (stands_now past ps) stands → IsNumber (Some stands) (latest ps) (Some 1)
first_due past ps stands differs shows is mark = subst (λ o. IsNumber (Some stands) o (Some 1)) (sym (no_number (latest ps) is)) refl

pub next_due : (past : List Entry) (ps : List Page) (stands : Shown) (number : ℕ) → ShowsWhatStands past ps → Some number ≡ latest_number ps → IsChangeMark true (stands_now past ps) stands → IsNumber (Some stands) (latest ps) (Some (number + 1))
next_due past ps stands number shows is mark =
    let (x, last, same) = some_number (latest ps) number is in
    let before : stands_now past ps ≡ Some (shown x) = shows ∙ ap (option_map shown) last in
    subst (λ o. IsNumber (Some stands) o (Some (number + 1))) (sym last) (ap (λ (n : ℕ). n + 1) same, λ stays. mark.differs refl (before ∙ ap some_shown (sym stays)))

pub none_due : (past : List Entry) (ps : List Page) (stands : Shown) (number : ℕ) → ShowsWhatStands past ps → Some number ≡ latest_number ps → IsChangeMark false (stands_now past ps) stands → IsNumber (Some stands) (latest ps) None
none_due past ps stands number shows is mark =
    let (x, last, same) = some_number (latest ps) number is in
    let before : stands_now past ps ≡ Some (shown x) = shows ∙ ap (option_map shown) last in
    let stays : Some stands ≡ Some (shown x) = sym (mark.stays refl) ∙ before in
    subst (λ o. IsNumber (Some stands) o None) (sym last) (same_shown stands (shown x) stays)
  where
    same_shown : (a b : Shown) → Some a ≡ Some b → a ≡ b
    same_shown a b is = cc

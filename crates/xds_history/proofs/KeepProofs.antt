-- Proofs of the laws on what calls refer to.
use Rattle.std.proofs.Common.{◌≡◌, ℕ, Option, Some, None, List, [], ◌∷◌, ◌++◌, map, refl, sym, ap, ◌∙◌, subst, IsTrue, not, is_some, option_map, option_and_then}
use Rattle.std.specs.Prelude.{Contains}
use Rattle.std.proofs.lemmas.List.Elements.{Contains-append_right}
use Rattle.std.proofs.lemmas.Map.Lookups.{exact_bytes}
use Rattle.xc_base.specs.declared.names.Key.{Key}
use Rattle.xds_config.specs.declared.config.Config.{Config}
use Rattle.cluster_tree.specs.declared.snapshot.Snapshot.{Snapshot}
use Rattle.call_journal.specs.declared.event.DriverEvent.{DriverEvent}
use Rattle.call_journal.specs.declared.reply.DriverReply.{DriverReply}
use Rattle.call_journal.specs.declared.entry.What.{What}
use Rattle.call_journal.specs.declared.entry.Entry.{Entry}
use Rattle.config_assembly.specs.Orders.{sorted, name_cmp}
use Rattle.config_assembly.specs.ReachedResources.{Resources}
use Rattle.config_assembly.specs.Front.{names_of_front}
use Rattle.config_assembly.specs.Reach.{reach, missing}
use Rattle.config_assembly.specs.WholeConfigs.{whole_config}
use Rattle.xds_history.specs.Setting.{Setting, known_as}
use Rattle.xds_history.specs.declared.page.Page.{Page}
use Rattle.xds_history.specs.declared.page.Watched.{Watched}
use Rattle.xds_history.specs.declared.page.ClusterTrees.{ClusterTrees}
use Rattle.xds_history.specs.Page.{config_now, trees_now}
use Rattle.xds_history.specs.Fates.{marked, fate_in, watch}
use Rattle.xds_history.specs.References.{references}
use Rattle.xds_history.specs.Trees.{Present, trees_after}
use Rattle.xds_history.specs.Pages.{pages, page_of, came, present_after, config_after, snapshot_of}
use Rattle.xds_history.specs.Right.{Right, IsReply}
use Rattle.xds_history.specs.HistoryLaws.{LatestHasReferences, PublishedHasHeld, PublishedHasPinned, WholeHasNoOthers, is_whole, published}
use Rattle.xds_history.proofs.LawProofs.{entry_of, no_others}
use Rattle.config_assembly.proofs.Members.{in_sorted}
use Rattle.xds_history.proofs.KeepLemmas.{IsKept, HasAll, kept_first, kept_driver, kept_reply, referred, held_referred, pin_referred, stays_all}

-- ---- what a driver's entry makes, piece by piece

abbrev pub marks_at : Setting → DriverEvent → DriverReply → List Entry → List Page → List Watched
marks_at s event reply past ps = marked s (came event reply) past ps (present_after past event).now

abbrev pub known_at : Setting → DriverEvent → DriverReply → List Entry → List Page → Resources
known_at s event reply past ps = known_as s (fate_in (marks_at s event reply past ps))

abbrev pub keys_at : Setting → DriverEvent → DriverReply → List Entry → List Page → List Key
keys_at s event reply past ps = reach (known_at s event reply past ps) (references ps)

abbrev pub missing_at : Setting → DriverEvent → DriverReply → List Entry → List Page → Option Key
missing_at s event reply past ps = missing (fate_in (marks_at s event reply past ps)) (keys_at s event reply past ps)

abbrev pub config_at : Setting → DriverEvent → DriverReply → List Entry → List Page → Option Config
config_at s event reply past ps = config_after (known_at s event reply past ps) (references ps) (missing_at s event reply past ps) (config_now ps)

-- ---- a configuration has what calls refer to

pub whole_all : (r : Resources) (ps : List Page) (config : Config) → whole_config r (references ps) ≡ Some config → HasAll ps config
whole_all r ps config is name has =
    subst (λ names. Contains names name) (sym (no_others r (references ps) config is)) (in_sorted name_cmp exact_bytes (names_of_front config.front ++ references ps) name has)

pub all_after : (r : Resources) (ps : List Page) (least : Option Key) → IsKept ps → (config : Config) → config_after r (references ps) least (config_now ps) ≡ Some config → HasAll ps config
all_after r ps None kept config is = whole_all r ps config is
all_after r ps (Some key) kept config is = stays_all ps config kept is

-- ---- every right history keeps what calls refer to

pub kept_at : (s : Setting) (ps : List Page) (past : List Entry) (actor line : ℕ) (what : What) → IsKept ps → IsReply s (entry_of actor line what) what past ps → IsKept (page_of s (entry_of actor line what) what past ps ∷ ps)
kept_at s ps past actor line (What.Driver event reply) kept right =
    kept_driver ps actor line event reply (present_after past event) (watch (marks_at s event reply past ps) (keys_at s event reply past ps)) (missing_at s event reply past ps) (config_at s event reply past ps)
    (trees_after (present_after past event) (trees_now ps) (config_at s event reply past ps)) reply.snapshot kept right.number_is
    (all_after (known_at s event reply past ps) ps (missing_at s event reply past ps) kept)
kept_at s ps past actor line (What.Caller event reply) kept right = kept_reply ps past actor line event reply kept right

pub kept : (s : Setting) (history : List Entry) → Right s history → IsKept (pages s history)
kept s [] right = kept_first
kept s (e ∷ past) right = kept_at s (pages s past) past e.actor e.line e.what (kept s past right.1) right.0

pub latest_has_references : LatestHasReferences
latest_has_references s history right name has = referred (pages s history) (kept s history right) name has

-- ---- snapshots that are published

-- what came before an entry of a right history is right
pub right_past : (s : Setting) (later past : List Entry) → Right s (later ++ past) → Right s past
right_past s [] past right = right
right_past s (e ∷ later) past right = right_past s later past right.1

snapshot_config : (present : Present) (config : Option Config) (trees : List ClusterTrees) (number : Option ℕ) (x : Snapshot) → option_and_then (snapshot_of present config trees) number ≡ Some x → config ≡ Some x.config
snapshot_config present config trees None x is = absurd (cc is)
snapshot_config present None trees (Some n) x is = absurd (cc is)
snapshot_config present (Some config) trees (Some n) x is = let of : Snapshot → Config = λ x. x.config in ap (option_map of) is

published_all : (s : Setting) (ps : List Page) (past : List Entry) (actor line : ℕ) (what : What) → IsKept ps → (x : Snapshot) → (page_of s (entry_of actor line what) what past ps).snapshot ≡ Some x → HasAll ps x.config
published_all s ps past actor line (What.Driver event reply) kept x is =
    all_after (known_at s event reply past ps) ps (missing_at s event reply past ps) kept x.config
    (snapshot_config (present_after past event) (config_at s event reply past ps) (trees_after (present_after past event) (trees_now ps) (config_at s event reply past ps)) reply.snapshot x is)
published_all s ps past actor line (What.Caller event reply) kept x is = absurd (cc is)

has_all : (s : Setting) (later : List Entry) (e : Entry) (past : List Entry) → Right s (later ++ e ∷ past) → (x : Snapshot) → published s e past ≡ Some x → HasAll (pages s past) x.config
has_all s later e past right x is = published_all s (pages s past) past e.actor e.line e.what (kept s past (right_past s later (e ∷ past) right).1) x is

pub published_has_held : PublishedHasHeld
published_has_held s later e past right x is call name holds =
    let before = kept s past (right_past s later (e ∷ past) right).1 in
    has_all s later e past right x is name
    (Contains-append_right (names_of_front x.config.front) (references (pages s past)) name (held_referred (pages s past) call name (before.holds call name holds).0 holds))

pub published_has_pinned : PublishedHasPinned
published_has_pinned s later e past right x is call number pin =
    let before = kept s past (right_past s later (e ∷ past) right).1 in
    let (called, (y, at, keeps)) = before.pins call number pin in (
      y,
      at,
      λ name has. has_all s later e past right x is name
          (Contains-append_right (names_of_front x.config.front) (references (pages s past)) name (pin_referred (pages s past) call number y name called pin at has)),
    )

-- ---- whole entries

none_missing : (o : Option Key) → IsTrue (not (is_some o)) → o ≡ None
none_missing None is = refl
none_missing (Some key) is = absurd (cc is)

whole_at : (s : Setting) (ps : List Page) (past : List Entry) (actor line : ℕ) (what : What) → IsReply s (entry_of actor line what) what past ps → IsTrue (is_whole what) → (config : Config) →
    (page_of s (entry_of actor line what) what past ps).config ≡ Some config → map (λ c. c.name) config.clusters ≡ sorted name_cmp (names_of_front config.front ++ references ps)
whole_at s ps past actor line (What.Driver event reply) right whole config is =
    let none : missing_at s event reply past ps ≡ None = sym right.missing_is ∙ none_missing reply.missing whole in
    no_others (known_at s event reply past ps) (references ps) config
    (subst (λ least. config_after (known_at s event reply past ps) (references ps) least (config_now ps) ≡ Some config) none is)
whole_at s ps past actor line (What.Caller event reply) right whole config is = absurd (cc whole)

pub whole_has_no_others : WholeHasNoOthers
whole_has_no_others s later e past right whole config is = whole_at s (pages s past) past e.actor e.line e.what (right_past s later (e ∷ past) right).0 whole config is

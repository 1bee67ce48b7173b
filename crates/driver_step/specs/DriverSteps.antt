-- A driver's entry, piece by piece: what came, what is reached, awaited and configured by it, and what is answered.
use Rattle.std.specs.Prelude.{◌≡◌, ℕ, List, Option, None, Some}
use Rattle.xc_base.specs.declared.names.Key.{Key}
use Rattle.xds_config.specs.declared.config.Config.{Config}
use Rattle.xds_bootstrap.specs.declared.bootstrap.Bootstrap.{Bootstrap}
use Rattle.xds_name.specs.declared.target.Target.{Target}
use Rattle.xds_cache.specs.KeptFates.{Watched as Rows, fate_of}
use Rattle.call_journal.specs.declared.event.DriverEvent.{DriverEvent}
use Rattle.call_journal.specs.declared.reply.DriverReply.{DriverReply}
use Rattle.call_journal.specs.declared.entry.What.{What}
use Rattle.call_journal.specs.declared.entry.Entry.{Entry}
use Rattle.xc_keys.specs.Keys.{key_cmp}
use Rattle.book_fates.specs.config_assembly.Orders.{Name, sorted}
use Rattle.book_fates.specs.config_assembly.ReachedResources.{Resources, resources}
use Rattle.book_fates.specs.config_assembly.Reach.{reach, missing}
use Rattle.book_fates.specs.config_assembly.WholeConfigs.{config_where}
use Rattle.book_fates.specs.xds_history.Setting.{Setting, known_as, setting_of}
use Rattle.book_fates.specs.xds_history.Responses.{Came, answered, stopped_at, verdict}
use Rattle.book_fates.specs.xds_history.Requests.{requests}
use Rattle.book_fates.specs.xds_history.declared.page.Page.{Page}
use Rattle.book_fates.specs.xds_history.declared.page.Watched.{Watched}
use Rattle.book_fates.specs.xds_history.declared.page.ClusterTrees.{ClusterTrees}
use Rattle.book_fates.specs.xds_history.Page.{config_now, latest, trees_now}
use Rattle.book_fates.specs.xds_history.Fates.{fate_in, marked, watch}
use Rattle.book_fates.specs.xds_history.References.{references}
use Rattle.book_fates.specs.xds_history.Trees.{trees_after}
use Rattle.book_fates.specs.xds_history.Pages.{came, config_after, driven, page_of, page_with_trees, present_after}
use Rattle.book_fates.specs.xds_history.Right.{IsDriverReply, IsNumber, standing}
use Rattle.book_fates.specs.FateSteps.{Knows}

-- ---- what stands once something came

-- the watched keys, each with what came for it
abbrev pub marks_with : Setting → Came → List Entry → List Page → List Watched
marks_with s c past ps = marked s c past ps (present_after past c.event).now

-- what is known of the keys by that
abbrev pub known_with : Setting → Came → List Entry → List Page → Resources
known_with s c past ps = known_as s (fate_in (marks_with s c past ps))

-- the keys that are reached, the least one that is awaited, and the configuration
pub record Assembly : Type 0 where
  pub reached : List Key
  pub missing : Option Key
  pub config : Option Config

-- they are those of the history
pub record IsAssembly (s : Setting) (c : Came) (past : List Entry) (ps : List Page) (a : Assembly) : Type 0 where
  pub reached_are : a.reached ≡ reach (known_with s c past ps) (references ps)
  pub missing_is : a.missing ≡ missing (fate_in (marks_with s c past ps)) a.reached
  pub config_is : a.config ≡ config_after (known_with s c past ps) (references ps) a.missing (config_now ps)

-- what is watched by them
abbrev pub watched_by : Setting → Came → List Entry → List Page → Assembly → List Watched
watched_by s c past ps a = watch (marks_with s c past ps) a.reached

-- the trees by them
abbrev pub trees_by : Came → List Entry → List Page → Assembly → List ClusterTrees
trees_by c past ps a = trees_after (present_after past c.event) (trees_now ps) a.config

-- the page of an entry by them, with a snapshot of this number
abbrev pub page_by : Setting → Came → List Entry → List Page → Assembly → Entry → Option ℕ → Page
page_by s c past ps a e number =
    page_with_trees e (present_after past c.event) (watched_by s c past ps a) a.missing a.config number (trees_by c past ps a)

-- ---- what is answered

-- the reply to an event is the one by this assembly
pub record IsAnswer (s : Setting) (past : List Entry) (ps : List Page) (event : DriverEvent) (reply : DriverReply) (a : Assembly) : Type 0 where
  pub verdict_is : reply.verdict ≡ verdict s past event reply.refused
  pub refused_is : reply.refused ≡ stopped_at s reply.refused (answered s (came event reply))
  pub sent_is : reply.sent ≡ requests s (came event reply) past (watched_by s (came event reply) past ps a)
  pub missing_is : reply.missing ≡ a.missing
  pub number_is : IsNumber (standing (present_after past event) a.config (trees_by (came event reply) past ps a)) (latest ps) reply.snapshot

-- the entry is the next one of a right history, and its page is the one by the assembly
pub record IsNextDriven (s : Setting) (past : List Entry) (ps : List Page) (line : ℕ) (event : DriverEvent) (reply : DriverReply) (a : Assembly) : Type 0 where
  pub reply_is : IsDriverReply s event reply past ps (page_of s (driven 0 line event reply) (What.Driver event reply) past ps)
  pub page_is : page_of s (driven 0 line event reply) (What.Driver event reply) past ps ≡ page_by s (came event reply) past ps a (driven 0 line event reply) reply.snapshot

-- such a reply makes the next entry of a right history
abbrev pub AnswersAreNext : Type 0
AnswersAreNext = (s : Setting) (past : List Entry) (ps : List Page) (line : ℕ) (event : DriverEvent) (reply : DriverReply) (a : Assembly) →
    IsAssembly s (came event reply) past ps a → IsAnswer s past ps event reply a → IsNextDriven s past ps line event reply a

-- ---- what a cache makes

-- what a cache that knows these rows makes
pub record IsMadeOf (target : Target) (boot : Bootstrap) (rows : Rows) (names : List Name) (reached : List Key) (least : Option Key) (made : Option Config) : Type 0 where
  pub reached_are : reached ≡ reach (resources target boot.authorities rows) names
  pub missing_is : least ≡ missing (fate_of rows) reached
  pub config_is : made ≡ config_where least (resources target boot.authorities rows) names

-- the configuration that was made where no key is awaited, and the one from before else
abbrev pub made_or : Option Key → Option Config → Option Config → Option Config
made_or None made before = made
made_or (Some key) made before = before

-- what a cache that knows what came makes is what is reached, awaited and configured by the history
abbrev pub CachesAssemble : Type 0
CachesAssemble = (boot : Bootstrap) (target : Target) (c : Came) (past : List Entry) (ps : List Page) (rows : Rows) (reached : List Key) (least : Option Key) (made : Option Config) →
    Knows rows (marks_with (setting_of boot target) c past ps) → IsMadeOf target boot rows (references ps) reached least made →
    IsAssembly (setting_of boot target) c past ps (record { reached = reached; missing = least; config = made_or least made (config_now ps) })

-- the keys that are reached stand in order, each once
abbrev pub ReachedKeysRise : Type 0
ReachedKeysRise = (r : Resources) (references : List Name) (reached : List Key) → reached ≡ reach r references → sorted key_cmp reached ≡ reached

-- The pages of a history.
use Rattle.std.specs.Prelude.{ℕ, List, [], ◌∷◌, Option, Some, None, option_map, option_and_then}
use Rattle.xc_base.specs.declared.names.Key.{Key}
use Rattle.xds_config.specs.declared.config.Config.{Config}
use Rattle.cluster_tree.specs.declared.snapshot.Snapshot.{Snapshot}
use Rattle.call_journal.specs.declared.event.DriverEvent.{DriverEvent}
use Rattle.call_journal.specs.declared.event.CallerEvent.{CallerEvent}
use Rattle.call_journal.specs.declared.reply.DriverReply.{DriverReply}
use Rattle.call_journal.specs.declared.reply.CallerReply.{CallerReply}
use Rattle.call_journal.specs.declared.entry.What.{What}
use Rattle.call_journal.specs.declared.entry.Entry.{Entry}
use Rattle.config_assembly.specs.Orders.{Name}
use Rattle.config_assembly.specs.ReachedResources.{Resources}
use Rattle.config_assembly.specs.Reach.{reach, missing}
use Rattle.config_assembly.specs.WholeConfigs.{whole_config}
use Rattle.xds_history.specs.Setting.{Setting, known_as}
use Rattle.xds_history.specs.Clock.{now, state, time_after, reported}
use Rattle.xds_history.specs.Responses.{Came}
use Rattle.xds_history.specs.declared.page.Page.{Page}
use Rattle.xds_history.specs.declared.page.Watched.{Watched}
use Rattle.xds_history.specs.declared.page.ClusterTrees.{ClusterTrees}
use Rattle.xds_history.specs.Page.{watched_now, config_now, trees_now}
use Rattle.xds_history.specs.Fates.{marked, fate_in, watch}
use Rattle.xds_history.specs.References.{references}
use Rattle.xds_history.specs.Trees.{Present, trees_after}
use Rattle.xds_history.specs.Pickers.{views}

abbrev pub came : DriverEvent → DriverReply → Came
came event reply = record { event = event; verdict = reply.verdict; refused = reply.refused }

-- the time and the states of addresses after an event
abbrev pub present_after : List Entry → DriverEvent → Present
present_after past event = record { now = time_after event (now past); state = λ address. reported event address (state past address) }

-- what stands, under this number
abbrev pub snapshot_of : Present → Option Config → List ClusterTrees → ℕ → Option Snapshot
snapshot_of present config trees number = option_map with_config config
  where
    with_config : Config → Snapshot
    with_config c = record { number = number; config = c; trees = views present.state trees c }

-- the configuration is made anew where no reached key is awaited, and stays else
abbrev pub config_after : Resources → List Name → Option Key → Option Config → Option Config
config_after r references None before = whole_config r references
config_after r references (Some key) before = before

-- What stands after a driver's entry, piece by piece, each on those before: the marks, the reached keys, the least one that
-- is awaited, the configuration, the trees.
abbrev pub page_with_trees : Entry → Present → List Watched → Option Key → Option Config → Option ℕ → List ClusterTrees → Page
page_with_trees e present watched least config number trees = record {
  entry = e;
  now = present.now;
  watched = watched;
  missing = least;
  config = config;
  trees = trees;
  snapshot = option_and_then (snapshot_of present config trees) number;
}

abbrev pub page_with_config : Entry → Present → List Page → List Watched → Option Key → Option ℕ → Option Config → Page
page_with_config e present ps watched least number config =
    page_with_trees e present watched least config number (trees_after present (trees_now ps) config)

abbrev pub page_with_missing : Setting → Entry → Present → List Page → Option ℕ → List Watched → List Name → List Key → Option Key → Page
page_with_missing s e present ps number marks names keys least =
    page_with_config e present ps (watch marks keys) least number (config_after (known_as s (fate_in marks)) names least (config_now ps))

abbrev pub page_with_reach : Setting → Entry → Present → List Page → Option ℕ → List Watched → List Name → List Key → Page
page_with_reach s e present ps number marks names keys =
    page_with_missing s e present ps number marks names keys (missing (fate_in marks) keys)

abbrev pub page_with_marks : Setting → Entry → Present → List Page → Option ℕ → List Name → List Watched → Page
page_with_marks s e present ps number names marks =
    page_with_reach s e present ps number marks names (reach (known_as s (fate_in marks)) names)

-- the snapshot has the number of the reply, which a right history gives where one is due
abbrev pub driver_page : Setting → Entry → Came → Option ℕ → List Entry → List Page → Present → Page
driver_page s e c number past ps present =
    page_with_marks s e present ps number (references ps) (marked s c past ps present.now)

-- a caller's entry changes nothing of this
abbrev pub caller_page : Entry → List Entry → List Page → Page
caller_page e past ps = record {
  entry = e;
  now = now past;
  watched = watched_now ps;
  missing = None;
  config = config_now ps;
  trees = trees_now ps;
  snapshot = None;
}

abbrev pub page_of : Setting → Entry → What → List Entry → List Page → Page
page_of s e (What.Driver event reply) past ps = driver_page s e (came event reply) reply.snapshot past ps (present_after past event)
page_of s e (What.Caller event reply) past ps = caller_page e past ps

abbrev pub turned_to : Setting → Entry → List Entry → List Page → List Page
turned_to s e past ps = page_of s e e.what past ps ∷ ps

-- a page for each entry
abbrev pub pages : Setting → List Entry → List Page
pages s [] = []
pages s (e ∷ past) = turned_to s e past (pages s past)

-- ---- entries

-- the entry of an event of the driver, or of a caller, with its reply
abbrev pub driven : ℕ → ℕ → DriverEvent → DriverReply → Entry
driven actor line event reply = record { actor = actor; line = line; what = What.Driver event reply }

abbrev pub called : ℕ → ℕ → CallerEvent → CallerReply → Entry
called actor line event reply = record { actor = actor; line = line; what = What.Caller event reply }

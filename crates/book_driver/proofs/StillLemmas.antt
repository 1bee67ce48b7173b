-- What a caller of a step can know of what is kept.
use Rattle.std.proofs.Common.{◌≡◌, ℕ, Bool, true, false, ◌&&◌, ◌||◌, not, List, [], ◌∷◌, ◌++◌, length, refl, sym, ap, ◌∙◌, subst, IsTrue}
use Rattle.std.specs.List.{list_all}
use Rattle.std.proofs.lemmas.List.FromFn.{length-map-range_with_len}
use Rattle.call_journal.specs.declared.entry.What.{What}
use Rattle.call_journal.specs.declared.entry.Entry.{Entry}
use Rattle.book_trees.specs.xds_history.Setting.{Setting}
use Rattle.book_trees.specs.xds_history.References.{references, references_seen}
use Rattle.book_trees.specs.xds_history.Pages.{pages}
use Rattle.book_trees.specs.xds_history.HistoryLaws.{is_call}
use Rattle.book_trees.proofs.xds_history.LawProofs.{entry_of}
use Rattle.driver_step.specs.book_streams.StreamsKept.{place_of, state_of}
use Rattle.book_driver.specs.WatcherKept.{has_driven}
use Rattle.book_driver.specs.DriverKept.{DriversHaveHistory, IsDriverAt, StillRepeats, StreamsAreAll}

pub drivers_have_history : DriversHaveHistory
drivers_have_history s past d at = record { past = past; at = subst (λ t. IsDriverAt t past d) at.subscribed.watcher_is.setting_is at }

pub streams_are_all : StreamsAreAll
streams_are_all s past d at = ap length at.subscribed.watcher_is.streams_are ∙ length-map-range_with_len (λ place. state_of s (place_of place) past) 0 s.authorities

-- ---- the driver's last entry

both : (a b : Bool) → IsTrue (a && b) → IsTrue a × IsTrue b
both true b is = (refl, is)
both false b is = absurd (cc is)

seen_on : (s : Setting) (past : List Entry) (actor line : ℕ) (what : What) → IsTrue (is_call what) → references_seen (pages s (entry_of actor line what ∷ past)) ≡ references_seen (pages s past)
seen_on s past actor line (What.Driver event reply) is = absurd (cc is)
seen_on s past actor line (What.Caller event reply) is = refl

seen_driven : (s : Setting) (past : List Entry) (actor line : ℕ) (what : What) → IsTrue (not (is_call what)) → references_seen (pages s (entry_of actor line what ∷ past)) ≡ references (pages s past)
seen_driven s past actor line (What.Driver event reply) is = refl
seen_driven s past actor line (What.Caller event reply) is = absurd (cc is)

-- the clusters to which calls referred at it
seen_before : (s : Setting) (between : List Entry) (before : Entry) (earlier : List Entry) → IsTrue (list_all (λ c. is_call c.what) between) → IsTrue (not (is_call before.what)) →
    references_seen (pages s (between ++ before ∷ earlier)) ≡ references (pages s earlier)
seen_before s [] before earlier calls driver = seen_driven s earlier before.actor before.line before.what driver
seen_before s (e ∷ between) before earlier calls driver =
    let (first, rest) = both (is_call e.what) (list_all (λ c. is_call c.what) between) calls in
    seen_on s (between ++ before ∷ earlier) e.actor e.line e.what first ∙ seen_before s between before earlier rest driver

or_more : (b more : Bool) → more ≡ true → (b || more) ≡ true
or_more true more is = refl
or_more false more is = is

was_first : (b more : Bool) → b ≡ true → (b || more) ≡ true
was_first true more is = refl
was_first false more is = absurd (cc is)

was_driven : (between : List Entry) (before : Entry) (earlier : List Entry) → IsTrue (not (is_call before.what)) → has_driven (between ++ before ∷ earlier) ≡ true
was_driven [] before earlier driver = was_first (not (is_call before.what)) (has_driven earlier) driver
was_driven (e ∷ between) before earlier driver = or_more (not (is_call e.what)) (has_driven (between ++ before ∷ earlier)) (was_driven between before earlier driver)

pub still_repeats : StillRepeats
still_repeats s between before earlier event report calls driver refs = record {
  report = report;
  driven = was_driven between before earlier driver;
  same = refs ∙ sym (seen_before s between before earlier calls driver);
}

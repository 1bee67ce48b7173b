-- What is seen of trees after an entry, and what is published of it.
use Rattle.std.proofs.Common.{◌≡◌, ℕ, true, false, List, Option, Some, None, refl, sym, ap, ◌∙◌, subst, is_some, option_map, option_and_then}
use Rattle.std.specs.Prelude.{IfSome}
use Rattle.std.specs.Option.{option_or}
use Rattle.xds_config.specs.declared.config.Config.{Config}
use Rattle.xds_config.specs.Configs.{IsLawfulConfig}
use Rattle.cluster_tree.specs.declared.snapshot.Snapshot.{Snapshot}
use Rattle.cluster_tree.specs.ViewChanges.{IsChangeMark}
use Rattle.call_journal.specs.declared.event.DriverEvent.{DriverEvent}
use Rattle.call_journal.specs.declared.entry.Entry.{Entry}
use Rattle.book_trees.specs.xds_history.Setting.{Setting}
use Rattle.book_trees.specs.xds_history.Page.{latest}
use Rattle.book_trees.specs.xds_history.Pages.{pages, present_after, snapshot_of}
use Rattle.book_trees.specs.xds_history.Right.{IsNumber}
use Rattle.book_driver.specs.declared.configured_trees.Published.{Published}
use Rattle.book_driver.specs.declared.configured_trees.Seen.{Seen}
use Rattle.book_driver.specs.ShownTrees.{AreSeen, IsNews, IsPublication, IsSeen, IsShownBy, number_in, published_by, snapshot_by, stands_with, trees_with}

-- ---- marks of the configuration

pub new_mark : (before : Option Config) (config : Config) → (before ≡ Some config → ⊥) → IsChangeMark true before config
new_mark before config other = record { stays = λ e. absurd (cc e); differs = λ e. other }

pub old_mark : (before : Option Config) (config : Config) → before ≡ Some config → IsChangeMark false before config
old_mark before config same = record { stays = λ e. same; differs = λ e. absurd (cc e) }

-- ---- the configuration that stands

-- it was made, or is the one from before
pub news_are : (made before : Option Config) (config : Config) → IsNews made before (Some config) → option_or made before ≡ Some config
news_are made before config is = ap (λ o. option_or o before) is.0

pub either_lawful : (made before : Option Config) → IfSome made IsLawfulConfig → IfSome before IsLawfulConfig → IfSome (option_or made before) IsLawfulConfig
either_lawful None before one two = two
either_lawful (Some config) before one two = one

-- there is a configuration
pub some_of : (o : Option Config) → is_some o ≡ true → (config : Config) × (o ≡ Some config)
some_of None is = absurd (cc is)
some_of (Some config) is = (config, refl)

pub seen_where : (s : Setting) (event : DriverEvent) (past : List Entry) (o : Option Config) (seen : Seen) → is_some o ≡ true → ((config : Config) → o ≡ Some config → IsSeen s event past config seen) → AreSeen s event past o (Some seen)
seen_where s event past None seen is sees = absurd (cc is)
seen_where s event past (Some config) seen is sees = sees config refl

-- ---- numbers

pub none_due : (s : Setting) (event : DriverEvent) (past : List Entry) (config : Option Config) → AreSeen s event past config None → IsNumber (stands_with s event past config) (latest (pages s past)) None
none_due s event past None seen = refl
none_due s event past (Some config) seen = absurd seen

pub some_due : (s : Setting) (event : DriverEvent) (past : List Entry) (config : Option Config) (seen : Seen) (number : Option ℕ) → AreSeen s event past config (Some seen) → IfSome config IsLawfulConfig →
    ((c : Config) → IsLawfulConfig c → IsSeen s event past c seen → IsNumber (Some (c, seen.views)) (latest (pages s past)) number) → IsNumber (stands_with s event past config) (latest (pages s past)) number
some_due s event past None seen number is lawful due = absurd is
some_due s event past (Some config) seen number is lawful due =
    subst (λ views. IsNumber (Some (config, views)) (latest (pages s past)) number) is.views_are (due config lawful is)

-- ---- what is published

number_of : (s : Setting) (event : DriverEvent) (past : List Entry) (number : Option ℕ) (config : Option Config) (seen : Option Seen) → AreSeen s event past config seen → IsNumber (stands_with s event past config) (latest (pages s past)) number →
    number_in (published_by number config seen) ≡ number
number_of s event past None config seen are is = refl
number_of s event past (Some n) None None are is = sym is
number_of s event past (Some n) (Some config) (Some seen) are is = refl
number_of s event past (Some n) None (Some seen) are is = absurd are
number_of s event past (Some n) (Some config) None are is = absurd are

snapshot_at : (s : Setting) (event : DriverEvent) (past : List Entry) (number : Option ℕ) (config : Option Config) (seen : Option Seen) → AreSeen s event past config seen → IsNumber (stands_with s event past config) (latest (pages s past)) number →
    option_and_then (snapshot_of (present_after past event) config (trees_with s event past config)) number ≡ option_map snapshot_by (published_by number config seen)
snapshot_at s event past None config seen are is = refl
snapshot_at s event past (Some n) None None are is = refl
snapshot_at s event past (Some n) (Some config) (Some seen) are is =
    let shows : List _ → Option Snapshot = λ views. Some record { number = n; config = config; trees = views } in ap shows (sym are.views_are)
snapshot_at s event past (Some n) None (Some seen) are is = absurd are
snapshot_at s event past (Some n) (Some config) None are is = absurd are

published_at : (s : Setting) (event : DriverEvent) (past : List Entry) (number : Option ℕ) (config : Option Config) (seen : Option Seen) → AreSeen s event past config seen → IfSome config IsLawfulConfig →
    IfSome (published_by number config seen) (IsPublication s event past config)
published_at s event past None config seen are lawful = tt
published_at s event past (Some n) None seen are lawful = tt
published_at s event past (Some n) (Some config) None are lawful = tt
published_at s event past (Some n) (Some config) (Some seen) are lawful = record { config_is = refl; lawful = lawful; views_are = are.views_are; pickable = are.pickable; marks_are = are.marks_are; names_stay = are.names_stay }

pub shown_by : (s : Setting) (event : DriverEvent) (past : List Entry) (number : Option ℕ) (config : Option Config) (seen : Option Seen) (published : Option Published) → AreSeen s event past config seen → IfSome config IsLawfulConfig →
    IsNumber (stands_with s event past config) (latest (pages s past)) number → published ≡ published_by number config seen → IsShownBy s event past config published
shown_by s event past number config seen published are lawful is made =
    let numbers : number_in published ≡ number = ap number_in made ∙ number_of s event past number config seen are is in record {
      number_is = subst (λ n. IsNumber (stands_with s event past config) (latest (pages s past)) n) (sym numbers) is;
      snapshot_is = ap (λ n. option_and_then (snapshot_of (present_after past event) config (trees_with s event past config)) n) numbers
          ∙ snapshot_at s event past number config seen are is ∙ ap (λ p. option_map snapshot_by p) (sym made);
      published_is = subst (λ p. IfSome p (IsPublication s event past config)) (sym made) (published_at s event past number config seen are lawful);
    }

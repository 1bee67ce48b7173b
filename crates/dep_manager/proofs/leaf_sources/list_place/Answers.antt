use Rattle.std.proofs.Common.{◌≡◌, ◌==◌, ◌||◌, ◌++◌, ◌∷◌, [], cond, Some, None, rules, sym, ap, ap₂, ◌∙◌}
use Rattle.std.specs.Prelude.{◌&&◌}
use Rattle.std.specs.Map.{lookup}
use Rattle.xc_keys.specs.Keys.{is_key}
use Rattle.xc_keys.proofs.KeyLemmas.{changed_alike, found_alike}
use Rattle.dep_manager.specs.LeafPlaces.{is_listed, is_source}
use Rattle.dep_manager.proofs.PlaceLemmas.{listed_next}
use Rattle.dep_manager.proofs.leaf_sources.list_place.Goals as goal

pub returns-in-Some-get_mut : goal.returns-in-Some-get_mut
returns-in-Some-get_mut c key at =
    let written = (c.get_mut.follows.holds c.push.new.self).3 (search rules) in
    let found : lookup (is_key c.in-Some.key) c.args.places.now.entries ≡ Some c.in-Some-get_mut.listed.now = sym (c.in-Some-get_mut.ensures.value ∙ found_alike c.in-Some.key c.args.places.now.entries) in
    listed_next c.args.places.now.entries (c.get_mut.follows.lender c.push.new.self).entries c.in-Some.key c.args.place (Some c.in-Some-get_mut.listed.now) found
    (λ other. changed_alike c.args.places.now.entries (c.get_mut.follows.lender c.push.new.self).entries c.in-Some.key (Some c.push.new.self) written.0 other
    ∙ ap (λ places. cond (is_key c.in-Some.key other) (Some places) (lookup (is_key other) c.args.places.now.entries)) c.in_ok-push.ensures.ok) key at
    ∙ ap (λ source. is_listed c.args.places.now.entries key at || (is_source key source && (c.args.place == at))) (sym c.in-Some.is)

pub returns : goal.returns
returns c key at =
    let copy : c.in_ok-clone.field-0 ≡ c.in-Some.key = search rules in
    let before : c.get_mut.follows.lender-at-none.entries ≡ c.args.places.now.entries = search rules in
    let none : lookup (is_key c.in-Some.key) c.args.places.now.entries ≡ None = sym (c.in_default-get_mut.ensures.value ∙ found_alike c.in-Some.key c.args.places.now.entries) in
    let places : c.push-2.new.self ≡ c.args.place ∷ [] = c.in_ok-push-2.ensures.ok ∙ ap (λ before. before ++ c.args.place ∷ []) c.new-listed.ensures in
    listed_next c.args.places.now.entries c.insert.new.self.entries c.in-Some.key c.args.place None none
    (λ other. changed_alike c.get_mut.follows.lender-at-none.entries c.insert.new.self.entries c.in_ok-clone.field-0 (Some c.push-2.new.self) c.in_ok-insert.ensures.updates.0 other
    ∙ ap (λ own. cond (is_key own other) (Some c.push-2.new.self) (lookup (is_key other) c.get_mut.follows.lender-at-none.entries)) copy
    ∙ ap₂ (λ own entries. cond (is_key c.in-Some.key other) (Some own) (lookup (is_key other) entries)) places before) key at
    ∙ ap (λ source. is_listed c.args.places.now.entries key at || (is_source key source && (c.args.place == at))) (sym c.in-Some.is)

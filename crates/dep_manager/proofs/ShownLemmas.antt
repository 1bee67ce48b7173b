-- Which entries stand as they were shown.
use Rattle.std.proofs.Common.{◌≡◌, ℕ, zero, suc, arith, Bool, true, false, ◌||◌, Option, Some, None, List, [], ◌∷◌, map, length, get_or, replicate, refl, sym, ap, ◌∙◌, subst, slice_get}
use Rattle.std.specs.Prelude.{IfSome, not, if◌then◌else◌, option_and_then}
use Rattle.std.specs.Option.{option_or}
use Rattle.std.specs.List.{list_any}
use Rattle.std.proofs.lemmas.Bool.{true≢false}
use Rattle.std.proofs.lemmas.List.{get_or-replicate, length-replicate}
use Rattle.std.proofs.lemmas.Option.{slice_get_within}
use Rattle.xc_base.specs.declared.names.Key.{Key}
use Rattle.xds_config.specs.declared.config.ClusterEntry.{ClusterEntry}
use Rattle.xds_config.specs.declared.config.Config.{Config}
use Rattle.dep_manager.specs.EndpointNews.{Told, is_told}
use Rattle.dep_manager.specs.RenewedConfigs.{joined_marks, renewed_config, renewed_entries, renewed_marks, renewed_state}
use Rattle.dep_manager.specs.KeptAssemblies.{config_if, kept_with}
use Rattle.dep_manager.specs.UpdateOutcomes.{outcome_of}
use Rattle.dep_manager.specs.declared.kept_assembly.Kept.{Kept}
use Rattle.dep_manager.specs.declared.deps.Outcome.{Outcome}
use Rattle.dep_manager.specs.ShownEntries.{StandAsShown, marks_if, marks_left}

-- ---- every cluster is marked, or none

pub all_marked : (marks : List Bool) (shown : Option Config) (config : Config) → marks ≡ replicate (length config.clusters) true → StandAsShown marks shown config
all_marked marks shown config are = record {
  count = ap length are ∙ length-replicate (length config.clusters) true;
  each = λ place entry at off. absurd (true≢false
      (sym (get_or-replicate (length config.clusters) place true false (slice_get_within config.clusters place entry at)) ∙ ap (λ ms. get_or ms place false) (sym are) ∙ off));
}

none_marked : (marks : List Bool) (config : Config) → length marks ≡ length config.clusters → StandAsShown (replicate (length marks) false) (Some config) config
none_marked marks config count = record {
  count = length-replicate (length marks) false ∙ count;
  each = λ place entry at off. at;
}

-- ---- a configuration is handed out, or none

pub stand_handed : (least : Option Key) (marks handed : List Bool) (shown : Option Config) (config : Config) → handed ≡ marks_if least marks → StandAsShown marks shown config →
    IfSome (config_if least config) (λ c. StandAsShown handed shown c)
stand_handed None marks handed shown config is stand = subst (λ ms. StandAsShown ms shown config) (sym is) stand
stand_handed (Some key) marks handed shown config is stand = tt

pub stand_left : (least : Option Key) (marks left : List Bool) (shown : Option Config) (config : Config) → left ≡ marks_left least marks → StandAsShown marks shown config →
    StandAsShown left (option_or (config_if least config) shown) config
stand_left None marks left shown config is stand = subst (λ ms. StandAsShown ms (Some config) config) (sym is) (none_marked marks config stand.count)
stand_left (Some key) marks left shown config is stand = subst (λ ms. StandAsShown ms shown config) (sym is) stand

pub stand_kept : (reached : List Key) (stays : Bool) (made kept : Kept) (o : Outcome) (shown : Option Config) → o ≡ outcome_of reached stays made o.others → kept ≡ kept_with made kept.others → kept.others ≡ marks_left o.missing made.others →
    StandAsShown made.others shown made.config → StandAsShown kept.others (option_or o.config shown) kept.config
stand_kept reached stays made kept o shown is same left stand =
    let config : o.config ≡ config_if o.missing made.config = ap (λ out. out.config) is ∙ ap (λ least. config_if least made.config) (sym (ap (λ out. out.missing) is)) in
    subst (λ c. StandAsShown kept.others (option_or o.config shown) c) (sym (ap (λ k. k.config) same))
    (subst (λ handed. StandAsShown kept.others (option_or handed shown) made.config) (sym config) (stand_left o.missing made.others kept.others shown made.config left stand))

-- ---- once endpoints changed

pub neither : (a b : Bool) → (a || b) ≡ false → (a ≡ false) × (b ≡ false)
neither true b is = absurd (true≢false is)
neither false b is = (refl, is)

module _ (told : Told) where
  abbrev touched : List (Option Key) → Bool
  touched keys = list_any (is_told told) keys

  pub untouched : (entry : ClusterEntry) (keys : List (Option Key)) (b : Bool) → b ≡ false → (if b then record { name = entry.name; state = renewed_state told entry.state keys } else entry) ≡ entry
  untouched entry keys true off = absurd (true≢false off)
  untouched entry keys false off = refl

  joined_count : (marks : List Bool) (entries : List ClusterEntry) (sources : List (List (Option Key))) → length marks ≡ length entries →
      length (joined_marks marks (map touched sources)) ≡ length (renewed_entries told entries sources)
  joined_count marks entries [] long = refl
  joined_count [] [] (keys ∷ sources) long = refl
  joined_count [] (entry ∷ entries) (keys ∷ sources) long = absurd (omega (arith, long))
  joined_count (mark ∷ marks) [] (keys ∷ sources) long = absurd (omega (arith, long))
  joined_count (mark ∷ marks) (entry ∷ entries) (keys ∷ sources) long = ap suc (joined_count marks entries sources (omega (arith, long)))

  joined_each : (marks : List Bool) (entries : List ClusterEntry) (sources : List (List (Option Key))) (at : ℕ → Option ClusterEntry) → length marks ≡ length entries →
      ((place : ℕ) (entry : ClusterEntry) → slice_get entries place ≡ Some entry → get_or marks place false ≡ false → at place ≡ Some entry) →
      (place : ℕ) (entry : ClusterEntry) → slice_get (renewed_entries told entries sources) place ≡ Some entry → get_or (joined_marks marks (map touched sources)) place false ≡ false → at place ≡ Some entry
  joined_each marks entries [] at long each place entry here off = absurd (cc here)
  joined_each marks [] (keys ∷ sources) at long each place entry here off = absurd (cc here)
  joined_each [] (first ∷ entries) (keys ∷ sources) at long each place entry here off = absurd (omega (arith, long))
  joined_each (mark ∷ marks) (first ∷ entries) (keys ∷ sources) at long each zero entry here off =
      let (unmarked, untold) = neither mark (touched keys) off in
      each 0 first refl unmarked ∙ ap Some (sym (untouched first keys (touched keys) untold)) ∙ here
  joined_each (mark ∷ marks) (first ∷ entries) (keys ∷ sources) at long each (suc place) entry here off =
      joined_each marks entries sources (λ n. at (suc n)) (omega (arith, long)) (λ n. each (suc n)) place entry here off

  abbrev at_in : Option Config → ℕ → Option ClusterEntry
  at_in shown place = option_and_then (λ c. slice_get c.clusters place) shown

  renewed_if : (b : Bool) (marks : List Bool) (shown : Option Config) (config : Config) (sources : List (List (Option Key))) → StandAsShown marks shown config →
      StandAsShown (if b then joined_marks marks (map touched sources) else marks) shown (if b then record { front = config.front; clusters = renewed_entries told config.clusters sources } else config)
  renewed_if true marks shown config sources stand = record {
    count = joined_count marks config.clusters sources stand.count;
    each = joined_each marks config.clusters sources (at_in shown) stand.count stand.each;
  }
  renewed_if false marks shown config sources stand = stand

  pub stand_renewed : (marks : List Bool) (shown : Option Config) (config : Config) (sources : List (List (Option Key))) → StandAsShown marks shown config →
      StandAsShown (renewed_marks told marks sources) shown (renewed_config told config sources)
  stand_renewed marks shown config sources stand = renewed_if (list_any (list_any (is_told told)) sources) marks shown config sources stand

pub renewed_stand : (told : Told) (marks after : List Bool) (shown : Option Config) (config new : Config) (sources : List (List (Option Key))) → after ≡ renewed_marks told marks sources → new ≡ renewed_config told config sources →
    StandAsShown marks shown config → StandAsShown after shown new
renewed_stand told marks after shown config new sources are is stand =
    subst (λ ms. StandAsShown ms shown new) (sym are) (subst (λ c. StandAsShown (renewed_marks told marks sources) shown c) (sym is) (stand_renewed told marks shown config sources stand))

-- ---- whether anything is told

pub marked_any : {X : Type 0} (f : X → Bool) (xs : List X) → list_any (λ mark. mark) (map f xs) ≡ list_any f xs
marked_any f [] = refl
marked_any f (x ∷ xs) = ap (λ b. f x || b) (marked_any f xs)

untold_source : (source : Option Key) → is_told [] source ≡ false
untold_source None = refl
untold_source (Some key) = refl

untold_cluster : (keys : List (Option Key)) → list_any (is_told []) keys ≡ false
untold_cluster [] = refl
untold_cluster (key ∷ keys) = ap (λ b. b || list_any (is_told []) keys) (untold_source key) ∙ untold_cluster keys

pub nothing_told : (sources : List (List (Option Key))) → list_any (list_any (is_told [])) sources ≡ false
nothing_told [] = refl
nothing_told (keys ∷ sources) = ap (λ b. b || list_any (list_any (is_told [])) sources) (untold_cluster keys) ∙ nothing_told sources

pub none_if : (none any : Bool) → none ≡ not any → none ≡ true → any ≡ false
none_if none true is says = absurd (true≢false (sym says ∙ is))
none_if none false is says = refl

pub some_if : (none any : Bool) → none ≡ not any → none ≡ false → any ≡ true
some_if none true is says = refl
some_if none false is says = absurd (true≢false (sym is ∙ says))

-- ---- what is made of a configuration, whether anything is told of it or not

module _ (told : Told) (config : Config) (marks : List Bool) (sources : List (List (Option Key))) where
  abbrev any_told : Bool
  any_told = list_any (list_any (is_told told)) sources

  pub config_stays : any_told ≡ false → config ≡ renewed_config told config sources
  config_stays none = ap (λ b. if b then record { front = config.front; clusters = renewed_entries told config.clusters sources } else config) (sym none)

  pub marks_stay : any_told ≡ false → marks ≡ renewed_marks told marks sources
  marks_stay none = ap (λ b. if b then joined_marks marks (map (list_any (is_told told)) sources) else marks) (sym none)

  pub config_changes : any_told ≡ true → record { front = config.front; clusters = renewed_entries told config.clusters sources } ≡ renewed_config told config sources
  config_changes some = ap (λ b. if b then record { front = config.front; clusters = renewed_entries told config.clusters sources } else config) (sym some)

  pub marks_change : any_told ≡ true → joined_marks marks (map (list_any (is_told told)) sources) ≡ renewed_marks told marks sources
  marks_change some = ap (λ b. if b then joined_marks marks (map (list_any (is_told told)) sources) else marks) (sym some)

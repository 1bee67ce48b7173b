use Rattle.std.proofs.Common.{◌≡◌, ◌<◌, ◌^◌, ◌++◌, length, map, replicate, true, arith, sym, ap, ap₂, ◌∙◌, subst, List, Option, Result, Err}
use Rattle.std.specs.Prelude.{filter, unwrap_or}
use Rattle.std.specs.List.Sorted.{IsStrictlySortedBy}
use Rattle.xc_base.specs.declared.reason.Reason.{Reason}
use Rattle.xc_keys.specs.Keys.{key_cmp}
use Rattle.xc_keys.proofs.KeyLemmas.{key_total}
use Rattle.xds_config.specs.declared.config.Front.{Front}
use Rattle.xds_config.specs.declared.config.ClusterEntry.{ClusterEntry}
use Rattle.xds_config.specs.declared.config.Config.{Config}
use Rattle.config_assembly.specs.Orders.{name_cmp, sorted}
use Rattle.config_assembly.specs.ReachedResources.{Resources}
use Rattle.config_assembly.specs.Front.{front, names_of}
use Rattle.config_assembly.specs.Reach.{aggregates, is_wanted, keys_with, on_chains, reach, reached_clusters, roots}
use Rattle.config_assembly.specs.WholeConfigs.{cluster_entry}
use Rattle.config_assembly.specs.DepsViews.{seen}
use Rattle.dep_manager.specs.CallsAlone.{AreCallsAlone}
use Rattle.dep_manager.specs.KeptAssemblies.{sources_of}
use Rattle.config_assembly.proofs.SortedLists.{sorted_rises}
use Rattle.dep_manager.proofs.kept_assembly.assembly_of.Goals as goal

pub awaited_of-requires : goal.awaited_of-requires
awaited_of-requires g c =
    subst (IsStrictlySortedBy key_cmp) (sym (c.as_slice-2.ensures ∙ c.in_ok-reached.ensures)) (sorted_rises key_cmp key_total (keys_with (seen c.args.sight) c.as_slice.result.now))

pub all-requires : goal.all-requires
all-requires g c =
    let few : length c.get-2.result.now.clusters < 2 ^ 31 = subst (λ config. length config.clusters < 2 ^ 31) (sym c.get-2.ensures) c.in_ok-config.ensures.lawful.few in
    omega (arith, few, c.len.ensures)

pub returns-clause-marked : goal.returns-clause-marked
returns-clause-marked g c = c.in_ok-others.ensures ∙ ap (λ n. replicate n true) (c.len.ensures ∙ ap (λ config. length config.clusters) c.get-2.ensures)

pub returns-clause-assembled : goal.returns-clause-assembled
returns-clause-assembled g c =
    let r : Resources = seen c.args.sight in
    let config_as : Option (Result Front Reason) → List ClusterEntry → Config = λ found clusters. record { front = unwrap_or found (Err Reason.Absent); clusters = clusters } in
    let all : c.in_ok-roots.roots ≡ roots r c.args.references.now = c.in_ok-roots.ensures.names ∙ ap (λ found. sorted name_cmp (names_of found ++ c.args.references.now)) c.in_ok-front.ensures.front in
    let clusters : c.in_ok-on_chains.on_chains ≡ reached_clusters r c.args.references.now = c.in_ok-on_chains.ensures ∙ ap (λ names. sorted name_cmp (on_chains (aggregates r) 16 names)) all in
    record {
      reached_are = c.in_ok-reached.ensures ∙ ap (λ names. sorted key_cmp (keys_with r names)) (c.as_slice.ensures ∙ clusters) ∙ ap (reach r) (sym c.in_ok-references.ensures);
      awaited_are = c.in_ok-awaited.ensures ∙ ap (filter (λ key. is_wanted (r.fate key))) c.as_slice-2.ensures;
      config_is = c.in_ok-config.ensures.config ∙ ap₂ config_as c.in_ok-front.ensures.front (ap (map (cluster_entry r)) all) ∙ ap (λ names. config_as (front r) (map (cluster_entry r) (roots r names))) (sym c.in_ok-references.ensures);
      sources_are = c.in_ok-sources.ensures ∙ ap (map (λ entry. sources_of r entry.state)) (ap (λ config. config.clusters) c.get.ensures);
      alone_are = subst (λ found. AreCallsAlone (names_of found) c.in_ok-references.references c.in_ok-calls_alone.calls_alone) c.in_ok-front.ensures.front (subst (λ names. AreCallsAlone (names_of c.in_ok-front.front) names c.in_ok-calls_alone.calls_alone) (sym c.in_ok-references.ensures) c.in_ok-calls_alone.ensures);
      front_waits = λ none. c.in_ok-front.ensures.awaited (c.in_ok-front.ensures.front ∙ none);
    }

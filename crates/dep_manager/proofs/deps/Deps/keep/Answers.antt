use Rattle.std.proofs.Common.{◌≡◌, Option, rules, sym, subst}
use Rattle.std.specs.Option.{option_or}
use Rattle.std.specs.List.Sorted.{IsStrictlySortedBy}
use Rattle.xc_base.specs.declared.names.Kind.{Kind}
use Rattle.xc_keys.specs.Keys.{key_cmp}
use Rattle.xds_config.specs.declared.config.Config.{Config}
use Rattle.dep_manager.specs.ServedCalls.{IsHandedOut}
use Rattle.dep_manager.specs.ShownEntries.{StandAsShown}
use Rattle.dep_manager.proofs.ServedLemmas.{is_handed_out}
use Rattle.dep_manager.proofs.ShownLemmas.{stand_kept}
use Rattle.dep_manager.proofs.deps.Deps.keep.Goals as goal
use Rattle.dep_manager.proofs.deps.Deps.keep.Goals.{in-Some+in_ok-share+in-Some-1, in-Some+in_ok-share+in-None-1, in_default}

pub invariant_of-self : goal.invariant_of-self
invariant_of-self c =
    let stand : StandAsShown c.outcome_of.new.kept.others (option_or c.in_ok-outcome.outcome.config c.args.self.now.shown) c.outcome_of.new.kept.config =
    stand_kept c.args.reached c.args.stays c.args.made c.outcome_of.new.kept c.in_ok-outcome.outcome c.args.self.now.shown c.in_ok-outcome.ensures.outcome c.in_ok-outcome.ensures.kept c.in_ok-outcome.ensures.left c.requires in
    let handed : (shown : Option Config) → shown ≡ option_or c.in_ok-outcome.outcome.config c.args.self.now.shown → IsHandedOut shown c.outcome_of.new.kept =
    λ shown by. is_handed_out c.args.reached c.args.stays c.args.made c.outcome_of.new.kept c.in_ok-outcome.outcome c.args.self.now.shown shown c.in_ok-outcome.ensures.outcome c.in_ok-outcome.ensures.kept by in
    elim c.match-outcome.branch [
      | in-Some+in_ok-share+in-Some-1 w ↦ (let shown : c.match-outcome.self-inside.shown ≡ option_or c.in_ok-outcome.outcome.config c.args.self.now.shown = search rules in
          let kind : c.match-outcome.self-inside.target.key.kind ≡ Kind.Listener = search rules in
          let keys : IsStrictlySortedBy key_cmp c.match-outcome.self-inside.reached = search rules in
          (kind, subst (λ was. StandAsShown c.outcome_of.new.kept.others was c.outcome_of.new.kept.config) (sym shown) stand, keys, handed c.match-outcome.self-inside.shown shown))
      | in-Some+in_ok-share+in-None-1 w ↦ (let shown : c.match-outcome.self-inside.shown ≡ option_or c.in_ok-outcome.outcome.config c.args.self.now.shown = search rules in
          let kind : c.match-outcome.self-inside.target.key.kind ≡ Kind.Listener = search rules in
          let keys : IsStrictlySortedBy key_cmp c.match-outcome.self-inside.reached = search rules in
          (kind, subst (λ was. StandAsShown c.outcome_of.new.kept.others was c.outcome_of.new.kept.config) (sym shown) stand, keys, handed c.match-outcome.self-inside.shown shown))
      | in_default w ↦ (let shown : c.match-outcome.self-inside.shown ≡ option_or c.in_ok-outcome.outcome.config c.args.self.now.shown = search rules in
          let kind : c.match-outcome.self-inside.target.key.kind ≡ Kind.Listener = search rules in
          let keys : IsStrictlySortedBy key_cmp c.match-outcome.self-inside.reached = search rules in
          (kind, subst (λ was. StandAsShown c.outcome_of.new.kept.others was c.outcome_of.new.kept.config) (sym shown) stand, keys, handed c.match-outcome.self-inside.shown shown))
    ]

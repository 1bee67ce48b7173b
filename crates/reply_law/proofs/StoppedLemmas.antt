-- Where no pattern text is refused, no check of a resource stops at one.
use Rattle.std.proofs.Common.{◌≡◌, ℕ, List, [], ◌∷◌, map, filter_map, Bool, Option, Some, None, Result, Ok, Err, refl, sym, ap, ◌∙◌, true≢false}
use Rattle.std.specs.List.{cons_option}
use Rattle.xc_base.specs.declared.names.Kind.{Kind}
use Rattle.proto_discovery.specs.declared.any.AnyValue.{AnyValue}
use Rattle.xds_bootstrap.specs.declared.bootstrap.Bootstrap.{Bootstrap}
use Rattle.xds_name.specs.declared.target.Target.{Target}
use Rattle.check_steps.specs.declared.check_fault.Refusal.{Refusal}
use Rattle.check_steps.specs.declared.check_fault.Stop.{Stop}
use Rattle.check_steps.specs.declared.check_fault.Stop.TheVariants.{Because, Refused}
use Rattle.check_steps.proofs.FairLemmas.{IsFairStop}
use Rattle.resource_check.specs.declared.resource.Checked.{Checked}
use Rattle.resource_check.specs.Answers.{stop_text}
use Rattle.resource_check.specs.Deliveries.{once, refused_text}
use Rattle.resource_check.specs.Resources.{check_of}
use Rattle.resource_check.proofs.GainLemmas.{fairly_checked}
use Rattle.xds_history.specs.Setting.{setting_of}
use Rattle.xds_history.specs.Words.{among}
use Rattle.xds_history.specs.Responses.{stopped_at}
use Rattle.xds_history.specs.declared.responses.Told.{Told}

-- the test by which no text is refused
abbrev refuses_none : List ℕ → Bool
refuses_none text = among text []

-- a check that stops at a text stops at a refused one
no_stop_text : (stop : Stop) → IsFairStop refuses_none stop → stop_text stop ≡ None
no_stop_text (Because reason) fair = refl
no_stop_text (Refused text) fair = absurd (true≢false (sym fair))

no_text : (kind : Kind) (any : AnyValue) (found : Result Checked Refusal) → check_of refuses_none kind any ≡ found → refused_text found ≡ None
no_text kind any (Ok checked) is = refl
no_text kind any (Err refusal) is =
    let fair = fairly_checked refuses_none kind any in
    no_stop_text refusal.stop (rw is at fair)

no_texts : (kind : Kind) (resources : List AnyValue) → filter_map refused_text (map (check_of refuses_none kind) resources) ≡ []
no_texts kind [] = refl
no_texts kind (any ∷ resources) =
    ap (λ (text : Option (List ℕ)). cons_option text (filter_map refused_text (map (check_of refuses_none kind) resources)))
    (no_text kind any (check_of refuses_none kind any) refl)
    ∙ no_texts kind resources

-- so the checks of an answered response stop at no text
pub stopped_at_none : (boot : Bootstrap) (target : Target) (told : Option Told) → stopped_at (setting_of boot target) [] told ≡ []
stopped_at_none boot target None = refl
stopped_at_none boot target (Some t) = ap (λ (texts : List (List ℕ)). once [] texts) (no_texts t.kind t.resources)

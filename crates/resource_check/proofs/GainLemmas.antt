-- What a check gains is the one text at which it stops.
use Rattle.std.proofs.Common.{◌≡◌, ℕ, List, [], ◌∷◌, ◌++◌, Bool, true, false, Option, Some, None, refl, sym, ap, ◌∙◌, subst, inl, inr, ◌⊎◌, append-nil, cond}
use Rattle.std.specs.Prelude.{bytes_eq, if◌then◌else◌, Result, Ok, Err}
use Rattle.std.specs.List.{list_any}
use Rattle.proto_discovery.specs.Wrapper.{unwrapped}
use Rattle.proto_discovery.specs.TypeUrls.{type_url_of}
use Rattle.proto_discovery.specs.declared.any.AnyValue.{AnyValue}
use Rattle.xc_base.specs.declared.names.Kind.{Kind}
use Rattle.xc_base.specs.declared.reason.Reason.TheVariants.{WrongType}
use Rattle.check_steps.specs.declared.check_fault.Fault.TheVariants.{Stopped, Memory}
use Rattle.check_steps.specs.declared.check_fault.Halt.{Halt}
use Rattle.check_steps.specs.declared.check_fault.Halt.TheVariants as halt
use Rattle.check_steps.specs.declared.check_fault.Refusal.{Refusal}
use Rattle.check_steps.specs.declared.check_fault.Stop.{Stop}
use Rattle.check_steps.specs.declared.check_fault.Stop.TheVariants.{Because, Refused}
use Rattle.check_steps.specs.Asking.{AsksUntil, IsStopGain, Texts, refusing}
use Rattle.check_steps.specs.ResourceNames.{required_name}
use Rattle.check_steps.specs.TableSteps.{◌>>=◌, demand, readable}
use Rattle.check_steps.proofs.FairLemmas.{IsFair, IsFairStop, fair_demand, fair_name, fair_readable, fair_then}
use Rattle.check_routes.proofs.FairRoutes.{fair_listener_value, fair_route_value}
use Rattle.check_clusters.proofs.FairClusters.{fair_assignment_value, fair_cluster_value}
use Rattle.check_routes.specs.ListenerTable.{listener_value}
use Rattle.check_routes.specs.RouteTable.{route_value}
use Rattle.check_clusters.specs.ClusterTable.{cluster_value}
use Rattle.check_clusters.specs.Assignments.{assignment_value}
use Rattle.resource_check.specs.declared.raw.Raw.{Raw}
use Rattle.resource_check.specs.declared.raw.Raw.TheVariants as raw
use Rattle.resource_check.specs.declared.resource.Checked.{Checked}
use Rattle.resource_check.specs.Answers.{Gives, TellsAll, halt_ending, halt_text, new_text, stop_text}
use Rattle.resource_check.specs.Resources.{check_of, found_of, given_name, message_of, name_of, own_name, read_raw, under, value_of}

-- ---- a check that stops at a text stops at one that is refused

abbrev IsFairly : {A : Type 0} → (List ℕ → Bool) → Result A Refusal → Type 0
IsFairly refuses (Ok x) = Unit {0}
IsFairly refuses (Err refusal) = IsFairStop refuses refusal.stop

fairly_then : {A B : Type 0} (refuses : List ℕ → Bool) (step : Result A Refusal) (next : A → Result B Refusal) → IsFairly refuses step → ((x : A) → IsFairly refuses (next x)) → IsFairly refuses (step >>= next)
fairly_then refuses (Ok x) next first rest = rest x
fairly_then refuses (Err refusal) next first rest = first

fairly_under : {A : Type 0} (refuses : List ℕ → Bool) (name : Option (List ℕ)) (step : Result A Stop) → IsFair refuses step → IsFairly refuses (under name step)
fairly_under refuses name (Ok x) fair = tt
fairly_under refuses name (Err stop) fair = fair

fair_value : (refuses : List ℕ → Bool) (name : List ℕ) (message : Raw) → IsFair refuses (value_of refuses name message)
fair_value refuses name (raw.Listener message) = fair_then refuses (listener_value refuses name message) _ (fair_listener_value refuses name message) (λ v. tt)
fair_value refuses name (raw.Route message) = fair_then refuses (route_value refuses name message) _ (fair_route_value refuses name message) (λ v. tt)
fair_value refuses name (raw.Cluster message) = fair_then refuses (cluster_value name message) _ (fair_cluster_value refuses name message) (λ v. tt)
fair_value refuses name (raw.Endpoint message) = fair_then refuses (assignment_value name message) _ (fair_assignment_value refuses name message) (λ v. tt)

fair_message : (refuses : List ℕ → Bool) (kind : Kind) (any : AnyValue) → IsFair refuses (message_of kind any)
unfolding message_of
fair_message refuses kind any =
    fair_then refuses (demand (bytes_eq any.type_url (type_url_of kind)) WrongType) _ (fair_demand refuses (bytes_eq any.type_url (type_url_of kind)) WrongType) (λ typed. fair_readable refuses (read_raw kind any.value))

fair_name_of : (refuses : List ℕ → Bool) (given : Option (List ℕ)) (message : Raw) → IsFair refuses (name_of given message)
fair_name_of refuses (Some name) message = tt
fair_name_of refuses None message = fair_name refuses (own_name message)

fairly_found : (refuses : List ℕ → Bool) (kind : Kind) (any : AnyValue) → IsFairly refuses (found_of kind any)
unfolding found_of
fairly_found refuses kind any =
    fairly_then refuses (under None (readable (unwrapped any))) _ (fairly_under refuses None (readable (unwrapped any)) (fair_readable refuses (unwrapped any)))
    (λ resource. fairly_then refuses (under (given_name resource.name) (message_of kind resource.inner)) _ (fairly_under refuses (given_name resource.name) (message_of kind resource.inner) (fair_message refuses kind resource.inner))
    (λ message. fairly_then refuses (under None (name_of (given_name resource.name) message)) _ (fairly_under refuses None (name_of (given_name resource.name) message) (fair_name_of refuses (given_name resource.name) message)) (λ name. tt)))

pub fairly_checked : (refuses : List ℕ → Bool) (kind : Kind) (any : AnyValue) → IsFairly refuses (check_of refuses kind any)
unfolding check_of
fairly_checked refuses kind any =
    fairly_then refuses (found_of kind any) _ (fairly_found refuses kind any)
    (λ found. fairly_then refuses (under (Some found.name) (value_of refuses found.name found.raw)) _ (fairly_under refuses (Some found.name) (value_of refuses found.name found.raw) (fair_value refuses found.name found.raw)) (λ value. tt))

-- ---- what is gained

new_by : (b : Bool) (text : List ℕ) (refused gained : List (List ℕ)) → list_any (λ t. bytes_eq t text) refused ≡ b → gained ≡ (if b then [] else text ∷ []) → gained ≡ new_text refused (Some text)
new_by true text refused gained is gains = gains ∙ ap (λ c. if c then [] else text ∷ []) (sym is)
new_by false text refused gained is gains = gains ∙ ap (λ c. if c then [] else text ∷ []) (sym is)

-- the text was refused before, or is gained
text_gain : (before after : Texts) (text : List ℕ) (gained : List (List ℕ)) → after.refused ≡ before.refused ++ gained → refusing after text ≡ true → (gained ≡ []) ⊎ ((refusing before text ≡ false) × (gained ≡ text ∷ []))
    → gained ≡ new_text before.refused (Some text)
text_gain before after text gained more now (inl none) =
    let same : after.refused ≡ before.refused = more ∙ (ap (λ (ts : List (List ℕ)). before.refused ++ ts) none ∙ append-nil before.refused) in
    new_by true text before.refused gained (ap (λ (ts : List (List ℕ)). list_any (λ t. bytes_eq t text) ts) (sym same) ∙ now) none
text_gain before after text gained more now (inr one) = new_by false text before.refused gained one.0 one.1

stop_gain : (before after : Texts) (stop : Stop) (gained : List (List ℕ)) → after.refused ≡ before.refused ++ gained → IsFairStop (refusing after) stop → IsStopGain before stop gained → gained ≡ new_text before.refused (stop_text stop)
stop_gain before after (Because reason) gained more fair gains = gains
stop_gain before after (Refused text) gained more fair gains = text_gain before after text gained more fair gains

given_gain : {A : Type 0} (before after : Texts) (told tells : List (List ℕ)) (result : Result A Halt) (step : Result A Refusal) (a : AsksUntil before after told tells (halt_ending result)) → Gives result step → IsFairly (refusing after) step
    → a.asks.gained ≡ new_text before.refused (halt_text result)
given_gain before after told tells (Ok x) step a gives fair = a.gains
given_gain before after told tells (Err (halt.Refused refusal)) step a gives fair =
    stop_gain before after refusal.stop a.asks.gained a.asks.refused (subst (λ s. IsFairly (refusing after) s) gives fair) a.gains
given_gain before after told tells (Err halt.Memory) step a gives fair = a.gains

pub check_gains : (kind : Kind) (any : AnyValue) (before after : Texts) (told tells : List (List ℕ)) (result : Result Checked Halt) → AsksUntil before after told tells (halt_ending result) → Gives result (check_of (refusing after) kind any)
    → after.refused ≡ before.refused ++ new_text before.refused (halt_text result)
check_gains kind any before after told tells result a gives =
    a.asks.refused ∙ ap (λ (ts : List (List ℕ)). before.refused ++ ts) (given_gain before after told tells result (check_of (refusing after) kind any) a gives (fairly_checked (refusing after) kind any))

tells_all : {A : Type 0} (before after : Texts) (told tells gained : List (List ℕ)) (result : Result A Halt) (a : AsksUntil before after told tells (halt_ending result)) → a.asks.gained ≡ gained → TellsAll result told tells gained
tells_all before after told tells gained (Ok x) a is = a.asks.tells_them ∙ ap (λ (ts : List (List ℕ)). told ++ ts) (a.all ∙ is)
tells_all before after told tells gained (Err (halt.Refused refusal)) a is = a.asks.tells_them ∙ ap (λ (ts : List (List ℕ)). told ++ ts) (a.all ∙ is)
tells_all before after told tells gained (Err halt.Memory) a is = tt

pub check_tells : (kind : Kind) (any : AnyValue) (before after : Texts) (told tells : List (List ℕ)) (result : Result Checked Halt) → AsksUntil before after told tells (halt_ending result) → Gives result (check_of (refusing after) kind any)
    → TellsAll result told tells (new_text before.refused (halt_text result))
check_tells kind any before after told tells result a gives =
    tells_all before after told tells (new_text before.refused (halt_text result)) result a (given_gain before after told tells result (check_of (refusing after) kind any) a gives (fairly_checked (refusing after) kind any))

-- A resource with its name.
use Rattle.std.proofs.Common.{◌≡◌, ◌≢◌, ℕ, List, [], Bool, true, false, Option, None, refl, sym, ap, ◌∙◌, subst, ◌↔◌, IsTrue}
use Rattle.std.specs.Prelude.{IfOk, Result, Ok, Err}
use Rattle.proto_discovery.specs.Wrapper.{unwrapped}
use Rattle.proto_discovery.specs.declared.any.AnyValue.{AnyValue}
use Rattle.proto_discovery.specs.declared.wrapper.Unwrapped.{Unwrapped}
use Rattle.xc_base.specs.declared.names.Kind.{Kind}
use Rattle.xds_name.specs.Names.{canonical_of}
use Rattle.check_steps.specs.declared.check_fault.Fault.{Fault}
use Rattle.check_steps.specs.declared.check_fault.Fault.TheVariants.{Stopped, Memory}
use Rattle.check_steps.specs.declared.check_fault.Halt.{Halt}
use Rattle.check_steps.specs.declared.check_fault.Halt.TheVariants as halt
use Rattle.check_steps.specs.declared.check_fault.Refusal.{Refusal}
use Rattle.resource_check.specs.declared.raw.Raw.{Raw}
use Rattle.check_steps.specs.declared.check_fault.Stop.{Stop}
use Rattle.resource_check.specs.Answers.{Halts, halt_under}
use Rattle.resource_check.specs.Resources.{found_of, given_name, message_of, name_of, under}
use Rattle.check_steps.specs.TableSteps.{◌>>=◌, Tells, readable}
use Rattle.check_steps.proofs.NameLemmas.{canonical_some}

-- what holds of a value that was given
pub when_ok : {A E : Type 0} (result : Result A E) (P : A → Type 0) (x : A) → result ≡ Ok x → IfOk result P → P x
when_ok {A} {E} result P x is holds = let Q : Result A E → Type 0 = λ r. IfOk r P in subst Q is holds

by_test : (empty : Bool) (text : List ℕ) → IsTrue empty ↔ (text ≡ []) → empty ≡ false → text ≢ []
by_test true text is not_empty = absurd (cc)
by_test false text is not_empty = λ e. let h : false ≡ true = is.1 e in absurd (cc)

-- a name that a wrapper gives
pub given_some : (name shown given : List ℕ) (empty : Bool) → IsTrue empty ↔ (name ≡ []) → empty ≡ false → shown ≡ name → given ≡ canonical_of shown → given ≢ []
given_some name shown given empty is not_empty shows canonical =
    let some : canonical_of name ≢ [] = canonical_some name (by_test empty name is not_empty) in
    let P : List ℕ → Type 0 = λ t. t ≢ [] in
    subst P (sym (canonical ∙ ap canonical_of shows)) some

halts_on : {A B : Type 0} (why : Halt) (step : Result A Refusal) (next : A → Result B Refusal) → Halts {A = A} why step → Halts {A = B} why (step >>= next)
halts_on (halt.Refused refusal) step next is = rw is refl
halts_on halt.Memory step next told = tt

-- the resource is read, and has no name
pub found_stops : (kind : Kind) (any : AnyValue) (resource : Unwrapped) (given shown : Option (List ℕ)) (raw : Raw) (why : Halt) → under None (readable (unwrapped any)) ≡ Ok resource → given ≡ given_name resource.name
    → shown ≡ given → under shown (message_of kind resource.inner) ≡ Ok raw → Halts {A = List ℕ} why (under None (name_of given raw)) → Halts why (found_of kind any)
unfolding found_of
found_stops kind any resource given shown raw why is_read is_given is_shown has_message told =
    let named : under (given_name resource.name) (message_of kind resource.inner) ≡ Ok raw =
    ap (λ (n : Option (List ℕ)). under n (message_of kind resource.inner)) (sym (is_shown ∙ is_given)) ∙ has_message in
    let P : Option (List ℕ) → Type 0 = λ n. Halts why (under None (name_of n raw)) in
    let stopped : Halts why (under None (name_of (given_name resource.name) raw)) = subst P is_given told in
    rw (is_read, named) (halts_on why (under None (name_of (given_name resource.name) raw)) (λ name. Ok record { name = name; raw = raw }) stopped)

-- a step that stops, stops under the name
pub halts_under : {A : Type 0} (name : Option (List ℕ)) (fault : Fault) (answer : Result A Fault) (halt : Halt) (step : Result A Stop) → answer ≡ Err fault → halt ≡ halt_under name fault
    → Tells answer step → Halts halt (under name step)
halts_under name (Stopped stop) answer halt step is gives told =
    let said : step ≡ Err stop = subst (λ a. Tells a step) is told in rw (gives, said) refl
halts_under name Memory answer halt step is gives told = rw gives tt

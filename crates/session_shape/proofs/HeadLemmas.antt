-- Lines 1 to 4, where they are read.
use Rattle.std.proofs.Common.{◌≡◌, ℕ, ◌≤◌, List, [], ◌∷◌, codes, Option, Some, None, Result, Ok, Err, IfOk, refl, sym, ap, ◌∙◌, subst}
use Rattle.std.specs.Option.{ok_or}
use Rattle.std.specs.Result.{result_ok}
use Rattle.std.specs.Str.{is_utf8}
use Rattle.xc_base.specs.declared.names.Home.{Home}
use Rattle.xc_base.specs.declared.names.Home.TheVariants.{At, Nowhere}
use Rattle.xc_base.specs.declared.names.Key.{Key}
use Rattle.xc_base.specs.declared.names.Kind.TheVariants.{Listener}
use Rattle.xds_bootstrap.specs.declared.bootstrap.AuthorityEntry.{AuthorityEntry}
use Rattle.xds_bootstrap.specs.declared.bootstrap.Bootstrap.{Bootstrap}
use Rattle.xds_name.specs.NameLaws.{CanonicalNamesStay}
use Rattle.xds_name.specs.NameTexts.{after}
use Rattle.xds_name.specs.Names.{canonical_of, home_of, resource_key}
use Rattle.xds_name.specs.Targets.{listener_of, name_from, target_of, template_for, with_form, with_home, with_key, with_template}
use Rattle.xds_name.specs.declared.target.Target.{Target}
use Rattle.xds_name.specs.declared.target.TargetFault.{TargetFault}
use Rattle.session_lines.specs.Lines.{second_of, words_of}
use Rattle.session_lines.specs.Session as session
use Rattle.session_lines.specs.Session.{◌>>=◌, Refusal, boot_of, callers_of, check_at, head_of, header_of, next_of, refusal}
use Rattle.session_lines.specs.WordValues.{number_within}
use Rattle.session_lines.specs.declared.cause.Cause.TheVariants as cause
use Rattle.session_lines.specs.declared.session_head.Head.{Head}
use Rattle.session_shape.specs.SessionShape.{IsListener}
use Rattle.session_shape.proofs.WorkLemmas.{within}

pub then_of : {A B : Type 0} (P : B → Type 0) (r : Result A Refusal) (f : A → Result B Refusal) → ((x : A) → r ≡ Ok x → IfOk (f x) P) → IfOk (r >>= f) P
then_of P (Ok x) f h = h x refl
then_of P (Err e) f h = tt

some_of : {A : Type 0} (found : Option A) (x : A) (e : Refusal) → ok_or found e ≡ Ok x → found ≡ Some x
some_of None x e is = absurd (cc is)
some_of (Some y) x e is = cc is

-- ---- the target

-- the canonical name of a key is its own, and lives where the name lives
key_stays : (stay : CanonicalNamesStay) (entries : List AuthorityEntry) (text : List ℕ) → resource_key entries Listener text ≡ resource_key entries Listener (canonical_of text)
key_stays stay entries text = cc (stay.name text, stay.home entries Listener text)

of_home : (host : List ℕ) (key : Key) (home : Home) (target : Target) → with_home host key home ≡ Ok target → target.key ≡ key
of_home host key (At authority) target is = cc is
of_home host key (Nowhere fault) target is = absurd (cc is)

of_template : (stay : CanonicalNamesStay) (boot : Bootstrap) (name : List ℕ) (template : Option (List ℕ)) (target : Target) → with_template boot.authorities name template ≡ Ok target → IsListener boot target
of_template stay boot name None target is = absurd (cc is)
of_template stay boot name (Some template) target is =
    let key = resource_key boot.authorities Listener (name_from template name) in
    let same : target.key ≡ key = of_home name key key.home target is in
    same ∙ (key_stays stay boot.authorities (name_from template name) ∙ ap (λ (k : Key). resource_key boot.authorities Listener k.name) (sym same))

of_form : (stay : CanonicalNamesStay) (boot : Bootstrap) (form : Option (Option (List ℕ) × List ℕ)) (target : Target) → with_form boot.authorities form ≡ Ok target → IsListener boot target
of_form stay boot None target is = absurd (cc is)
of_form stay boot (Some form) target is = of_template stay boot form.1 (template_for boot.authorities form.0) target is

of_listener : (stay : CanonicalNamesStay) (boot : Bootstrap) (word : List ℕ) (target : Target) → listener_of boot.authorities word ≡ Ok target → IsListener boot target
unfolding listener_of
of_listener stay boot word target is = of_form stay boot (target_of word) target is

found_in : (r : Result Target TargetFault) (target : Target) → result_ok r ≡ Some target → r ≡ Ok target
found_in (Ok x) target is = cc is
found_in (Err e) target is = absurd (cc is)

target_reads : (stay : CanonicalNamesStay) (boot : Bootstrap) (line : List ℕ) → IfOk (session.target_of boot line) (IsListener boot)
unfolding session.target_of
target_reads stay boot line =
    then_of (IsListener boot) (check_at 3 (is_utf8 line) cause.Text)
    (λ _. ok_or (second_of (codes "target") (words_of line)) (refusal 3 cause.Target) >>= λ word. ok_or (result_ok (listener_of boot.authorities word)) (refusal 3 cause.Target))
    (λ _ _. then_of (IsListener boot) (ok_or (second_of (codes "target") (words_of line)) (refusal 3 cause.Target)) (λ word. ok_or (result_ok (listener_of boot.authorities word)) (refusal 3 cause.Target))
    (λ word _. of_word word (result_ok (listener_of boot.authorities word)) refl))
  where
    of_word : (word : List ℕ) (found : Option Target) → result_ok (listener_of boot.authorities word) ≡ found → IfOk (ok_or found (refusal 3 cause.Target)) (IsListener boot)
    of_word word None is = tt
    of_word word (Some target) is = of_listener stay boot word target (found_in (listener_of boot.authorities word) target is)

-- ---- the callers

-- 1 to 16 callers
pub record IsCount (callers : ℕ) : Type 0 where
  pub least : 1 ≤ callers
  pub most : callers ≤ 16

callers_read : (line : List ℕ) → IfOk (callers_of line) IsCount
unfolding callers_of
callers_read line =
    then_of IsCount (check_at 4 (is_utf8 line) cause.Text)
    (λ _. ok_or (second_of (codes "callers") (words_of line)) (refusal 4 cause.Callers) >>= λ word. ok_or (number_within 1 16 word) (refusal 4 cause.Callers))
    (λ _ _. then_of IsCount (ok_or (second_of (codes "callers") (words_of line)) (refusal 4 cause.Callers)) (λ word. ok_or (number_within 1 16 word) (refusal 4 cause.Callers))
    (λ word _. of_word word (number_within 1 16 word) refl))
  where
    of_word : (word : List ℕ) (found : Option ℕ) → number_within 1 16 word ≡ found → IfOk (ok_or found (refusal 4 cause.Callers)) IsCount
    of_word word None is = tt
    of_word word (Some n) is = let range = within 1 16 word n is in record { least = range.0; most = range.1 }

-- ---- all four

pub record IsHead (head : Head) : Type 0 where
  pub target : IsListener head.boot head.target
  pub callers : IsCount head.callers

abbrev pub IsHeadOf : Head × List (List ℕ) → Type 0
IsHeadOf found = IsHead found.0

ok_is : {A : Type 0} (P : A → Type 0) (r : Result A Refusal) → IfOk r P → (x : A) → r ≡ Ok x → P x
ok_is P (Ok y) h x is = let same : y ≡ x = cc is in rw (← same) h
ok_is P (Err e) h x is = absurd (cc is)

abbrev fourth_of : Bootstrap → Target → List (List ℕ) → Result (Head × List (List ℕ)) Refusal
fourth_of boot target lines = next_of lines >>= λ fourth. callers_of fourth.0 >>= λ callers. Ok (record { boot = boot; target = target; callers = callers }, fourth.1)

fourth_reads : (boot : Bootstrap) (target : Target) (lines : List (List ℕ)) → IsListener boot target → IfOk (fourth_of boot target lines) IsHeadOf
fourth_reads boot target [] is = tt
fourth_reads boot target (line ∷ lines) is =
    then_of IsHeadOf (callers_of line) (λ callers. Ok (record { boot = boot; target = target; callers = callers }, lines))
    (λ callers count. record { target = is; callers = ok_is IsCount (callers_of line) (callers_read line) callers count })

abbrev third_of : Bootstrap → List (List ℕ) → Result (Head × List (List ℕ)) Refusal
third_of boot lines = next_of lines >>= λ third. session.target_of boot third.0 >>= λ target. fourth_of boot target third.1

third_reads : (stay : CanonicalNamesStay) (boot : Bootstrap) (lines : List (List ℕ)) → IfOk (third_of boot lines) IsHeadOf
third_reads stay boot [] = tt
third_reads stay boot (line ∷ lines) =
    then_of IsHeadOf (session.target_of boot line) (λ target. fourth_of boot target lines)
    (λ target is. fourth_reads boot target lines (ok_is (IsListener boot) (session.target_of boot line) (target_reads stay boot line) target is))

abbrev second_in : List (List ℕ) → Result (Head × List (List ℕ)) Refusal
second_in lines = next_of lines >>= λ second. boot_of second.0 >>= λ boot. third_of boot second.1

second_reads : (stay : CanonicalNamesStay) (lines : List (List ℕ)) → IfOk (second_in lines) IsHeadOf
second_reads stay [] = tt
second_reads stay (line ∷ lines) = then_of IsHeadOf (boot_of line) (λ boot. third_of boot lines) (λ boot is. third_reads stay boot lines)

pub head_reads : (stay : CanonicalNamesStay) (lines : List (List ℕ)) → IfOk (head_of lines) IsHeadOf
unfolding head_of
head_reads stay [] = tt
head_reads stay (line ∷ lines) = then_of IsHeadOf (header_of line) (λ _. second_in lines) (λ _ _. second_reads stay lines)

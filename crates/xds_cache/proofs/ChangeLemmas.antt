-- Changes of what is known of one key.
use Rattle.std.proofs.Common.{◌≡◌, Bool, true, false, cond, Option, Some, None, refl, sym, ap, ◌∙◌, subst}
use Rattle.std.specs.Prelude.{◌↔◌, IfSome, is_some, IsSome, unwrap_or}
use Rattle.xc_base.specs.declared.names.Key.{Key}
use Rattle.xc_base.specs.declared.reason.Reason.{Reason}
use Rattle.xc_keys.specs.Keys.{is_key}
use Rattle.xc_keys.proofs.KeyLemmas.{same_key}
use Rattle.xds_cache.specs.declared.fate.Known.{Known}
use Rattle.xds_cache.specs.declared.fate.Known.TheVariants.{Wanted, Value, Invalid, Absent}
use Rattle.xds_cache.specs.KeptFates.{Watched, known_of, IsLawfulAt, AllLawful, Changes, TellsChange, watched, settled, refused, is_value}

changed_at : (b : Bool) (old new : Watched) (key other : Key) (change : Option Known → Option Known) (value : Option Known) → change (known_of old key) ≡ value →
    known_of new other ≡ cond b value (known_of old other) → known_of new other ≡ cond b (change (known_of old key)) (known_of old other)
changed_at true old new key other change value is changed = changed ∙ sym is
changed_at false old new key other change value is changed = changed

-- a change to what the word says
pub changes_to : (before old new : Watched) (key : Key) (change : Option Known → Option Known) (value : Option Known) → before ≡ old → change (known_of before key) ≡ value →
    ((other : Key) → known_of new other ≡ cond (is_key key other) value (known_of before other)) → Changes old new key change
changes_to before old new key change value same is changed =
    subst (λ keys. Changes keys new key change) same (λ other. changed_at (is_key key other) before new key other change value is (changed other))

stays_at : (b : Bool) (keys : Watched) (key other : Key) (change : Option Known → Option Known) → is_key key other ≡ b → change (known_of keys key) ≡ known_of keys key →
    known_of keys other ≡ cond b (change (known_of keys key)) (known_of keys other)
stays_at true keys key other change is same = ap (λ k. known_of keys k) (sym (same_key key other is)) ∙ sym same
stays_at false keys key other change is same = refl

-- no change
pub stays : (before old : Watched) (key : Key) (change : Option Known → Option Known) → before ≡ old → change (known_of before key) ≡ known_of before key → Changes old old key change
stays before old key change is same =
    subst (λ keys. Changes keys keys key change) is (λ other. stays_at (is_key key other) before key other change refl same)

lawful_at : (b : Bool) (old new : Watched) (key other : Key) (value : Option Known) → is_key key other ≡ b → known_of new other ≡ cond b value (known_of old other) →
    IfSome value (IsLawfulAt key) → IfSome (known_of old other) (IsLawfulAt other) → IfSome (known_of new other) (IsLawfulAt other)
lawful_at true old new key other value is changed lawful before =
    subst (λ o. IfSome o (IsLawfulAt other)) (sym changed) (subst (λ k. IfSome value (IsLawfulAt k)) (same_key key other is) lawful)
lawful_at false old new key other value is changed lawful before = subst (λ o. IfSome o (IsLawfulAt other)) (sym changed) before

-- what is put in place of the one is lawful, and so all is
pub all_lawful : (old new : Watched) (key : Key) (value : Option Known) → AllLawful old → ((other : Key) → known_of new other ≡ cond (is_key key other) value (known_of old other)) →
    IfSome value (IsLawfulAt key) → AllLawful new
all_lawful old new key value lawful changed this = λ other. lawful_at (is_key key other) old new key other value refl (changed other) this (lawful other)

pub some_settled : (o : Option Known) (known : Known) → IsSome o → settled known o ≡ Some known
some_settled None known some = cc
some_settled (Some before) known some = refl

pub none_settled : (o : Option Known) (known : Known) → o ≡ None → settled known o ≡ o
none_settled o known none = ap (λ p. settled known p) none ∙ sym none

settled_same : (o : Option Known) (known : Known) → o ≡ Some known → settled known o ≡ o
settled_same o known is = ap (λ p. settled known p) is ∙ sym is

-- ---- whether something else is known of a key

-- nothing else is
pub tells_same : (keys : Watched) (key : Key) (change : Option Known → Option Known) → change (known_of keys key) ≡ known_of keys key → TellsChange false keys key change
tells_same keys key change same = (λ is. same, λ is. refl)

pub tells_settled : (keys : Watched) (key : Key) (known : Known) → known_of keys key ≡ Some known → TellsChange false keys key (settled known)
tells_settled keys key known is = tells_same keys key (settled known) (settled_same (known_of keys key) known is)

other_known : (o : Option Known) (before known : Known) → o ≡ Some before → settled known o ≡ o → before ≡ known
other_known None before known is same = absurd (cc is)
other_known (Some k) before known is same = cc (is, same)

-- something else is
pub tells_other : (keys : Watched) (key : Key) (before known : Known) → known_of keys key ≡ Some before → (before ≡ known → true ≡ false) → TellsChange true keys key (settled known)
tells_other keys key before known is other = (λ no. absurd (cc no), λ same. other (other_known (known_of keys key) before known is same))

pub watched_again : (o : Option Known) → IsSome o → watched o ≡ o
watched_again None some = cc
watched_again (Some known) some = refl

pub watched_first : (o : Option Known) → o ≡ None → watched o ≡ Some Wanted
watched_first o none = ap (λ p. watched p) none

pub is_some_none : (o : Option Known) → is_some o ≡ false → o ≡ None
is_some_none None is = refl
is_some_none (Some known) is = cc

pub refused_value : (o : Option Known) (reason : Reason) → is_value (unwrap_or o Wanted) ≡ true → refused reason o ≡ o
refused_value None reason is = refl
refused_value (Some Wanted) reason is = cc
refused_value (Some (Value value)) reason is = refl
refused_value (Some (Invalid other)) reason is = cc
refused_value (Some Absent) reason is = cc

pub refused_else : (o : Option Known) (reason : Reason) → is_value (unwrap_or o Wanted) ≡ false → settled (Invalid reason) o ≡ refused reason o
refused_else None reason is = refl
refused_else (Some Wanted) reason is = refl
refused_else (Some (Value value)) reason is = cc
refused_else (Some (Invalid other)) reason is = refl
refused_else (Some Absent) reason is = refl

-- the same change by another word
pub changes_alike : (old new : Watched) (key : Key) (one other : Option Known → Option Known) → one (known_of old key) ≡ other (known_of old key) → Changes old new key one → Changes old new key other
changes_alike old new key one other is changes = λ k. changes k ∙ ap (λ o. cond (is_key key k) o (known_of old k)) is

pub tells_alike : (is_other : Bool) (old : Watched) (key : Key) (one other : Option Known → Option Known) → one (known_of old key) ≡ other (known_of old key) → TellsChange is_other old key one → TellsChange is_other old key other
tells_alike is_other old key one other is tells = subst (λ o. (is_other ≡ false) ↔ (o ≡ known_of old key)) is tells

pub lawful_known : (keys : Watched) (key : Key) (known : Known) → AllLawful keys → known_of keys key ≡ Some known → IsLawfulAt key known
lawful_known keys key known lawful is = subst (λ o. IfSome o (IsLawfulAt key)) is (lawful key)

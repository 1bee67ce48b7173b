-- The start of a timer, for the list of what runs.
use Rattle.std.proofs.Common.{◌≡◌, Bool, true, false, cond, refl, sym, ap, ◌∙◌, subst, Option, Some, None}
use Rattle.std.specs.Prelude.{unwrap_or, IsSome}
use Rattle.xc_base.specs.declared.names.Key.{Key}
use Rattle.xc_base.specs.declared.names.Time.{Time}
use Rattle.xc_keys.specs.Keys.{is_key}
use Rattle.xc_keys.proofs.KeyLemmas.{same_key}
use Rattle.watch_timers.specs.Timers.{Running, started_at, Starts}

its_own : (o : Option Time) (at : Time) → IsSome o → o ≡ Some (unwrap_or o at)
its_own None at some = cc
its_own (Some t) at some = refl

kept_time : (b : Bool) (timers : Running) (key other : Key) (at : Time) → is_key key other ≡ b → IsSome (started_at timers key) →
    started_at timers other ≡ cond b (Some (unwrap_or (started_at timers key) at)) (started_at timers other)
kept_time true timers key other at is some = ap (λ k. started_at timers k) (sym (same_key key other is)) ∙ its_own (started_at timers key) at some
kept_time false timers key other at is some = refl

-- a timer that runs keeps its time
pub starts_again : (timers old : Running) (key : Key) (at : Time) → timers ≡ old → IsSome (started_at timers key) → Starts old old key at
starts_again timers old key at is some = subst (λ ts. Starts ts ts key at) is (λ other. kept_time (is_key key other) timers key other at refl some)

new_time : (b : Bool) (old new : Running) (key other : Key) (at : Time) → started_at old key ≡ None →
    started_at new other ≡ cond b (Some at) (started_at old other) → started_at new other ≡ cond b (Some (unwrap_or (started_at old key) at)) (started_at old other)
new_time true old new key other at none change = change ∙ ap (λ o. Some (unwrap_or o at)) (sym none)
new_time false old new key other at none change = change

-- one that doesn't runs from now on
pub starts_first : (before old new : Running) (key made : Key) (at : Time) → before ≡ old → made ≡ key → started_at before key ≡ None →
    ((other : Key) → started_at new other ≡ cond (is_key made other) (Some at) (started_at before other)) → Starts old new key at
starts_first before old new key made at was same none change =
    subst (λ ts. Starts ts new key at) was
    (λ other. new_time (is_key key other) before new key other at none (subst (λ k. started_at new other ≡ cond (is_key k other) (Some at) (started_at before other)) same (change other)))

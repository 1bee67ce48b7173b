-- What runs after every list of calls.
use Rattle.std.proofs.Common.{◌≡◌, ◌⊎◌, inl, inr, Bool, true, false, cond, List, [], ◌∷◌, refl, sym, ap, ◌∙◌, subst, Some, None}
use Rattle.std.specs.Prelude.{◌↔◌, Contains, unwrap_or}
use Rattle.xc_base.specs.declared.names.Key.{Key}
use Rattle.xc_base.specs.declared.names.Time.{Time}
use Rattle.xc_keys.specs.Keys.{is_key}
use Rattle.xc_keys.specs.Spans.{IsOver}
use Rattle.xc_keys.proofs.KeyLemmas.{same_key, key_itself}
use Rattle.xc_keys.proofs.MemberLemmas.{mapped, from_mapped}
use Rattle.xc_keys.proofs.SpanLemmas.{over_none, over_end, over_more, since_first, since_more, never_both, one_since}
use Rattle.watch_timers.specs.Timers.{Running, started_at, has_run, runs_on, TakesDue}
use Rattle.watch_timers.specs.TimerRuns.{Event, start, cancel, due, After, StartsKey, StopsKey, IsRunning, RunAsStarted}

-- the key's timer runs as the calls say, or doesn't run, as they say
abbrev Found : List Event → Running → Key → Type 0
Found events timers key =
    ((at : Time) × (started_at timers key ≡ Some at) × IsRunning events key at)
    ⊎ ((started_at timers key ≡ None) × IsOver (StartsKey key) (StopsKey key) events)

-- a call that is about another key
passed : (event : Event) (events : List Event) (old new : Running) (key : Key) → (StartsKey key event → ⊥) → (StopsKey key event → ⊥) → started_at new key ≡ started_at old key →
    Found events old key → Found (event ∷ events) new key
passed event events old new key no_start no_stop same (inl (at, is, (since, running))) =
    inl (at, same ∙ is, (event ∷ since, since_more (StartsKey key) (StopsKey key) event events (start key at) since no_stop running))
passed event events old new key no_start no_stop same (inr (is, over)) =
    inr (same ∙ is, over_more (StartsKey key) (StopsKey key) event events no_start over)

started : (events : List Event) (old new : Running) (key : Key) (at : Time) → started_at new key ≡ Some (unwrap_or (started_at old key) at) → Found events old key → Found (start key at ∷ events) new key
started events old new key at is (inl (first, was, (since, running))) =
    inl (first, is ∙ ap (λ o. Some (unwrap_or o at)) was, (start key at ∷ since, since_more (StartsKey key) (StopsKey key) (start key at) events (start key first) since (λ stops. stops) running))
started events old new key at is (inr (was, over)) =
    inl (at, is ∙ ap (λ o. Some (unwrap_or o at)) was, ([], since_first (StartsKey key) (StopsKey key) (start key at) events refl over))

stopped : (event : Event) (events : List Event) (new : Running) (key : Key) → (StartsKey key event → ⊥) → StopsKey key event → started_at new key ≡ None → Found (event ∷ events) new key
stopped event events new key no_start stops is = inr (is, over_end (StartsKey key) (StopsKey key) event events stops no_start)

apart : (key other : Key) → is_key other key ≡ false → key ≡ other → ⊥
apart key other no_key is = let same = subst (λ k. is_key k key ≡ true) is (key_itself key) in cc

start_found : (b : Bool) (events : List Event) (old new : Running) (key other : Key) (at : Time) → is_key other key ≡ b →
    started_at new key ≡ cond b (Some (unwrap_or (started_at old other) at)) (started_at old key) → Found events old key → Found (start other at ∷ events) new key
start_found true events old new key other at is change found =
    let same = same_key other key is in
    subst (λ k. Found (start k at ∷ events) new key) (sym same)
    (started events old new key at (change ∙ ap (λ k. Some (unwrap_or (started_at old k) at)) same) found)
start_found false events old new key other at is change found =
    passed (start other at) events old new key (apart key other is) (λ stops. stops) change found

cancel_found : (b : Bool) (events : List Event) (old new : Running) (key other : Key) → is_key other key ≡ b →
    started_at new key ≡ cond b None (started_at old key) → Found events old key → Found (cancel other ∷ events) new key
cancel_found true events old new key other is change found =
    stopped (cancel other) events new key (λ starts. starts) (sym (same_key other key is)) change
cancel_found false events old new key other is change found =
    passed (cancel other) events old new key (λ starts. starts) (apart key other is) change found

taken_key : (timers : Running) (now : Time) (keys : List Key) (after : Running) (key : Key) (at : Time) → TakesDue timers now keys after → started_at timers key ≡ Some at → has_run now at ≡ true → Contains keys key
taken_key timers now keys after key at takes is has =
    subst (λ ks. Contains ks key) (sym takes.keys_are)
    (mapped (λ started. started.key) takes.starts (record { at = at; key = key }) ((takes.exact key at).1 (is, has)))

time_of_taken : (timers : Running) (now : Time) (keys : List Key) (after : Running) (key : Key) → TakesDue timers now keys after → Contains keys key → (at : Time) × (started_at timers key ≡ Some at) × (has_run now at ≡ true)
time_of_taken timers now keys after key takes has =
    let (started, there, same) = from_mapped (λ started. started.key) takes.starts key (subst (λ ks. Contains ks key) takes.keys_are has) in
    let (is, run) = (takes.exact started.key started.at).0 there in
    (started.at, subst (λ k. started_at timers k ≡ Some started.at) same is, run)

runs_still : (timers : Running) (now : Time) (keys : List Key) (after : Running) (key : Key) (at : Time) → TakesDue timers now keys after → started_at timers key ≡ Some at → has_run now at ≡ false → Contains keys key → ⊥
runs_still timers now keys after key at takes is runs has =
    let (other, was, run) = time_of_taken timers now keys after key takes has in
    let same : at ≡ other = some_same at other (sym is ∙ was) in
    let both = sym runs ∙ subst (λ t. has_run now t ≡ true) (sym same) run in cc
  where
    some_same : {X : Type 0} (x y : X) → Some x ≡ Some y → x ≡ y
    some_same x y is = ap (λ o. unwrap_or o x) is

due_running : (b : Bool) (events : List Event) (old new : Running) (key : Key) (now : Time) (keys : List Key) (at : Time) → has_run now at ≡ b → TakesDue old now keys new →
    started_at old key ≡ Some at → started_at new key ≡ cond b None (Some at) → Found events old key → Found (due now keys ∷ events) new key
due_running true events old new key now keys at run takes is change found =
    stopped (due now keys) events new key (λ starts. starts) (taken_key old now keys new key at takes is run) change
due_running false events old new key now keys at run takes is change found =
    passed (due now keys) events old new key (λ starts. starts) (runs_still old now keys new key at takes is run) (change ∙ sym is) found

due_found : (events : List Event) (old new : Running) (key : Key) (now : Time) (keys : List Key) → TakesDue old now keys new → Found events old key → Found (due now keys ∷ events) new key
due_found events old new key now keys takes (inl (at, is, (since, running))) =
    due_running (has_run now at) events old new key now keys at refl takes is (takes.others key ∙ ap (λ o. runs_on now o) is) (inl (at, is, (since, running)))
due_found events old new key now keys takes (inr (is, over)) =
    inr (takes.others key ∙ ap (λ o. runs_on now o) is, over_more (StartsKey key) (StopsKey key) (due now keys) events (λ starts. starts) over)

found : (events : List Event) (timers : Running) (key : Key) → After events timers → Found events timers key
found [] timers key after = inr (ap (λ ts. started_at ts key) after, over_none (StartsKey key) (StopsKey key))
found (start other at ∷ events) timers key (old, after, step) = start_found (is_key other key) events old timers key other at refl (step key) (found events old key after)
found (cancel other ∷ events) timers key (old, after, step) = cancel_found (is_key other key) events old timers key other refl (step key) (found events old key after)
found (due now keys ∷ events) timers key (old, after, step) = due_found events old timers key now keys step (found events old key after)

since_start : (events : List Event) (key : Key) (at other : Time) → IsRunning events key at → IsRunning events key other → at ≡ other
since_start events key at other (since, one) (others, two) =
    let same = one_since (StartsKey key) (StopsKey key) events (start key at) (start key other) since others one two in
    ap time_in same.0
  where
    time_in : Event → Time
    time_in (start k t) = t
    time_in (cancel k) = at
    time_in (due now keys) = at

running_is : (events : List Event) (timers : Running) (key : Key) (at : Time) → Found events timers key → (started_at timers key ≡ Some at) ↔ IsRunning events key at
running_is events timers key at (inl (first, is, running)) = (
  λ was. subst (λ t. IsRunning events key t) (ap (λ o. unwrap_or o at) (sym is ∙ was)) running,
  λ other. is ∙ ap (λ t. Some t) (since_start events key first at running other),
)
running_is events timers key at (inr (is, over)) = (
  λ was. let never = sym is ∙ was in cc,
  λ (since, running). absurd (never_both (StartsKey key) (StopsKey key) events (start key at) since over running),
)

pub run_as_started : (events : List Event) (timers : Running) → After events timers → RunAsStarted events timers
run_as_started events timers after =
    let running : (key : Key) (at : Time) → (started_at timers key ≡ Some at) ↔ IsRunning events key at = λ key at. running_is events timers key at (found events timers key after) in record {
      running = running;
      due = λ now keys new takes. record {
        starts = takes.starts;
        keys_are = takes.keys_are;
        rising = takes.rising;
        exact = λ key at. (
          λ has. let was = (takes.exact key at).0 has in ((running key at).0 was.0, was.1),
          λ is. (takes.exact key at).1 ((running key at).1 is.0, is.1),
        );
      };
    }

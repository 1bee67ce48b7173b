-- The fates that every list of calls gives.
use Rattle.std.proofs.Common.{◌≡◌, ◌⊎◌, inl, inr, Bool, true, false, cond, List, [], ◌∷◌, ◌++◌, Option, Some, None, refl, sym, ap, ◌∙◌, subst}
use Rattle.std.specs.Prelude.{◌↔◌, IsSome, option_map, unwrap_or}
use Rattle.xc_base.specs.declared.names.Authority.{Authority}
use Rattle.xc_base.specs.declared.names.Home.TheVariants.{At}
use Rattle.xc_base.specs.declared.names.Key.{Key}
use Rattle.xc_base.specs.declared.reason.Reason.{Reason}
use Rattle.xc_keys.specs.Keys.{is_key}
use Rattle.xc_keys.proofs.KeyLemmas.{same_key, key_itself}
use Rattle.xc_keys.proofs.SpanLemmas.{over_none, over_end, over_more, since_first, since_more, never_both, one_since}
use Rattle.xds_config.specs.declared.value.Value.{Value as ValueOf}
use Rattle.xds_cache.specs.declared.fate.Known.{Known}
use Rattle.xds_cache.specs.declared.fate.Known.TheVariants.{Wanted, Value, Invalid, Absent}
use Rattle.xds_cache.specs.KeptFates.{Watched, known_of, fate_at, fate_of, watched, accepted, refused, after_refusal, taken_away}
use Rattle.xds_cache.specs.CacheCalls.{Event, watch, unwatch, accept, refuse, delete, expire, After, Watches, Unwatches, Accepts, Refuses, TakesAway, IsWatchedSince, IsUnwatched, HasNoValue, HasNoReason, IsFate, FollowCalls}
use Rattle.xds_cache.proofs.LastLemmas.{has_none, has_first, has_more, has_back, last_first, last_more, last_back, last_top, one_last}

-- ---- what bears on a value, and what on a reason

abbrev Settles : Key → Event → Type 0
Settles key event = Accepts key event ⊎ TakesAway key event

abbrev Tells : Key → Event → Type 0
Tells key event = Refuses key event ⊎ (Accepts key event ⊎ TakesAway key event)

no_sum : {A B : Type 0} → (A → ⊥) → (B → ⊥) → A ⊎ B → ⊥
no_sum a b (inl x) = a x
no_sum a b (inr y) = b y

-- ---- an event that doesn't bear on the fate

no_value_more : (key : Key) (event : Event) (since : List Event) → (Settles key event → ⊥) → HasNoValue key since → HasNoValue key (event ∷ since)
no_value_more key event since other none value has = none value (last_back (Settles key) event since (accept key value) other has)

no_reason_more : (key : Key) (event : Event) (since : List Event) → (Tells key event → ⊥) → HasNoReason key since → HasNoReason key (event ∷ since)
no_reason_more key event since other none reason has = none reason (last_back (Tells key) event since (refuse key reason) other has)

passes : (key : Key) (event : Event) (since : List Event) (fate : Known) → (Refuses key event → ⊥) → (Accepts key event → ⊥) → (TakesAway key event → ⊥) → IsFate key since fate → IsFate key (event ∷ since) fate
passes key event since (Value value) no_refusal no_value no_end is = last_more (Settles key) event since (accept key value) (no_sum no_value no_end) is
passes key event since (Invalid reason) no_refusal no_value no_end is =
    (no_value_more key event since (no_sum no_value no_end) is.0, last_more (Tells key) event since (refuse key reason) (no_sum no_refusal (no_sum no_value no_end)) is.1)
passes key event since Absent no_refusal no_value no_end is = (
  no_value_more key event since (no_sum no_value no_end) is.0,
  no_reason_more key event since (no_sum no_refusal (no_sum no_value no_end)) is.1,
  has_more (TakesAway key) event since is.2,
)
passes key event since Wanted no_refusal no_value no_end is = (
  no_value_more key event since (no_sum no_value no_end) is.0,
  no_reason_more key event since (no_sum no_refusal (no_sum no_value no_end)) is.1,
  λ has. is.2 (has_back (TakesAway key) event since no_end has),
)

-- ---- one that does

accepts : (key : Key) (value : ValueOf) (since : List Event) → IsFate key (accept key value ∷ since) (Value value)
accepts key value since = last_first (Settles key) (accept key value) since (inl refl)

refusal_settles : (key : Key) (reason : Reason) → Settles key (refuse key reason) → ⊥
refusal_settles key reason (inl is) = is
refusal_settles key reason (inr is) = is

refuses : (key : Key) (reason : Reason) (since : List Event) (fate : Known) → IsFate key since fate → IsFate key (refuse key reason ∷ since) (after_refusal reason fate)
refuses key reason since (Value value) is = last_more (Settles key) (refuse key reason) since (accept key value) (refusal_settles key reason) is
refuses key reason since (Invalid other) is =
    (no_value_more key (refuse key reason) since (refusal_settles key reason) is.0, last_first (Tells key) (refuse key reason) since (inl refl))
refuses key reason since Absent is =
    (no_value_more key (refuse key reason) since (refusal_settles key reason) is.0, last_first (Tells key) (refuse key reason) since (inl refl))
refuses key reason since Wanted is =
    (no_value_more key (refuse key reason) since (refusal_settles key reason) is.0, last_first (Tells key) (refuse key reason) since (inl refl))

ends_no_value : (key : Key) (event : Event) (value : ValueOf) → TakesAway key event → event ≡ accept key value → ⊥
ends_no_value key event value ends is = subst (λ e. TakesAway key e) is ends

ends_no_reason : (key : Key) (event : Event) (reason : Reason) → TakesAway key event → event ≡ refuse key reason → ⊥
ends_no_reason key event reason ends is = subst (λ e. TakesAway key e) is ends

ends : (key : Key) (event : Event) (since : List Event) → TakesAway key event → IsFate key (event ∷ since) Absent
ends key event since away = (
  λ value has. ends_no_value key event value away (last_top (Settles key) event since (accept key value) (inr away) has),
  λ reason has. ends_no_reason key event reason away (last_top (Tells key) event since (refuse key reason) (inr (inr away)) has),
  has_first (TakesAway key) event since away,
)

-- nothing came yet
begins : (key : Key) → IsFate key [] Wanted
begins key = (
  λ value has. no_split has.later (accept key value) has.earlier has.split,
  λ reason has. no_split has.later (refuse key reason) has.earlier has.split,
  has_none (TakesAway key),
)
  where
    no_split : (later : List Event) (event : Event) (earlier : List Event) → [] ≡ later ++ event ∷ earlier → ⊥
    no_split [] event earlier is = cc
    no_split (e ∷ later) event earlier is = cc

-- ---- there is one fate

value_in : ValueOf → Event → ValueOf
value_in d (watch key) = d
value_in d (unwatch key) = d
value_in d (accept key value) = value
value_in d (refuse key reason) = d
value_in d (delete key) = d
value_in d (expire key) = d

reason_in : Reason → Event → Reason
reason_in d (watch key) = d
reason_in d (unwatch key) = d
reason_in d (accept key value) = d
reason_in d (refuse key reason) = reason
reason_in d (delete key) = d
reason_in d (expire key) = d

same_value : (key : Key) (one other : ValueOf) → accept key one ≡ accept key other → one ≡ other
unfolding value_in
same_value key one other is = ap (value_in one) is

same_reason : (key : Key) (one other : Reason) → refuse key one ≡ refuse key other → one ≡ other
unfolding reason_in
same_reason key one other is = ap (reason_in one) is

one_fate : (key : Key) (since : List Event) (one other : Known) → IsFate key since one → IsFate key since other → one ≡ other
one_fate key since (Value value) (Value other) is also = ap (λ v. Value v) (same_value key value other (one_last (Settles key) since (accept key value) (accept key other) is also))
one_fate key since (Value value) (Invalid reason) is also = absurd (also.0 value is)
one_fate key since (Value value) Absent is also = absurd (also.0 value is)
one_fate key since (Value value) Wanted is also = absurd (also.0 value is)
one_fate key since (Invalid reason) (Value value) is also = absurd (is.0 value also)
one_fate key since (Invalid reason) (Invalid other) is also = ap (λ r. Invalid r) (same_reason key reason other (one_last (Tells key) since (refuse key reason) (refuse key other) is.1 also.1))
one_fate key since (Invalid reason) Absent is also = absurd (also.1 reason is.1)
one_fate key since (Invalid reason) Wanted is also = absurd (also.1 reason is.1)
one_fate key since Absent (Value value) is also = absurd (is.0 value also)
one_fate key since Absent (Invalid reason) is also = absurd (is.1 reason also.1)
one_fate key since Absent Absent is also = refl
one_fate key since Absent Wanted is also = absurd (also.2 is.2)
one_fate key since Wanted (Value value) is also = absurd (is.0 value also)
one_fate key since Wanted (Invalid reason) is also = absurd (is.1 reason also.1)
one_fate key since Wanted Absent is also = absurd (is.2 also.2)
one_fate key since Wanted Wanted is also = refl

-- ---- what is known of a key, after any calls

-- the key is watched and its fate is known as the calls say, or it isn't watched, as they say
abbrev Found : List Event → Watched → Key → Type 0
Found events keys key =
    ((known : Known) × (since : List Event) × (known_of keys key ≡ Some known) × IsWatchedSince events key since × IsFate key since known)
    ⊎ ((known_of keys key ≡ None) × IsUnwatched events key)

-- a call that is about another key
passed : (event : Event) (events : List Event) (old new : Watched) (key : Key) → (Watches key event → ⊥) → (Unwatches key event → ⊥) → (Refuses key event → ⊥) → (Accepts key event → ⊥) → (TakesAway key event → ⊥) →
    known_of new key ≡ known_of old key → Found events old key → Found (event ∷ events) new key
passed event events old new key no_watch no_unwatch no_refusal no_value no_end same (inl (known, since, is, watched, fate)) =
    inl (known, event ∷ since, same ∙ is, since_more (Watches key) (Unwatches key) event events (watch key) since no_unwatch watched, passes key event since known no_refusal no_value no_end fate)
passed event events old new key no_watch no_unwatch no_refusal no_value no_end same (inr (is, over)) =
    inr (same ∙ is, over_more (Watches key) (Unwatches key) event events no_watch over)

-- a call about this key that neither watches nor unwatches it: what is known changes where it is watched
told : (event : Event) (events : List Event) (old new : Watched) (key : Key) (change : Known → Known) → (Watches key event → ⊥) → (Unwatches key event → ⊥) →
    ((since : List Event) (fate : Known) → IsFate key since fate → IsFate key (event ∷ since) (change fate)) →
    known_of new key ≡ option_map change (known_of old key) → Found events old key → Found (event ∷ events) new key
told event events old new key change no_watch no_unwatch goes changed (inl (known, since, is, watched, fate)) =
    inl (change known, event ∷ since, changed ∙ ap (λ o. option_map change o) is, since_more (Watches key) (Unwatches key) event events (watch key) since no_unwatch watched, goes since known fate)
told event events old new key change no_watch no_unwatch goes changed (inr (is, over)) =
    inr (changed ∙ ap (λ o. option_map change o) is, over_more (Watches key) (Unwatches key) event events no_watch over)

watches : (events : List Event) (old new : Watched) (key : Key) → known_of new key ≡ watched (known_of old key) → Found events old key → Found (watch key ∷ events) new key
watches events old new key changed (inl (known, since, is, since_then, fate)) =
    inl (known, watch key ∷ since, changed ∙ ap (λ o. watched o) is, since_more (Watches key) (Unwatches key) (watch key) events (watch key) since (λ stops. stops) since_then, passes key (watch key) since known (λ no. no) (λ no. no) (λ no. no) fate)
watches events old new key changed (inr (is, over)) =
    inl (Wanted, [], changed ∙ ap (λ o. watched o) is, since_first (Watches key) (Unwatches key) (watch key) events refl over, begins key)

apart : (key other : Key) → is_key other key ≡ false → key ≡ other → ⊥
apart key other no_key is = let same = subst (λ k. is_key k key ≡ true) is (key_itself key) in cc

watch_found : (b : Bool) (events : List Event) (old new : Watched) (key other : Key) → is_key other key ≡ b → known_of new key ≡ cond b (watched (known_of old other)) (known_of old key) →
    Found events old key → Found (watch other ∷ events) new key
watch_found true events old new key other is changed found =
    let same = same_key other key is in
    subst (λ k. Found (watch k ∷ events) new key) (sym same) (watches events old new key (changed ∙ ap (λ k. watched (known_of old k)) same) found)
watch_found false events old new key other is changed found =
    passed (watch other) events old new key (apart key other is) (λ no. no) (λ no. no) (λ no. no) (λ no. no) changed found

unwatch_found : (b : Bool) (events : List Event) (old new : Watched) (key other : Key) → is_key other key ≡ b → known_of new key ≡ cond b None (known_of old key) →
    Found events old key → Found (unwatch other ∷ events) new key
unwatch_found true events old new key other is changed found =
    inr (changed, over_end (Watches key) (Unwatches key) (unwatch other) events (sym (same_key other key is)) (λ no. no))
unwatch_found false events old new key other is changed found =
    passed (unwatch other) events old new key (λ no. no) (apart key other is) (λ no. no) (λ no. no) (λ no. no) changed found

accept_found : (b : Bool) (events : List Event) (old new : Watched) (key other : Key) (value : ValueOf) → is_key other key ≡ b → known_of new key ≡ cond b (accepted value (known_of old other)) (known_of old key) →
    Found events old key → Found (accept other value ∷ events) new key
accept_found true events old new key other value is changed found =
    let same = same_key other key is in
    subst (λ k. Found (accept k value ∷ events) new key) (sym same)
    (told (accept key value) events old new key (λ before. Value value) (λ no. no) (λ no. no) (λ since fate before. accepts key value since) (changed ∙ ap (λ k. accepted value (known_of old k)) same) found)
accept_found false events old new key other value is changed found =
    passed (accept other value) events old new key (λ no. no) (λ no. no) (λ no. no) (apart key other is) (λ no. no) changed found

refuse_found : (b : Bool) (events : List Event) (old new : Watched) (key other : Key) (reason : Reason) → is_key other key ≡ b → known_of new key ≡ cond b (refused reason (known_of old other)) (known_of old key) →
    Found events old key → Found (refuse other reason ∷ events) new key
refuse_found true events old new key other reason is changed found =
    let same = same_key other key is in
    subst (λ k. Found (refuse k reason ∷ events) new key) (sym same)
    (told (refuse key reason) events old new key (after_refusal reason) (λ no. no) (λ no. no) (λ since fate before. refuses key reason since fate before) (changed ∙ ap (λ k. refused reason (known_of old k)) same) found)
refuse_found false events old new key other reason is changed found =
    passed (refuse other reason) events old new key (λ no. no) (λ no. no) (apart key other is) (λ no. no) (λ no. no) changed found

end_found : (b : Bool) (event : Event) (events : List Event) (old new : Watched) (key other : Key) → is_key other key ≡ b → known_of new key ≡ cond b (taken_away (known_of old other)) (known_of old key) →
    (Watches key event → ⊥) → (Unwatches key event → ⊥) → (Refuses key event → ⊥) → (Accepts key event → ⊥) → (key ≡ other → TakesAway key event) → (TakesAway key event → key ≡ other) →
    Found events old key → Found (event ∷ events) new key
end_found true event events old new key other is changed no_watch no_unwatch no_refusal no_value away same found =
    told event events old new key (λ before. Absent) no_watch no_unwatch (λ since fate before. ends key event since (away (sym (same_key other key is))))
    (changed ∙ ap (λ k. taken_away (known_of old k)) (same_key other key is)) found
end_found false event events old new key other is changed no_watch no_unwatch no_refusal no_value away same found =
    passed event events old new key no_watch no_unwatch no_refusal no_value (λ ended. apart key other is (same ended)) changed found

found : (events : List Event) (keys : Watched) (key : Key) → After events keys → Found events keys key
found [] keys key after = inr (ap (λ ks. known_of ks key) after, over_none (Watches key) (Unwatches key))
found (watch other ∷ events) keys key (old, after, step) = watch_found (is_key other key) events old keys key other refl (step key) (found events old key after)
found (unwatch other ∷ events) keys key (old, after, step) = unwatch_found (is_key other key) events old keys key other refl (step key) (found events old key after)
found (accept other value ∷ events) keys key (old, after, step) = accept_found (is_key other key) events old keys key other value refl (step key) (found events old key after)
found (refuse other reason ∷ events) keys key (old, after, step) = refuse_found (is_key other key) events old keys key other reason refl (step key) (found events old key after)
found (delete other ∷ events) keys key (old, after, step) =
    end_found (is_key other key) (delete other) events old keys key other refl (step key) (λ no. no) (λ no. no) (λ no. no) (λ no. no) (λ is. is) (λ is. is) (found events old key after)
found (expire other ∷ events) keys key (old, after, step) =
    end_found (is_key other key) (expire other) events old keys key other refl (step key) (λ no. no) (λ no. no) (λ no. no) (λ no. no) (λ is. is) (λ is. is) (found events old key after)

-- ---- the law

none_some : {X : Type 0} (o : Option X) → o ≡ None → IsSome o → ⊥
none_some None is some = cc
none_some (Some x) is some = cc

watched_is : (events : List Event) (keys : Watched) (key : Key) → Found events keys key → IsSome (known_of keys key) ↔ ((since : List Event) × IsWatchedSince events key since)
watched_is events keys key (inl (known, since, is, since_then, fate)) = (λ some. (since, since_then), λ has. subst (λ o. IsSome o) (sym is) refl)
watched_is events keys key (inr (is, over)) = (
  λ some. absurd (none_some (known_of keys key) is some),
  λ (since, since_then). absurd (never_both (Watches key) (Unwatches key) events (watch key) since over since_then),
)

fate_is : (events : List Event) (keys : Watched) (key : Key) (authority : Authority) (since : List Event) (fate : Known) → key.home ≡ At authority → IsWatchedSince events key since → Found events keys key →
    (fate_of keys key ≡ fate) ↔ IsFate key since fate
fate_is events keys key authority since fate home watched (inl (known, other, is, also, known_fate)) =
    let told_is : fate_of keys key ≡ known = ap (λ h. fate_at h (known_of keys key)) home ∙ ap (λ o. unwrap_or o Wanted) is in
    let same = one_since (Watches key) (Unwatches key) events (watch key) (watch key) other since also watched in
    let here : IsFate key since known = subst (λ es. IsFate key es known) same.1 known_fate in
    (λ was. subst (λ f. IsFate key since f) (sym told_is ∙ was) here, λ has. told_is ∙ one_fate key since known fate here has)
fate_is events keys key authority since fate home watched (inr (is, over)) =
    absurd (never_both (Watches key) (Unwatches key) events (watch key) since over watched)

unwatched_is : (events : List Event) (keys : Watched) (key : Key) (authority : Authority) → key.home ≡ At authority → IsUnwatched events key → Found events keys key → fate_of keys key ≡ Wanted
unwatched_is events keys key authority home over (inl (known, since, is, watched, fate)) =
    absurd (never_both (Watches key) (Unwatches key) events (watch key) since over watched)
unwatched_is events keys key authority home over (inr (is, also)) = ap (λ h. fate_at h (known_of keys key)) home ∙ ap (λ o. unwrap_or o Wanted) is

pub follow_calls : (events : List Event) (keys : Watched) → After events keys → FollowCalls events keys
follow_calls events keys after = record {
  watched = λ key. watched_is events keys key (found events keys key after);
  fate = λ key authority since fate home watched. fate_is events keys key authority since fate home watched (found events keys key after);
  unwatched = λ key authority home over. unwatched_is events keys key authority home over (found events keys key after);
  homeless = λ key fault home. ap (λ h. fate_at h (known_of keys key)) home;
}

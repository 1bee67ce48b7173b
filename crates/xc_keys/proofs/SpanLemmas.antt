-- Spans of time, one event on.
use Rattle.std.proofs.Common.{◌≡◌, inl, inr, List, [], ◌∷◌, ◌++◌, refl, sym, ap, ◌∙◌, subst}
use Rattle.xc_keys.proofs.MemberLemmas.{no_member, here, there, at_first}
use Rattle.xc_keys.specs.Spans.{HasEnd, IsOver, IsSince}

first_of : {X : Type 0} → X → List X → X
first_of d [] = d
first_of d (x ∷ xs) = x

rest_of : {X : Type 0} → List X → List X
rest_of [] = []
rest_of (x ∷ xs) = xs

same_first : {X : Type 0} (x y : X) (xs ys : List X) → x ∷ xs ≡ y ∷ ys → x ≡ y
unfolding first_of
same_first x y xs ys is = ap (first_of x) is

same_rest : {X : Type 0} (x y : X) (xs ys : List X) → x ∷ xs ≡ y ∷ ys → xs ≡ ys
unfolding rest_of
same_rest x y xs ys is = ap rest_of is

module _ {E : Type 0} (Begins Ends : E → Type 0) where
  end_here : (event : E) (events : List E) → Ends event → HasEnd Ends (event ∷ events)
  end_here event events ends = (event, here event events, ends)

  end_there : (event : E) (events : List E) → HasEnd Ends events → HasEnd Ends (event ∷ events)
  end_there event events (end, has, ends) = (end, there event events end has, ends)

  pub over_none : IsOver Begins Ends []
  over_none [] event earlier is begins = cc
  over_none (x ∷ later) event earlier is begins = cc

  pub over_end : (event : E) (events : List E) → Ends event → (Begins event → ⊥) → IsOver Begins Ends (event ∷ events)
  over_end event events ends other [] begin earlier is begins = absurd (other (subst Begins (sym (same_first event begin events earlier is)) begins))
  over_end event events ends other (x ∷ later) begin earlier is begins = subst (λ y. HasEnd Ends (y ∷ later)) (same_first event x events (later ++ begin ∷ earlier) is) (end_here event later ends)

  pub over_more : (event : E) (events : List E) → (Begins event → ⊥) → IsOver Begins Ends events → IsOver Begins Ends (event ∷ events)
  over_more event events other over [] begin earlier is begins = absurd (other (subst Begins (sym (same_first event begin events earlier is)) begins))
  over_more event events other over (x ∷ later) begin earlier is begins = end_there x later (over later begin earlier (same_rest event x events (later ++ begin ∷ earlier) is) begins)

  pub since_first : (event : E) (events : List E) → Begins event → IsOver Begins Ends events → IsSince Begins Ends (event ∷ events) event []
  since_first event events begins over = record {
    before = events;
    split = refl;
    begins = begins;
    over = over;
    lasts = λ (end, has, ends). no_member end has;
  }

  end_back : (event : E) (events : List E) → (Ends event → ⊥) → HasEnd Ends (event ∷ events) → HasEnd Ends events
  end_back event events other (end, has, ends) =
      elim (at_first event end events has) [
        | inl is ↦ absurd (other (subst Ends (sym is) ends))
        | inr later ↦ (end, later, ends)
      ]

  pub since_more : (event : E) (events : List E) (first : E) (since : List E) → (Ends event → ⊥) → IsSince Begins Ends events first since → IsSince Begins Ends (event ∷ events) first (event ∷ since)
  since_more event events first since other is = record {
    before = is.before;
    split = ap (λ es. event ∷ es) is.split;
    begins = is.begins;
    over = is.over;
    lasts = λ ended. is.lasts (end_back event since other ended);
  }

  -- no span lasts where all are over
  pub never_both : (events : List E) (first : E) (since : List E) → IsOver Begins Ends events → IsSince Begins Ends events first since → ⊥
  never_both events first since over is = is.lasts (over since first is.before is.split is.begins)

  apart : (events : List E) (first other x : E) (others : List E) → IsSince Begins Ends events first [] → IsSince Begins Ends events other (x ∷ others) → ⊥
  apart events first other x others one two =
      let before = same_rest first x one.before (others ++ other ∷ two.before) (sym one.split ∙ two.split) in
      two.lasts (end_there x others (one.over others other two.before before two.begins))

  -- at most one span lasts
  pub one_since : (events : List E) (first other : E) (since others : List E) → IsSince Begins Ends events first since → IsSince Begins Ends events other others → (first ≡ other) × (since ≡ others)
  one_since events first other [] [] one two = (same_first first other one.before two.before (sym one.split ∙ two.split), refl)
  one_since events first other [] (y ∷ others) one two = absurd (apart events first other y others one two)
  one_since events first other (x ∷ since) [] one two = absurd (apart events other first x since two one)
  one_since events first other (x ∷ since) (y ∷ others) one two =
      let both = sym one.split ∙ two.split in
      let same = one_since (since ++ first ∷ one.before) first other since others
      (record { before = one.before; split = refl; begins = one.begins; over = one.over; lasts = λ ended. one.lasts (end_there x since ended) })
      (record { before = two.before; split = same_rest x y (since ++ first ∷ one.before) (others ++ other ∷ two.before) both; begins = two.begins; over = two.over; lasts = λ ended. two.lasts (end_there y others ended) }) in
      (same.0, ap (λ z. z ∷ since) (same_first x y (since ++ first ∷ one.before) (others ++ other ∷ two.before) both) ∙ ap (λ zs. y ∷ zs) same.1)

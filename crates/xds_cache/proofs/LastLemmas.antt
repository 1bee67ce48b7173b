-- The last events of a sort, one event on.
use Rattle.std.proofs.Common.{◌≡◌, inl, inr, List, [], ◌∷◌, ◌++◌, refl, sym, ap, subst}
use Rattle.xc_keys.proofs.MemberLemmas.{no_member, here, there, at_first}
use Rattle.xds_cache.specs.CacheCalls.{Event, Has, IsLast}

first_of : Event → List Event → Event
first_of d [] = d
first_of d (e ∷ events) = e

rest_of : List Event → List Event
rest_of [] = []
rest_of (e ∷ events) = events

same_first : (one other : Event) (events others : List Event) → one ∷ events ≡ other ∷ others → one ≡ other
unfolding first_of
same_first one other events others is = ap (first_of one) is

same_rest : (one other : Event) (events others : List Event) → one ∷ events ≡ other ∷ others → events ≡ others
unfolding rest_of
same_rest one other events others is = ap rest_of is

module _ (Such : Event → Type 0) where
  pub has_none : Has Such [] → ⊥
  has_none (event, has, such) = no_member event has

  pub has_first : (event : Event) (events : List Event) → Such event → Has Such (event ∷ events)
  has_first event events such = (event, here event events, such)

  pub has_more : (event : Event) (events : List Event) → Has Such events → Has Such (event ∷ events)
  has_more event events (one, has, such) = (one, there event events one has, such)

  pub has_back : (event : Event) (events : List Event) → (Such event → ⊥) → Has Such (event ∷ events) → Has Such events
  has_back event events other (one, has, such) =
      elim (at_first event one events has) [
        | inl is ↦ absurd (other (subst Such (sym is) such))
        | inr later ↦ (one, later, such)
      ]

  pub last_first : (event : Event) (events : List Event) → Such event → IsLast Such (event ∷ events) event
  last_first event events such = record { later = []; earlier = events; split = refl; such = such; none = has_none }

  pub last_more : (event : Event) (events : List Event) (one : Event) → (Such event → ⊥) → IsLast Such events one → IsLast Such (event ∷ events) one
  last_more event events one other last = record {
    later = event ∷ last.later;
    earlier = last.earlier;
    split = ap (λ es. event ∷ es) last.split;
    such = last.such;
    none = λ has. last.none (has_back event last.later other has);
  }

  back_at : (event : Event) (events : List Event) (one : Event) (later earlier : List Event) → event ∷ events ≡ later ++ one ∷ earlier → (Such event → ⊥) → Such one → (Has Such later → ⊥) → IsLast Such events one
  back_at event events one [] earlier split other such none = absurd (other (subst Such (sym (same_first event one events earlier split)) such))
  back_at event events one (e ∷ later) earlier split other such none = record {
    later = later;
    earlier = earlier;
    split = same_rest event e events (later ++ one ∷ earlier) split;
    such = such;
    none = λ has. none (has_more e later has);
  }

  pub last_back : (event : Event) (events : List Event) (one : Event) → (Such event → ⊥) → IsLast Such (event ∷ events) one → IsLast Such events one
  last_back event events one other last = back_at event events one last.later last.earlier last.split other last.such last.none

  top_at : (event : Event) (events : List Event) (one : Event) (later earlier : List Event) → event ∷ events ≡ later ++ one ∷ earlier → Such event → (Has Such later → ⊥) → event ≡ one
  top_at event events one [] earlier split such none = same_first event one events earlier split
  top_at event events one (e ∷ later) earlier split such none = absurd (none (has_first e later (subst Such (same_first event e events (later ++ one ∷ earlier) split) such)))

  -- the newest event is the last one, where it is such
  pub last_top : (event : Event) (events : List Event) (one : Event) → Such event → IsLast Such (event ∷ events) one → event ≡ one
  last_top event events one such last = top_at event events one last.later last.earlier last.split such last.none

  one_at : (events : List Event) (one other : Event) (later earlier : List Event) → events ≡ later ++ one ∷ earlier → Such one → (Has Such later → ⊥) → IsLast Such events other → one ≡ other
  one_at events one other [] earlier split such none last = last_top one earlier other such (subst (λ es. IsLast Such es other) split last)
  one_at events one other (e ∷ later) earlier split such none last =
      one_at (later ++ one ∷ earlier) one other later earlier refl such (λ has. none (has_more e later has))
      (last_back e (later ++ one ∷ earlier) other (λ is. none (has_first e later is)) (subst (λ es. IsLast Such es other) split last))

  -- there is one last
  pub one_last : (events : List Event) (one other : Event) → IsLast Such events one → IsLast Such events other → one ≡ other
  one_last events one other last also = one_at events one other last.later last.earlier last.split last.such last.none also

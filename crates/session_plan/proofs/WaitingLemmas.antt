-- What waits on one stream of many changes.
use Rattle.std.proofs.Common.{◌≡◌, ℕ, List, [], Bool, true, false, Option, Some, None, refl, sym, ◌∙◌, subst, arith}
use Rattle.std.specs.Prelude.{◌==◌, if◌then◌else◌}
use Rattle.std.specs.BTreeMap.{get}
use Rattle.std.specs.Ordering.{nat_cmp}
use Rattle.std.proofs.lemmas.Bool.Decides.{nat_tests}
use Rattle.xc_base.specs.declared.names.Authority.{Authority}
use Rattle.session_script.specs.Plan.{Streams, none_up, with_stream}
use Rattle.session_plan.specs.ComingFrames.{AreWaiting, IsWaiting, Sets, Waiting}

-- nothing waits while no stream is up
pub none_waits : (waiting : Waiting) → waiting.entries ≡ [] → AreWaiting none_up waiting
none_waits waiting none = λ place. subst (λ (x : Option (List ℕ)). IsWaiting None x) (sym (nothing place)) tt
  where
    nothing : (place : ℕ) → get nat_cmp waiting place ≡ None
    nothing place = rw none refl

chosen : {X : Type 0} (t : Bool) (m n : ℕ) (x y : X) → (n == m) ≡ t → (if m == n then x else y) ≡ (if t then x else y)
chosen true m n x y is = let here : (m == n) ≡ true = grind (arith, nat_tests, is) in rw here refl
chosen false m n x y is = let here : (m == n) ≡ false = grind (arith, nat_tests, is) in rw here refl

at_place : (s : Streams) (a : Authority) (place : ℕ) (came : Option (List ℕ)) (t : Bool) (had one : Option (List ℕ)) → IsWaiting (s place) had → IsWaiting came one
    → IsWaiting (if t then came else s place) (if t then one else had)
at_place s a place came true had one old new = new
at_place s a place came false had one old new = old

-- the frames of one stream are set
pub set_waits : (s : Streams) (a : Authority) (old new : Waiting) (came one : Option (List ℕ))
    → AreWaiting s old → IsWaiting came one → Sets old new a.0 one → AreWaiting (with_stream a came s) new
set_waits s a old new came one all now sets = λ place.
    subst (λ (x : Option (List ℕ)). IsWaiting (if place == a.0 then came else s place) x) (sym (sets place ∙ chosen (place == a.0) a.0 place one (get nat_cmp old place) refl))
    (at_place s a place came (place == a.0) (get nat_cmp old place) one (all place) now)

-- the frames of one stream are taken out and set again
pub moved_waits : (s : Streams) (a : Authority) (old mid new : Waiting) (came one : Option (List ℕ))
    → AreWaiting s old → Sets old mid a.0 None → IsWaiting came one → Sets mid new a.0 one → AreWaiting (with_stream a came s) new
moved_waits s a old mid new came one all gone now sets = set_waits s a old new came one all now (λ place. sets place ∙ again place (a.0 == place) refl)
  where
    again : (place : ℕ) (t : Bool) → (a.0 == place) ≡ t → (if a.0 == place then one else get nat_cmp mid place) ≡ (if a.0 == place then one else get nat_cmp old place)
    again place true is = rw is refl
    again place false is = rw is (gone place ∙ rw is refl)

-- what is found at a place is what waits there
pub found_waits : (s : Streams) (a : Authority) (waiting : Waiting) (frames : Option (List ℕ)) → frames ≡ get nat_cmp waiting a.0 → AreWaiting s waiting → IsWaiting (s a.0) frames
found_waits s a waiting frames is all = subst (λ (x : Option (List ℕ)). IsWaiting (s a.0) x) (sym is) (all a.0)

-- The events of a stream in the session's list.
use Rattle.std.proofs.Common.{◌≡◌, ℕ, zero, suc, List, [], ◌∷◌, ◌++◌, map, Bool, true, false, cond, Option, Some, None, refl, sym, ◌∙◌, subst, ap, ap₂, arith}
use Rattle.std.proofs.lemmas.Bool.Decides.{nat_tests}
use Rattle.std.specs.Prelude.{◌==◌, if◌then◌else◌, filter}
use Rattle.std.proofs.lemmas.List.{map-append}
use Rattle.std.proofs.lemmas.List.Elements.{filter-append}
use Rattle.xc_base.specs.declared.names.Authority.{Authority}
use Rattle.call_journal.specs.declared.event.DriverEvent.{DriverEvent}
use Rattle.call_journal.specs.declared.event.DriverEvent.TheVariants as event
use Rattle.session_lines.specs.declared.session.DriverLine.{DriverLine}
use Rattle.session_lines.specs.declared.session.DriverLine.TheVariants as driver
use Rattle.session_lines.specs.declared.session.Work.{Work}
use Rattle.session_lines.specs.declared.session.Work.TheVariants as work
use Rattle.session_lines.specs.declared.session.Line.{Line}
use Rattle.session_script.specs.Plan.{Listed, Streams, came_after, data_events, driver_list, events_of, how_of, listed_for, played_of, ended_in, streams_after, work_events, work_streams}
use Rattle.session_plan.specs.ComingFrames.{is_on, line_came, line_events, stream_events, what_came, what_events, StreamIsListed}

same : (m n : ℕ) → (m == n) ≡ true → m ≡ n
same m n is = grind (arith, nat_tests, is)

flip : (m n : ℕ) → (m == n) ≡ (n == m)
flip m n = grind (arith, nat_tests)

responses_on : (a other : Authority) (b : Bool) (ps : List (List ℕ)) (last : DriverEvent) → (other.0 == a.0) ≡ b → is_on a last ≡ b
    → filter (is_on a) (map (event.Response other) ps ++ last ∷ []) ≡ (if b then map (event.Response other) ps ++ last ∷ [] else [])
responses_on a other true [] last is on = rw on refl
responses_on a other false [] last is on = rw on refl
responses_on a other true (p ∷ ps) last is on = rw is (ap (λ es. event.Response other p ∷ es) (responses_on a other true ps last is on))
responses_on a other false (p ∷ ps) last is on = rw is (responses_on a other false ps last is on)

data_on : (readable : List ℕ → Bool) (a other : Authority) (came : Option (List ℕ)) (bytes : List ℕ)
    → filter (is_on a) (data_events readable other came bytes) ≡ (if other.0 == a.0 then data_events readable other came bytes else [])
data_on readable a other None bytes = refl
data_on readable a other (Some before) bytes = responses_on a other (other.0 == a.0) (played_of readable (ended_in before bytes)) _ refl refl

at_place : {X : Type 0} (b : Bool) (f : ℕ → X) (g : X → List DriverEvent) (m n : ℕ) → (m == n) ≡ b → (if b then g (f m) else []) ≡ (if b then g (f n) else [])
at_place true f g m n is = ap (λ (k : ℕ). g (f k)) (same m n is)
at_place false f g m n is = refl

with_place : {X : Type 0} (b : Bool) (f : ℕ → X) (g : X → X) (m n : ℕ) → (m == n) ≡ b → (if n == m then g (f m) else f n) ≡ (if b then g (f n) else f n)
with_place true f g m n is = rw (sym (flip m n) ∙ is) (ap (λ (k : ℕ). g (f k)) (same m n is))
with_place false f g m n is = rw (sym (flip m n) ∙ is) refl

what_on : (readable : List ℕ → Bool) (a : Authority) (streams : Streams) (what : DriverLine) → filter (is_on a) (events_of readable streams what) ≡ what_events readable a (streams a.0) what
what_on readable a streams (driver.Opened other) = refl
what_on readable a streams (driver.Bytes other bytes) =
    data_on readable a other (streams other.0) bytes ∙ at_place (other.0 == a.0) streams (λ came. data_events readable other came bytes) other.0 a.0 refl
what_on readable a streams (driver.Lost other) = refl
what_on readable a streams (driver.Moment time) = refl
what_on readable a streams (driver.Endpoint address state) = refl
what_on readable a streams driver.Sweep = refl

what_after : (readable : List ℕ → Bool) (a : Authority) (streams : Streams) (what : DriverLine) → streams_after readable streams what a.0 ≡ what_came readable a (streams a.0) what
what_after readable a streams (driver.Opened other) = with_place (other.0 == a.0) streams (λ came. Some []) other.0 a.0 refl
what_after readable a streams (driver.Bytes other bytes) = with_place (other.0 == a.0) streams (λ came. came_after readable came bytes) other.0 a.0 refl
what_after readable a streams (driver.Lost other) = with_place (other.0 == a.0) streams (λ came. None) other.0 a.0 refl
what_after readable a streams (driver.Moment time) = refl
what_after readable a streams (driver.Endpoint address state) = refl
what_after readable a streams driver.Sweep = refl

work_on : (readable : List ℕ → Bool) (a : Authority) (streams : Streams) (w : Work) → filter (is_on a) (work_events readable streams w) ≡ line_events readable a (streams a.0) w
work_on readable a streams (work.Driver what) = what_on readable a streams what
work_on readable a streams (work.Caller caller what) = refl

work_after : (readable : List ℕ → Bool) (a : Authority) (streams : Streams) (w : Work) → work_streams readable streams w a.0 ≡ line_came readable a (streams a.0) w
work_after readable a streams (work.Driver what) = what_after readable a streams what
work_after readable a streams (work.Caller caller what) = refl

events_again : (line : Line) (es : List DriverEvent) → map (λ (l : Listed). l.event) (map (listed_for line) es) ≡ es
events_again line [] = refl
events_again line (e ∷ es) = ap (λ xs. e ∷ xs) (events_again line es)

pub stream_is_listed : StreamIsListed
unfolding driver_list
stream_is_listed readable a streams [] = refl
stream_is_listed readable a streams (line ∷ lines) =
    let now : List DriverEvent = work_events readable streams line.work in
    let later : List Listed = driver_list readable (work_streams readable streams line.work) lines in
    ap (λ (es : List DriverEvent). filter (is_on a) es) (map-append (λ (l : Listed). l.event) (map (listed_for line) now) later ∙ ap (λ (es : List DriverEvent). es ++ map (λ (l : Listed). l.event) later) (events_again line now))
    ∙ filter-append (is_on a) now (map (λ (l : Listed). l.event) later)
    ∙ ap₂ (λ (xs ys : List DriverEvent). xs ++ ys) (work_on readable a streams line.work)
    (stream_is_listed readable a (work_streams readable streams line.work) lines ∙ ap (λ (came : Option (List ℕ)). stream_events readable a came lines) (work_after readable a streams line.work))

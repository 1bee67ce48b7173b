-- What stands behind lines: how many are the driver's, their latest moment, their entries, and which calls are still free.
use Rattle.std.proofs.Common.{◌≡◌, ℕ, ◌+◌, ◌≤◌, List, [], ◌∷◌, Bool, true, false, ◌&&◌, ◌||◌, not, ◌==◌, cond, refl, ap, arith, eq-eqb, ne_eqb, Option}
use Rattle.std.proofs.lemmas.List.Sums.{sum_by-cons}
use Rattle.std.proofs.Math.Nat.{max-le}
use Rattle.session_lines.specs.Before.{call_in, driver_lines, entries, entries_of, is_driven, is_of_other, is_start, is_started, latest, time_in}
use Rattle.session_lines.specs.declared.session.Act.{Act}
use Rattle.session_lines.specs.declared.session.DriverLine.{DriverLine}
use Rattle.session_lines.specs.declared.session.Line.{Line}
use Rattle.session_lines.specs.declared.session.Work.{Work}
use Rattle.generated_law.specs.GeneratedSession.{called, driven}

-- no line names a call from this one on, no moment is later than this one, and the driver's lines and the entries are at most so many
pub record Stands (calls time driver made : ℕ) (before : List Line) : Type 0 where
  pub driver_few : driver_lines before ≤ driver
  pub time_low : latest before ≤ time
  pub made_few : entries before ≤ made
  pub free : (caller id : ℕ) → calls ≤ id → is_of_other caller id before ≡ false
  pub unstarted : (id : ℕ) → calls ≤ id → is_started id before ≡ false

pub stands_first : Stands 0 0 0 0 []
unfolding latest
stands_first = record {
  driver_few = omega arith;
  time_low = omega arith;
  made_few = omega arith;
  free = λ caller id le. refl;
  unstarted = λ id le. refl;
}

pub stands_still : (a b c d calls time driver made : ℕ) (before : List Line) → Stands a b c d before → a ≤ calls → b ≤ time → c ≤ driver → d ≤ made → Stands calls time driver made before
stands_still a b c d calls time driver made before is one two three four =
    let few = is.driver_few in
    let low = is.time_low in
    let small = is.made_few in record {
      driver_few = omega (arith, few, three);
      time_low = omega (arith, low, two);
      made_few = omega (arith, small, four);
      free = λ caller id le. is.free caller id (omega (arith, one, le));
      unstarted = λ id le. is.unstarted id (omega (arith, one, le));
    }

-- ---- one more line

latest_more : (line : Line) (before : List Line) (time : ℕ) → time_in line.work ≤ time → latest before ≤ time → latest (line ∷ before) ≤ time
unfolding latest
latest_more line before time own low = max-le own low

driver_more : (line : Line) (before : List Line) → driver_lines (line ∷ before) ≡ cond (is_driven line.work) 1 0 + driver_lines before
driver_more line before = sum_by-cons (λ x. cond (is_driven x.work) 1 0) line before

made_more : (line : Line) (before : List Line) → entries (line ∷ before) ≡ entries_of line.work + entries before
made_more line before = sum_by-cons (λ x. entries_of x.work) line before

-- a line of the driver
pub stands_driven : (number : ℕ) (gate : Option ℕ) (what : DriverLine) (calls time driver made own : ℕ) (before : List Line) → Stands calls time driver made before → time_in (Work.Driver what) ≤ time → entries_of (Work.Driver what) ≤ own
    → Stands calls time (driver + 1) (made + own) (driven number gate what ∷ before)
stands_driven number gate what calls time driver made own before is moment few =
    let one = driver_more (driven number gate what) before in
    let two = made_more (driven number gate what) before in
    let was = is.driver_few in
    let made_was = is.made_few in record {
      driver_few = omega (arith, one, was);
      time_low = latest_more (driven number gate what) before time moment is.time_low;
      made_few = omega (arith, two, made_was, few);
      free = is.free;
      unstarted = is.unstarted;
    }

-- ---- a line of a caller

none_of : (a b c : Bool) → a ≡ false → c ≡ false → ((a && b) || c) ≡ false
none_of true b c one two = absurd (cc one)
none_of false b c one two = two

none_by : (a b c : Bool) → b ≡ false → c ≡ false → ((a && b) || c) ≡ false
none_by a true c one two = absurd (cc one)
none_by true false c one two = two
none_by false false c one two = two

-- no other caller than its own names the call of a line
pub own_call : (number : ℕ) (gate : Option ℕ) (caller : ℕ) (what : Act) (id : ℕ) (before : List Line) → is_of_other caller id before ≡ false → is_of_other caller id (called number gate caller what ∷ before) ≡ false
own_call number gate caller what id before free =
    none_by (call_in what == id) (not (caller == caller)) (is_of_other caller id before) (ap not (eq-eqb caller caller refl)) free

-- the calls behind the one of the line are still free
pub later_call : (number : ℕ) (gate : Option ℕ) (caller : ℕ) (what : Act) (other id : ℕ) (before : List Line) → call_in what + 1 ≤ id → is_of_other other id before ≡ false → is_of_other other id (called number gate caller what ∷ before) ≡ false
later_call number gate caller what other id before le free =
    none_of (call_in what == id) (not (caller == other)) (is_of_other other id before) (ne_eqb (call_in what) id (λ is. absurd (omega (arith, is, le)))) free

pub later_start : (number : ℕ) (gate : Option ℕ) (caller : ℕ) (what : Act) (id : ℕ) (before : List Line) → call_in what + 1 ≤ id → is_started id before ≡ false → is_started id (called number gate caller what ∷ before) ≡ false
later_start number gate caller what id before le free =
    none_by (is_start what) (call_in what == id) (is_started id before) (ne_eqb (call_in what) id (λ is. absurd (omega (arith, is, le)))) free

pub stands_called : (number : ℕ) (gate : Option ℕ) (caller : ℕ) (what : Act) (calls time driver made own : ℕ) (before : List Line) → Stands calls time driver made before → call_in what + 1 ≤ calls → entries_of (Work.Caller caller what) ≤ own
    → Stands calls time driver (made + own) (called number gate caller what ∷ before)
stands_called number gate caller what calls time driver made own before is named few =
    let one = driver_more (called number gate caller what) before in
    let two = made_more (called number gate caller what) before in
    let was = is.driver_few in
    let made_was = is.made_few in record {
      driver_few = omega (arith, one, was);
      time_low = latest_more (called number gate caller what) before time (omega arith) is.time_low;
      made_few = omega (arith, two, made_was, few);
      free = λ other id le. later_call number gate caller what other id before (omega (arith, named, le)) (is.free other id le);
      unstarted = λ id le. later_start number gate caller what id before (omega (arith, named, le)) (is.unstarted id le);
    }

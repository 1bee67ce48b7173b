-- The lines of a round, taken.
use Rattle.std.proofs.Common.{◌≡◌, ℕ, ◌+◌, ◌%◌, ◌==◌, ◌<◌, ◌≤◌, List, [], ◌∷◌, ◌++◌, Bool, true, false, Some, Ok, codes, reverse, refl, append_assoc, arith, if◌then◌else◌}
use Rattle.std.specs.Fmt.{decimal}
use Rattle.xc_base.specs.declared.names.State.{State}
use Rattle.xds_bootstrap.specs.declared.bootstrap.Bootstrap.{Bootstrap}
use Rattle.xds_name.specs.declared.target.Target.{Target}
use Rattle.session_lines.specs.Before.{driver_lines, latest}
use Rattle.session_lines.specs.Forms as form
use Rattle.session_lines.specs.Forms.{driver_form, form_of, gate_in}
use Rattle.session_lines.specs.WordValues.{state_in}
use Rattle.session_lines.specs.Works.{work_of}
use Rattle.session_lines.specs.declared.session.DriverLine.{DriverLine}
use Rattle.session_lines.specs.declared.session.Line.{Line}
use Rattle.session_lines.specs.declared.session.Work.{Work}
use Rattle.session_generator.specs.Rounds.{call_lines, caller_lines, driver_lines as driver_text, first_call, line_before, round_lines, state_line, state_word, time_line}
use Rattle.generated_law.specs.GeneratedSession.{driven, driver_lines_of, lines_behind, lines_of_call, state_in_round}
use Rattle.generated_law.proofs.PlainTexts.{ArePlain, decimal_plain, is_plain_word, spaced}
use Rattle.generated_law.proofs.TakenLines.{Takes, gate_is, in_range, line_read, then_taken, up_to}
use Rattle.generated_law.proofs.TakenCalls.{IsCaller, call_stands, call_taken, four_callers, words_taken}
use Rattle.generated_law.proofs.LineRows.{caller_1, caller_2, caller_3, caller_4, first_address, is_failing, is_ready}
use Rattle.generated_law.proofs.StandingLines.{Stands, stands_driven, stands_still}

-- ---- texts

time_text : (g t : List ℕ) → codes "@" ++ g ++ codes " d time " ++ t ++ codes "\n" ≡ spaced (64 ∷ g) (codes "d" ∷ codes "time" ∷ t ∷ []) ++ 10 ∷ []
time_text g t = simp append_assoc refl

state_text : (g s : List ℕ) → codes "@" ++ g ++ codes " d endpoint 10.0.0.1:80 " ++ s ++ codes "\n" ≡ spaced (64 ∷ g) (codes "d" ∷ codes "endpoint" ∷ codes "10.0.0.1:80" ∷ s ∷ []) ++ 10 ∷ []
state_text g s = simp append_assoc refl

time_spelled : (gate round : ℕ) → time_line gate round ≡ spaced (64 ∷ decimal gate) (codes "d" ∷ codes "time" ∷ decimal round ∷ []) ++ 10 ∷ []
unfolding time_line
time_spelled gate round = time_text (decimal gate) (decimal round)

state_spelled : (gate round : ℕ) → state_line gate round ≡ spaced (64 ∷ decimal gate) (codes "d" ∷ codes "endpoint" ∷ codes "10.0.0.1:80" ∷ state_word round ∷ []) ++ 10 ∷ []
unfolding state_line
state_spelled gate round = state_text (decimal gate) (state_word round)

-- ---- states

state_by : (b : Bool) → state_in (if b then codes "failing" else codes "ready") ≡ Some (if b then State.Failing else State.Ready)
state_by true = is_failing
state_by false = is_ready

plain_by : (b : Bool) → is_plain_word (if b then codes "failing" else codes "ready") ≡ true
plain_by true = refl
plain_by false = refl

-- ---- the driver's lines

moment_works : (boot : Bootstrap) (before : List Line) (round : ℕ) → round ≤ 1000 → latest before ≤ round → work_of boot 4 before (form.moment (decimal round)) ≡ Ok (Work.Driver (DriverLine.Moment record { 0 = round }))
unfolding work_of
moment_works boot before round few low = rw (up_to 1000000000000 round (omega (arith, few)) (omega (arith, few)), in_range round (latest before) low) refl

state_works : (boot : Bootstrap) (before : List Line) (round : ℕ) → work_of boot 4 before (form.endpoint (codes "10.0.0.1:80") (state_word round)) ≡ Ok (Work.Driver (DriverLine.Endpoint (codes "10.0.0.1:80") (state_in_round round)))
unfolding work_of
state_works boot before round = rw (first_address, state_by (round % 2 == 1)) refl

module _ (boot : Bootstrap) (target : Target) (before : List Line) (n m gate round : ℕ) (low : 5 ≤ gate) (high : gate + 1 ≤ n) (few : n ≤ 200000) (behind : driver_lines before < 20000) (next : m ≡ n + 1) where
  moment_taken : round ≤ 1000 → latest before ≤ round → Takes (four_callers boot target) before n (time_line gate round) (driven n (Some gate) (DriverLine.Moment record { 0 = round }) ∷ []) m
  unfolding gate_in form_of driver_form
  moment_taken small early =
      let words = codes "d" ∷ codes "time" ∷ decimal round ∷ [] in
      let plain : ArePlain ((64 ∷ decimal gate) ∷ words) = (decimal_plain gate, (refl, (refl, (decimal_plain round, tt)))) in
      words_taken (four_callers boot target) before n (time_line gate round) (64 ∷ decimal gate) words (Some gate) (Work.Driver (DriverLine.Moment record { 0 = round })) m (time_spelled gate round) plain
      (line_read boot 4 before n (64 ∷ decimal gate) words (Some (decimal gate)) words (form.moment (decimal round)) (Some gate) (Work.Driver (DriverLine.Moment record { 0 = round })) plain refl refl
      (gate_is n gate low high (omega (arith, high, few))) (moment_works boot before round small early) few behind)
      next

  state_taken : Takes (four_callers boot target) before n (state_line gate round) (driven n (Some gate) (DriverLine.Endpoint (codes "10.0.0.1:80") (state_in_round round)) ∷ []) m
  unfolding gate_in form_of driver_form
  state_taken =
      let words = codes "d" ∷ codes "endpoint" ∷ codes "10.0.0.1:80" ∷ state_word round ∷ [] in
      let plain : ArePlain ((64 ∷ decimal gate) ∷ words) = (decimal_plain gate, (refl, (refl, (refl, (plain_by (round % 2 == 1), tt))))) in
      let what = Work.Driver (DriverLine.Endpoint (codes "10.0.0.1:80") (state_in_round round)) in
      words_taken (four_callers boot target) before n (state_line gate round) (64 ∷ decimal gate) words (Some gate) what m (state_spelled gate round) plain
      (line_read boot 4 before n (64 ∷ decimal gate) words (Some (decimal gate)) words (form.endpoint (codes "10.0.0.1:80") (state_word round)) (Some gate) what plain refl refl
      (gate_is n gate low high (omega (arith, high, few))) (state_works boot before round) few behind)
      next

-- ---- the four lines of the driver behind the callers'

module _ (boot : Bootstrap) (target : Target) (before : List Line) (last round calls driver made m : ℕ) (low : 5 ≤ last) (few : last + 20 ≤ 200000) (small : round ≤ 1000) (behind : driver + 3 < 20000) (next : m ≡ last + 21)
    (stands : Stands calls round driver made before) where
  abbrev told : DriverLine
  told = DriverLine.Moment record { 0 = round }

  abbrev after_1 : List Line
  after_1 = driven (last + 17) (Some (last + 4)) told ∷ before

  abbrev after_2 : List Line
  after_2 = driven (last + 18) (Some (last + 8)) told ∷ after_1

  abbrev after_3 : List Line
  after_3 = driven (last + 19) (Some (last + 12)) told ∷ after_2

  abbrev after_4 : List Line
  after_4 = driven (last + 20) (Some (last + 16)) (DriverLine.Endpoint (codes "10.0.0.1:80") (state_in_round round)) ∷ after_3

  driver_1 : Stands calls round (driver + 1) (made + 1) after_1
  driver_1 = stands_driven (last + 17) (Some (last + 4)) told calls round driver made 1 before stands (omega arith) (omega arith)

  driver_2 : Stands calls round (driver + 1 + 1) (made + 1 + 1) after_2
  driver_2 = stands_driven (last + 18) (Some (last + 8)) told calls round (driver + 1) (made + 1) 1 after_1 driver_1 (omega arith) (omega arith)

  driver_3 : Stands calls round (driver + 1 + 1 + 1) (made + 1 + 1 + 1) after_3
  driver_3 = stands_driven (last + 19) (Some (last + 12)) told calls round (driver + 1 + 1) (made + 1 + 1) 1 after_2 driver_2 (omega arith) (omega arith)

  driver_4 : Stands calls round (driver + 1 + 1 + 1 + 1) (made + 1 + 1 + 1 + 1) after_4
  driver_4 = stands_driven (last + 20) (Some (last + 16)) (DriverLine.Endpoint (codes "10.0.0.1:80") (state_in_round round)) calls round (driver + 1 + 1 + 1) (made + 1 + 1 + 1) 1 after_3 driver_3 (omega arith) (omega arith)

  pub driver_stands : Stands calls round (driver + 4) (made + 4) (reverse (driver_lines_of last round) ++ before)
  driver_stands = stands_still calls round (driver + 1 + 1 + 1 + 1) (made + 1 + 1 + 1 + 1) calls round (driver + 4) (made + 4) after_4 driver_4 (omega arith) (omega arith) (omega arith) (omega arith)

  pub driver_taken : Takes (four_callers boot target) before (last + 17) (time_line (last + 4) round ++ time_line (last + 8) round ++ time_line (last + 12) round ++ state_line (last + 16) round) (driver_lines_of last round) m
  driver_taken =
      let head = four_callers boot target in
      let first = moment_taken boot target before (last + 17) (last + 18) (last + 4) round (omega (arith, low)) (omega arith) (omega (arith, few)) (let d = stands.driver_few in omega (arith, d, behind)) (omega arith) small stands.time_low in
      let second = moment_taken boot target after_1 (last + 18) (last + 19) (last + 8) round (omega (arith, low)) (omega arith) (omega (arith, few)) (let d = driver_1.driver_few in omega (arith, d, behind)) (omega arith) small driver_1.time_low in
      let third = moment_taken boot target after_2 (last + 19) (last + 20) (last + 12) round (omega (arith, low)) (omega arith) (omega (arith, few)) (let d = driver_2.driver_few in omega (arith, d, behind)) (omega arith) small driver_2.time_low in
      let fourth = state_taken boot target after_3 (last + 20) m (last + 16) round (omega (arith, low)) (omega arith) few (let d = driver_3.driver_few in omega (arith, d, behind)) (omega (arith, next)) in
      let a = driven (last + 17) (Some (last + 4)) told ∷ [] in
      let b = driven (last + 18) (Some (last + 8)) told ∷ [] in
      let c = driven (last + 19) (Some (last + 12)) told ∷ [] in
      let d = driven (last + 20) (Some (last + 16)) (DriverLine.Endpoint (codes "10.0.0.1:80") (state_in_round round)) ∷ [] in
      let two = then_taken head before (last + 17) (time_line (last + 4) round) (time_line (last + 8) round) a b (last + 18) (last + 19) first second in
      let three = then_taken head before (last + 17) (time_line (last + 4) round ++ time_line (last + 8) round) (time_line (last + 12) round) (a ++ b) c (last + 19) (last + 20) two third in
      then_taken head before (last + 17) (time_line (last + 4) round ++ time_line (last + 8) round ++ time_line (last + 12) round) (state_line (last + 16) round) (a ++ b ++ c) d (last + 20) m three fourth

-- ---- a whole round

is_1 : IsCaller 1
is_1 = record { written = caller_1; least = omega arith; most = omega arith }

is_2 : IsCaller 2
is_2 = record { written = caller_2; least = omega arith; most = omega arith }

is_3 : IsCaller 3
is_3 = record { written = caller_3; least = omega arith; most = omega arith }

is_4 : IsCaller 4
is_4 = record { written = caller_4; least = omega arith; most = omega arith }

module _ (boot : Bootstrap) (target : Target) (before : List Line) (last call round driver made m : ℕ) (low : 5 ≤ last) (few : last + 20 ≤ 200000) (small : round ≤ 1000) (named : call + 3 ≤ 65535) (behind : driver + 3 < 20000) (next : m ≡ last + 21)
    (stands : Stands call round driver made before) where
  abbrev first : List Line
  first = lines_of_call (last + 1) last 1 call

  abbrev second : List Line
  second = lines_of_call (last + 5) last 2 (call + 1)

  abbrev third : List Line
  third = lines_of_call (last + 9) last 3 (call + 2)

  abbrev fourth : List Line
  fourth = lines_of_call (last + 13) last 4 (call + 3)

  abbrev behind_1 : List Line
  behind_1 = reverse first ++ before

  abbrev behind_2 : List Line
  behind_2 = reverse second ++ behind_1

  abbrev behind_3 : List Line
  behind_3 = reverse third ++ behind_2

  abbrev behind_4 : List Line
  behind_4 = reverse fourth ++ behind_3

  round_1 : Stands (call + 1) round driver (made + 5) behind_1
  round_1 = call_stands boot target before (last + 1) (last + 5) last 1 call round driver made is_1 (omega (arith, named)) low (omega arith) (omega (arith, few)) (omega (arith, behind)) (omega arith) stands

  round_2 : Stands (call + 2) round driver (made + 10) behind_2
  round_2 =
      stands_still (call + 1 + 1) round driver (made + 5 + 5) (call + 2) round driver (made + 10) behind_2
      (call_stands boot target behind_1 (last + 5) (last + 9) last 2 (call + 1) round driver (made + 5) is_2 (omega (arith, named)) low (omega arith) (omega (arith, few)) (omega (arith, behind)) (omega arith) round_1)
      (omega arith) (omega arith) (omega arith) (omega arith)

  round_3 : Stands (call + 3) round driver (made + 15) behind_3
  round_3 =
      stands_still (call + 2 + 1) round driver (made + 10 + 5) (call + 3) round driver (made + 15) behind_3
      (call_stands boot target behind_2 (last + 9) (last + 13) last 3 (call + 2) round driver (made + 10) is_3 (omega (arith, named)) low (omega arith) (omega (arith, few)) (omega (arith, behind)) (omega arith) round_2)
      (omega arith) (omega arith) (omega arith) (omega arith)

  round_4 : Stands (call + 4) round driver (made + 20) behind_4
  round_4 =
      stands_still (call + 3 + 1) round driver (made + 15 + 5) (call + 4) round driver (made + 20) behind_4
      (call_stands boot target behind_3 (last + 13) (last + 17) last 4 (call + 3) round driver (made + 15) is_4 named low (omega arith) (omega (arith, few)) (omega (arith, behind)) (omega arith) round_3)
      (omega arith) (omega arith) (omega arith) (omega arith)

  pub lines_stand : Stands (call + 4) round (driver + 4) (made + 24) (reverse (lines_behind last call round) ++ before)
  lines_stand =
      stands_still (call + 4) round (driver + 4) (made + 20 + 4) (call + 4) round (driver + 4) (made + 24) (reverse (driver_lines_of last round) ++ behind_4)
      (driver_stands boot target behind_4 last round (call + 4) driver (made + 20) m low few small behind next round_4)
      (omega arith) (omega arith) (omega arith) (omega arith)

  abbrev callers_text : List ℕ
  callers_text = call_lines last 1 call ++ call_lines last 2 (call + 1) ++ call_lines last 3 (call + 2) ++ call_lines last 4 (call + 3)

  abbrev drivers_text : List ℕ
  drivers_text = time_line (last + 4) round ++ time_line (last + 8) round ++ time_line (last + 12) round ++ state_line (last + 16) round

  pub lines_taken : Takes (four_callers boot target) before (last + 1) (callers_text ++ drivers_text) (lines_behind last call round) m
  lines_taken =
      let head = four_callers boot target in
      let one = call_taken boot target before (last + 1) (last + 5) last 1 call round driver made is_1 (omega (arith, named)) low (omega arith) (omega (arith, few)) (omega (arith, behind)) (omega arith) stands in
      let two = call_taken boot target behind_1 (last + 5) (last + 9) last 2 (call + 1) round driver (made + 5) is_2 (omega (arith, named)) low (omega arith) (omega (arith, few)) (omega (arith, behind)) (omega arith) round_1 in
      let three = call_taken boot target behind_2 (last + 9) (last + 13) last 3 (call + 2) round driver (made + 10) is_3 (omega (arith, named)) low (omega arith) (omega (arith, few)) (omega (arith, behind)) (omega arith) round_2 in
      let four = call_taken boot target behind_3 (last + 13) (last + 17) last 4 (call + 3) round driver (made + 15) is_4 named low (omega arith) (omega (arith, few)) (omega (arith, behind)) (omega arith) round_3 in
      let five = driver_taken boot target behind_4 last round (call + 4) driver (made + 20) m low few small behind next round_4 in
      let a = call_lines last 1 call in
      let b = call_lines last 2 (call + 1) in
      let c = call_lines last 3 (call + 2) in
      let d = call_lines last 4 (call + 3) in
      let ab = then_taken head before (last + 1) a b first second (last + 5) (last + 9) one two in
      let abc = then_taken head before (last + 1) (a ++ b) c (first ++ second) third (last + 9) (last + 13) ab three in
      let abcd = then_taken head before (last + 1) (a ++ b ++ c) d (first ++ second ++ third) fourth (last + 13) (last + 17) abc four in
      then_taken head before (last + 1) callers_text drivers_text (first ++ second ++ third ++ fourth) (driver_lines_of last round) (last + 17) m abcd five

pub round_text : (round : ℕ) → round_lines round ≡ (call_lines (line_before round) 1 (first_call round) ++ call_lines (line_before round) 2 (first_call round + 1) ++ call_lines (line_before round) 3 (first_call round + 2) ++ call_lines (line_before round) 4 (first_call round + 3))
    ++ (time_line (line_before round + 4) round ++ time_line (line_before round + 8) round ++ time_line (line_before round + 12) round ++ state_line (line_before round + 16) round)
unfolding round_lines caller_lines driver_text
round_text round = refl

-- The entries of a history, actor by actor, against those that are counted for the lines.
use Rattle.std.proofs.Common.{◌≡◌, ◌≤◌, ◌+◌, ◌/◌, inl, inr, ℕ, zero, suc, Bool, true, false, cond, eqb, leb, List, [], ◌∷◌, length, map, reverse, Option, Some, None, All, refl, sym, ap, ◌∙◌, arith, length-append, not-suc-le-zero, sum_by}
use Rattle.std.proofs.lemmas.Bool.Decides.{nat_tests}
use Rattle.std.proofs.lemmas.List.{length-map, length-reverse}
use Rattle.std.proofs.lemmas.List.Elements.{All-head, All-tail}
use Rattle.std.proofs.lemmas.List.Sums.{sum_by-cons, length-filter}
use Rattle.call_journal.specs.declared.entry.Entry.{Entry}
use Rattle.call_journal.specs.declared.event.DriverEvent.TheVariants as event
use Rattle.session_lines.specs.Before.{entries, entries_of, act_entries, driver_entries}
use Rattle.session_script.specs.Plan.{Streams, ended_in, played_of, data_events, events_of, work_events, work_streams, driver_list, none_up, entries_by, is_of_caller, lines_by, caller_event, how_of, listed_for, entry_event, listed_event, ActEvents, WorkEvents, ArePlayed, all, next, AreListed}
use Rattle.session_lines.specs.declared.session.Act.{Act}
use Rattle.session_lines.specs.declared.session.Act.TheVariants as act
use Rattle.session_lines.specs.declared.session.DriverLine.{DriverLine}
use Rattle.session_lines.specs.declared.session.DriverLine.TheVariants as driver
use Rattle.session_lines.specs.declared.session.Line.{Line}
use Rattle.session_lines.specs.declared.session.Work.{Work}
use Rattle.session_lines.specs.declared.session.Work.TheVariants as work
use Rattle.xc_base.specs.declared.names.Authority.{Authority}
use Rattle.session_script.proofs.FrameLemmas.{few_ended}

-- ---- the driver's lines

few_played_by : (readable : List ℕ → Bool) (b : Bool) (p : List ℕ) (ps : List (List ℕ)) → length (played_of readable ps) ≤ length ps
    → length (cond b (p ∷ played_of readable ps) (p ∷ [])) ≤ suc (length ps)
few_played_by readable true p ps h = omega (arith, h)
few_played_by readable false p ps h = omega arith

few_played : (readable : List ℕ → Bool) (payloads : List (List ℕ)) → length (played_of readable payloads) ≤ length payloads
few_played readable [] = omega arith
few_played readable (p ∷ ps) = few_played_by readable (readable p) p ps (few_played readable ps)

few_data : (readable : List ℕ → Bool) (authority : Authority) (came : Option (List ℕ)) (bytes : List ℕ) → length (data_events readable authority came bytes) ≤ 1 + (length bytes + 4) / 5
few_data readable authority None bytes = omega arith
few_data readable authority (Some before) bytes =
    let played = few_played readable (ended_in before bytes) in
    let ended = few_ended before bytes in
    let events = length-append (map (event.Response authority) (played_of readable (ended_in before bytes))) (event.Bytes authority (how_of readable before bytes) ∷ []) in
    let mapped = length-map (played_of readable (ended_in before bytes)) (event.Response authority) in
    rw (events, mapped) (omega (arith, played, ended))

few_events : (readable : List ℕ → Bool) (streams : Streams) (what : DriverLine) → length (events_of readable streams what) ≤ driver_entries what
few_events readable streams (driver.Opened authority) = omega arith
few_events readable streams (driver.Bytes authority bytes) = few_data readable authority (streams authority.0) bytes
few_events readable streams (driver.Lost authority) = omega arith
few_events readable streams (driver.Moment time) = omega arith
few_events readable streams (driver.Endpoint address state) = omega arith
few_events readable streams driver.Sweep = omega arith

-- ---- lines of the first actors, the driver first

abbrev actor_of : Work → ℕ
actor_of (work.Driver what) = 0
actor_of (work.Caller caller what) = caller

-- the entries of a line, where its actor is one of so many callers or the driver
abbrev up_to : ℕ → Line → ℕ
up_to n line = cond (leb (actor_of line.work) n) (entries_of line.work) 0

abbrev of_one : ℕ → Line → ℕ
of_one n line = cond (is_of_caller n line.work) (entries_of line.work) 0

few_driver_events : (readable : List ℕ → Bool) (streams : Streams) (w : Work) → length (work_events readable streams w) ≤ cond (leb (actor_of w) 0) (entries_of w) 0
few_driver_events readable streams (work.Driver what) = few_events readable streams what
few_driver_events readable streams (work.Caller caller what) = omega arith

few_driver : (readable : List ℕ → Bool) (streams : Streams) (lines : List Line) → length (driver_list readable streams lines) ≤ sum_by (up_to 0) lines + 1
unfolding driver_list
few_driver readable streams [] = omega arith
few_driver readable streams (line ∷ lines) =
    let rest = few_driver readable (work_streams readable streams line.work) lines in
    let here = few_driver_events readable streams line.work in
    let cons = sum_by-cons (up_to 0) line lines in
    let events = length-append (map (listed_for line) (work_events readable streams line.work)) (driver_list readable (work_streams readable streams line.work) lines) in
    let mapped = length-map (work_events readable streams line.work) (listed_for line) in
    rw (events, mapped, cons) (omega (arith, rest, here))

-- ---- a caller's lines

few_act : (a : Act) (events : List _) → ActEvents a events → length events ≤ act_entries a
few_act (act.Start call) events (inl e) = rw e (omega arith)
few_act (act.Start call) events (inr e) = rw e (omega arith)
few_act (act.Pick call word) events e = rw e (omega arith)
few_act (act.Commit call) events e = rw e (omega arith)

few_work : (w : Work) (events : List _) → WorkEvents w events → length events ≤ entries_of w
few_work (work.Driver what) events e = absurd e
few_work (work.Caller caller what) events e = few_act what events e

pub few_caller : (lines : List Line) (made : List Entry) → ArePlayed lines made → length made ≤ sum_by (λ line. entries_of line.work) lines
few_caller lines made all = omega arith
few_caller lines made (next line more now later numbers events rest) =
    let here = few_work line.work (map _ now) events in
    let mapped = length-map now (λ entry. caller_event entry.what) in
    let others = few_caller more later rest in
    let cons = sum_by-cons (λ x. entries_of x.work) line more in
    let both = length-append now later in
    rw (both, cons) (omega (arith, here, mapped, others))

kept_by : (n : ℕ) (b : Bool) (line : Line) (lines : List Line) → is_of_caller n line.work ≡ b → sum_by (λ x. entries_of x.work) (lines_by n lines) ≡ sum_by (of_one n) lines
    → sum_by (λ x. entries_of x.work) (cond b (line ∷ lines_by n lines) (lines_by n lines)) ≡ cond b (entries_of line.work) 0 + sum_by (of_one n) lines
kept_by n true line lines is h = sum_by-cons (λ x. entries_of x.work) line (lines_by n lines) ∙ ap (λ k. entries_of line.work + k) h
kept_by n false line lines is h = h ∙ omega arith

of_caller : (n : ℕ) (lines : List Line) → sum_by (λ x. entries_of x.work) (lines_by n lines) ≡ sum_by (of_one n) lines
of_caller n [] = refl
of_caller n (line ∷ lines) = kept_by n (is_of_caller n line.work) line lines refl (of_caller n lines) ∙ sym (sum_by-cons (of_one n) line lines)

-- ---- one more caller

module _ {X : Type 0} (f g h : X → ℕ) (split : (x : X) → f x ≡ g x + h x) where
  split_sum : (xs : List X) → sum_by f xs ≡ sum_by g xs + sum_by h xs
  split_sum [] = refl
  split_sum (x ∷ xs) =
      let a = sum_by-cons f x xs in
      let b = sum_by-cons g x xs in
      let c = sum_by-cons h x xs in
      let d = split x in
      let e = split_sum xs in
      omega (arith, a, b, c, d, e)

split_tests : (a n k : ℕ) (below here upto : Bool) → leb a n ≡ below → eqb a (suc n) ≡ here → leb a (suc n) ≡ upto → cond upto k 0 ≡ cond below k 0 + cond here k 0
split_tests a n k true true upto b h u = absurd (not-suc-le-zero (wrong a n b h))
  where
    wrong : (a n : ℕ) → leb a n ≡ true → eqb a (suc n) ≡ true → suc zero ≤ zero
    wrong a n b h = grind (arith, nat_tests)
split_tests a n k true false true b h u = omega arith
split_tests a n k true false false b h u = absurd (not-suc-le-zero (wrong a n b u))
  where
    wrong : (a n : ℕ) → leb a n ≡ true → leb a (suc n) ≡ false → suc zero ≤ zero
    wrong a n b u = grind (arith, nat_tests)
split_tests a n k false true true b h u = omega arith
split_tests a n k false true false b h u = absurd (not-suc-le-zero (wrong a n h u))
  where
    wrong : (a n : ℕ) → eqb a (suc n) ≡ true → leb a (suc n) ≡ false → suc zero ≤ zero
    wrong a n h u = grind (arith, nat_tests)
split_tests a n k false false true b h u = absurd (not-suc-le-zero (wrong a n b h u))
  where
    wrong : (a n : ℕ) → leb a n ≡ false → eqb a (suc n) ≡ false → leb a (suc n) ≡ true → suc zero ≤ zero
    wrong a n b h u = grind (arith, nat_tests)
split_tests a n k false false false b h u = refl

split_work : (n k : ℕ) (w : Work) → cond (leb (actor_of w) (suc n)) k 0 ≡ cond (leb (actor_of w) n) k 0 + cond (is_of_caller (suc n) w) k 0
split_work n k (work.Driver what) =
    let a : leb 0 (suc n) ≡ true = grind (arith, nat_tests) in
    let b : leb 0 n ≡ true = grind (arith, nat_tests) in
    rw (a, b) (omega arith)
split_work n k (work.Caller caller what) = split_tests caller n k (leb caller n) (eqb caller (suc n)) (leb caller (suc n)) refl refl refl

abbrev among : ℕ → Entry → ℕ
among n entry = cond (leb entry.actor n) 1 0

abbrev by_one : ℕ → Entry → ℕ
by_one n entry = cond (eqb entry.actor n) 1 0

only_zero : (a : ℕ) (b c : Bool) → leb a 0 ≡ b → eqb a 0 ≡ c → ◌≡◌ {A = ℕ} (cond b 1 0) (cond c 1 0)
only_zero a true true b c = refl
only_zero a false false b c = refl
only_zero a true false b c = absurd (not-suc-le-zero (wrong a b c))
  where
    wrong : (a : ℕ) → leb a 0 ≡ true → eqb a 0 ≡ false → suc zero ≤ zero
    wrong a b c = grind (arith, nat_tests)
only_zero a false true b c = absurd (not-suc-le-zero (wrong a b c))
  where
    wrong : (a : ℕ) → leb a 0 ≡ false → eqb a 0 ≡ true → suc zero ≤ zero
    wrong a b c = grind (arith, nat_tests)

module _ {X : Type 0} (f g : X → ℕ) (same : (x : X) → f x ≡ g x) where
  same_sum : (xs : List X) → sum_by f xs ≡ sum_by g xs
  same_sum [] = refl
  same_sum (x ∷ xs) = sum_by-cons f x xs ∙ (let a = same x in let b = same_sum xs in let c = sum_by-cons g x xs in omega (arith, a, b, c))

module _ (readable : List ℕ → Bool) (callers : ℕ) (lines : List Line) (made : List Entry) (listed : AreListed readable callers lines made) where
  of_driver : sum_by (by_one 0) made ≤ sum_by (up_to 0) lines + 1
  of_driver =
      let a : length (entries_by 0 made) ≡ sum_by (by_one 0) made = length-filter (λ entry. eqb entry.actor 0) made in
      let b = ap length listed.driver in
      let c = length-map (entries_by 0 made) entry_event in
      let d = length-map (driver_list readable none_up lines) listed_event in
      let e = few_driver readable none_up lines in
      omega (arith, a, b, c, d, e)

  of_one_caller : (n : ℕ) → 1 ≤ n → n ≤ callers → sum_by (by_one n) made ≤ sum_by (of_one n) lines
  of_one_caller n least most =
      let a : length (entries_by n made) ≡ sum_by (by_one n) made = length-filter (λ entry. eqb entry.actor n) made in
      let b = few_caller (lines_by n lines) (entries_by n made) (listed.each_caller n least most) in
      let c = of_caller n lines in
      omega (arith, a, b, c)

  up_to_caller : (n : ℕ) → n ≤ callers → sum_by (among n) made ≤ sum_by (up_to n) lines + 1
  up_to_caller zero le = rw (same_sum (among 0) (by_one 0) (λ entry. only_zero entry.actor (leb entry.actor 0) (eqb entry.actor 0) refl refl) made) of_driver
  up_to_caller (suc n) le =
      let before = up_to_caller n (omega (arith, le)) in
      let here = of_one_caller (suc n) (omega arith) le in
      let a = split_sum (among (suc n)) (among n) (by_one (suc n)) (λ entry. split_tests entry.actor n 1 (leb entry.actor n) (eqb entry.actor (suc n)) (leb entry.actor (suc n)) refl refl refl) made in
      let b = split_sum (up_to (suc n)) (up_to n) (of_one (suc n)) (λ line. split_work n (entries_of line.work) line.work) lines in
      omega (arith, before, here, a, b)

-- ---- all of them

one_counts : (b : Bool) → b ≡ true → 1 ≤ cond b 1 0
one_counts true e = omega arith
one_counts false e = cc

at_least_one : (n : ℕ) (made : List Entry) → All (λ entry. entry.actor ≤ n) made → length made ≤ sum_by (among n) made
at_least_one n [] h = omega arith
at_least_one n (entry ∷ more) h =
    let within = All-head (λ entry. entry.actor ≤ n) entry more h in
    let t : leb entry.actor n ≡ true = grind (arith, nat_tests) in
    let here = one_counts (leb entry.actor n) t in
    let rest = at_least_one n more (All-tail (λ entry. entry.actor ≤ n) entry more h) in
    let cons = sum_by-cons (among n) entry more in
    omega (arith, here, rest, cons)

at_most : (n : ℕ) (lines : List Line) → sum_by (up_to n) lines ≤ entries lines
at_most n [] = omega arith
at_most n (line ∷ lines) =
    let a = sum_by-cons (up_to n) line lines in
    let b = sum_by-cons (λ x. entries_of x.work) line lines in
    let c = at_most n lines in
    let d = small (leb (actor_of line.work) n) (entries_of line.work) in
    omega (arith, a, b, c, d)
  where
    small : (b : Bool) (k : ℕ) → cond b k 0 ≤ k
    small true k = omega arith
    small false k = omega arith

pub few_entries : (readable : List ℕ → Bool) (callers : ℕ) (lines : List Line) (journal : List Entry) → AreListed readable callers lines (reverse journal) → length journal ≤ entries lines + 1
few_entries readable callers lines journal listed =
    let a = length-reverse journal in
    let b = at_least_one callers (reverse journal) listed.actors in
    let c = up_to_caller readable callers lines (reverse journal) listed callers (omega arith) in
    let d = at_most callers lines in
    omega (arith, a, b, c, d)

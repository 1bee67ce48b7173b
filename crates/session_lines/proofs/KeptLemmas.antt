-- What is kept of lines, with one more.
use Rattle.std.proofs.Common.{◌≡◌, ◌≤◌, ◌+◌, ℕ, max, Bool, true, false, not, ◌&&◌, ◌||◌, eqb, List, [], ◌∷◌, ◌++◌, length, reverse, Option, Some, None, refl, sym, ap, ◌∙◌, cond, arith}
use Rattle.std.specs.Option.{option_map_or}
use Rattle.std.proofs.lemmas.Bool.Decides.{nat_tests}
use Rattle.std.proofs.lemmas.List.{reverse-append}
use Rattle.std.proofs.lemmas.List.Sums.{sum_by-cons}
use Rattle.session_lines.specs.Before.{call_in, data_len, driver_bytes, data_lens, act_entries, entries_of, is_driven, is_of_other, latest, names_for_other, starts, time_in}
use Rattle.session_lines.specs.KeptSession.{Fits, FitsDriver, IsKept, IsOfNoOther, use_of, caller_with}
use Rattle.session_lines.specs.declared.call_uses.CallUse.{CallUse}
use Rattle.session_lines.specs.declared.session.Act.{Act}
use Rattle.session_lines.specs.declared.session.Act.TheVariants as act
use Rattle.session_lines.specs.declared.session.DriverLine.{DriverLine}
use Rattle.session_lines.specs.declared.session.DriverLine.TheVariants as driver
use Rattle.session_lines.specs.declared.session.Line.{Line}
use Rattle.session_lines.specs.declared.session.Work.{Work}
use Rattle.session_lines.specs.declared.session.Work.TheVariants as work

abbrev pub is_other : ℕ → Option ℕ → Bool
is_other caller owner = option_map_or (λ other. not (eqb other caller)) owner false

abbrev pub Tells : List Line → (ℕ → Option ℕ) → Type 0
Tells lines callers = (caller id : ℕ) → is_of_other caller id lines ≡ is_other caller (callers id)

turned : (b : Bool) → not b ≡ false → b ≡ true
turned true h = refl
turned false h = cc

or_false : (b : Bool) → (b || false) ≡ b
or_false true = refl
or_false false = refl

or_self : (b : Bool) → (b || b) ≡ b
or_self true = refl
or_self false = refl

-- where the caller is the one that there was, if there was one
same_caller : (caller owner : ℕ) (before : Option ℕ) → is_other owner before ≡ false → (not (eqb owner caller) || is_other caller before) ≡ not (eqb owner caller)
same_caller caller owner None h = or_false (not (eqb owner caller))
same_caller caller owner (Some other) h =
    let t = turned (eqb other owner) h in
    let e : other ≡ owner = grind (arith, nat_tests) in
    rw e (or_self (not (eqb owner caller)))

by_call : (caller owner id : ℕ) (names : Bool) (old : Bool) (before after : Option ℕ) → old ≡ is_other caller before → is_other owner before ≡ false
    → after ≡ cond names (Some owner) before → ((names && not (eqb owner caller)) || old) ≡ is_other caller after
by_call caller owner id true old before after is free new =
    rw (is, new) (same_caller caller owner before free)
by_call caller owner id false old before after is free new = rw (new) is

by_work : (line : Line) (lines : List Line) (before after : ℕ → Option ℕ) → Tells lines before → IsOfNoOther line.work lines → ((id : ℕ) → after id ≡ caller_with line.work id (before id)) → Tells (line ∷ lines) after
by_work line lines before after tells owned new caller id = of line.work owned (new id)
  where
    of : (w : Work) → IsOfNoOther w lines → after id ≡ caller_with w id (before id) → (names_for_other caller id w || is_of_other caller id lines) ≡ is_other caller (after id)
    of (work.Driver what) own e = tells caller id ∙ ap (is_other caller) (sym e)
    of (work.Caller owner what) own e = of_call (eqb (call_in what) id) refl
      where
        of_call : (b : Bool) → eqb (call_in what) id ≡ b → ((eqb (call_in what) id && not (eqb owner caller)) || is_of_other caller id lines) ≡ is_other caller (after id)
        of_call false t = let n = rw t at e in rw t (tells caller id ∙ ap (is_other caller) (sym n))
        of_call true t =
            let same : call_in what ≡ id = grind (arith, nat_tests) in
            let free : is_other owner (before id) ≡ false = ap (λ k. is_other owner (before k)) (sym same) ∙ (sym (tells owner (call_in what)) ∙ own) in
            by_call caller owner id (eqb (call_in what) id) (is_of_other caller id lines) (before id) (after id) (tells caller id) free e

pub kept_none : (uses : List CallUse) → uses ≡ [] → IsKept [] 0 0 0 0 uses
unfolding latest
kept_none uses none = record {
  driven_is = refl;
  bytes_is = refl;
  made_is = refl;
  time_is = refl;
  callers_is = λ caller id. rw none refl;
  started_is = λ id. rw none refl;
  few_lines = omega arith;
  few_driven = omega arith;
  few_bytes = omega arith;
  few_made = omega arith;
}

at_most_one : (b : Bool) → cond b 1 0 ≤ 1
at_most_one true = omega arith
at_most_one false = omega arith

few_of_act : (a : Act) → act_entries a ≤ 2
few_of_act (act.Start call) = omega arith
few_of_act (act.Pick call word) = omega arith
few_of_act (act.Commit call) = omega arith

few_of : (w : Work) → entries_of w ≤ 2 + data_len w
few_of (work.Driver what) = omega arith
few_of (work.Caller caller what) = omega (arith, few_of_act what)

pub kept_more : (items now : List Line) (line : Line) (driven bytes made time d b e t : ℕ) (uses after : List CallUse)
    → IsKept (reverse items) driven bytes made time uses → now ≡ items ++ line ∷ []
    → length (reverse items) ≤ 199995 → data_lens (reverse items) + data_len line.work ≤ 8388608 → IsOfNoOther line.work (reverse items)
    → d ≡ cond (is_driven line.work) 1 0 → b ≡ data_len line.work → e ≡ entries_of line.work → t ≡ max (time_in line.work) time
    → ((id : ℕ) → (use_of after id).caller ≡ caller_with line.work id (use_of uses id).caller)
    → ((id : ℕ) → (use_of after id).started ≡ (starts id line.work || (use_of uses id).started))
    → IsKept (reverse now) (d + driven) (b + bytes) (e + made) t after
unfolding latest
kept_more items now line driven bytes made time d b e t uses after h now_is few fits owned d_is b_is e_is t_is callers_new started_new =
    let more : reverse now ≡ line ∷ reverse items = ap reverse now_is ∙ reverse-append items (line ∷ []) in
    let bytes_now = h.bytes_is in
    let driven_few = h.few_driven in
    let made_few = h.few_made in
    let one = at_most_one (is_driven line.work) in
    let two = few_of line.work in
    rw more record {
      driven_is = rw (d_is, h.driven_is) (sym (sum_by-cons (λ x. cond (is_driven x.work) 1 0) line (reverse items)));
      bytes_is = rw (b_is, h.bytes_is) (sym (sum_by-cons (λ x. data_len x.work) line (reverse items)));
      made_is = rw (e_is, h.made_is) (sym (sum_by-cons (λ x. entries_of x.work) line (reverse items)));
      time_is = t_is ∙ ap (max (time_in line.work)) h.time_is;
      callers_is = by_work line (reverse items) (λ id. (use_of uses id).caller) (λ id. (use_of after id).caller) h.callers_is owned callers_new;
      started_is = λ id. started_new id ∙ ap (λ s. starts id line.work || s) (h.started_is id);
      few_lines = omega (arith, few);
      few_driven = omega (arith, driven_few, d_is, one);
      few_bytes = omega (arith, fits, bytes_now, b_is);
      few_made = omega (arith, made_few, e_is, b_is, two);
    }

fits_driver : (what : DriverLine) (lines : List Line) → FitsDriver what lines → data_lens lines ≤ 8388608 → data_lens lines + driver_bytes what ≤ 8388608
fits_driver (driver.Opened authority) lines fits few = omega (arith, few)
fits_driver (driver.Bytes authority bytes) lines fits few = fits
fits_driver (driver.Lost authority) lines fits few = omega (arith, few)
fits_driver (driver.Moment time) lines fits few = omega (arith, few)
fits_driver (driver.Endpoint address state) lines fits few = omega (arith, few)
fits_driver driver.Sweep lines fits few = omega (arith, few)

pub fits_data : (w : Work) (lines : List Line) → Fits w lines → data_lens lines ≤ 8388608 → data_lens lines + data_len w ≤ 8388608
fits_data (work.Driver what) lines fits few = fits_driver what lines fits few
fits_data (work.Caller caller what) lines fits few = omega (arith, few)

pub fits_call : (w : Work) (lines : List Line) → Fits w lines → IsOfNoOther w lines
fits_call (work.Driver what) lines fits = tt
fits_call (work.Caller caller what) lines fits = fits

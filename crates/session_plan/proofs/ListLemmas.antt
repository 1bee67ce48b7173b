-- The list of a caller, line by line, and the lists of callers.
use Rattle.std.proofs.Common.{◌≡◌, ℕ, ◌+◌, List, [], ◌∷◌, ◌++◌, map, append_assoc, Bool, true, false, refl, sym, ◌∙◌, ap, arith}
use Rattle.std.proofs.lemmas.List.FromFn.{map-range_with_len_more}
use Rattle.std.specs.List.{range_with_len}
use Rattle.std.specs.Prelude.{◌==◌, if◌then◌else◌, Option}
use Rattle.call_journal.specs.declared.plan.Listed.{Listed}
use Rattle.session_lines.specs.declared.session.Work.{Work}
use Rattle.session_lines.specs.declared.session.Work.TheVariants as work
use Rattle.session_lines.specs.declared.session.Line.{Line}
use Rattle.session_script.specs.Plan.{lines_by}
use Rattle.session_plan.specs.PlanOfSession.{act_event, events_in, caller_plan, events_by, events_for}

by_work : (caller number : ℕ) (gate : Option ℕ) (w : Work) (lines : List Line)
    → caller_plan (record { number = number; gate = gate; work = w } ∷ lines) caller ≡ events_by caller (record { number = number; gate = gate; work = w }) w ++ caller_plan lines caller
by_work caller number gate (work.Driver what) lines = refl
by_work caller number gate (work.Caller other what) lines = by_test (other == caller)
  where
    by_test : (b : Bool) → events_in (if b then record { number = number; gate = gate; work = work.Caller other what } ∷ lines_by caller lines else lines_by caller lines)
        ≡ (if b then record { line = number; after = gate; event = act_event what } ∷ [] else []) ++ caller_plan lines caller
    by_test true = refl
    by_test false = refl

pub one_line : (caller : ℕ) (line : Line) (lines : List Line) → caller_plan (line ∷ lines) caller ≡ events_for caller line ++ caller_plan lines caller
one_line caller line lines = by_work caller line.number line.gate line.work lines

-- one caller more
pub callers_more : (lines : List Line) (n : ℕ) (had : List (List Listed))
    → (had ++ map (caller_plan lines) (range_with_len 1 n)) ++ caller_plan lines (n + 1) ∷ [] ≡ had ++ map (caller_plan lines) (range_with_len 1 (n + 1))
callers_more lines n had =
    append_assoc had (map (caller_plan lines) (range_with_len 1 n)) (caller_plan lines (n + 1) ∷ [])
    ∙ ap (λ (lists : List (List Listed)). had ++ lists) (sym (map-range_with_len_more (caller_plan lines) 1 n (n + 1) (omega arith)))

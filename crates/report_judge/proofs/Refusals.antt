-- What bytes that are no session are answered.
use Rattle.std.proofs.Common.{◌≡◌, ℕ, ◌-◌, ◌⊎◌, inl, inr, List, Option, None, Some, Result, Ok, Err, refl, sym, ap, subst, ◌∙◌}
use Rattle.std.specs.Prelude.{IfSome}
use Rattle.session_lines.specs.Session.{Fails, Refusal, session_of}
use Rattle.session_lines.specs.declared.cause.Cause.{Cause}
use Rattle.session_lines.specs.declared.cause.SessionFault.{SessionFault}
use Rattle.session_lines.specs.declared.cause.SessionFault.TheVariants as fault
use Rattle.session_lines.specs.declared.session.Session.{Session}
use Rattle.judged_session.specs.report_compare.FirstLines.{first_lines}
use Rattle.judged_session.specs.report_compare.LegalReports.{BeginsReport, IsReportOf}
use Rattle.judged_session.specs.report_compare.declared.mistakes.Mistake.{Mistake}
use Rattle.judged_session.specs.JudgedTurns.{IsWrongFor}
use Rattle.report_judge.specs.Verdicts.{BeginsLegalReport, GoesOnLegally, IsLegalReport, refusal_of}
use Rattle.report_judge.specs.declared.verdicts.Verdict.{Verdict}
use Rattle.report_judge.specs.declared.verdicts.Verdict.TheVariants as verdict

-- the fault that is told is that of the bytes
pub told_fault : (bytes : List ℕ) (e : SessionFault) → Fails e (session_of bytes) → (line : ℕ) (cause : Cause) → refusal_of e ≡ verdict.Session line cause
    → session_of bytes ≡ Err record { line = line; cause = cause }
told_fault bytes (fault.Script l c) fails line cause same = cc (fails, same)
told_fault bytes fault.Memory fails line cause same = absurd (cc same)

abbrev verdict_of : Result Session Refusal → Verdict
verdict_of (Ok s) = verdict.Memory
verdict_of (Err e) = verdict.Session e.line e.cause

-- the fault of the bytes is told, where there is memory
pub fault_told : (bytes : List ℕ) (e : SessionFault) → Fails e (session_of bytes) → (line : ℕ) (cause : Cause) → session_of bytes ≡ Err record { line = line; cause = cause }
    → (refusal_of e ≡ verdict.Session line cause) ⊎ (refusal_of e ≡ verdict.Memory)
fault_told bytes (fault.Script l c) fails line cause refusal = inl (ap verdict_of (sym fails ∙ refusal))
fault_told bytes fault.Memory fails line cause refusal = inr refl

-- what was read isn't both a fault and a value
pub err-ok : {A E : Type 0} {read : Result A E} {fault : E} {value : A} → read ≡ Err fault → read ≡ Ok value → ⊥
err-ok fails reads = absurd (cc (sym fails ∙ reads))

-- bytes that spell a session have no fault
pub no_fault : (bytes : List ℕ) (e : SessionFault) → Fails e (session_of bytes) → (session : Session) → session_of bytes ≡ Ok session → (refusal_of e ≡ verdict.Legal) ⊎ (refusal_of e ≡ verdict.Memory)
no_fault bytes (fault.Script l c) fails session spells = absurd (err-ok fails spells)
no_fault bytes fault.Memory fails session spells = inr refl

-- no fault is a mistake of a report
pub no_mistake_of : (e : SessionFault) (mistake : Mistake) → refusal_of e ≡ verdict.NotLegal mistake → ⊥
no_mistake_of (fault.Script l c) mistake same = absurd (cc same)
no_mistake_of fault.Memory mistake same = absurd (cc same)

-- ---- reports

-- a value that was read, or another one
abbrev value_or : {A E : Type 0} → A → Result A E → A
value_or other (Ok value) = value
value_or other (Err fault) = other

same_value : {A E : Type 0} (read : Result A E) (one other : A) → read ≡ Ok one → read ≡ Ok other → other ≡ one
same_value {A = A} {E = E} read one other is also = ap (λ (r : Result A E). value_or one r) (sym also ∙ is)

-- where the report of each history is found legal, a legal report has no mistake
pub no_mistake_in : (bytes report : List ℕ) (session : Session) (mistake : Option Mistake) (Same : Type 0) → session_of bytes ≡ Ok session
    → ((other : List ℕ) → session_of other ≡ Ok session → IsReportOf session report → Same → mistake ≡ None) → IsLegalReport bytes report → Same → mistake ≡ None
no_mistake_in bytes report session mistake Same spells found legal same =
    found bytes spells (subst (λ (s : Session). IsReportOf s report) (same_value (session_of bytes) session legal.session spells legal.spells) legal.report) same

-- the mistake that is told
abbrev mistake_or : Mistake → Verdict → Mistake
mistake_or other (verdict.NotLegal mistake) = mistake
mistake_or other _ = other

pub same_mistake : (one other : Mistake) → verdict.NotLegal one ≡ verdict.NotLegal other → one ≡ other
same_mistake one other same = ap (λ (v : Verdict). mistake_or one v) same

-- the lines above the one that is told
pub lines_above : (bytes report : List ℕ) (session : Session) (found : Option Mistake) (mistake other : Mistake) → session_of bytes ≡ Ok session → found ≡ Some mistake → verdict.NotLegal mistake ≡ verdict.NotLegal other
    → IfSome found (λ m. BeginsReport session (first_lines (m.line - 1) report)) → BeginsLegalReport bytes (first_lines (other.line - 1) report)
lines_above bytes report session found mistake other spells is same above =
    let own : BeginsReport session (first_lines (mistake.line - 1) report) = subst (λ (o : Option Mistake). IfSome o (λ m. BeginsReport session (first_lines (m.line - 1) report))) is above in
    record {
      session = session;
      spells = spells;
      begins = subst (λ (m : Mistake). BeginsReport session (first_lines (m.line - 1) report)) (same_mistake mistake other same) own;
    }

-- no report of a legal history goes on to it
pub none_goes_on : (bytes report : List ℕ) (session : Session) (found : Option Mistake) (mistake other : Mistake) → session_of bytes ≡ Ok session → found ≡ Some mistake → verdict.NotLegal mistake ≡ verdict.NotLegal other
    → IfSome found (λ m. IsWrongFor session report m.line) → GoesOnLegally bytes report other.line → ⊥
none_goes_on bytes report session found mistake other spells is same wrong goes =
    let own : IsWrongFor session report mistake.line = subst (λ (o : Option Mistake). IfSome o (λ m. IsWrongFor session report m.line)) is wrong in
    let told : IsWrongFor session report other.line = subst (λ (m : Mistake). IsWrongFor session report m.line) (same_mistake mistake other same) own in
    let read : IsWrongFor goes.session report other.line = subst (λ (s : Session). IsWrongFor s report other.line) (sym (same_value (session_of bytes) session goes.session spells goes.spells)) told in
    read bytes goes.history goes.spells goes.legal goes.alike

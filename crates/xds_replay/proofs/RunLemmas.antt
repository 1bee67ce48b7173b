-- What a run did, from what its parts did.
use Rattle.std.proofs.Common.{◌≡◌, ◌<◌, ◌≤◌, ◌+◌, ℕ, ◌⊎◌, inl, inr, List, take, length, Option, Some, None, IfSome, Result, Ok, Err, sym, ap, ◌∙◌, refl, arith, length-take-le, take_all, subst}
use Rattle.std.proofs.lemmas.Bool.{cases_lt, lt-ltb}
use Rattle.std.proofs.KnownBytes.{Keeps-refl}
use Rattle.std.specs.Io.KnownBytes.{Appends, Keeps}
use Rattle.xc_base.specs.Outside.{AppendsPrefix}
use Rattle.call_journal.specs.declared.entry.Entry.{Entry}
use Rattle.config_assembly.specs.Orders.{Name}
use Rattle.session_lines.specs.Session.{Fails, Refusal, session_of, session_within}
use Rattle.session_lines.specs.declared.cause.Cause.{Cause}
use Rattle.session_lines.specs.declared.cause.SessionFault.{SessionFault}
use Rattle.session_lines.specs.declared.cause.SessionFault.TheVariants as fault
use Rattle.session_lines.specs.declared.session.Session.{Session}
use Rattle.generated_law.specs.GeneratedSession.{generated_session}
use Rattle.text_law.specs.TextLaw.{text_of}
use Rattle.program_status.specs.declared.statuses.Status.{Status}
use Rattle.program_status.specs.declared.statuses.Status.TheVariants as status
use Rattle.program_status.specs.Statuses.{status_of}
use Rattle.xds_replay.specs.Outcomes.{IsPlayed, Reports, Totals, totals_of}

-- ---- no more bytes are wanted than tell that there are too many

within_of_front : (most : ℕ) (bytes : List ℕ) → (most < length bytes) ⊎ (length bytes ≤ most) → session_within most (take (most + 1) bytes) ≡ session_within most bytes
unfolding session_within
within_of_front most bytes (inl lt) =
    let len : length (take (most + 1) bytes) ≡ most + 1 = length-take-le (most + 1) bytes (omega arith) in
    let more : most < length (take (most + 1) bytes) = omega arith in
    rw (lt-ltb most (length (take (most + 1) bytes)) more, lt-ltb most (length bytes) lt) refl
within_of_front most bytes (inr le) = rw (take_all (most + 1) bytes (omega arith)) refl

pub session_of_front : (bytes read : List ℕ) → read ≡ take 67108865 bytes → session_of read ≡ session_of bytes
unfolding session_of
session_of_front bytes read e = ap (λ b. session_within 67108864 b) e ∙ within_of_front 67108864 bytes (cases_lt 67108864 (length bytes))

-- the bytes read are those of the source, as far as they were wanted
abbrev pub IsRead : Option (List ℕ) → List ℕ → Type 0
IsRead left read = IfSome left (λ xs. read ≡ take 67108865 xs)

-- ---- the clauses

pub reports_of : (left : Option (List ℕ)) (read : List ℕ) (session : Session) (history : List Entry) (before after : List Name) (P : List ℕ → Type 0)
    → IsRead left read → session_of read ≡ Ok session → IsPlayed session before after history → P (text_of session history) → IfSome left (Reports P before after)
reports_of None read session history before after P is spells played p = tt
reports_of (Some xs) read session history before after P is spells played p =
    record { session = session; spells = sym (session_of_front xs read is) ∙ spells; history = history; played = played; text = p }

pub begun_of : (left old new : Option (List ℕ)) (read : List ℕ) (session : Session) (history : List Entry) (before after : List Name)
    → IsRead left read → session_of read ≡ Ok session → IsPlayed session before after history → AppendsPrefix old new (text_of session history)
    → IfSome left (λ bytes. Keeps old new ⊎ Reports (AppendsPrefix old new) before after bytes)
begun_of None old new read session history before after is spells played p = tt
begun_of (Some xs) old new read session history before after is spells played p =
    inr (record { session = session; spells = sym (session_of_front xs read is) ∙ spells; history = history; played = played; text = p })

pub nothing_begun : (left old : Option (List ℕ)) (before after : List Name) → IfSome left (λ bytes. Keeps old old ⊎ Reports (AppendsPrefix old old) before after bytes)
nothing_begun None old before after = tt
nothing_begun (Some xs) old before after = inl (Keeps-refl old)

pub refused_of : (left : Option (List ℕ)) (read : List ℕ) (e : SessionFault) → IsRead left read → Fails e (session_of read) → (line : ℕ) (cause : Cause) → status_of e ≡ status.Session line cause
    → IfSome left (λ bytes. session_of bytes ≡ Err record { line = line; cause = cause })
refused_of None read e is fails line cause same = tt
refused_of (Some xs) read (fault.Script l c) is fails line cause same =
    let h = sym (session_of_front xs read is) ∙ fails in cc
refused_of (Some xs) read fault.Memory is fails line cause same = absurd (cc same)

pub complete_of : (left : Option (List ℕ)) (read : List ℕ) (e : SessionFault) → IsRead left read → Fails e (session_of read)
    → IfSome left (λ bytes. (session : Session) → session_of bytes ≡ Ok session → (status_of e ≡ status.Done) ⊎ (status_of e ≡ status.Memory))
complete_of None read e is fails = tt
complete_of (Some xs) read (fault.Script l c) is fails = λ session spells. absurd (let h = sym (session_of_front xs read is) ∙ fails in cc)
complete_of (Some xs) read fault.Memory is fails = λ session spells. inr refl

abbrev refused_status : Result Session Refusal → Status
refused_status (Ok s) = status.Memory
refused_status (Err e) = status.Session e.line e.cause

pub refusal_of : (left : Option (List ℕ)) (read : List ℕ) (e : SessionFault) → IsRead left read → Fails e (session_of read)
    → IfSome left (λ bytes. (line : ℕ) (cause : Cause) → session_of bytes ≡ Err record { line = line; cause = cause } → (status_of e ≡ status.Session line cause) ⊎ (status_of e ≡ status.Memory))
refusal_of None read e is fails = tt
refusal_of (Some xs) read (fault.Script l c) is fails = λ line cause refusal.
    inl (ap refused_status (sym (sym (session_of_front xs read is) ∙ fails) ∙ refusal))
refusal_of (Some xs) read fault.Memory is fails = λ line cause refusal. inr refl

-- a session that is spelled isn't refused
pub never_refused : (left : Option (List ℕ)) (read : List ℕ) (session : Session) (G : ℕ → Cause → Type 0) → IsRead left read → session_of read ≡ Ok session
    → IfSome left (λ bytes. (line : ℕ) (cause : Cause) → session_of bytes ≡ Err record { line = line; cause = cause } → G line cause)
never_refused None read session G is spells = tt
never_refused (Some xs) read session G is spells = λ line cause refusal. absurd (let h = sym (session_of_front xs read is) ∙ spells in cc)

-- ---- totals

pub totals_in : (rounds : ℕ) (session : Session) (history : List Entry) (before after : List Name) (P : List ℕ → Type 0) → session ≡ generated_session rounds → IsPlayed session before after history
    → P (totals_of rounds session history) → Totals P rounds before after
totals_in rounds session history before after P is played p = record {
  history = history;
  played = subst (λ (s : Session). IsPlayed s before after history) is played;
  text = subst (λ (s : Session). P (totals_of rounds s history)) is p;
}

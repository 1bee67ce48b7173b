-- What a turn leaves when it is played.
use Rattle.std.proofs.Common.{◌≡◌, ◌≢◌, ◌⊎◌, ◌≤◌, ◌+◌, ◌-◌, ◌^◌, ◌==◌, ℕ, suc, List, [], ◌∷◌, ◌++◌, length, All, Option, Some, None, Result, Ok, Err, refl, sym, ap, ◌∙◌, subst, inl, inr, arith, append_assoc, ne_eqb}
use Rattle.std.proofs.lemmas.Bool.{cond-false}
use Rattle.call_journal.specs.declared.entry.Entry.{Entry}
use Rattle.call_journal.specs.declared.plan.Listed.{Listed}
use Rattle.config_assembly.specs.Orders.{Name}
use Rattle.xds_bootstrap.specs.declared.bootstrap.Bootstrap.{Bootstrap}
use Rattle.xds_name.specs.declared.target.Target.{Target}
use Rattle.session_lines.specs.declared.session.Session.{Session}
use Rattle.session_plan.specs.PlanOfSession.{plan_of}
use Rattle.session_plan.specs.ReadablePayloads.{is_response}
use Rattle.turn_player.specs.session_player.Stages.{IsOfSession}
use Rattle.completion_law.specs.xds_history.Right.{Right}
use Rattle.completion_law.specs.xds_history.Setting.{setting_of}
use Rattle.replay_steps.specs.legal_history.Legal.{Legal}
use Rattle.alike_law.specs.turn_law.TurnLaw.{IsTurn}
use Rattle.alike_law.specs.AlikeTexts.{Parting}
use Rattle.replay_steps.specs.report_compare.declared.mistakes.Mistake.{Mistake}
use Rattle.book_progress.specs.PlayedPlans.{IsPlayed}
use Rattle.book_progress.specs.ProgressKept.{most_entries}
use Rattle.completion_law.proofs.sweep_law.SweepProofs.{sweep_stands}
use Rattle.report_turns.specs.declared.entry_turns.EntryTurn.{EntryTurn}
use Rattle.report_turns.specs.declared.misplaced_turns.Misplaced.{Misplaced}
use Rattle.replay_law.specs.listed_events.ListedEvents.{TellsOn}
use Rattle.replay_steps.specs.turn_steps.declared.halts.Halt.{Halt}
use Rattle.replay_steps.specs.turn_steps.declared.halts.Halt.TheVariants as halt
use Rattle.turn_player.specs.TurnPlans.{SeatView}
use Rattle.turn_player.specs.TableSeats.{AreDone, AreLeft, AreSeated, HasMore, IsDue, IsSweepNext, IsTurnPlayed}
use Rattle.turn_player.specs.xds_book.BookEntries.{entry_of}
use Rattle.turn_player.specs.xds_book.BookKept.{HasActors}
use Rattle.turn_player.specs.xds_book.BookViews.{BookView}
use Rattle.std.specs.Prelude.{IfOk}
use Rattle.std.specs.declared.alloc.AllocError.{AllocError}
use Rattle.replay_steps.specs.NextTurns.{IsNextAfter, next_made}
use Rattle.report_replay.specs.ReplayedTurns.{HasCome, HasReplayed, HasSwept, IsAlong, IsBeyond, IsLegalReplay, IsNextOfReplay, IsReplayed, IsTurnIn, IsTurnOf, ReplayView, lines_left}
use Rattle.replay_steps.specs.declared.next_turns.Next.{Next}
use Rattle.replay_steps.specs.declared.next_turns.Next.TheVariants as next
use Rattle.report_replay.proofs.DueLemmas.{line_is_no_sweep, made_is, turn_is_due}
use Rattle.report_replay.proofs.SweepLemmas.{seats_done, sweep_next}

-- ---- the turn can be played

abbrev pub Played : Type 0
Played = Result (Option Misplaced) Halt

-- it is made, unless memory runs out
abbrev pub IsMade : Played → Type 0
IsMade result = (result ≡ Ok None) ⊎ (result ≡ Err halt.Memory)

actors_are : (plan : Option (List (List Listed))) (boot : Bootstrap) (target : Target) (session : Session) (lists : List (List Listed)) (n : ℕ) → IsOfSession plan boot target session lists → HasActors plan n → length lists ≡ n
actors_are plan boot target session lists n of has = subst (λ (p : Option (List (List Listed))). HasActors p n) of.plan_is has

goes : (plan : Option (List (List Listed))) (boot : Bootstrap) (target : Target) (session : Session) (history : List Entry) (lists : List (List Listed)) (parting : Parting) (made : ℕ) (turn : EntryTurn) (book : BookView) (replay : ReplayView) (result : Played)
    → IsLegalReplay plan boot target session history lists → HasActors plan (length book.counts) → (of : IsTurnOf session history parting made turn book replay) → (later : List Entry) → later ≡ of.later
    → (AreSeated book replay.seats → IsDue lists turn.actor turn.line book → turn.line ≢ 0 → IsMade result) → (AreSeated book replay.seats → AreDone lists replay.seats → IsSweepNext lists turn.actor turn.line book → result ≡ Ok None) → IsMade result
goes plan boot target session history lists parting made turn book replay result legal actors of [] none goes_on sweeps =
    let whole : of.entry ∷ of.past ≡ history = subst (λ (es : List Entry). es ++ of.entry ∷ of.past ≡ history) (sym none) of.whole in
    let h : Legal session (of.entry ∷ of.past) = subst (λ (es : List Entry). Legal session es) (sym whole) legal.legal in
    inl (sweeps of.come.seated (seats_done session of.past of.entry lists book replay.seats h legal.of.lists_are (actors_are plan boot target session lists (length book.counts) legal.of actors) of.come)
    (sweep_next session of.past of.entry lists book turn.actor turn.line h legal.of.lists_are of.come.entries of.actor_is of.line_is))
goes plan boot target session history lists parting made turn book replay result legal actors of (next ∷ later) some goes_on sweeps =
    let whole : next ∷ (later ++ of.entry ∷ of.past) ≡ history = subst (λ (es : List Entry). es ++ of.entry ∷ of.past ≡ history) (sym some) of.whole in
    let h : Legal session (next ∷ (later ++ of.entry ∷ of.past)) = subst (λ (es : List Entry). Legal session es) (sym whole) legal.legal in
    let all : All IsTurn ((next ∷ later) ++ of.entry ∷ of.past) = subst (λ (es : List Entry). All IsTurn es) (sym whole) legal.turns in
    goes_on of.come.seated
    (turn_is_due session (next ∷ later) of.past of.entry lists book turn.actor turn.line h all legal.of.formed.lines legal.of.lists_are of.come.entries of.come.goes_on of.actor_is of.line_is)
    (line_is_no_sweep session next later of.past of.entry turn.line legal.of.formed.lines h of.line_is)

pub turn_goes : (plan : Option (List (List Listed))) (boot : Bootstrap) (target : Target) (session : Session) (history : List Entry) (lists : List (List Listed)) (parting : Parting) (made : ℕ) (turn : EntryTurn) (book : BookView) (replay : ReplayView)
    (result : Played) → IsLegalReplay plan boot target session history lists → HasActors plan (length book.counts) → IsTurnOf session history parting made turn book replay
    → (AreSeated book replay.seats → IsDue lists turn.actor turn.line book → turn.line ≢ 0 → IsMade result) → (AreSeated book replay.seats → AreDone lists replay.seats → IsSweepNext lists turn.actor turn.line book → result ≡ Ok None) → IsMade result
turn_goes plan boot target session history lists parting made turn book replay result legal actors of goes_on sweeps =
    goes plan boot target session history lists parting made turn book replay result legal actors of of.later refl goes_on sweeps

pub not_misplaced : (result : Played) (why : Misplaced) → IsMade result → result ≡ Ok (Some why) → ⊥
not_misplaced result why (inl none) is = absurd (cc (none, is))
not_misplaced result why (inr memory) is = absurd (cc (memory, is))

pub not_strange : (result : Played) → IsMade result → result ≡ Err halt.Strange → ⊥
not_strange result (inl none) is = absurd (cc (none, is))
not_strange result (inr memory) is = absurd (cc (memory, is))

-- ---- what it leaves

suc_is : (n m : ℕ) → n ≡ m → n + 1 ≡ suc m
suc_is n m is = omega (arith, is)

some_left : (e : Entry) (later : List Entry) → e ∷ later ≢ []
some_left e later = λ is. absurd (cc is)

come_on : (past entries : List Entry) (old new : BookView) (before after : List SeatView) → new.entries ≡ entries → AreSeated new after → new.is_spent ≡ old.is_spent → HasCome past old before → HasCome entries new after
come_on past entries old new before after is seated goes_on come = record {
  entries = is;
  seated = seated;
  goes_on = goes_on ∙ come.goes_on;
}

come_left : (past : List Entry) (old new : BookView) (before after : List SeatView) (told tells : List Name) → AreLeft old new before after told tells → HasCome past old before → HasCome past new after
come_left past old new before after told tells left come =
    subst (λ (b : BookView). HasCome past b after) (sym left.book) (subst (λ (s : List SeatView). HasCome past old s) (sym left.seats) come)

-- ---- what comes next

pub made_end : (line : ℕ) → line ≡ 0 → next_made line ≡ next.End
made_end line is = ap next_made is

pub made_played : (line : ℕ) → line ≢ 0 → next_made line ≡ next.Played
made_played line some = cond-false (line == 0) next.End next.Played (ne_eqb line 0 some)

leaves : (plan : Option (List (List Listed))) (boot : Bootstrap) (target : Target) (session : Session) (history : List Entry) (lists : List (List Listed)) (parting : Parting) (made : ℕ) (turn : EntryTurn) (old new : BookView) (replay : ReplayView)
    (after : List SeatView) (told tells : List Name) → IsLegalReplay plan boot target session history lists → (of : IsTurnOf session history parting made turn old replay) → (later : List Entry) → later ≡ of.later
    → (AreSeated old replay.seats → AreSeated new after) → (turn.line ≢ 0 → AreSeated old replay.seats → IsTurnPlayed turn.actor turn.line turn.more.now old new told tells) → (turn.line ≡ 0 → AreLeft old new replay.seats after told tells)
    → Right (setting_of boot target) new.entries → IsPlayed plan new.entries
    → IsNextOfReplay session history parting (made + 1) told tells new (record { plan = replay.plan; seats = after; lines = replay.lines }) (next_made turn.line)
leaves plan boot target session history lists parting made turn old new replay after told tells legal of [] none seated played last right plays =
    let whole : of.entry ∷ of.past ≡ history = subst (λ (es : List Entry). es ++ of.entry ∷ of.past ≡ history) (sym none) of.whole in
    let h : Legal session (of.entry ∷ of.past) = subst (λ (es : List Entry). Legal session es) (sym whole) legal.legal in
    let zeroth : turn.line ≡ 0 = of.line_is ∙ (sweep_stands session of.past of.entry h).line_is in
    let left : AreLeft old new replay.seats after told tells = last zeroth in
    let swept : HasSwept history new after = record {
      sweep = of.entry;
      past = of.past;
      whole = whole;
      come = come_left of.past old new replay.seats after told tells left of.come;
    } in
    subst (λ (n : Next). IsNextOfReplay session history parting (made + 1) told tells new (record { plan = replay.plan; seats = after; lines = replay.lines }) n) (sym (made_end turn.line zeroth)) (inl swept)
leaves plan boot target session history lists parting made turn old new replay after told tells legal of (next_entry ∷ later) some seated played last right plays =
    let whole : next_entry ∷ (later ++ of.entry ∷ of.past) ≡ history = subst (λ (es : List Entry). es ++ of.entry ∷ of.past ≡ history) (sym some) of.whole in
    let h : Legal session (next_entry ∷ (later ++ of.entry ∷ of.past)) = subst (λ (es : List Entry). Legal session es) (sym whole) legal.legal in
    let numbered : turn.line ≢ 0 = line_is_no_sweep session next_entry later of.past of.entry turn.line legal.of.formed.lines h of.line_is in
    let turned : IsTurnPlayed turn.actor turn.line turn.more.now old new told tells = played numbered of.come.seated in
    let entries : new.entries ≡ entry_of turn.actor turn.line turned.what ∷ of.past = turned.entries ∙ ap (λ (es : List Entry). entry_of turn.actor turn.line turned.what ∷ es) of.come.entries in
    let right_by : Right (setting_of session.boot session.target) (entry_of turn.actor turn.line turned.what ∷ of.past) =
    subst (λ (es : List Entry). Right (setting_of session.boot session.target) es) entries
    (subst (λ (b : Bootstrap). Right (setting_of b session.target) new.entries) legal.of.boot_is (subst (λ (t : Target). Right (setting_of boot t) new.entries) legal.of.target_is right)) in
    let plays_by : IsPlayed (Some (plan_of is_response session)) (entry_of turn.actor turn.line turned.what ∷ of.past) =
    subst (λ (es : List Entry). IsPlayed (Some (plan_of is_response session)) es) entries
    (subst (λ (p : Option (List (List Listed))). IsPlayed p new.entries) (legal.of.plan_is ∙ ap (λ (ls : List (List Listed)). Some ls) legal.of.lists_are) plays) in
    let on : tells ≡ told → IsAlong session history parting (made + 1) new (record { plan = replay.plan; seats = after; lines = replay.lines }) = λ same.
    let is : entry_of turn.actor turn.line turned.what ≡ of.entry =
    made_is session (next_entry ∷ later) of.past of.entry turned.what turn.actor turn.line turn.more.now h right_by plays_by of.actor_is of.listed (λ listed lists. turned.refused listed lists same) in
    record {
      later = next_entry ∷ later;
      past = of.entry ∷ of.past;
      whole = whole;
      left = some_left next_entry later;
      many = suc_is made (length of.past) of.many;
      come = come_on of.past (of.entry ∷ of.past) old new replay.seats after (entries ∙ ap (λ (e : Entry). e ∷ of.past) is) (seated of.come.seated) turned.goes_on of.come;
      before = of.before;
      common = of.common;
      split = of.split;
      lines_are = of.lines_are;
      legal_are = ap (λ (es : List Entry). lines_left session es (of.entry ∷ of.past)) some ∙ of.legal_are;
    } in
    subst (λ (n : Next). IsNextOfReplay session history parting (made + 1) told tells new (record { plan = replay.plan; seats = after; lines = replay.lines }) n) (sym (made_played turn.line numbered)) (λ same. inl (on same))

-- whatever is made behind the common lines
beyond_on : (session : Session) (history : List Entry) (parting : Parting) (old new : BookView) → IsBeyond session history parting old → HasMore old.entries new.entries → IsBeyond session history parting new
beyond_on session history parting old new beyond made = record {
  later = beyond.later;
  past = beyond.past;
  whole = beyond.whole;
  left = beyond.left;
  more = made.more ++ beyond.more;
  entries = made.is ∙ (ap (λ (es : List Entry). made.more ++ es) beyond.entries ∙ sym (append_assoc made.more beyond.more beyond.past));
  before = beyond.before;
  common = beyond.common;
  split = beyond.split;
  legal_are = beyond.legal_are;
  on = beyond.on;
}

pub beyond_next : (session : Session) (history : List Entry) (parting : Parting) (made : ℕ) (told tells : List Name) (book : BookView) (replay : ReplayView) (n : Next) → IsBeyond session history parting book
    → IsNextOfReplay session history parting made told tells book replay n
beyond_next session history parting made told tells book replay next.Played beyond = λ same. inr beyond
beyond_next session history parting made told tells book replay next.End beyond = inr beyond
beyond_next session history parting made told tells book replay (next.Wrong mistake) beyond = beyond

pub turn_leaves : (plan : Option (List (List Listed))) (boot : Bootstrap) (target : Target) (session : Session) (history : List Entry) (lists : List (List Listed)) (parting : Parting) (made : ℕ) (turn : EntryTurn) (old new : BookView) (replay : ReplayView)
    (after : List SeatView) (told tells : List Name) → IsLegalReplay plan boot target session history lists → IsTurnIn session history parting made turn old replay → (AreSeated old replay.seats → AreSeated new after)
    → (turn.line ≢ 0 → AreSeated old replay.seats → IsTurnPlayed turn.actor turn.line turn.more.now old new told tells) → (turn.line ≡ 0 → AreLeft old new replay.seats after told tells) → HasMore old.entries new.entries
    → Right (setting_of boot target) new.entries → IsPlayed plan new.entries
    → IsNextOfReplay session history parting (made + 1) told tells new (record { plan = replay.plan; seats = after; lines = replay.lines }) (next_made turn.line)
turn_leaves plan boot target session history lists parting made turn old new replay after told tells legal (inl of) seated played last more right plays =
    leaves plan boot target session history lists parting made turn old new replay after told tells legal of of.later refl seated played last right plays
turn_leaves plan boot target session history lists parting made turn old new replay after told tells legal (inr beyond) seated played last more right plays =
    beyond_next session history parting (made + 1) told tells new (record { plan = replay.plan; seats = after; lines = replay.lines }) (next_made turn.line) (beyond_on session history parting old new beyond more)

-- where a turn isn't made, the common lines are behind
pub turn_stops : (plan : Option (List (List Listed))) (boot : Bootstrap) (target : Target) (session : Session) (history : List Entry) (lists : List (List Listed)) (parting : Parting) (made : ℕ) (turn : EntryTurn) (old new : BookView) (replay : ReplayView)
    (result : Played) (told tells : List Name) (later : ReplayView) (n : Next) → IsLegalReplay plan boot target session history lists → HasActors plan (length old.counts) → IsTurnIn session history parting made turn old replay
    → (AreSeated old replay.seats → IsDue lists turn.actor turn.line old → turn.line ≢ 0 → IsMade result) → (AreSeated old replay.seats → AreDone lists replay.seats → IsSweepNext lists turn.actor turn.line old → result ≡ Ok None)
    → HasMore old.entries new.entries → (IsMade result → ⊥) → IsNextOfReplay session history parting (made + 1) told tells new later n
turn_stops plan boot target session history lists parting made turn old new replay result told tells later n legal actors (inl of) goes_on sweeps more not =
    absurd (not (turn_goes plan boot target session history lists parting made turn old replay result legal actors of goes_on sweeps))
turn_stops plan boot target session history lists parting made turn old new replay result told tells later n legal actors (inr beyond) goes_on sweeps more not =
    beyond_next session history parting (made + 1) told tells new later n (beyond_on session history parting old new beyond more)

-- ---- what comes of it

never : {T E : Type 0} (F : T → Type 0) (result : Result T E) → ((value : T) → F value) → IfOk result F
never F (Ok value) each = each value
never F (Err fault) each = tt

pub next_is : (F : Next → Type 0) (line : ℕ) (played : Played) (result : Result Next AllocError) → IsNextAfter line played result → (played ≡ Ok None → F (next_made line)) → ((why : Misplaced) → played ≡ Ok (Some why) → (n : Next) → F n)
    → (played ≡ Err halt.Strange → (n : Next) → F n) → IfOk result F
next_is F line (Ok None) result is made misplaced strange = subst (λ (r : Result Next AllocError). IfOk r F) (sym is) (made refl)
next_is F line (Ok (Some why)) result is made misplaced strange = never F result (misplaced why refl)
next_is F line (Err halt.Strange) result is made misplaced strange = never F result (strange refl)
next_is F line (Err halt.Memory) (Ok value) is made misplaced strange = absurd (cc is)
next_is F line (Err halt.Memory) (Err fault) is made misplaced strange = tt

pub next_tells : (T : Type 0) (line : ℕ) (played : Played) (result : Result Next AllocError) → IsNextAfter line played result → (played ≢ Err halt.Memory → T) → IfOk result (λ n. T)
next_tells T line played (Err fault) is tells = tt
next_tells T line (Ok why) (Ok value) is tells = tells (λ memory. absurd (cc memory))
next_tells T line (Err halt.Strange) (Ok value) is tells = tells (λ memory. absurd (cc memory))
next_tells T line (Err halt.Memory) (Ok value) is tells = absurd (cc is)

pub if_ok : {T E : Type 0} (F G : T → Type 0) (result : Result T E) → ((value : T) → F value → G value) → IfOk result F → IfOk result G
if_ok F G (Ok value) each holds = each value holds
if_ok F G (Err fault) each holds = tt

-- ---- all turns

few : (n entries : ℕ) → n ≤ entries + 1 → entries ≤ 1048576 → n ≡ 2 ^ 32 - 1 → ⊥
few n entries most room is = omega (arith, most, room, is)

-- a history has fewer turns than there are numbers of lines
pub turns_are_few : (session : Session) (history : List Entry) (parting : Parting) (made : ℕ) (book : BookView) (replay : ReplayView) → HasReplayed session history parting made book replay → length book.entries ≤ most_entries → made ≡ 2 ^ 32 - 1
    → IsBeyond session history parting book
turns_are_few session history parting made book replay (inl along) room all =
    let many : made ≡ length book.entries = along.many ∙ ap length (sym along.come.entries) in
    absurd (few made (length book.entries) (omega (arith, many)) room all)
turns_are_few session history parting made book replay (inr beyond) room all = beyond

-- a builder that told no text more after two calls has told none in the first
pub told_same : (told mid tells : List Name) → TellsOn told mid → TellsOn mid tells → tells ≡ told → mid ≡ told
told_same told mid tells (inl same) then is = same
told_same told mid tells (inr less) (inl same) is =
    let all : length mid ≡ length told = ap length (sym same ∙ is) in
    absurd (omega (arith, less, all))
told_same told mid tells (inr less) (inr more) is =
    let all : length tells ≡ length told = ap length is in
    absurd (omega (arith, less, more, all))

pub all_played : (session : Session) (history : List Entry) (parting : Parting) (made : ℕ) (told tells : List Name) (book : BookView) (replay : ReplayView) (n : Next) → n ≡ next.End → IsNextOfReplay session history parting made told tells book replay n
    → IsReplayed session history parting None book replay.seats
all_played session history parting made told tells book replay next.Played is came = absurd (cc is)
all_played session history parting made told tells book replay next.End is (inl swept) = inl (record { none = refl; swept = swept })
all_played session history parting made told tells book replay next.End is (inr beyond) = inr beyond
all_played session history parting made told tells book replay (next.Wrong mistake) is came = absurd (cc is)

pub mistake_found : (session : Session) (history : List Entry) (parting : Parting) (made : ℕ) (told tells : List Name) (book : BookView) (replay : ReplayView) (n : Next) (mistake : Mistake) → n ≡ next.Wrong mistake
    → IsNextOfReplay session history parting made told tells book replay n → IsReplayed session history parting (Some mistake) book replay.seats
mistake_found session history parting made told tells book replay n mistake is came =
    inr (subst (λ (m : Next). IsNextOfReplay session history parting made told tells book replay m) is came)

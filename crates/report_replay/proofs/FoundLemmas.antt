-- What is found next in a report, where some of its turns have been played beside those of a legal history.
use Rattle.std.proofs.Common.{◌≡◌, ◌≢◌, ◌⊎◌, ℕ, List, [], ◌∷◌, ◌++◌, All, Bool, true, false, Some, refl, sym, ap, ◌∙◌, subst, inl, inr, append_assoc, append-nil}
use Rattle.std.proofs.lemmas.Bool.{cond-true, cond-false}
use Rattle.std.proofs.lemmas.List.Elements.{All-cons, All-head, All-nil, All-tail}
use Rattle.call_journal.specs.declared.entry.Entry.{Entry}
use Rattle.session_lines.specs.Lines.{lines_of}
use Rattle.session_lines.specs.declared.session.Session.{Session}
use Rattle.completion_law.specs.xds_history.Responses.{refused_in}
use Rattle.completion_law.specs.xds_history.Setting.{setting_of}
use Rattle.replay_steps.specs.legal_history.Legal.{Legal}
use Rattle.alike_law.specs.listed_patterns.ListedPatterns.{listed_from, listed_in}
use Rattle.listed_law.proofs.ListedProofs.{listed_of_legal}
use Rattle.alike_law.specs.AlikeTexts.{ListsAlike, Parting}
use Rattle.report_turns.specs.TurnLines.{EntryPlace, Finding, Next, end, entry, finding_at, goes_on, next_of, turn_place}
use Rattle.report_turns.specs.declared.entry_turns.EntryTurn.{EntryTurn}
use Rattle.alike_law.specs.turn_law.TurnLaw.{IsTurn, place_of}
use Rattle.alike_law.proofs.turn_law.InTurnProofs.{entries_in_turn}
use Rattle.turn_player.specs.xds_book.BookViews.{BookView}
use Rattle.report_replay.specs.ReplayedTurns.{HasReplayed, IsAlong, IsBeyond, IsTurnIn, ReplayView, lines_left}

-- ---- the oldest of the entries that are left

record HasOldest (later : List Entry) : Type 0 where
  front : List Entry
  oldest : Entry
  is : later ≡ front ++ oldest ∷ []

oldest_of : (e : Entry) (later : List Entry) → HasOldest (e ∷ later)
oldest_of e [] = record { front = []; oldest = e; is = refl }
oldest_of e (other ∷ later) =
    let rest : HasOldest (other ∷ later) = oldest_of other later in
    record { front = e ∷ rest.front; oldest = rest.oldest; is = ap (λ (es : List Entry). e ∷ es) rest.is }

has_oldest : (later : List Entry) → later ≢ [] → HasOldest later
has_oldest [] left = absurd (left refl)
has_oldest (e ∷ later) left = oldest_of e later

whole_by : (history later past : List Entry) (has : HasOldest later) → later ++ past ≡ history → has.front ++ has.oldest ∷ past ≡ history
whole_by history later past has whole = sym (append_assoc has.front (has.oldest ∷ []) past) ∙ (ap (λ (es : List Entry). es ++ past) (sym has.is) ∙ whole)

-- its turn is found next
next_by : (session : Session) (history later past : List Entry) (has : HasOldest later) → All IsTurn history → later ++ past ≡ history
    → next_of (lines_left session later past) ≡ record { finding = entry (place_of has.oldest); behind = lines_left session has.front (has.oldest ∷ past) }
next_by session history later past has turns whole =
    let read = entries_in_turn (setting_of session.boot session.target) session.boot.authorities history turns in
    ap (λ (es : List Entry). next_of (lines_left session es past)) has.is ∙ read.next has.front has.oldest past (whole_by history later past has whole)

-- ---- the first of some lines that doesn't go on

abbrev pub GoOn : List (List ℕ) → Type 0
GoOn lines = All (λ (line : List ℕ). goes_on line ≡ true) lines

record HasTurnLine (lines : List (List ℕ)) : Type 0 where
  front : List (List ℕ)
  line : List ℕ
  back : List (List ℕ)
  is : lines ≡ front ++ line ∷ back
  on : GoOn front
  off : goes_on line ≡ false

behind_on : (line : List ℕ) (lines : List (List ℕ)) → goes_on line ≡ true → GoOn lines ⊎ HasTurnLine lines → GoOn (line ∷ lines) ⊎ HasTurnLine (line ∷ lines)
behind_on line lines is (inl on) = inl (All-cons (λ (l : List ℕ). goes_on l ≡ true) line lines is on)
behind_on line lines is (inr has) =
    inr (record {
      front = line ∷ has.front;
      line = has.line;
      back = has.back;
      is = ap (λ (ls : List (List ℕ)). line ∷ ls) has.is;
      on = All-cons (λ (l : List ℕ). goes_on l ≡ true) line has.front is has.on;
      off = has.off;
    })

by_line : (line : List ℕ) (lines : List (List ℕ)) (b : Bool) → goes_on line ≡ b → GoOn lines ⊎ HasTurnLine lines → GoOn (line ∷ lines) ⊎ HasTurnLine (line ∷ lines)
by_line line lines true is rest = behind_on line lines is rest
by_line line lines false is rest = inr (record { front = []; line = line; back = lines; is = refl; on = All-nil (λ (l : List ℕ). goes_on l ≡ true); off = is })

all_or_one : (lines : List (List ℕ)) → GoOn lines ⊎ HasTurnLine lines
all_or_one [] = inl (All-nil (λ (l : List ℕ). goes_on l ≡ true))
all_or_one (line ∷ lines) = by_line line lines (goes_on line) refl (all_or_one lines)

-- it is found next
next_behind : (front : List (List ℕ)) (line : List ℕ) (back : List (List ℕ)) → GoOn front → goes_on line ≡ false → next_of (front ++ line ∷ back) ≡ record { finding = finding_at line; behind = back }
next_behind [] line back on off = cond-false (goes_on line) (next_of back) (record { finding = finding_at line; behind = back }) off
next_behind (first ∷ front) line back on off =
    cond-true (goes_on first) (next_of (front ++ line ∷ back)) (record { finding = finding_at first; behind = front ++ line ∷ back }) (All-head (λ (l : List ℕ). goes_on l ≡ true) first front on)
    ∙ next_behind front line back (All-tail (λ (l : List ℕ). goes_on l ≡ true) first front on) off

next_in : (lines rest : List (List ℕ)) (has : HasTurnLine lines) → next_of (lines ++ rest) ≡ record { finding = finding_at has.line; behind = has.back ++ rest }
next_in lines rest has =
    ap (λ (ls : List (List ℕ)). next_of (ls ++ rest)) has.is
    ∙ (ap next_of (append_assoc has.front (has.line ∷ has.back) rest) ∙ next_behind has.front has.line (has.back ++ rest) has.on has.off)

-- ---- what is found

one_place : (a b : EntryPlace) → entry a ≡ entry b → a ≡ b
one_place a b is = cc is

-- where no common line is one of an entry, the common lines are behind
along_beyond : (session : Session) (history : List Entry) (parting : Parting) (made : ℕ) (book : BookView) (replay : ReplayView) (along : IsAlong session history parting made book replay) → GoOn along.common → IsBeyond session history parting book
along_beyond session history parting made book replay along on = record {
  later = along.later;
  past = along.past;
  whole = along.whole;
  left = along.left;
  more = [];
  entries = along.come.entries;
  before = along.before;
  common = along.common;
  split = along.split;
  legal_are = along.legal_are;
  on = on;
}

-- what is found in the common lines is the oldest of the entries that are left
record IsFoundAlong (session : Session) (parting : Parting) (replay : ReplayView) (past later : List Entry) (has : HasOldest later) (common : List (List ℕ)) (line : HasTurnLine common) : Type 0 where
  finding : (next_of replay.lines).finding ≡ entry (place_of has.oldest)
  behind : (next_of replay.lines).behind ≡ line.back ++ parting.one
  legal : line.back ++ parting.other ≡ lines_left session has.front (has.oldest ∷ past)

found_along : (session : Session) (history : List Entry) (parting : Parting) (made : ℕ) (book : BookView) (replay : ReplayView) (along : IsAlong session history parting made book replay) (has : HasOldest along.later) (line : HasTurnLine along.common)
    → All IsTurn history → IsFoundAlong session parting replay along.past along.later has along.common line
found_along session history parting made book replay along has line turns =
    let next = next_by session history along.later along.past has turns along.whole in
    let ours = ap next_of along.lines_are ∙ next_in along.common parting.one line in
    let theirs = ap next_of along.legal_are ∙ next_in along.common parting.other line in
    record {
      finding = ap (λ (n : Next). n.finding) ours ∙ ap (λ (n : Next). n.finding) (sym theirs ∙ next);
      behind = ap (λ (n : Next). n.behind) ours;
      legal = ap (λ (n : Next). n.behind) (sym theirs ∙ next);
    }

-- the lines behind it list what that entry refused
listed_along : (session : Session) (history : List Entry) (parting : Parting) (made : ℕ) (book : BookView) (replay : ReplayView) (along : IsAlong session history parting made book replay) (has : HasOldest along.later) (line : HasTurnLine along.common)
    (more : List ℕ) → Legal session history → ListsAlike parting → lines_of more ≡ line.back ++ parting.one → line.back ++ parting.other ≡ lines_left session has.front (has.oldest ∷ along.past)
    → parting.common ≡ (along.before ++ line.front) ++ line.line ∷ line.back → listed_in more ≡ Some (refused_in has.oldest.what)
unfolding listed_in
listed_along session history parting made book replay along has line more legal alike ours theirs split =
    ap listed_from ours
    ∙ (alike (along.before ++ line.front) line.back line.line split line.off
    ∙ (ap listed_from theirs
    ∙ listed_of_legal session has.front along.past has.oldest
    (subst (λ (es : List Entry). Legal session es) (sym (whole_by history along.later along.past has along.whole)) legal)))

entry_along : (session : Session) (history : List Entry) (parting : Parting) (made : ℕ) (book : BookView) (replay : ReplayView) (turn : EntryTurn) (lines : List (List ℕ)) (along : IsAlong session history parting made book replay)
    → GoOn along.common ⊎ HasTurnLine along.common → Legal session history → All IsTurn history → ListsAlike parting → entry (turn_place turn) ≡ (next_of replay.lines).finding → lines ≡ (next_of replay.lines).behind
    → lines_of turn.more.now ≡ lines → IsTurnIn session history parting made turn book (record { plan = replay.plan; seats = replay.seats; lines = lines })
entry_along session history parting made book replay turn lines along (inl on) legal turns alike found left more = inr (along_beyond session history parting made book replay along on)
entry_along session history parting made book replay turn lines along (inr line) legal turns alike found left more =
    let has : HasOldest along.later = has_oldest along.later along.left in
    let at : IsFoundAlong session parting replay along.past along.later has along.common line = found_along session history parting made book replay along has line turns in
    let place : turn_place turn ≡ place_of has.oldest = one_place (turn_place turn) (place_of has.oldest) (found ∙ at.finding) in
    let split : parting.common ≡ (along.before ++ line.front) ++ line.line ∷ line.back =
    along.split ∙ (ap (λ (ls : List (List ℕ)). along.before ++ ls) line.is ∙ sym (append_assoc along.before line.front (line.line ∷ line.back))) in
    inl (record {
      later = has.front;
      entry = has.oldest;
      past = along.past;
      whole = whole_by history along.later along.past has along.whole;
      many = along.many;
      come = along.come;
      actor_is = ap (λ (p : EntryPlace). p.actor) place;
      line_is = ap (λ (p : EntryPlace). p.line) place;
      listed = listed_along session history parting made book replay along has line turn.more.now legal alike (more ∙ (left ∙ at.behind)) at.legal split;
      before = (along.before ++ line.front) ++ line.line ∷ [];
      common = line.back;
      split = split ∙ sym (append_assoc (along.before ++ line.front) (line.line ∷ []) line.back);
      lines_are = left ∙ at.behind;
      legal_are = sym at.legal;
    })

pub entry_found : (session : Session) (history : List Entry) (parting : Parting) (made : ℕ) (book : BookView) (replay : ReplayView) (turn : EntryTurn) (lines : List (List ℕ)) → Legal session history → All IsTurn history → ListsAlike parting
    → HasReplayed session history parting made book replay → entry (turn_place turn) ≡ (next_of replay.lines).finding → lines ≡ (next_of replay.lines).behind → lines_of turn.more.now ≡ lines
    → IsTurnIn session history parting made turn book (record { plan = replay.plan; seats = replay.seats; lines = lines })
entry_found session history parting made book replay turn lines legal turns alike (inl along) found left more =
    entry_along session history parting made book replay turn lines along (all_or_one along.common) legal turns alike found left more
entry_found session history parting made book replay turn lines legal turns alike (inr beyond) found left more = inr beyond

-- where no entry is found, the common lines are behind
none_along : (session : Session) (history : List Entry) (parting : Parting) (made : ℕ) (book : BookView) (replay : ReplayView) (finding : Finding) (along : IsAlong session history parting made book replay)
    → GoOn along.common ⊎ HasTurnLine along.common → All IsTurn history → finding ≡ (next_of replay.lines).finding → ((place : EntryPlace) → finding ≡ entry place → ⊥) → IsBeyond session history parting book
none_along session history parting made book replay finding along (inl on) turns found none = along_beyond session history parting made book replay along on
none_along session history parting made book replay finding along (inr line) turns found none =
    let has : HasOldest along.later = has_oldest along.later along.left in
    absurd (none (place_of has.oldest) (found ∙ (found_along session history parting made book replay along has line turns).finding))

pub none_found : (session : Session) (history : List Entry) (parting : Parting) (made : ℕ) (book : BookView) (replay : ReplayView) (finding : Finding) → All IsTurn history → HasReplayed session history parting made book replay
    → finding ≡ (next_of replay.lines).finding → ((place : EntryPlace) → finding ≡ entry place → ⊥) → IsBeyond session history parting book
none_found session history parting made book replay finding turns (inl along) found none = none_along session history parting made book replay finding along (all_or_one along.common) turns found none
none_found session history parting made book replay finding turns (inr beyond) found none = beyond

-- ---- the report of a legal history

-- in lines that go on no entry is found
next_on : (lines : List (List ℕ)) → GoOn lines → (next_of lines).finding ≡ end
next_on [] on = refl
next_on (line ∷ lines) on =
    ap (λ (n : Next). n.finding) (cond-true (goes_on line) (next_of lines) (record { finding = finding_at line; behind = lines }) (All-head (λ (l : List ℕ). goes_on l ≡ true) line lines on))
    ∙ next_on lines (All-tail (λ (l : List ℕ). goes_on l ≡ true) line lines on)

entry_end : (place : EntryPlace) → entry place ≡ end → ⊥
entry_end place is = absurd (cc is)

on_to_entry : (session : Session) (history later past : List Entry) (lines : List (List ℕ)) → later ++ past ≡ history → later ≢ [] → All IsTurn history → lines_left session later past ≡ lines → GoOn lines → ⊥
on_to_entry session history later past lines whole left turns is on =
    let has : HasOldest later = has_oldest later left in
    entry_end (place_of has.oldest) (sym (ap (λ (n : Next). n.finding) (next_by session history later past has turns whole)) ∙ (ap (λ (ls : List (List ℕ)). (next_of ls).finding) is ∙ next_on lines on))

-- where entries are left, lines are
pub no_entry : (session : Session) (history : List Entry) → history ≢ [] → All IsTurn history → lines_left session history [] ≡ [] → ⊥
no_entry session history left turns is = on_to_entry session history history [] [] (append-nil history) left turns is (All-nil (λ (l : List ℕ). goes_on l ≡ true))

-- where all lines are common, they are never behind
pub not_beyond : (session : Session) (history : List Entry) (parting : Parting) (book : BookView) → IsBeyond session history parting book → parting.other ≡ [] → All IsTurn history → ⊥
not_beyond session history parting book beyond none turns =
    on_to_entry session history beyond.later beyond.past beyond.common beyond.whole beyond.left turns
    (beyond.legal_are ∙ (ap (λ (ls : List (List ℕ)). beyond.common ++ ls) none ∙ append-nil beyond.common)) beyond.on

-- The next entry of two lists that play one session: its actor, its line and its event.
use Rattle.std.proofs.Common.{◌≡◌, ℕ, zero, suc, ◌≤◌, List, [], ◌∷◌, ◌++◌, map, All, Bool, true, eqb, eq-eqb, Option, Some, None, is_some, refl, sym, ap, ◌∙◌, subst, inl, inr, arith}
use Rattle.std.proofs.lemmas.Bool.{cond-true}
use Rattle.std.proofs.lemmas.List.Elements.{All-append, All-cons, All-head, All-nil, All-tail, filter-append}
use Rattle.call_journal.specs.declared.event.CallerEvent.{CallerEvent}
use Rattle.call_journal.specs.declared.event.DriverEvent.{DriverEvent}
use Rattle.call_journal.specs.declared.entry.Entry.{Entry}
use Rattle.session_script.specs.Plan.{ActEvents, AreListed, ArePlayed, Listed, WorkEvents, all, caller_event, driver_event, driver_list, entries_by, entry_event, lines_by, listed_event, next, none_up}
use Rattle.session_lines.specs.declared.session.Act.{Act}
use Rattle.session_lines.specs.declared.session.Act.TheVariants as act
use Rattle.session_lines.specs.declared.session.Work.{Work}
use Rattle.session_lines.specs.declared.session.Work.TheVariants as work
use Rattle.session_lines.specs.declared.session.Line.{Line}
use Rattle.legal_history.specs.Legal.{AreStarted}
use Rattle.text_law.proofs.ListedLemmas.{Same, called_next, mapped_next}

-- ---- one in the middle

pub middle : {X : Type 0} (P : X → Type 0) (p es : List X) (e : X) → All P (p ++ e ∷ es) → P e
middle P [] es e h = All-head P e es h
middle P (x ∷ xs) es e h = middle P xs es e (All-tail P x (xs ++ e ∷ es) h)

by_here : (actor : ℕ) (e : Entry) (es : List Entry) → e.actor ≡ actor → entries_by actor (e ∷ es) ≡ e ∷ entries_by actor es
by_here actor e es is = cond-true _ _ _ (eq-eqb e.actor actor is)

-- the entries of an actor, where one of its own stands in the middle
pub by_middle : (actor : ℕ) (p es : List Entry) (e : Entry) → e.actor ≡ actor → entries_by actor (p ++ e ∷ es) ≡ entries_by actor p ++ e ∷ entries_by actor es
by_middle actor p es e is =
    filter-append (λ entry. eqb entry.actor actor) p (e ∷ es) ∙ ap (λ (l : List Entry). entries_by actor p ++ l) (by_here actor e es is)

-- ---- who plays what

-- whether an entry is a caller's
abbrev is_called : Entry → Bool
is_called e = is_some (caller_event e.what)

abbrev Called : Entry → Type 0
Called e = is_some (caller_event e.what) ≡ true

called_one : (event : CallerEvent) (now : List Entry) → map (λ entry. caller_event entry.what) now ≡ Some event ∷ [] → All Called now
called_one event [] is = All-nil Called
called_one event (e ∷ []) is = All-cons Called e [] (let k : caller_event e.what ≡ Some event = cc is in ap is_some k) (All-nil Called)
called_one event (e ∷ f ∷ es) is = absurd (cc is)

called_two : (event last : CallerEvent) (now : List Entry) → map (λ entry. caller_event entry.what) now ≡ Some event ∷ Some last ∷ [] → All Called now
called_two event last [] is = All-nil Called
called_two event last (e ∷ es) is = All-cons Called e es (let k : caller_event e.what ≡ Some event = cc is in ap is_some k) (called_one last es (cc is))

called_act : (what : Act) (now : List Entry) → ActEvents what (map (λ entry. caller_event entry.what) now) → All Called now
called_act (act.Start call) now (inl is) = called_one _ now is
called_act (act.Start call) now (inr is) = called_two _ _ now is
called_act (act.Pick id word) now is = called_one _ now is
called_act (act.Commit id) now is = called_one _ now is

called_work : (w : Work) (now : List Entry) → WorkEvents w (map (λ entry. caller_event entry.what) now) → All Called now
called_work (work.Driver what) now h = absurd h
called_work (work.Caller caller what) now h = called_act what now h

all_called : (lines : List Line) (xs : List Entry) → ArePlayed lines xs → All Called xs
all_called [] _ all = All-nil Called
all_called (line ∷ lines) _ (next _ _ now later numbers events rest) = All-append Called now later (called_work line.work now events) (all_called lines later rest)

-- the driver's entries have events of the driver
driven_at : (p es : List Entry) (e : Entry) (ls : List Listed) → map entry_event (p ++ e ∷ es) ≡ map listed_event ls → is_some (driver_event e.what) ≡ true
driven_at [] es e [] is = absurd (cc is)
driven_at [] es e (l ∷ ls) is =
    let k : entry_event e ≡ listed_event l = cc is in
    ap (λ (x : ℕ × Option DriverEvent). is_some x.1) k
driven_at (x ∷ xs) es e [] is = absurd (cc is)
driven_at (x ∷ xs) es e (l ∷ ls) is =
    let k : map entry_event (xs ++ e ∷ es) ≡ map listed_event ls = cc is in
    driven_at xs es e ls k

module _ (readable : List ℕ → Bool) (callers : ℕ) (lines : List Line) where
  -- the first actor is the driver
  first_drives : (p es : List Entry) (e : Entry) → AreListed readable callers lines (p ++ e ∷ es) → e.actor ≡ 0 → is_some (driver_event e.what) ≡ true
  first_drives p es e h is =
      driven_at (entries_by 0 p) (entries_by 0 es) e (driver_list readable none_up lines) (ap (map entry_event) (sym (by_middle 0 p es e is)) ∙ h.driver)

  -- the others call
  others_call : (p es : List Entry) (e : Entry) → AreListed readable callers lines (p ++ e ∷ es) → 1 ≤ e.actor → is_some (caller_event e.what) ≡ true
  others_call p es e h some =
      let few : e.actor ≤ callers = middle (λ entry. entry.actor ≤ callers) p es e h.actors in
      let plays : ArePlayed (lines_by e.actor lines) (entries_by e.actor p ++ e ∷ entries_by e.actor es) =
      subst (λ (l : List Entry). ArePlayed (lines_by e.actor lines) l) (by_middle e.actor p es e refl) (h.each_caller e.actor some few) in
      middle Called (entries_by e.actor p) (entries_by e.actor es) e (all_called _ _ plays)

  pub actor_few : (p es : List Entry) (e : Entry) → AreListed readable callers lines (p ++ e ∷ es) → e.actor ≤ callers
  actor_few p es e h = middle (λ entry. entry.actor ≤ callers) p es e h.actors

  -- the driver's next entry
  pub driver_next : (p es fs : List Entry) (e f : Entry) → AreListed readable callers lines (p ++ e ∷ es) → AreListed readable callers lines (p ++ f ∷ fs)
      → e.actor ≡ 0 → f.actor ≡ 0 → entry_event e ≡ entry_event f
  driver_next p es fs e f h k is so =
      mapped_next entry_event (entries_by 0 p) (entries_by 0 es) (entries_by 0 fs) e f
      (ap (map entry_event) (sym (by_middle 0 p es e is)) ∙ (h.driver ∙ (sym k.driver ∙ ap (map entry_event) (by_middle 0 p fs f so))))

  -- a caller's next entry
  pub caller_next : (p es fs : List Entry) (e f : Entry) → AreListed readable callers lines (p ++ e ∷ es) → AreListed readable callers lines (p ++ f ∷ fs)
      → ((c : ℕ) → AreStarted (entries_by c (p ++ e ∷ es))) → ((c : ℕ) → AreStarted (entries_by c (p ++ f ∷ fs))) → 1 ≤ e.actor → f.actor ≡ e.actor → Same e f
  caller_next p es fs e f h k s t some is =
      let few : e.actor ≤ callers = middle (λ entry. entry.actor ≤ callers) p es e h.actors in
      called_next (lines_by e.actor lines) (entries_by e.actor (p ++ e ∷ es)) (entries_by e.actor (p ++ f ∷ fs)) (h.each_caller e.actor some few) (k.each_caller e.actor some few)
      (entries_by e.actor p) e f (entries_by e.actor es) (entries_by e.actor fs) (by_middle e.actor p es e refl) (by_middle e.actor p fs f is) (s e.actor) (t e.actor)

  -- an entry of the driver is the first actor's, and one of a caller another's
  pub driver_is_first : (p es : List Entry) (e : Entry) (n : ℕ) → e.actor ≡ n → caller_event e.what ≡ None → AreListed readable callers lines (p ++ e ∷ es) → e.actor ≡ 0
  driver_is_first p es e zero is none h = is
  driver_is_first p es e (suc n) is none h =
      let k : is_some (caller_event e.what) ≡ true = others_call p es e h (omega (arith, is)) in
      absurd (cc (k, none))

  pub caller_is_other : (p es : List Entry) (e : Entry) (n : ℕ) → e.actor ≡ n → driver_event e.what ≡ None → AreListed readable callers lines (p ++ e ∷ es) → 1 ≤ e.actor
  caller_is_other p es e zero is none h =
      let k : is_some (driver_event e.what) ≡ true = first_drives p es e h is in
      absurd (cc (k, none))
  caller_is_other p es e (suc n) is none h = omega (arith, is)

-- The entries of a caller.
use Rattle.std.proofs.Common.{◌≡◌, ℕ, suc, List, [], ◌∷◌, ◌++◌, map, All, true, false, Option, Some, None, refl, sym, ◌∙◌, subst, ap, ap₂, inl, inr}
use Rattle.xc_base.specs.declared.call.Call.{Call}
use Rattle.call_journal.specs.declared.entry.Entry.{Entry}
use Rattle.session_script.specs.Plan.{ActEvents, ArePlayed, WorkEvents, next, caller_event, is_of_caller}
use Rattle.call_journal.specs.declared.entry.What.{What}
use Rattle.std.proofs.lemmas.List.Elements.{All-cons, All-head, All-nil, All-tail}
use Rattle.session_script.specs.Plan as plan
use Rattle.session_lines.specs.declared.session.Act.{Act}
use Rattle.session_lines.specs.declared.session.Act.TheVariants as act
use Rattle.session_lines.specs.declared.session.Work.{Work}
use Rattle.session_lines.specs.declared.session.Work.TheVariants as work
use Rattle.session_lines.specs.declared.session.Line.{Line}
use Rattle.session_plan.specs.PlanOfSession.{act_event, events_in, events_on}
use Rattle.session_plan.specs.PlayedEvents.{IsOne, IsPin, IsHold, Plays, all, one, pin, start}

act_one : (what : Act) (w : What) → IsOne (act_event what) w → ActEvents what (caller_event w ∷ [])
act_one (act.Start call) w h = absurd h
act_one (act.Pick id word) w h = ap (λ x. x ∷ []) h
act_one (act.Commit id) w h = ap (λ x. x ∷ []) h

act_pin : (what : Act) (w : What) → IsPin (act_event what) w false → ActEvents what (caller_event w ∷ [])
act_pin (act.Start call) w h = inl (cc (h.start, h.pin))
act_pin (act.Pick id word) w h = absurd (cc h.start)
act_pin (act.Commit id) w h = absurd (cc h.start)

act_start : (what : Act) (w v : What) → IsPin (act_event what) w true → IsHold (act_event what) v → ActEvents what (caller_event w ∷ caller_event v ∷ [])
act_start (act.Start call) w v h k = inr (cc (h.start, h.pin, k.start, k.hold))
act_start (act.Pick id word) w v h k = absurd (cc h.start)
act_start (act.Commit id) w v h k = absurd (cc h.start)

-- one line and then the others
line_played : (caller number : ℕ) (gate : Option ℕ) (w : Work) (lines : List Line) (es : List Entry) → is_of_caller caller w ≡ true
    → Plays (events_on (record { number = number; gate = gate; work = w }) w ++ events_in lines) es
    → ((later : List Entry) → Plays (events_in lines) later → ArePlayed lines later)
    → ArePlayed (record { number = number; gate = gate; work = w } ∷ lines) es
line_played caller number gate (work.Driver what) lines es is h others = absurd (cc is)
line_played caller number gate (work.Caller other what) lines _ is (one _ _ e es line event rest) others =
    next _ lines (e ∷ []) es (All-cons (λ (x : Entry). x.line ≡ number) e [] line (All-nil (λ (x : Entry). x.line ≡ number))) (act_one what e.what event) (others es rest)
line_played caller number gate (work.Caller other what) lines _ is (pin _ _ e es line event rest) others =
    next _ lines (e ∷ []) es (All-cons (λ (x : Entry). x.line ≡ number) e [] line (All-nil (λ (x : Entry). x.line ≡ number))) (act_pin what e.what event) (others es rest)
line_played caller number gate (work.Caller other what) lines _ is (start _ _ e f es line event again hold rest) others =
    next _ lines (e ∷ f ∷ []) es (All-cons (λ (x : Entry). x.line ≡ number) e (f ∷ []) line (All-cons (λ (x : Entry). x.line ≡ number) f [] again (All-nil (λ (x : Entry). x.line ≡ number)))) (act_start what e.what f.what event hold) (others es rest)

-- the entries that play the events of a caller's lines play the lines
pub caller_plays : (caller : ℕ) (lines : List Line) (es : List Entry) → All (λ line. is_of_caller caller line.work ≡ true) lines
    → Plays (events_in lines) es → ArePlayed lines es
caller_plays caller [] _ passes all = plan.all
caller_plays caller (line ∷ lines) es passes h =
    line_played caller line.number line.gate line.work lines es (All-head (λ (x : Line). is_of_caller caller x.work ≡ true) line lines passes) h
    (λ later rest. caller_plays caller lines later (All-tail (λ (x : Line). is_of_caller caller x.work ≡ true) line lines passes) rest)

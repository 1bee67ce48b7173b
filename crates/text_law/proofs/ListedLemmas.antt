-- The next entry of an actor is the same in two lists of what it plays, where what came before is.
use Rattle.std.proofs.Common.{◌≡◌, ℕ, List, [], ◌∷◌, ◌++◌, map, All, true, false, Option, Some, refl, sym, ◌∙◌, subst, inl, inr}
use Rattle.std.proofs.lemmas.List.Elements.{All-head, All-tail}
use Rattle.xc_base.specs.declared.call.Call.{Call}
use Rattle.call_journal.specs.declared.event.CallerEvent.{CallerEvent}
use Rattle.call_journal.specs.declared.reply.CallerReply.{CallerReply}
use Rattle.call_journal.specs.declared.entry.Entry.{Entry}
use Rattle.call_journal.specs.declared.entry.What.{What}
use Rattle.session_script.specs.Plan.{ActEvents, ArePlayed, WorkEvents, all, caller_event, next}
use Rattle.session_lines.specs.declared.session.Act.{Act}
use Rattle.session_lines.specs.declared.session.Act.TheVariants as act
use Rattle.session_lines.specs.declared.session.Work.{Work}
use Rattle.session_lines.specs.declared.session.Work.TheVariants as work
use Rattle.session_lines.specs.declared.session.Line.{Line}
use Rattle.legal_history.specs.Legal.{AreStarted, IsStarted, begins_with_hold, is_hold}

-- ---- the driver

pub mapped_next : {X Y : Type 0} (f : X → Y) (p es fs : List X) (e g : X) → map f (p ++ e ∷ es) ≡ map f (p ++ g ∷ fs) → f e ≡ f g
mapped_next f [] es fs e g is = cc is
mapped_next f (x ∷ xs) es fs e g is =
    let rest : map f (xs ++ e ∷ es) ≡ map f (xs ++ g ∷ fs) = cc is in
    mapped_next f xs es fs e g rest

-- ---- words

-- what a caller's entry plays
abbrev played : Entry → Option CallerEvent
played e = caller_event e.what

abbrev pub Same : Entry → Entry → Type 0
Same e f = (e.line ≡ f.line) × (caller_event e.what ≡ caller_event f.what)

-- behind one beginning the next entries are alike
abbrev Goes : List Entry → List Entry → Type 0
Goes xs ys = (p : List Entry) (e f : Entry) (es fs : List Entry) → xs ≡ p ++ e ∷ es → ys ≡ p ++ f ∷ fs → AreStarted xs → AreStarted ys → Same e f

abbrev OnLine : ℕ → List Entry → Type 0
OnLine number entries = All (λ entry. entry.line ≡ number) entries

abbrev line_is : ℕ → Entry → Type 0
line_is number entry = entry.line ≡ number

-- ---- starts

two_starts : (w : What) (call : Call) (later more : List Entry) → caller_event w ≡ Some (CallerEvent.Pin call) → IsStarted w later → IsStarted w more → begins_with_hold later ≡ begins_with_hold more
two_starts (What.Driver event reply) call later more is h k = absurd (cc is)
two_starts (What.Caller (CallerEvent.Pin started) reply) call later more is h k = h ∙ sym k
two_starts (What.Caller (CallerEvent.Hold started) reply) call later more is h k = absurd (cc is)
two_starts (What.Caller (CallerEvent.Pick id word) reply) call later more is h k = absurd (cc is)
two_starts (What.Caller (CallerEvent.Commit id) reply) call later more is h k = absurd (cc is)

holds : (w : What) (call : Call) → caller_event w ≡ Some (CallerEvent.Hold call) → is_hold w ≡ true
holds (What.Driver event reply) call is = absurd (cc is)
holds (What.Caller (CallerEvent.Pin started) reply) call is = absurd (cc is)
holds (What.Caller (CallerEvent.Hold started) reply) call is = refl
holds (What.Caller (CallerEvent.Pick id word) reply) call is = absurd (cc is)
holds (What.Caller (CallerEvent.Commit id) reply) call is = absurd (cc is)

no_hold_in : (w : What) (event : CallerEvent) → caller_event w ≡ Some event → is_hold (What.Caller event CallerReply.Released) ≡ false → is_hold w ≡ false
no_hold_in (What.Driver event reply) made is h = absurd (cc is)
no_hold_in (What.Caller (CallerEvent.Pin started) reply) made is h = refl
no_hold_in (What.Caller (CallerEvent.Hold started) reply) made is h =
    let same : CallerEvent.Hold started ≡ made = cc is in
    absurd (let k : is_hold (What.Caller (CallerEvent.Hold started) CallerReply.Released) ≡ false = subst (λ (v : CallerEvent). is_hold (What.Caller v CallerReply.Released) ≡ false) (sym same) h in cc k)
no_hold_in (What.Caller (CallerEvent.Pick id word) reply) made is h = refl
no_hold_in (What.Caller (CallerEvent.Commit id) reply) made is h = refl

no_hold_first : (event : CallerEvent) (now later : List Entry) (events : List (Option CallerEvent)) → is_hold (What.Caller event CallerReply.Released) ≡ false
    → map (λ entry. caller_event entry.what) now ≡ Some event ∷ events → begins_with_hold (now ++ later) ≡ false
no_hold_first event [] later events h is = absurd (cc is)
no_hold_first event (e ∷ es) later events h is = no_hold_in e.what event (cc is) h

no_hold_act : (what : Act) (now later : List Entry) → ActEvents what (map (λ entry. caller_event entry.what) now) → begins_with_hold (now ++ later) ≡ false
no_hold_act (act.Start call) now later (inl is) = no_hold_first (CallerEvent.Pin call) now later _ refl is
no_hold_act (act.Start call) now later (inr is) = no_hold_first (CallerEvent.Pin call) now later _ refl is
no_hold_act (act.Pick id word) now later is = no_hold_first (CallerEvent.Pick id word) now later _ refl is
no_hold_act (act.Commit id) now later is = no_hold_first (CallerEvent.Commit id) now later _ refl is

no_hold_work : (w : Work) (now later : List Entry) → WorkEvents w (map (λ entry. caller_event entry.what) now) → begins_with_hold (now ++ later) ≡ false
no_hold_work (work.Driver what) now later h = absurd h
no_hold_work (work.Caller caller what) now later h = no_hold_act what now later h

-- what a caller plays begins with no hold
no_hold : (lines : List Line) (xs : List Entry) → ArePlayed lines xs → begins_with_hold xs ≡ false
no_hold _ _ all = refl
no_hold _ _ (next line more now later numbers events rest) = no_hold_work line.work now later events

-- ---- a line of one entry

one_line : (number : ℕ) (event : CallerEvent) (now then later more : List Entry) → OnLine number now → OnLine number then
    → map (λ entry. caller_event entry.what) now ≡ Some event ∷ [] → map (λ entry. caller_event entry.what) then ≡ Some event ∷ [] → Goes later more → Goes (now ++ later) (then ++ more)
one_line number event [] then later more n m h k goes p e f es fs x y s t = absurd (cc h)
one_line number event (a ∷ b ∷ cs) then later more n m h k goes p e f es fs x y s t = absurd (cc h)
one_line number event (a ∷ []) [] later more n m h k goes p e f es fs x y s t = absurd (cc k)
one_line number event (a ∷ []) (b ∷ c ∷ cs) later more n m h k goes p e f es fs x y s t = absurd (cc k)
one_line number event (a ∷ []) (b ∷ []) later more n m h k goes [] e f es fs x y s t =
    let first : a ≡ e = cc x in
    let second : b ≡ f = cc y in
    let l : a.line ≡ number = All-head (line_is number) a [] n in
    let r : b.line ≡ number = All-head (line_is number) b [] m in
    (cc (first, second, l, r), cc (first, second, h, k))
one_line number event (a ∷ []) (b ∷ []) later more n m h k goes (q ∷ qs) e f es fs x y s t = goes qs e f es fs (cc x) (cc y) s.1 t.1

-- ---- a line of a pin and a hold

two_lines : (number : ℕ) (event last : CallerEvent) (now then later more : List Entry) → OnLine number now → OnLine number then
    → map (λ entry. caller_event entry.what) now ≡ Some event ∷ Some last ∷ [] → map (λ entry. caller_event entry.what) then ≡ Some event ∷ Some last ∷ [] → Goes later more → Goes (now ++ later) (then ++ more)
two_lines number event last [] then later more n m h k goes p e f es fs x y s t = absurd (cc h)
two_lines number event last (a ∷ rs) [] later more n m h k goes p e f es fs x y s t = absurd (cc k)
two_lines number event last (a ∷ rs) (b ∷ bs) later more n m h k goes [] e f es fs x y s t =
    let first : a ≡ e = cc x in
    let second : b ≡ f = cc y in
    let l : a.line ≡ number = All-head (line_is number) a rs n in
    let r : b.line ≡ number = All-head (line_is number) b bs m in
    (cc (first, second, l, r), cc (first, second, h, k))
two_lines number event last (a ∷ rs) (b ∷ bs) later more n m h k goes (q ∷ qs) e f es fs x y s t =
    one_line number last rs bs later more (All-tail (line_is number) a rs n) (All-tail (line_is number) b bs m) (cc h) (cc k) goes qs e f es fs (cc x) (cc y) s.1 t.1

-- ---- a pin alone, and a pin with its hold

pin_and_hold : (number : ℕ) (call : Call) (now then later more : List Entry) → OnLine number now → OnLine number then → begins_with_hold later ≡ false
    → map (λ entry. caller_event entry.what) now ≡ Some (CallerEvent.Pin call) ∷ [] → map (λ entry. caller_event entry.what) then ≡ Some (CallerEvent.Pin call) ∷ Some (CallerEvent.Hold call) ∷ []
    → (p : List Entry) (e f : Entry) (es fs : List Entry) → now ++ later ≡ p ++ e ∷ es → then ++ more ≡ p ++ f ∷ fs → AreStarted (now ++ later) → AreStarted (then ++ more) → Same e f
pin_and_hold number call [] then later more n m no_hold h k p e f es fs x y s t = absurd (cc h)
pin_and_hold number call (a ∷ b ∷ cs) then later more n m no_hold h k p e f es fs x y s t = absurd (cc h)
pin_and_hold number call (a ∷ []) [] later more n m no_hold h k p e f es fs x y s t = absurd (cc k)
pin_and_hold number call (a ∷ []) (b ∷ []) later more n m no_hold h k p e f es fs x y s t = absurd (cc k)
pin_and_hold number call (a ∷ []) (b ∷ c ∷ cs) later more n m no_hold h k [] e f es fs x y s t =
    let first : a ≡ e = cc x in
    let second : b ≡ f = cc y in
    let l : a.line ≡ number = All-head (line_is number) a [] n in
    let r : b.line ≡ number = All-head (line_is number) b (c ∷ cs) m in
    (cc (first, second, l, r), cc (first, second, h, k))
pin_and_hold number call (a ∷ []) (b ∷ c ∷ cs) later more n m no_hold h k (q ∷ qs) e f es fs x y s t =
    let same : b ≡ a = cc (x, y) in
    let other : IsStarted a.what (c ∷ (cs ++ more)) = subst (λ (z : Entry). IsStarted z.what (c ∷ (cs ++ more))) same t.0 in
    let both : begins_with_hold later ≡ is_hold c.what = two_starts a.what call later (c ∷ (cs ++ more)) (cc h) s.0 other in
    let hold : is_hold c.what ≡ true = holds c.what call (cc k) in
    absurd (cc (both, hold, no_hold))

-- ---- lines

swapped : (e f : Entry) → Same f e → Same e f
swapped e f h = (sym h.0, sym h.1)

act_next : (number : ℕ) (what : Act) (now then later more : List Entry) → OnLine number now → OnLine number then → begins_with_hold later ≡ false → begins_with_hold more ≡ false
    → ActEvents what (map (λ entry. caller_event entry.what) now) → ActEvents what (map (λ entry. caller_event entry.what) then) → Goes later more → Goes (now ++ later) (then ++ more)
act_next number (act.Start call) now then later more n m some none (inl h) (inl k) goes = one_line number (CallerEvent.Pin call) now then later more n m h k goes
act_next number (act.Start call) now then later more n m some none (inr h) (inr k) goes = two_lines number (CallerEvent.Pin call) (CallerEvent.Hold call) now then later more n m h k goes
act_next number (act.Start call) now then later more n m some none (inl h) (inr k) goes = pin_and_hold number call now then later more n m some h k
act_next number (act.Start call) now then later more n m some none (inr h) (inl k) goes =
    λ p e f es fs x y s t. swapped e f (pin_and_hold number call then now more later m n none k h p f e fs es y x t s)
act_next number (act.Pick id word) now then later more n m some none h k goes = one_line number (CallerEvent.Pick id word) now then later more n m h k goes
act_next number (act.Commit id) now then later more n m some none h k goes = one_line number (CallerEvent.Commit id) now then later more n m h k goes

work_next : (number : ℕ) (w : Work) (now then later more : List Entry) → OnLine number now → OnLine number then → begins_with_hold later ≡ false → begins_with_hold more ≡ false
    → WorkEvents w (map (λ entry. caller_event entry.what) now) → WorkEvents w (map (λ entry. caller_event entry.what) then) → Goes later more → Goes (now ++ later) (then ++ more)
work_next number (work.Driver what) now then later more n m some none h k goes = absurd h
work_next number (work.Caller caller what) now then later more n m some none h k goes = act_next number what now then later more n m some none h k goes

nothing_left : (p : List Entry) (e : Entry) (es : List Entry) → [] ≡ p ++ e ∷ es → ⊥
nothing_left [] e es is = absurd (cc is)
nothing_left (x ∷ xs) e es is =
    let k : [] ≡ x ∷ (xs ++ e ∷ es) = is in
    absurd (cc k)

-- a caller's next entry
pub called_next : (lines : List Line) (xs ys : List Entry) → ArePlayed lines xs → ArePlayed lines ys → Goes xs ys
called_next [] _ _ all all = λ p e f es fs x y s t. absurd (nothing_left p e es x)
called_next (line ∷ lines) _ _ (next _ _ now later n h rest) (next _ _ then more m k last) =
    work_next line.number line.work now then later more n m (no_hold lines later rest) (no_hold lines more last) h k (called_next lines later more rest last)

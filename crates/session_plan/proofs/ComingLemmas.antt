-- A data line.
use Rattle.std.proofs.Common.{◌≡◌, ℕ, zero, suc, List, [], ◌∷◌, ◌++◌, length, drop, map, Bool, true, false, cond, Option, Some, None, Result, Ok, Err, refl, sym, ◌∙◌, subst, ap, ap₂, append_assoc, append-nil, inl, inr}
use Rattle.std.specs.Prelude.{◌⊎◌, ◌&&◌, not, if◌then◌else◌}
use Rattle.std.specs.List.{list_all}
use Rattle.grpc_framing.specs.Framing.{Parts, fault_at}
use Rattle.grpc_framing.specs.Cut.{cut, cut_within}
use Rattle.grpc_framing.specs.Feeding.{answer_at, answer_to, is_taken, added_by, left_by}
use Rattle.grpc_framing.proofs.CutLemmas.{cut_more}
use Rattle.grpc_framing.proofs.FaultLemmas.{taken_at}
use Rattle.grpc_framing.specs.declared.frame_fault.FrameFault.{FrameFault}
use Rattle.grpc_framing.specs.declared.frame_fault.FrameFault.TheVariants as frame
use Rattle.call_journal.specs.declared.event.BytesHow.{BytesHow}
use Rattle.call_journal.specs.declared.event.BytesHow.TheVariants as how
use Rattle.session_script.specs.Plan.{ended_in, how_at, how_of, played_of}
use Rattle.std.proofs.lemmas.List.{map-append}
use Rattle.session_plan.specs.ComingFrames.{IsWaiting, answer_how, bytes_how}

-- ---- the responses

pub played_more : (readable : List ℕ → Bool) (ps : List (List ℕ)) (p : List ℕ) → played_of readable (ps ++ p ∷ []) ≡ (if list_all readable ps then played_of readable ps ++ p ∷ [] else played_of readable ps)
played_more readable [] p = by_read (readable p)
  where
    by_read : (b : Bool) → (if b then p ∷ [] else p ∷ []) ≡ p ∷ []
    by_read true = refl
    by_read false = refl
played_more readable (q ∷ qs) p = by_first (readable q) (list_all readable qs) (played_of readable (qs ++ p ∷ [])) (played_of readable qs) q p (played_more readable qs p)
  where
    by_first : (b c : Bool) (more ps : List (List ℕ)) (q p : List ℕ) → more ≡ (if c then ps ++ p ∷ [] else ps)
        → (if b then q ∷ more else q ∷ []) ≡ (if b && c then (if b then q ∷ ps else q ∷ []) ++ p ∷ [] else (if b then q ∷ ps else q ∷ []))
    by_first true true more ps q p is = ap (λ xs. q ∷ xs) is
    by_first true false more ps q p is = ap (λ xs. q ∷ xs) is
    by_first false c more ps q p is = refl

pub all_more : (readable : List ℕ → Bool) (ps : List (List ℕ)) (p : List ℕ) → list_all readable (ps ++ p ∷ []) ≡ (list_all readable ps && readable p)
all_more readable [] p = by_read (readable p)
  where
    by_read : (b : Bool) → (b && true) ≡ b
    by_read true = refl
    by_read false = refl
all_more readable (q ∷ qs) p = by_first (readable q) (list_all readable (qs ++ p ∷ [])) (list_all readable qs) (readable p) (all_more readable qs p)
  where
    by_first : (a b c d : Bool) → b ≡ (c && d) → (a && b) ≡ ((a && c) && d)
    by_first true b c d is = is
    by_first false b c d is = refl

-- ---- the piece

dropped : (xs ys : List (List ℕ)) → drop (length xs) (xs ++ ys) ≡ ys
dropped [] ys = refl
dropped (x ∷ xs) ys = dropped xs ys

-- the frames that end in a piece are those of what waited and the piece
pub ended_here : (before bytes waiting : List ℕ) → waiting ≡ (cut before).rest → ended_in before bytes ≡ (cut (waiting ++ bytes)).payloads
ended_here before bytes waiting is =
    ap (λ (parts : Parts). drop (length (cut before).payloads) parts.payloads) (cut_more before bytes)
    ∙ dropped (cut before).payloads (cut ((cut before).rest ++ bytes)).payloads
    ∙ ap (λ (xs : List ℕ). (cut (xs ++ bytes)).payloads) (sym is)

pub rest_here : (before bytes waiting : List ℕ) → waiting ≡ (cut before).rest → (cut (before ++ bytes)).rest ≡ (cut (waiting ++ bytes)).rest
rest_here before bytes waiting is =
    ap (λ (parts : Parts). parts.rest) (cut_more before bytes) ∙ ap (λ (xs : List ℕ). (cut (xs ++ bytes)).rest) (sym is)

how_is : (f : Option FrameFault) → answer_how (answer_at f) ≡ how_at f
how_is None = refl
how_is (Some frame.Compressed) = refl
how_is (Some (frame.TooLong size)) = refl
how_is (Some frame.Ended) = refl
how_is (Some frame.Memory) = refl

plain_answer : (waiting bytes : List ℕ) → fault_at waiting ≡ None → answer_to waiting bytes ≡ answer_at (fault_at (cut (waiting ++ bytes)).rest)
plain_answer waiting bytes none = rw none refl

-- what a piece adds, leaves and is said of it, with memory and no fault before
pub piece_added : (before bytes waiting : List ℕ) (answer : Result Unit FrameFault) → waiting ≡ (cut before).rest → fault_at waiting ≡ None → answer ≡ answer_to waiting bytes
    → added_by answer waiting bytes ≡ ended_in before bytes
piece_added before bytes waiting answer is none told =
    rw (told ∙ plain_answer waiting bytes none, taken_at (cut (waiting ++ bytes)).rest) (sym (ended_here before bytes waiting is))

pub piece_left : (before bytes waiting : List ℕ) (answer : Result Unit FrameFault) → waiting ≡ (cut before).rest → fault_at waiting ≡ None → answer ≡ answer_to waiting bytes
    → left_by answer waiting bytes ≡ (cut (before ++ bytes)).rest
piece_left before bytes waiting answer is none told =
    rw (told ∙ plain_answer waiting bytes none, taken_at (cut (waiting ++ bytes)).rest) (sym (rest_here before bytes waiting is))

pub piece_how : (readable : List ℕ → Bool) (before bytes waiting : List ℕ) (answer : Result Unit FrameFault) → waiting ≡ (cut before).rest → fault_at waiting ≡ None → answer ≡ answer_to waiting bytes
    → bytes_how (list_all readable (ended_in before bytes)) answer ≡ how_of readable before bytes
piece_how readable before bytes waiting answer is none told = by_all (list_all readable (ended_in before bytes))
  where
    by_all : (b : Bool) → bytes_how b answer ≡ (if b then how_at (fault_at (cut (before ++ bytes)).rest) else how.Ended)
    by_all true =
        ap answer_how (told ∙ plain_answer waiting bytes none) ∙ how_is (fault_at (cut (waiting ++ bytes)).rest)
        ∙ ap (λ (xs : List ℕ). how_at (fault_at xs)) (sym (rest_here before bytes waiting is))
    by_all false = refl

-- ---- all of the line

sure : (answer : Result Unit FrameFault) (waiting bytes : List ℕ) → (answer ≡ Err frame.Memory) ⊎ (answer ≡ answer_to waiting bytes) → (answer ≡ Err frame.Memory → ⊥) → answer ≡ answer_to waiting bytes
sure answer waiting bytes (inl is) none_short = absurd (none_short is)
sure answer waiting bytes (inr is) none_short = is

all_added : (before bytes waiting : List ℕ) (answer : Result Unit FrameFault) (old payloads : List (List ℕ)) → waiting ≡ (cut before).rest → fault_at waiting ≡ None
    → answer ≡ answer_to waiting bytes → old ≡ [] → payloads ≡ old ++ added_by answer waiting bytes → payloads ≡ ended_in before bytes
all_added before bytes waiting answer old payloads is none told empty made =
    made ∙ ap (λ xs. xs ++ added_by answer waiting bytes) empty ∙ piece_added before bytes waiting answer is none told

pub taken_how : (readable : List ℕ → Bool) (before bytes waiting : List ℕ) (answer : Result Unit FrameFault) (old payloads : List (List ℕ)) (all : Bool) (said : BytesHow)
    → (answer ≡ Err frame.Memory) ⊎ (answer ≡ answer_to waiting bytes) → (answer ≡ Err frame.Memory → ⊥) → old ≡ [] → payloads ≡ old ++ added_by answer waiting bytes
    → all ≡ list_all readable payloads → said ≡ bytes_how all answer → waiting ≡ (cut before).rest → fault_at waiting ≡ None → said ≡ how_of readable before bytes
taken_how readable before bytes waiting answer old payloads all said told none_short empty made reads says is none =
    let sure_told : answer ≡ answer_to waiting bytes = sure answer waiting bytes told none_short in
    let ended : payloads ≡ ended_in before bytes = all_added before bytes waiting answer old payloads is none sure_told empty made in
    says ∙ ap (λ (b : Bool). bytes_how b answer) (reads ∙ ap (λ (ps : List (List ℕ)). list_all readable ps) ended) ∙ piece_how readable before bytes waiting answer is none sure_told

pub taken_events : {X : Type 0} (f : List ℕ → X) (readable : List ℕ → Bool) (before bytes waiting : List ℕ) (answer : Result Unit FrameFault) (old payloads : List (List ℕ)) (had out : List X)
    → (answer ≡ Err frame.Memory) ⊎ (answer ≡ answer_to waiting bytes) → (answer ≡ Err frame.Memory → ⊥) → old ≡ [] → payloads ≡ old ++ added_by answer waiting bytes
    → out ≡ had ++ map f (played_of readable payloads) → waiting ≡ (cut before).rest → fault_at waiting ≡ None → out ≡ had ++ map f (played_of readable (ended_in before bytes))
taken_events f readable before bytes waiting answer old payloads had out told none_short empty made events is none =
    events ∙ ap (λ (ps : List (List ℕ)). had ++ map f (played_of readable ps)) (all_added before bytes waiting answer old payloads is none (sure answer waiting bytes told none_short) empty made)

pub taken_rest : (before bytes waiting left : List ℕ) (answer : Result Unit FrameFault)
    → (answer ≡ Err frame.Memory) ⊎ (answer ≡ answer_to waiting bytes) → (answer ≡ Err frame.Memory → ⊥) → left ≡ left_by answer waiting bytes
    → waiting ≡ (cut before).rest → fault_at waiting ≡ None → left ≡ (cut (before ++ bytes)).rest
taken_rest before bytes waiting left answer told none_short leaves is none = leaves ∙ piece_left before bytes waiting answer is none (sure answer waiting bytes told none_short)

-- ---- one more payload

pub one_played : {X : Type 0} (f : List ℕ → X) (readable : List ℕ → Bool) (ps : List (List ℕ)) (p : List ℕ) (all : Bool) (had out now : List X) → all ≡ list_all readable ps
    → out ≡ had ++ map f (played_of readable ps) → now ≡ out ++ (if all then f p ∷ [] else []) → now ≡ had ++ map f (played_of readable (ps ++ p ∷ []))
one_played f readable ps p all had out now all_is out_is now_is = now_is ∙ rw (out_is, all_is, played_more readable ps p) (by_all (list_all readable ps) (played_of readable ps))
  where
    by_all : (b : Bool) (qs : List (List ℕ)) → (had ++ map f qs) ++ (if b then f p ∷ [] else []) ≡ had ++ map f (if b then qs ++ p ∷ [] else qs)
    by_all true qs = append_assoc had (map f qs) (f p ∷ []) ∙ ap (λ xs. had ++ xs) (sym (map-append f qs (p ∷ [])))
    by_all false qs = append-nil (had ++ map f qs)

pub one_read : (readable : List ℕ → Bool) (ps : List (List ℕ)) (p : List ℕ) (all now : Bool) → all ≡ list_all readable ps → now ≡ (all && readable p) → now ≡ list_all readable (ps ++ p ∷ [])
one_read readable ps p all now all_is now_is = now_is ∙ rw all_is (sym (all_more readable ps p))

-- ---- a stream that is opened

pub opened_waits : IsWaiting (Some []) (Some [])
unfolding cut cut_within fault_at
opened_waits = (refl, refl)

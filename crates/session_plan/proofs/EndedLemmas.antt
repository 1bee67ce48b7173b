-- The first events of an actor's list, as far as they have ended.
use Rattle.std.proofs.Common.{◌≡◌, ◌<◌, ℕ, zero, suc, List, [], ◌∷◌, ◌++◌, length, take, map, true, false, Option, Some, None, refl, sym, ◌∙◌, subst, ap, ap₂, arith}
use Rattle.std.specs.Prelude.{reverse}
use Rattle.std.specs.List.{slice_get}
use Rattle.std.proofs.Math.Seq.{take-suc}
use Rattle.std.proofs.lemmas.List.{reverse-append}
use Rattle.std.proofs.lemmas.Option.{slice_get_within, get_or_from_slice_get}
use Rattle.call_journal.specs.declared.entry.Entry.{Entry}
use Rattle.call_journal.specs.declared.plan.Listed.{Listed}
use Rattle.session_plan.specs.PlayedEvents.{IsOne, IsPin, IsHold, HasPlayed, Plays}
use Rattle.session_plan.specs.PlayedEvents as played

-- the lists and the entries of both, one after another
pub plays_more : (ls ms : List Listed) (es fs : List Entry) → Plays ls es → Plays ms fs → Plays (ls ++ ms) (es ++ fs)
plays_more [] ms _ fs played.all k = k
plays_more (l ∷ ls) ms _ fs (played.one _ _ e es line event rest) k = played.one l (ls ++ ms) e (es ++ fs) line event (plays_more ls ms es fs rest k)
plays_more (l ∷ ls) ms _ fs (played.pin _ _ e es line event rest) k = played.pin l (ls ++ ms) e (es ++ fs) line event (plays_more ls ms es fs rest k)
plays_more (l ∷ ls) ms _ fs (played.start _ _ e f es line event again hold rest) k = played.start l (ls ++ ms) e f (es ++ fs) line event again hold (plays_more ls ms es fs rest k)

taken : (list : List Listed) (n : ℕ) (next : Listed) → slice_get list n ≡ Some next → take (suc n) list ≡ take n list ++ next ∷ []
taken list n next is =
    take-suc list n next (slice_get_within list n next is) ∙ ap (λ (x : Listed). take n list ++ x ∷ []) (get_or_from_slice_get list n next next is)

newest : (e : Entry) (past : List Entry) → reverse (e ∷ past) ≡ reverse past ++ e ∷ []
newest e past = reverse-append (e ∷ []) past

newest_two : (f e : Entry) (past : List Entry) → reverse (f ∷ e ∷ past) ≡ reverse past ++ e ∷ f ∷ []
newest_two f e past = reverse-append (f ∷ e ∷ []) past

one_more : (list : List Listed) (n : ℕ) (next : Listed) (before now after : List Entry) → slice_get list n ≡ Some next → after ≡ before ++ now
    → Plays (take n list) before → Plays (next ∷ []) now → Plays (take (suc n) list) after
one_more list n next before now after get is h k =
    subst (λ (es : List Entry). Plays (take (suc n) list) es) (sym is)
    (subst (λ (ls : List Listed). Plays ls (before ++ now)) (sym (taken list n next get)) (plays_more (take n list) (next ∷ []) before now h k))

-- where no pin is up, the entries are the first events
pub ended_plays : (list : List Listed) (n : ℕ) (past : List Entry) → HasPlayed list n 0 past → Plays (take n list) (reverse past)
ended_plays list _ _ played.none = played.all
ended_plays list _ _ (played.one n next e past get line event rest) =
    one_more list n next (reverse past) (e ∷ []) (reverse (e ∷ past)) get (newest e past) (ended_plays list n past rest)
    (played.one next [] e [] line event played.all)
ended_plays list _ _ (played.pin n next e past get line event rest) =
    one_more list n next (reverse past) (e ∷ []) (reverse (e ∷ past)) get (newest e past) (ended_plays list n past rest)
    (played.pin next [] e [] line event played.all)
ended_plays list _ _ (played.held n next f _ get again hold (played.up _ first e past had line event rest)) =
    let same : first ≡ next = cc (get, had) in
    let first_line : e.line ≡ next.line = line ∙ ap (λ (x : Listed). x.line) same in
    let first_pin : IsPin next.event e.what true = subst (λ (x : Listed). IsPin x.event e.what true) same event in
    one_more list n next (reverse past) (e ∷ f ∷ []) (reverse (f ∷ e ∷ past)) get (newest_two f e past) (ended_plays list n past rest)
    (played.start next [] e f [] first_line first_pin again hold played.all)

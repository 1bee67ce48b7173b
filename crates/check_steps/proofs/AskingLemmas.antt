-- What was asked, one call after another.
use Rattle.std.proofs.Common.{◌≡◌, ℕ, ◌<◌, List, [], ◌∷◌, ◌++◌, length, get_or, Bool, true, false, cond, ◌||◌, Option, Some, None, refl, sym, ap, ◌∙◌, subst, inl, inr, append_assoc, append-nil, arith}
use Rattle.std.specs.Prelude.{All, Result, Ok, Err, bytes_eq}
use Rattle.std.specs.List.{list_any}
use Rattle.std.proofs.lemmas.List.Elements.{All-append, All-cons, All-nil}
use Rattle.std.proofs.lemmas.List.Folds.{list_any-append}
use Rattle.std.proofs.lemmas.Map.Text.{is_eq-slice_cmp}
use Rattle.std.proofs.lemmas.Slice.Eq.{bytes_eq-Decides}
use Rattle.check_steps.specs.declared.check_fault.Stop.{Stop}
use Rattle.check_steps.specs.declared.check_fault.Stop.TheVariants.{Because, Refused}
use Rattle.check_steps.specs.declared.check_fault.Fault.{Fault}
use Rattle.check_steps.specs.declared.check_fault.Fault.TheVariants.{Stopped, Memory}
use Rattle.check_steps.specs.Asking.{Agrees, Answer, Asks, AsksUntil, Ending, Gains, IsAllOf, IsGain, IsStopGain, IsKept, IsOwn, IsSubsequence, Knows, Says, Stays, TellsOver, Texts, answer_to, is_refusal, is_text, no_texts, pattern_of, refusing}
use Rattle.check_steps.specs.TableSteps.{◌>>=◌, Tells}

-- ---- subsequences

skipped : (xs ys : List (List ℕ)) (y : List ℕ) → IsSubsequence xs ys → IsSubsequence xs (y ∷ ys)
skipped [] ys y sub = tt
skipped (x ∷ xs) ys y sub = inr sub

pub subsequence_append : (xs ys more rest : List (List ℕ)) → IsSubsequence xs ys → IsSubsequence more rest → IsSubsequence (xs ++ more) (ys ++ rest)
subsequence_append [] [] more rest sub then = then
subsequence_append (x ∷ xs) [] more rest sub then = absurd sub
subsequence_append [] (y ∷ ys) more rest sub then = skipped more (ys ++ rest) y (subsequence_append [] ys more rest (nothing ys) then)
  where
    nothing : (zs : List (List ℕ)) → IsSubsequence [] zs
    nothing [] = tt
    nothing (z ∷ zs) = tt
subsequence_append (x ∷ xs) (y ∷ ys) more rest (inl both) then = inl (both.0, subsequence_append xs ys more rest both.1 then)
subsequence_append (x ∷ xs) (y ∷ ys) more rest (inr sub) then = inr (subsequence_append (x ∷ xs) ys more rest sub then)

-- ---- calls that ask nothing

pub stays_same : (answer : Option Answer) → Stays answer answer
stays_same None = tt
stays_same (Some answer) = refl

abbrev pub asks_nothing : (texts : Texts) (told : List (List ℕ)) → Asks texts texts told told
asks_nothing texts told = record {
  stays = λ text. stays_same (answer_to texts text);
  gained = [];
  refused = sym (append-nil texts.refused);
  answered = [];
  tells_them = sym (append-nil told);
  among = tt;
  new = All-nil (λ text. answer_to texts text ≡ None);
}

-- ---- one call after another

pub stays_on : (first second third : Option Answer) → Stays first second → Stays second third → Stays first third
stays_on None second third a b = tt
stays_on (Some answer) second third a b = let P : Option Answer → Type 0 = λ o. Stays o third in subst P a b

pub was_new : (first second : Option Answer) → Stays first second → second ≡ None → first ≡ None
was_new None second stays is = refl
was_new (Some answer) second stays is = cc

abbrev pub asks_on : {first second third : Texts} {told tells last : List (List ℕ)} → Asks first second told tells → Asks second third tells last → Asks first third told last
asks_on {first} {second} {third} {told} {tells} {last} a b = record {
  stays = λ text. stays_on (answer_to first text) (answer_to second text) (answer_to third text) (a.stays text) (b.stays text);
  gained = a.gained ++ b.gained;
  refused = b.refused ∙ ap (λ (ts : List (List ℕ)). ts ++ b.gained) a.refused ∙ append_assoc first.refused a.gained b.gained;
  answered = a.answered ++ b.answered;
  tells_them = b.tells_them ∙ ap (λ (ts : List (List ℕ)). ts ++ b.answered) a.tells_them ∙ append_assoc told a.answered b.answered;
  among = subsequence_append a.gained a.answered b.gained b.answered a.among b.among;
  new = All-append (λ text. answer_to first text ≡ None) a.answered b.answered a.new
      (λ k d lt. was_new (answer_to first (get_or b.answered k d)) (answer_to second (get_or b.answered k d)) (a.stays (get_or b.answered k d)) (b.new k d lt));
}

says_before : (refused : Bool) (first second : Option Answer) → Stays first second → Says refused second → Says refused first
says_before refused None second stays says = tt
says_before refused (Some answer) second stays says = let P : Option Answer → Type 0 = λ o. Says refused o in subst P stays says

-- what agrees with the later texts agrees with those before
pub agrees_before : {refuses : List ℕ → Bool} {first second : Texts} {told tells : List (List ℕ)} → Asks first second told tells → Agrees refuses second → Agrees refuses first
agrees_before {refuses} {first} {second} {told} {tells} a agrees = record {
  says = λ text. says_before (refuses text) (answer_to first text) (answer_to second text) (a.stays text) (agrees.says text);
}

-- ---- one more text

-- texts with the same bytes are one
is_same : (text other : List ℕ) → is_text text other ≡ true → text ≡ other
is_same text other is = (bytes_eq-Decides text other).0 (sym (is_eq-slice_cmp text other) ∙ is)

is_itself : (text : List ℕ) → is_text text text ≡ true
is_itself text = is_eq-slice_cmp text text ∙ (bytes_eq-Decides text text).1 refl

-- the answer of the text itself
pub gains_it : (before after : Texts) (text : List ℕ) (answer : Answer) → Gains before after text answer → answer_to after text ≡ Some answer
gains_it before after text answer gains = gains text ∙ ap (λ b. cond b (Some answer) (answer_to before text)) (is_itself text)

-- the answers that are there when one more text has one
stays_by : (b : Bool) (before after : Option Answer) (answer : Answer) → after ≡ cond b (Some answer) before → (b ≡ true → before ≡ None) → Stays before after
stays_by true None after answer is none = tt
stays_by true (Some before) after answer is none = let e : Some before ≡ None = none refl in cc
stays_by false before after answer is none = let P : Option Answer → Type 0 = λ o. Stays before o in subst P (sym is) (stays_same before)

not_before : (before : Texts) (text other : List ℕ) → answer_to before text ≡ None → is_text text other ≡ true → answer_to before other ≡ None
not_before before text other none same = let P : List ℕ → Type 0 = λ t. answer_to before t ≡ None in subst P (is_same text other same) none

stays_all : (before after : Texts) (text : List ℕ) (answer : Answer) → Gains before after text answer → answer_to before text ≡ None → (other : List ℕ) → Stays (answer_to before other) (answer_to after other)
stays_all before after text answer gains none other =
    stays_by (is_text text other) (answer_to before other) (answer_to after other) answer (gains other) (λ same. not_before before text other none same)

-- a pattern is built and kept
abbrev keeping : {before after : Texts} {told tells : List (List ℕ)} (text : List ℕ) (answer : Answer) → Gains before after text answer → after.refused ≡ before.refused → answer_to before text ≡ None → tells ≡ told
    → Asks before after told tells
keeping {before} {after} {told} {tells} text answer gains same none is = record {
  stays = stays_all before after text answer gains none;
  gained = [];
  refused = same ∙ sym (append-nil before.refused);
  answered = [];
  tells_them = is ∙ sym (append-nil told);
  among = tt;
  new = All-nil (λ other. answer_to before other ≡ None);
}

-- a text is refused, and kept
abbrev refusing_one : {before after : Texts} {told tells : List (List ℕ)} (text : List ℕ) → Gains before after text None → after.refused ≡ before.refused ++ text ∷ [] → answer_to before text ≡ None → tells ≡ told ++ text ∷ []
    → Asks before after told tells
refusing_one {before} {after} {told} {tells} text gains more none is = record {
  stays = stays_all before after text None gains none;
  gained = text ∷ [];
  refused = more;
  answered = text ∷ [];
  tells_them = is;
  among = inl (refl, tt);
  new = All-cons (λ other. answer_to before other ≡ None) text [] none (All-nil (λ other. answer_to before other ≡ None));
}

-- a text is refused, for which there is no memory
abbrev losing : {before after : Texts} {told tells : List (List ℕ)} (text : List ℕ) → after ≡ before → answer_to before text ≡ None → tells ≡ told ++ text ∷ [] → Asks before after told tells
losing {before} {after} {told} {tells} text same none is = record {
  stays = λ other. let P : Texts → Type 0 = λ t. Stays (answer_to before other) (answer_to t other) in subst P (sym same) (stays_same (answer_to before other));
  gained = [];
  refused = ap (λ (t : Texts). t.refused) same ∙ sym (append-nil before.refused);
  answered = text ∷ [];
  tells_them = is;
  among = tt;
  new = All-cons (λ other. answer_to before other ≡ None) text [] none (All-nil (λ other. answer_to before other ≡ None));
}

-- ---- calls that ask until they end

nothing_gained : (before : Texts) (end : Ending) → IsGain before end []
nothing_gained before (Ok given) = refl
nothing_gained before (Err (Stopped (Because reason))) = refl
nothing_gained before (Err (Stopped (Refused text))) = inl refl
nothing_gained before (Err Memory) = refl

nothing_told : (end : Ending) → IsAllOf end [] []
nothing_told (Ok given) = refl
nothing_told (Err (Stopped stop)) = refl
nothing_told (Err Memory) = tt

-- a call that asks nothing
pub ends_asking_nothing : {end : Ending} (texts : Texts) (told : List (List ℕ)) → AsksUntil texts texts told told end
ends_asking_nothing {end} texts told = record { asks = asks_nothing texts told; gains = nothing_gained texts end; all = nothing_told end }

-- after a call that gave something
more_gained : (first second : Texts) (end : Ending) (gained : List (List ℕ)) → second.refused ≡ first.refused → IsGain second end gained → IsGain first end gained
more_gained first second (Ok given) gained same gains = gains
more_gained first second (Err (Stopped (Because reason))) gained same gains = gains
more_gained first second (Err (Stopped (Refused text))) gained same (inl none) = inl none
more_gained first second (Err (Stopped (Refused text))) gained same (inr one) =
    inr (ap (λ (ts : List (List ℕ)). list_any (λ t. bytes_eq t text) ts) (sym same) ∙ one.0, one.1)
more_gained first second (Err Memory) gained same gains = gains

more_told : (end : Ending) (none gained answered : List (List ℕ)) → none ≡ [] → IsAllOf end gained answered → IsAllOf end (none ++ gained) (none ++ answered)
more_told end none gained answered is all =
    let P : List (List ℕ) → Type 0 = λ ts. IsAllOf end (ts ++ gained) (ts ++ answered) in
    subst P (sym is) all

pub ends_later : {first second third : Texts} {told tells last : List (List ℕ)} {end : Ending} → AsksUntil first second told tells (Ok tt) → AsksUntil second third tells last end → AsksUntil first third told last end
ends_later {first} {second} {third} {told} {tells} {last} {end} a b =
    let same : second.refused ≡ first.refused =
    a.asks.refused ∙ (ap (λ (ts : List (List ℕ)). first.refused ++ ts) a.gains ∙ append-nil first.refused) in
    let P : List (List ℕ) → Type 0 = λ ts. IsGain first end (ts ++ b.asks.gained) in
    let Q : List (List ℕ) → Type 0 = λ ts. IsAllOf end (a.asks.gained ++ b.asks.gained) (ts ++ b.asks.answered) in
    record {
      asks = asks_on a.asks b.asks;
      gains = subst P (sym a.gains) (more_gained first second end b.asks.gained same b.gains);
      all = subst Q (sym a.all) (more_told end a.asks.gained b.asks.gained b.asks.answered a.gains b.all);
    }

-- a call that gave something may still end in any way
so_gained : (before : Texts) (end : Ending) (none : List (List ℕ)) → none ≡ [] → IsGain before end none
so_gained before end none is = let P : List (List ℕ) → Type 0 = λ ts. IsGain before end ts in subst P (sym is) (nothing_gained before end)

so_told : (end : Ending) (gained answered : List (List ℕ)) → answered ≡ gained → IsAllOf end gained answered
so_told (Ok given) gained answered is = is
so_told (Err (Stopped stop)) gained answered is = is
so_told (Err Memory) gained answered is = tt

pub ends_so : {before after : Texts} {told tells : List (List ℕ)} {end : Ending} → AsksUntil before after told tells (Ok tt) → AsksUntil before after told tells end
ends_so {before} {after} {told} {tells} {end} a = record {
  asks = a.asks;
  gains = so_gained before end a.asks.gained a.gains;
  all = so_told end a.asks.gained a.asks.answered a.all;
}

pub asks_kept : {before after : Texts} {told tells : List (List ℕ)} (text : List ℕ) (answer : Answer) → Gains before after text answer → after.refused ≡ before.refused → answer_to before text ≡ None → tells ≡ told
    → AsksUntil before after told tells (Ok tt)
asks_kept text answer gains is none told_all = record { asks = keeping text answer gains is none told_all; gains = refl; all = refl }

pub asks_refused : {before after : Texts} {told tells : List (List ℕ)} (text stop : List ℕ) → IsKept before → Gains before after text None → after.refused ≡ before.refused ++ text ∷ [] → answer_to before text ≡ None
    → tells ≡ told ++ text ∷ [] → stop ≡ text → AsksUntil before after told tells (Err (Stopped (Refused stop)))
asks_refused {before} {after} {told} {tells} text stop fits gains more none is one =
    let P : List ℕ → Type 0 = λ t. AsksUntil before after told tells (Err (Stopped (Refused t))) in
    subst P (sym one) record {
      asks = refusing_one text gains more none is;
      gains = inr (fits.listed text ∙ ap is_refusal none, refl);
      all = refl;
    }

pub asks_lost : {before after : Texts} {told tells : List (List ℕ)} {end : Ending} (text : List ℕ) → after ≡ before → answer_to before text ≡ None → tells ≡ told ++ text ∷ [] → end ≡ Err Memory
    → AsksUntil before after told tells end
asks_lost {before} {after} {told} {tells} {end} text is none told_it ends =
    let P : Ending → Type 0 = λ e. AsksUntil before after told tells e in
    subst P (sym ends) record { asks = losing text is none told_it; gains = refl; all = tt }

pub asks_same : {before after : Texts} {told tells : List (List ℕ)} {end : Ending} → after ≡ before → tells ≡ told → AsksUntil before after told tells end
asks_same {before} {after} {told} {tells} {end} is none =
    let P : Texts → Type 0 = λ t. AsksUntil before t told tells end in
    let Q : List (List ℕ) → Type 0 = λ t. AsksUntil before before told t end in
    subst P (sym is) (subst Q (sym none) (ends_asking_nothing before told))

-- ---- what an answer tells of a text

built_by : (refused : Bool) (text pattern : List ℕ) → refused ≡ false → pattern ≡ text → cond refused (Err (Refused text)) (Ok text) ≡ Ok pattern
built_by true text pattern is own = cc
built_by false text pattern is own = ap (λ t. Ok t) (sym own)

refused_by : (refused : Bool) (text : List ℕ) (stop : Stop) → refused ≡ true → stop ≡ Refused text → cond refused (Err (Refused text)) (Ok text) ≡ Err stop
refused_by true text stop is told = ap (λ s. Err s) (sym told)
refused_by false text stop is told = cc

pub built_told : (texts : Texts) (text pattern : List ℕ) → answer_to texts text ≡ Some (Some text) → pattern ≡ text → TellsOver texts (Ok pattern) (λ refuses. pattern_of refuses text)
built_told texts text pattern is own refuses agrees =
    let P : Option Answer → Type 0 = λ o. Says (refuses text) o in
    built_by (refuses text) text pattern (subst P is (agrees.says text)) own

pub refused_told : (texts : Texts) (text : List ℕ) (stop : Stop) → answer_to texts text ≡ Some None → stop ≡ Refused text → TellsOver texts (Err (Stopped stop)) (λ refuses. pattern_of refuses text)
refused_told texts text stop is told refuses agrees =
    let P : Option Answer → Type 0 = λ o. Says (refuses text) o in
    refused_by (refuses text) text stop (subst P is (agrees.says text)) told

-- ---- the texts and their answers fit one another

says_of : (refused : Bool) (answer : Option Answer) → refused ≡ is_refusal answer → Says refused answer
says_of refused None is = tt
says_of refused (Some None) is = is
says_of refused (Some (Some pattern)) is = is

pub kept_agree : (texts : Texts) → IsKept texts → Agrees (refusing texts) texts
kept_agree texts kept = record { says = λ text. says_of (refusing texts text) (answer_to texts text) (kept.listed text) }

pub kept_none : IsKept no_texts
kept_none = record { listed = λ text. refl; own = λ text. tt }

own_by : (b : Bool) (text other : List ℕ) (before after : Option Answer) → (b ≡ true → text ≡ other) → after ≡ cond b (Some (Some text)) before → IsOwn other before → IsOwn other after
own_by true text other before after same is own = let P : Option Answer → Type 0 = λ o. IsOwn other o in subst P (sym is) (same refl)
own_by false text other before after same is own = let P : Option Answer → Type 0 = λ o. IsOwn other o in subst P (sym is) own

listed_by : (b refused : Bool) (before after : Option Answer) (pattern : List ℕ) → refused ≡ is_refusal before → (b ≡ true → before ≡ None) → after ≡ cond b (Some (Some pattern)) before → refused ≡ is_refusal after
listed_by true refused before after pattern is none now = is ∙ ap is_refusal (none refl) ∙ ap is_refusal (sym now)
listed_by false refused before after pattern is none now = is ∙ ap is_refusal (sym now)

pub kept_built : {before after : Texts} (text : List ℕ) → IsKept before → Gains before after text (Some text) → after.refused ≡ before.refused → answer_to before text ≡ None → IsKept after
kept_built {before} {after} text kept gains same none = record {
  listed = λ other.
      ap (λ (ts : List (List ℕ)). list_any (λ t. bytes_eq t other) ts) same
      ∙ listed_by (is_text text other) (refusing before other) (answer_to before other) (answer_to after other) text (kept.listed other) (λ e. not_before before text other none e) (gains other);
  own = λ other. own_by (is_text text other) text other (answer_to before other) (answer_to after other) (λ e. is_same text other e) (gains other) (kept.own other);
}

refusal_by : (b refused : Bool) (before after : Option Answer) → refused ≡ is_refusal before → after ≡ cond b (Some None) before → (refused || (b || false)) ≡ is_refusal after
refusal_by true true before after is now = ap is_refusal (sym now)
refusal_by true false before after is now = ap is_refusal (sym now)
refusal_by false true before after is now = is ∙ ap is_refusal (sym now)
refusal_by false false before after is now = is ∙ ap is_refusal (sym now)

own_still : (b : Bool) (other : List ℕ) (before after : Option Answer) → after ≡ cond b (Some None) before → IsOwn other before → IsOwn other after
own_still true other before after is own = let P : Option Answer → Type 0 = λ o. IsOwn other o in subst P (sym is) tt
own_still false other before after is own = let P : Option Answer → Type 0 = λ o. IsOwn other o in subst P (sym is) own

pub kept_refused : {before after : Texts} (text : List ℕ) → IsKept before → Gains before after text None → after.refused ≡ before.refused ++ text ∷ [] → IsKept after
kept_refused {before} {after} text kept gains more = record {
  listed = λ other.
      ap (λ (ts : List (List ℕ)). list_any (λ t. bytes_eq t other) ts) more
      ∙ (list_any-append (λ t. bytes_eq t other) before.refused (text ∷ [])
      ∙ (ap (λ b. refusing before other || (b || false)) (sym (is_eq-slice_cmp text other))
      ∙ refusal_by (is_text text other) (refusing before other) (answer_to before other) (answer_to after other) (kept.listed other) (gains other)));
  own = λ other. own_still (is_text text other) other (answer_to before other) (answer_to after other) (gains other) (kept.own other);
}

pub known_built : (texts : Texts) (text pattern found : List ℕ) → IsKept texts → answer_to texts text ≡ Some (Some found) → pattern ≡ found → Knows texts text (Ok (Some pattern))
known_built texts text pattern found kept is copied =
    let P : Option Answer → Type 0 = λ o. IsOwn text o in
    let own : found ≡ text = subst P is (kept.own text) in
    (is ∙ ap (λ t. Some (Some t)) own, copied ∙ own)

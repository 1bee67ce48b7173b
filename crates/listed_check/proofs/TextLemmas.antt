-- Texts that are refused beforehand, and texts at which checks stop.
use Rattle.std.proofs.Common.{◌≡◌, ℕ, ◌<◌, ◌≤◌, ◌+◌, List, [], ◌∷◌, ◌++◌, length, take, get_or, Bool, true, false, cond, ◌||◌, None, Some, Option, refl, sym, ap, ◌∙◌}
use Rattle.std.specs.Prelude.{bytes_eq}
use Rattle.std.specs.List.{list_any}
use Rattle.std.specs.BTreeSet.{BTreeSet}
use Rattle.std.specs.Cmp.Lexicographic.{nat_list_eq_equiv}
use Rattle.std.proofs.lemmas.List.Folds.{list_any-append}
use Rattle.std.proofs.lemmas.List.{take_all, take_more}
use Rattle.std.proofs.lemmas.Map.Text.{is_eq-slice_cmp}
use Rattle.check_steps.specs.Asking.{Answer, Gains as Answers, Texts, answer_to, is_text}
use Rattle.check_steps.specs.Sets.{Gains, has}
use Rattle.resource_check.specs.Answers.{new_text}
use Rattle.resource_check.specs.Deliveries.{among}
use Rattle.listed_check.specs.ListedTexts.{HasThese, KnowsThese, RefusesThese, answer_of}

-- ---- sets

gained_by : (b old : Bool) → cond b true old ≡ (b || old)
gained_by true old = refl
gained_by false old = refl

-- what a set says of a text that was added
pub gained : (text added other : List ℕ) (seen later : BTreeSet (List ℕ)) → added ≡ text → has later other ≡ cond (is_text added other) true (has seen other) → has later other ≡ (bytes_eq text other || has seen other)
gained text added other seen later is now =
    now
    ∙ (ap (λ t. cond (is_text t other) true (has seen other)) is
    ∙ (ap (λ b. cond b true (has seen other)) (is_eq-slice_cmp text other) ∙ gained_by (bytes_eq text other) (has seen other)))

among_more : (texts : List (List ℕ)) (text other : List ℕ) → among other (texts ++ text ∷ []) ≡ (among other texts || (bytes_eq other text || false))
among_more texts text other = list_any-append (bytes_eq other) texts (text ∷ [])

turned : (a b : Bool) → (a || b) ≡ (b || (a || false))
turned true true = refl
turned true false = refl
turned false true = refl
turned false false = refl

-- ---- texts that are refused beforehand

answered_by : (now was : Bool) → cond now (Some None) (answer_of was) ≡ answer_of (now || was)
answered_by true was = refl
answered_by false was = refl

pub knows_more : (before after : Texts) (seen later : BTreeSet (List ℕ)) (text : List ℕ) → KnowsThese before seen → Answers before after text None → after.refused ≡ before.refused ++ text ∷ [] → Gains seen later text → KnowsThese after later
knows_more before after seen later text knows gains more come = record {
  answers = λ other.
      gains other
      ∙ (ap (λ b. cond b (Some None) (answer_to before other)) (is_eq-slice_cmp text other)
      ∙ (ap (λ (a : Option Answer). cond (bytes_eq text other) (Some None) a) (knows.answers other)
      ∙ (answered_by (bytes_eq text other) (has seen other) ∙ ap answer_of (sym (come other)))));
  refused = λ other.
      ap (λ (ts : List (List ℕ)). list_any (λ t. bytes_eq t other) ts) more
      ∙ (list_any-append (λ t. bytes_eq t other) before.refused (text ∷ [])
      ∙ (ap (λ b. b || (bytes_eq text other || false)) (knows.refused other)
      ∙ (sym (turned (bytes_eq text other) (has seen other)) ∙ sym (come other))));
}

-- the texts up to a place are seen
pub seen_more : (texts : List (List ℕ)) (i : ℕ) (text : List ℕ) (seen later : BTreeSet (List ℕ)) → i < length texts → text ≡ get_or texts i text → Gains seen later text → HasThese seen (take i texts) → HasThese later (take (i + 1) texts)
seen_more texts i text seen later lt is come have other =
    come other
    ∙ (ap (λ b. bytes_eq text other || b) (have other)
    ∙ (turned (bytes_eq text other) (among other (take i texts))
    ∙ (ap (λ b. among other (take i texts) || (b || false)) (nat_list_eq_equiv.symm text other)
    ∙ (sym (list_any-append (bytes_eq other) (take i texts) (text ∷ []))
    ∙ ap (λ (ts : List (List ℕ)). among other ts) (sym (take_more texts i text lt ∙ ap (λ (t : List ℕ). take i texts ++ t ∷ []) (sym is)))))))

pub all_refused : (texts : List (List ℕ)) (i : ℕ) (asked : Texts) (seen : BTreeSet (List ℕ)) → length texts ≤ i → KnowsThese asked seen → HasThese seen (take i texts) → RefusesThese asked texts
all_refused texts i asked seen le knows have text = knows.refused text ∙ (have text ∙ ap (λ (ts : List (List ℕ)). among text ts) (take_all i texts le))

-- ---- texts at which checks stop

among_either : (text : List ℕ) (texts : List (List ℕ)) → list_any (λ t. bytes_eq t text) texts ≡ among text texts
among_either text [] = refl
among_either text (t ∷ ts) =
    let first : bytes_eq t text ≡ bytes_eq text t = nat_list_eq_equiv.symm t text in
    let more : list_any (λ t. bytes_eq t text) ts ≡ among text ts = among_either text ts in
    cc

new_by : (b : Bool) (texts : List (List ℕ)) (text : List ℕ) → list_any (λ t. bytes_eq t text) texts ≡ b → new_text texts (Some text) ≡ cond b [] (text ∷ [])
new_by true texts text is = rw is refl
new_by false texts text is = rw is refl

-- what a text adds that a set has, or hasn't
pub added_by : (b : Bool) (texts : List (List ℕ)) (seen : BTreeSet (List ℕ)) (text : List ℕ) → HasThese seen texts → has seen text ≡ b → new_text texts (Some text) ≡ cond b [] (text ∷ [])
added_by b texts seen text have is = new_by b texts text (among_either text texts ∙ (sym (have text) ∙ is))

pub has_more : (texts : List (List ℕ)) (text : List ℕ) (seen later : BTreeSet (List ℕ)) → HasThese seen texts → Gains seen later text → HasThese later (texts ++ text ∷ [])
has_more texts text seen later have come other =
    come other
    ∙ (ap (λ b. bytes_eq text other || b) (have other)
    ∙ (turned (bytes_eq text other) (among other texts)
    ∙ (ap (λ b. among other texts || (b || false)) (nat_list_eq_equiv.symm text other) ∙ sym (list_any-append (bytes_eq other) texts (text ∷ [])))))

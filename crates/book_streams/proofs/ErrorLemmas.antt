-- The text of a refusal, resource by resource.
use Rattle.std.proofs.Common.{◌≡◌, ℕ, suc, ◌+◌, ◌<◌, ◌≤◌, List, [], ◌∷◌, ◌++◌, drop, length, get_or, codes, Bool, true, false, ◌&&◌, ◌||◌, not, if◌then◌else◌, Option, Some, None, Result, Ok, Err, is_ok, refl, sym, ap, ap₂, ◌∙◌, append_assoc, append-nil, arith}
use Rattle.std.specs.List.{list_all, list_any}
use Rattle.std.proofs.lemmas.List.{drop_more, drop_all}
use Rattle.xc_base.specs.declared.reason.Reason.{Reason}
use Rattle.xc_base.specs.Reasons.{reason_word}
use Rattle.xds_config.specs.declared.value.Value.{Value}
use Rattle.config_assembly.specs.Orders.{Name}
use Rattle.xds_history.specs.resource_check.declared.delivery.Delivery.{Delivery}
use Rattle.xds_history.specs.Requests.{name_text, refusals_from, joined, error_text}
use Rattle.book_streams.specs.StreamsLaws.{error_in}
use Rattle.book_streams.specs.RefusalText.{is_refused, part_text, parts_text}

-- the texts that follow others
abbrev after : List Name → Name
after [] = []
after (t ∷ ts) = codes "; " ++ joined (t ∷ ts)

joined_more : (t : Name) (ts : List Name) → joined (t ∷ ts) ≡ t ++ after ts
joined_more t [] = sym (append-nil t)
joined_more t (u ∷ ts) = refl

on : (place : ℕ) → place + 1 ≡ suc place
on place = omega arith

abbrev refusal : ℕ → Option Name → Reason → Name
refusal place name reason = name_text place name ++ (codes ": " ++ reason_word reason)

abbrev part_of : Option Name → Result Value Reason → Delivery
part_of name result = record { name = name; result = result }

-- those that follow others
later_by : (place : ℕ) (name : Option Name) (r : Result Value Reason) (parts : List Delivery) → parts_text (place + 1) true parts ≡ after (refusals_from (suc place) parts) →
    parts_text place true (part_of name r ∷ parts) ≡ after (refusals_from place (part_of name r ∷ parts))
later_by place name (Ok value) parts rest = rest
later_by place name (Err reason) parts rest =
    ap (λ xs. (codes "; " ++ refusal place name reason) ++ xs) rest
    ∙ append_assoc (codes "; ") (refusal place name reason) (after (refusals_from (suc place) parts))
    ∙ ap (λ xs. codes "; " ++ xs) (sym (joined_more (refusal place name reason) (refusals_from (suc place) parts)))

later_texts : (place : ℕ) (parts : List Delivery) → parts_text place true parts ≡ after (refusals_from place parts)
later_texts place [] = refl
later_texts place (part ∷ parts) = later_by place part.name part.result parts (ap (λ n. parts_text n true parts) (on place) ∙ later_texts (suc place) parts)

-- those that stand first
first_by : (place : ℕ) (name : Option Name) (r : Result Value Reason) (parts : List Delivery) → parts_text (place + 1) false parts ≡ joined (refusals_from (suc place) parts) →
    parts_text place false (part_of name r ∷ parts) ≡ joined (refusals_from place (part_of name r ∷ parts))
first_by place name (Ok value) parts rest = rest
first_by place name (Err reason) parts rest =
    ap (λ xs. refusal place name reason ++ xs) (ap (λ n. parts_text n true parts) (on place) ∙ later_texts (suc place) parts)
    ∙ sym (joined_more (refusal place name reason) (refusals_from (suc place) parts))

first_texts : (place : ℕ) (parts : List Delivery) → parts_text place false parts ≡ joined (refusals_from place parts)
first_texts place [] = refl
first_texts place (part ∷ parts) = first_by place part.name part.result parts (ap (λ n. parts_text n false parts) (on place) ∙ first_texts (suc place) parts)

any_by : (b x y : Bool) → x ≡ not y → (not b || x) ≡ not (b && y)
any_by true x y is = is
any_by false x y is = refl

any_refused : (parts : List Delivery) → list_any is_refused parts ≡ not (list_all (λ p. is_ok p.result) parts)
any_refused [] = refl
any_refused (part ∷ parts) = any_by (is_ok part.result) (list_any is_refused parts) (list_all (λ p. is_ok p.result) parts) (any_refused parts)

turned_if : (b : Bool) (x : Name) → (if not b then Some x else None) ≡ (if b then None else Some x)
turned_if true x = refl
turned_if false x = refl

or_none : (b : Bool) → (b || false) ≡ b
or_none true = refl
or_none false = refl

-- once all have been looked at
pub error_is : (place : ℕ) (parts : List Delivery) (later : Bool) (text : Name) → length parts ≤ place → (later || list_any is_refused (drop place parts)) ≡ list_any is_refused parts →
    text ++ parts_text place later (drop place parts) ≡ parts_text 0 false parts → (if later then Some text else None) ≡ error_in parts
error_is place parts later text le any is =
    let none : drop place parts ≡ [] = drop_all place parts le in
    let later_is : later ≡ list_any is_refused parts = sym (or_none later) ∙ ap (λ ps. later || list_any is_refused ps) (sym none) ∙ any in
    let text_is : text ≡ parts_text 0 false parts = sym (append-nil text) ∙ ap (λ ps. text ++ parts_text place later ps) (sym none) ∙ is in
    ap₂ (λ b x. if b then Some x else None) (later_is ∙ any_refused parts) (text_is ∙ first_texts 0 parts)
    ∙ turned_if (list_all (λ p. is_ok p.result) parts) (error_text parts)

-- one turn of the loop
dropped : (place : ℕ) (parts : List Delivery) (part : Delivery) → place < length parts → part ≡ get_or parts place part → drop place parts ≡ part ∷ drop (place + 1) parts
dropped place parts part lt is = drop_more parts place part lt ∙ ap (λ p. p ∷ drop (place + 1) parts) (sym is)

pub later_turn : (place : ℕ) (parts : List Delivery) (part : Delivery) (later now whole : Bool) → place < length parts → part ≡ get_or parts place part → now ≡ (later || is_refused part) →
    (later || list_any is_refused (drop place parts)) ≡ whole → (now || list_any is_refused (drop (place + 1) parts)) ≡ whole
later_turn place parts part later now whole lt is moved was =
    ap (λ b. b || list_any is_refused (drop (place + 1) parts)) moved ∙ or_more later (is_refused part) (list_any is_refused (drop (place + 1) parts))
    ∙ ap (λ ps. later || list_any is_refused ps) (sym (dropped place parts part lt is)) ∙ was
  where
    or_more : (a b c : Bool) → ((a || b) || c) ≡ (a || (b || c))
    or_more true b c = refl
    or_more false b c = refl

pub text_turn : (place : ℕ) (parts : List Delivery) (part : Delivery) (later now : Bool) (text next whole : Name) → place < length parts → part ≡ get_or parts place part → now ≡ (later || is_refused part) →
    next ≡ text ++ part_text place part later → text ++ parts_text place later (drop place parts) ≡ whole → next ++ parts_text (place + 1) now (drop (place + 1) parts) ≡ whole
text_turn place parts part later now text next whole lt is moved more was =
    ap₂ (λ xs b. xs ++ parts_text (place + 1) b (drop (place + 1) parts)) more moved
    ∙ append_assoc text (part_text place part later) (parts_text (place + 1) (later || is_refused part) (drop (place + 1) parts))
    ∙ ap (λ ps. text ++ parts_text place later ps) (sym (dropped place parts part lt is)) ∙ was

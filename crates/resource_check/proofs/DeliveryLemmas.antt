-- The resources of a response, one after another.
use Rattle.std.proofs.Common.{◌≡◌, ℕ, ◌<◌, ◌≤◌, ◌+◌, List, [], ◌∷◌, ◌++◌, length, take, get_or, map, Bool, true, false, cond, ◌||◌, Option, Some, None, refl, sym, ap, ◌∙◌, subst, append_assoc, append-nil, arith}
use Rattle.std.specs.Prelude.{All, ◌^◌, bytes_eq, if◌then◌else◌, Result, Ok, Err}
use Rattle.std.specs.List.{cons_option, filter_map, list_any}
use Rattle.std.specs.Result.{result_ok}
use Rattle.std.specs.Option.{option_map_or}
use Rattle.std.specs.BTreeSet.{BTreeSet}
use Rattle.std.specs.Cmp.Lexicographic.{nat_list_eq_equiv}
use Rattle.std.proofs.lemmas.List.{map-append, take_more, take_all}
use Rattle.std.proofs.lemmas.List.Elements.{All-weaker}
use Rattle.xc_base.specs.declared.names.Kind.{Kind}
use Rattle.xc_base.specs.declared.reason.Reason.TheVariants.{Second}
use Rattle.proto_discovery.specs.Response.{response_of}
use Rattle.proto_discovery.specs.TypeUrls.{kind_of}
use Rattle.proto_discovery.specs.declared.any.AnyValue.{AnyValue}
use Rattle.proto_discovery.specs.declared.response.Response.{Response}
use Rattle.check_steps.specs.declared.check_fault.Refusal.{Refusal}
use Rattle.check_steps.specs.Asking.{Agrees, Asks, Says, Texts, answer_to, refusing}
use Rattle.check_steps.specs.Sets.{has}
use Rattle.resource_check.specs.declared.delivery.Delivery.{Delivery}
use Rattle.resource_check.specs.declared.resource.Checked.{Checked}
use Rattle.resource_check.specs.declared.delivery.Reading.TheVariants.{Unreadable, Read}
use Rattle.resource_check.specs.Answers.{new_text}
use Rattle.resource_check.specs.Resources.{check_of}
use Rattle.resource_check.specs.Deliveries.{AreLawfulIn, AreShort, IsPrepared, among, apart_where, deliveries_of, delivery_of, is_name, once, parts_in, reading_with, refused_text, stops_in, stops_of, stops_with, told_apart, with_name}
use Rattle.check_steps.proofs.AskingLemmas.{agrees_before}

-- ---- texts that are refused

-- a text is among others whichever of the two is compared with the other
among_either : (text : List ℕ) (texts : List (List ℕ)) → list_any (λ t. bytes_eq t text) texts ≡ among text texts
among_either text [] = refl
among_either text (t ∷ ts) =
    let first : bytes_eq t text ≡ bytes_eq text t = nat_list_eq_equiv.symm t text in
    let more : list_any (λ t. bytes_eq t text) ts ≡ among text ts = among_either text ts in
    cc

-- that a text is among the refused ones agrees with what was answered
pub agrees_among : (texts : Texts) → Agrees (refusing texts) texts → Agrees (λ text. among text texts.refused) texts
agrees_among texts agrees = record {
  says = λ text. subst (λ b. Says b (answer_to texts text)) (among_either text texts.refused) (agrees.says text);
}

-- ---- one more text

abbrev maybe : Bool → List ℕ → List (List ℕ)
maybe b text = if b then [] else text ∷ []

last_by : (b : Bool) (text : List ℕ) (before : List (List ℕ)) → among text before ≡ b → once before (text ∷ []) ≡ maybe (b || false) text
last_by true text before is = rw is refl
last_by false text before is = rw is refl

swapped : (e a b : Bool) → ((e || a) || b) ≡ (a || (e || b))
swapped true true b = refl
swapped true false b = refl
swapped false a b = refl

once_by : (b : Bool) (y text : List ℕ) (ys before : List (List ℕ)) → among y before ≡ b
    → (once before (ys ++ text ∷ []) ≡ once before ys ++ maybe (among text before || among text (once before ys)) text)
    → (once (y ∷ before) (ys ++ text ∷ []) ≡ once (y ∷ before) ys ++ maybe (among text (y ∷ before) || among text (once (y ∷ before) ys)) text)
    → once before (y ∷ ys ++ text ∷ []) ≡ once before (y ∷ ys) ++ maybe (among text before || among text (once before (y ∷ ys))) text
once_by true y text ys before is same more = rw is same
once_by false y text ys before is same more =
    rw is
    (ap (λ (ts : List (List ℕ)). y ∷ ts) more
    ∙ ap (λ b. y ∷ once (y ∷ before) ys ++ maybe b text) (swapped (bytes_eq text y) (among text before) (among text (once (y ∷ before) ys))))

once_push : (xs before : List (List ℕ)) (text : List ℕ) → once before (xs ++ text ∷ []) ≡ once before xs ++ maybe (among text before || among text (once before xs)) text
once_push [] before text = last_by (among text before) text before refl
once_push (y ∷ ys) before text = once_by (among y before) y text ys before refl (once_push ys before text) (once_push ys (y ∷ before) text)

-- the texts of a list of answers
text_by : (first last : Option (List ℕ)) (more all : List (List ℕ)) → all ≡ more ++ cons_option last [] → cons_option first all ≡ cons_option first more ++ cons_option last []
text_by None last more all is = is
text_by (Some t) last more all is = ap (λ (ts : List (List ℕ)). t ∷ ts) is

push_text : {X : Type 0} (f : X → Option (List ℕ)) (xs : List X) (x : X) → filter_map f (xs ++ x ∷ []) ≡ filter_map f xs ++ cons_option (f x) []
push_text f [] x = refl
push_text f (y ∷ ys) x = text_by (f y) (f x) (filter_map f ys) (filter_map f (ys ++ x ∷ [])) (push_text f ys x)

new_last : (found : Option (List ℕ)) (texts : List (List ℕ)) → once [] (texts ++ cons_option found []) ≡ once [] texts ++ new_text (once [] texts) found
new_last None texts = ap (once []) (append-nil texts) ∙ sym (append-nil (once [] texts))
new_last (Some text) texts = once_push texts [] text ∙ ap (λ b. once [] texts ++ maybe b text) (sym (among_either text (once [] texts)))

-- ---- one more resource

-- the names of resources, after those of `before`
abbrev pub names_after : List (List ℕ) → List Delivery → List (List ℕ)
names_after before [] = before
names_after before (d ∷ ds) = names_after (with_name d.name before) ds

apart_push : (ds : List Delivery) (before : List (List ℕ)) (d : Delivery) → told_apart before (ds ++ d ∷ []) ≡ told_apart before ds ++ apart_where (λ name. among name (names_after before ds)) d ∷ []
apart_push [] before d = refl
apart_push (e ∷ es) before d = ap (λ (rest : List Delivery). apart_where (λ name. among name before) e ∷ rest) (apart_push es (with_name e.name before) d)

after_push : (ds : List Delivery) (before : List (List ℕ)) (d : Delivery) → names_after before (ds ++ d ∷ []) ≡ with_name d.name (names_after before ds)
after_push [] before d = refl
after_push (e ∷ es) before d = after_push es (with_name e.name before) d

among_with : (name : Option (List ℕ)) (names : List (List ℕ)) (other : List ℕ) → among other (with_name name names) ≡ (is_name name other || among other names)
among_with None names other = refl
among_with (Some name) names other = ap (λ b. b || among other names) (nat_list_eq_equiv.symm other name)

same_option : (test other : List ℕ → Bool) (name : Option (List ℕ)) → ((n : List ℕ) → test n ≡ other n) → option_map_or test name false ≡ option_map_or other name false
same_option test other None same = refl
same_option test other (Some name) same = same name

apart_same : (test other : List ℕ → Bool) (d : Delivery) → ((n : List ℕ) → test n ≡ other n) → apart_where test d ≡ apart_where other d
apart_same test other d same = ap (λ b. if b then record d { result = Err Second } else d) (same_option test other d.name same)

-- resources that are checked, one after another, where these texts are refused
pub record AreChecked (refuses : List ℕ → Bool) (kind : Kind) (done : List AnyValue) (parts : List Delivery) (names : BTreeSet (List ℕ)) (refused : List (List ℕ)) : Type 0 where
  pub parts_are : parts ≡ deliveries_of refuses kind done
  pub names_are : (name : List ℕ) → has names name ≡ among name (names_after [] (map delivery_of (map (check_of refuses kind) done)))
  pub refused_are : refused ≡ stops_of refuses kind done

pub checked_more : (refuses : List ℕ → Bool) (kind : Kind) (done : List AnyValue) (any : AnyValue) (parts : List Delivery) (names later : BTreeSet (List ℕ)) (refused more : List (List ℕ)) (delivery part : Delivery)
    → AreChecked refuses kind done parts names refused → delivery ≡ delivery_of (check_of refuses kind any) → part ≡ apart_where (has names) delivery
    → ((other : List ℕ) → has later other ≡ (is_name delivery.name other || has names other)) → more ≡ refused ++ new_text refused (refused_text (check_of refuses kind any))
    → AreChecked refuses kind (done ++ any ∷ []) (parts ++ part ∷ []) later more
checked_more refuses kind done any parts names later refused more delivery part are is is_part gains more_are =
    let check = check_of refuses kind in
    let found : Delivery = delivery_of (check any) in
    let before : List Delivery = map delivery_of (map check done) in
    let answers : map check (done ++ any ∷ []) ≡ map check done ++ check any ∷ [] = map-append check done (any ∷ []) in
    let pushed : map delivery_of (map check (done ++ any ∷ [])) ≡ before ++ found ∷ [] =
    ap (λ (rs : List (Result Checked Refusal)). map delivery_of rs) answers ∙ map-append delivery_of (map check done) (check any ∷ []) in
    let part_is : part ≡ apart_where (λ name. among name (names_after [] before)) found =
    is_part ∙ (apart_same (has names) (λ name. among name (names_after [] before)) delivery are.names_are ∙ ap (λ (d : Delivery). apart_where (λ name. among name (names_after [] before)) d) is) in
    record {
      parts_are =
          ap (λ (ps : List Delivery). ps ++ part ∷ []) are.parts_are
          ∙ (ap (λ (p : Delivery). told_apart [] before ++ p ∷ []) part_is
          ∙ (sym (apart_push before [] found) ∙ ap (λ (ds : List Delivery). told_apart [] ds) (sym pushed)));
      names_are = λ other.
          gains other
          ∙ (ap (λ b. is_name delivery.name other || b) (are.names_are other)
          ∙ (sym (among_with delivery.name (names_after [] before) other)
          ∙ (ap (λ (d : Delivery). among other (with_name d.name (names_after [] before))) is
          ∙ (ap (λ (ns : List (List ℕ)). among other ns) (sym (after_push before [] found))
          ∙ ap (λ (ds : List Delivery). among other (names_after [] ds)) (sym pushed)))));
      refused_are =
          more_are
          ∙ (ap (λ (ts : List (List ℕ)). ts ++ new_text ts (refused_text (check any))) are.refused_are
          ∙ (sym (new_last (refused_text (check any)) (filter_map refused_text (map check done)))
          ∙ (ap (λ (ts : List (List ℕ)). once [] ts) (sym (push_text refused_text (map check done) (check any)))
          ∙ ap (λ (rs : List (Result Checked Refusal)). once [] (filter_map refused_text rs)) (sym answers))));
    }

-- what is done up to a place, while texts are asked for
abbrev pub AreUnderWay : Kind → List AnyValue → ℕ → List Delivery → BTreeSet (List ℕ) → Texts → Type 0
AreUnderWay kind resources i parts names texts = (refuses : List ℕ → Bool) → Agrees refuses texts → AreChecked refuses kind (take i resources) parts names texts.refused

pub parts_more : {texts later : Texts} {told tells : List (List ℕ)} (kind : Kind) (resources : List AnyValue) (i : ℕ) (any : AnyValue) (parts : List Delivery) (names after : BTreeSet (List ℕ)) (delivery part : Delivery)
    → i < length resources → any ≡ get_or resources i any → AreUnderWay kind resources i parts names texts → Asks texts later told tells
    → ((refuses : List ℕ → Bool) → Agrees refuses later → delivery ≡ delivery_of (check_of refuses kind any))
    → ((refuses : List ℕ → Bool) → Agrees refuses later → later.refused ≡ texts.refused ++ new_text texts.refused (refused_text (check_of refuses kind any)))
    → part ≡ apart_where (has names) delivery → ((other : List ℕ) → has after other ≡ (is_name delivery.name other || has names other))
    → AreUnderWay kind resources (i + 1) (parts ++ part ∷ []) after later
parts_more {texts} {later} kind resources i any parts names after delivery part lt is so_far asks delivers gains is_part come refuses agrees =
    let more = checked_more refuses kind (take i resources) any parts names after texts.refused later.refused delivery part
    (so_far refuses (agrees_before asks agrees)) (delivers refuses agrees) is_part come (gains refuses agrees) in
    let taken : take (i + 1) resources ≡ take i resources ++ any ∷ [] =
    take_more resources i any lt ∙ ap (λ (a : AnyValue). take i resources ++ a ∷ []) (sym is) in
    let P : List AnyValue → Type 0 = λ done. AreChecked refuses kind done (parts ++ part ∷ []) after later.refused in
    subst P (sym taken) more

pub all_done : (kind : Kind) (resources : List AnyValue) (i : ℕ) (parts : List Delivery) (names : BTreeSet (List ℕ)) (texts : Texts) → length resources ≤ i → AreUnderWay kind resources i parts names texts → Agrees (refusing texts) texts
    → AreChecked (λ text. among text texts.refused) kind resources parts names texts.refused
all_done kind resources i parts names texts le so_far agrees =
    let P : List AnyValue → Type 0 = λ done. AreChecked (λ text. among text texts.refused) kind done parts names texts.refused in
    subst P (take_all i resources le) (so_far (λ text. among text texts.refused) (agrees_among texts agrees))

-- ---- what the builder refused

pub told_more : (told olds news gained before after : List (List ℕ)) → news ≡ olds ++ gained → after ≡ before ++ gained → olds ≡ told ++ before → news ≡ told ++ after
told_more told olds news gained before after more grows is =
    more ∙ (ap (λ (ts : List (List ℕ)). ts ++ gained) is ∙ (append_assoc told before gained ∙ ap (λ (ts : List (List ℕ)). told ++ ts) (sym grows)))

-- ---- payloads

pub is_read : (reading : Result Response ℕ) (r : Response) → Some r ≡ result_ok reading → reading ≡ Ok r
is_read (Ok s) r is = let e : r ≡ s = cc in ap (λ (x : Response). Ok x) (sym e)
is_read (Err at) r is = cc

pub prepared_of : (payload : List ℕ) (r : Response) (kind : Option Kind) (parts : List Delivery) (refused : List (List ℕ)) → response_of payload ≡ Ok r → kind ≡ kind_of r.type_url
    → parts ≡ parts_in (λ text. among text refused) kind r.resources → refused ≡ stops_in (λ text. among text refused) kind r.resources → AreLawfulIn kind parts
    → IsPrepared record { payload = payload; reading = Read kind r.version r.nonce parts; refused = refused }
prepared_of payload r kind parts refused read is parts_are refused_are lawful =
    let refuses : List ℕ → Bool = λ text. among text refused in
    record {
      reading =
          ap (λ (ps : List Delivery). Read kind r.version r.nonce ps) parts_are
          ∙ (ap (λ (k : Option Kind). Read k r.version r.nonce (parts_in refuses k r.resources)) is ∙ ap (reading_with refuses) (sym read));
      refused = refused_are ∙ (ap (λ (k : Option Kind). stops_in refuses k r.resources) is ∙ ap (stops_with refuses) (sym read));
      lawful = lawful;
    }

unread_with : (reading : Result Response ℕ) → None ≡ result_ok reading → (refuses : List ℕ → Bool) → (Unreadable ≡ reading_with refuses reading) × ([] ≡ stops_with refuses reading)
unread_with (Ok r) is refuses = cc
unread_with (Err at) is refuses = (refl, refl)

pub prepared_none : (payload : List ℕ) (refused : List (List ℕ)) → None ≡ result_ok (response_of payload) → refused ≡ [] → IsPrepared record { payload = payload; reading = Unreadable; refused = refused }
prepared_none payload refused is none =
    let both = unread_with (response_of payload) is (λ text. among text refused) in
    record { reading = both.0; refused = none ∙ both.1; lawful = tt }

-- nothing is checked yet
pub none_checked : (refuses : List ℕ → Bool) (kind : Kind) (resources : List AnyValue) (parts : List Delivery) (names : BTreeSet (List ℕ)) (refused : List (List ℕ)) → parts ≡ [] → ((name : List ℕ) → has names name ≡ false) → refused ≡ []
    → AreChecked refuses kind (take 0 resources) parts names refused
none_checked refuses kind resources parts names refused none empty nothing = record { parts_are = none; names_are = empty; refused_are = nothing }

-- ---- lengths

-- resources that are no longer than a payload are short where it is
pub all_short : (n : ℕ) (resources : List AnyValue) → n < 2 ^ 32 → All (λ any. length any.value ≤ n) resources → AreShort resources
all_short n resources short each = All-weaker (λ any. length any.value ≤ n) (λ any. length any.value < 2 ^ 32) (λ any le. omega (arith, le, short)) resources each

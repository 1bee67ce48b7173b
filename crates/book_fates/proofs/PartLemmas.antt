-- The parts of a response, the last one first.
use Rattle.std.proofs.Common.{◌≡◌, Bool, true, false, cond, List, [], ◌∷◌, ◌++◌, Option, Some, None, Result, Ok, Err, refl, sym, ap, ◌∙◌, subst, option_map}
use Rattle.std.specs.Prelude.{◌&&◌, ◌||◌, not, if◌then◌else◌, is_ok, is_some}
use Rattle.std.specs.List.{find, list_all}
use Rattle.std.specs.Option.{option_map_or, option_or}
use Rattle.std.specs.Str.{bytes_eq}
use Rattle.std.proofs.lemmas.Slice.Eq.{bytes_eq-Decides}
use Rattle.xc_base.specs.declared.names.Authority.{Authority}
use Rattle.xc_base.specs.declared.names.Kind.{Kind}
use Rattle.xc_base.specs.declared.names.Key.{Key}
use Rattle.xc_base.specs.declared.reason.Reason.{Reason}
use Rattle.xds_config.specs.declared.value.Value.{Value}
use Rattle.xds_cache.specs.declared.fate.Known.{Known}
use Rattle.xds_cache.specs.KeptFates.{after_refusal}
use Rattle.config_assembly.specs.Orders.{Name}
use Rattle.xds_history.specs.Words.{among, same_kind, lives_at}
use Rattle.xds_history.specs.resource_check.declared.delivery.Delivery.{Delivery}
use Rattle.xds_history.specs.declared.responses.Told.{Told}
use Rattle.xds_history.specs.declared.page.Mark.{Mark}
use Rattle.xds_history.specs.resource_check.Deliveries.{told_apart, with_name}
use Rattle.xds_history.specs.Responses.{delivers, is_named}
use Rattle.xds_history.specs.Fates.{mark_of, deletes, has_value, lacks, has_another_name}
use Rattle.book_fates.specs.FateSteps.{after_mark, after_marks, brings, is_let_go, part_step, parts_step, gone_step, OnlyRefuses, AreApart}

-- ---- told apart, a second resource of a name is invalid

abbrev is_second : List Name → Delivery → Bool
is_second before part = option_map_or (λ name. among name before) part.name false

among_more : (b more : Bool) → more ≡ true → (b || more) ≡ true
among_more true more is = refl
among_more false more is = is

second_name : (o : Option Name) (name : Name) (before : List Name) → among name before ≡ true → option_map_or (bytes_eq name) o false ≡ true → option_map_or (λ n. among n before) o false ≡ true
second_name None name before has is = absurd (cc is)
second_name (Some n) name before has is = subst (λ x. among x before ≡ true) ((bytes_eq-Decides name n).0 is) has

now_among : (o : Option Name) (name : Name) (before : List Name) → option_map_or (bytes_eq name) o false ≡ true → among name (with_name o before) ≡ true
now_among None name before is = absurd (cc is)
now_among (Some n) name before is = subst (λ b. (b || among name before) ≡ true) (sym is) refl

still_among : (o : Option Name) (name : Name) (before : List Name) → among name before ≡ true → among name (with_name o before) ≡ true
still_among None name before has = has
still_among (Some n) name before has = among_more (bytes_eq name n) (among name before) has

abbrev as_second : Bool → Delivery → Delivery
as_second b part = if b then record part { result = Err Reason.Second } else part

refused_second : (b : Bool) (name : Name) (part : Delivery) → (is_named name part ≡ true → b ≡ true) → is_named name (as_second b part) ≡ true → is_ok (as_second b part).result ≡ false
refused_second true name part second is = refl
refused_second false name part second is = absurd (cc (second is))

named_before : (b : Bool) (name : Name) (part : Delivery) → is_named name (as_second b part) ≡ true → is_named name part ≡ true
named_before true name part is = is
named_before false name part is = is

seconds : (name : Name) (before : List Name) (parts : List Delivery) → among name before ≡ true → OnlyRefuses name (told_apart before parts)
seconds name before [] has = tt
seconds name before (part ∷ parts) has = (
  refused_second (is_second before part) name part (second_name part.name name before has),
  seconds name (with_name part.name before) parts (still_among part.name name before has),
)

pub apart : (before : List Name) (parts : List Delivery) → AreApart (told_apart before parts)
apart before [] = tt
apart before (part ∷ parts) = (
  λ name is. seconds name (with_name part.name before) parts (now_among part.name name before (named_before (is_second before part) name part is)),
  apart (with_name part.name before) parts,
)

-- ---- the first resource of a name counts

twice : (reason other : Reason) (known : Known) → after_refusal reason (after_refusal other known) ≡ after_refusal reason known
twice reason other Known.Wanted = refl
twice reason other (Known.Value v) = refl
twice reason other (Known.Invalid r) = refl
twice reason other Known.Absent = refl

over_result : (reason : Reason) (r : Result Value Reason) (known : Known) → is_ok r ≡ false → after_refusal reason (after_mark (mark_of r) known) ≡ after_refusal reason known
over_result reason (Ok v) known is = absurd (cc is)
over_result reason (Err other) known is = twice reason other known

over_part : (reason : Reason) (h n : Bool) (part : Delivery) (known start : Known) → (n ≡ true → is_ok part.result ≡ false) → after_refusal reason known ≡ after_refusal reason start →
    after_refusal reason (cond (h && n) (after_mark (mark_of part.result) known) known) ≡ after_refusal reason start
over_part reason true true part known start refuses same = over_result reason part.result known (refuses refl) ∙ same
over_part reason true false part known start refuses same = same
over_part reason false n part known start refuses same = same

absorbed : (reason : Reason) (a : Authority) (kind : Kind) (parts : List Delivery) (key : Key) (known : Known) → OnlyRefuses key.name parts → after_refusal reason (parts_step a kind parts key known) ≡ after_refusal reason known
absorbed reason a kind [] key known only = refl
absorbed reason a kind (part ∷ parts) key known only =
    over_part reason (same_kind kind key.kind && lives_at a key.home) (is_named key.name part) part (parts_step a kind parts key known) known only.0 (absorbed reason a kind parts key known only.1)

over_all : (r : Result Value Reason) (a : Authority) (kind : Kind) (parts : List Delivery) (key : Key) (known : Known) → OnlyRefuses key.name parts → after_mark (mark_of r) (parts_step a kind parts key known) ≡ after_mark (mark_of r) known
over_all (Ok v) a kind parts key known only = refl
over_all (Err reason) a kind parts key known only = absorbed reason a kind parts key known only

abbrev delivered : Bool → Option Delivery → Option (Result Value Reason)
delivered h found = if h then option_map (λ p. p.result) found else None

first_at : (h n : Bool) (part : Delivery) (rest : Option Delivery) (more known : Known) → (n ≡ true → after_mark (mark_of part.result) more ≡ after_mark (mark_of part.result) known) → more ≡ after_marks (option_map mark_of (delivered h rest)) known →
    cond (h && n) (after_mark (mark_of part.result) more) more ≡ after_marks (option_map mark_of (delivered h (cond n (Some part) rest))) known
first_at true true part rest more known over later = over refl
first_at true false part rest more known over later = later
first_at false n part rest more known over later = later

parts_are : (a : Authority) (kind : Kind) (parts : List Delivery) (key : Key) (known : Known) → AreApart parts →
    parts_step a kind parts key known ≡ after_marks (option_map mark_of (delivered (same_kind kind key.kind && lives_at a key.home) (find (is_named key.name) parts))) known
parts_are a kind [] key known are = none_at (same_kind kind key.kind && lives_at a key.home)
  where
    none_at : (h : Bool) → known ≡ after_marks (option_map mark_of (delivered h None)) known
    none_at true = refl
    none_at false = refl
parts_are a kind (part ∷ parts) key known are =
    first_at (same_kind kind key.kind && lives_at a key.home) (is_named key.name part) part (find (is_named key.name) parts) (parts_step a kind parts key known) known
    (λ named. over_all part.result a kind parts key known (are.0 key.name named)) (parts_are a kind parts key known are.1)

-- taken in from the last one on, the parts do what they deliver
pub parts_deliver : (t : Told) (key : Key) (known : Known) → AreApart t.parts → parts_step t.authority t.kind t.parts key known ≡ after_marks (option_map mark_of (delivers t key)) known
parts_deliver t key known are = parts_are t.authority t.kind t.parts key known are

pub parts_last : (a : Authority) (kind : Kind) (parts : List Delivery) (part : Delivery) (key : Key) (known : Known) → parts_step a kind (parts ++ part ∷ []) key known ≡ parts_step a kind parts key (part_step a kind part key known)
parts_last a kind [] part key known = refl
parts_last a kind (p ∷ parts) part key known = ap (λ k. part_step a kind p key k) (parts_last a kind parts part key known)

-- ---- what is deleted isn't delivered

lacking : (name : Name) (b : Bool) (n more : Bool) (part : Delivery) (rest : Option Delivery) → (more ≡ true → rest ≡ None) → ((b && not n) && more) ≡ true → cond n (Some part) rest ≡ None
lacking name true true more part rest later is = absurd (cc is)
lacking name true false true part rest later is = later refl
lacking name true false false part rest later is = absurd (cc is)
lacking name false n more part rest later is = absurd (cc is)

none_named : (key : Key) (parts : List Delivery) → list_all (has_another_name key) parts ≡ true → find (is_named key.name) parts ≡ None
none_named key [] is = refl
none_named key (part ∷ parts) is =
    lacking key.name (is_some part.name) (is_named key.name part) (list_all (has_another_name key) parts) part (find (is_named key.name) parts) (none_named key parts) is

none_at_all : (h : Bool) (found : Option Delivery) → found ≡ None → delivered h found ≡ None
none_at_all true found is = ap (option_map (λ p. p.result)) is
none_at_all false found is = refl

last_of_five : (a b c d e : Bool) → (a && b && c && d && e) ≡ true → d ≡ true
last_of_five true true true true e is = refl
last_of_five true true true false e is = absurd (cc is)
last_of_five true true false d e is = absurd (cc is)
last_of_five true false c d e is = absurd (cc is)
last_of_five false b c d e is = absurd (cc is)

let_go_lacks : (t : Told) (key : Key) (known : Known) → is_let_go t key known ≡ true → delivers t key ≡ None
let_go_lacks t key known is =
    none_at_all (same_kind t.kind key.kind && lives_at t.authority key.home) (find (is_named key.name) t.parts)
    (none_named key t.parts (last_of_five (deletes t.kind) (same_kind t.kind key.kind) (lives_at t.authority key.home) (lacks t key) (has_value known) is))

one_of_both : (d : Option (Result Value Reason)) (g : Bool) (known : Known) → (g ≡ true → d ≡ None) → after_marks (option_map mark_of d) (if g then Known.Absent else known) ≡ after_marks (option_or (option_map mark_of d) (if g then Some Mark.Gone else None)) known
one_of_both None true known none = refl
one_of_both None false known none = refl
one_of_both (Some r) true known none = absurd (cc (none refl))
one_of_both (Some r) false known none = refl

-- first the deletions and then the parts make of each key what the response brings for it
pub told_brings : (t : Told) (key : Key) (known : Known) → AreApart t.parts → parts_step t.authority t.kind t.parts key (gone_step t key known) ≡ after_marks (brings t key known) known
told_brings t key known are =
    parts_deliver t key (gone_step t key known) are ∙ one_of_both (delivers t key) (is_let_go t key known) known (let_go_lacks t key known)

-- Keys that are listed where something else is known of them.
use Rattle.std.proofs.Common.{◌≡◌, ◌≤◌, ℕ, ◌+◌, ◌<◌, Bool, true, false, List, [], ◌∷◌, ◌++◌, append-nil, get_or, length, length-append, take, Option, refl, sym, ap, ◌∙◌, arith, subst}
use Rattle.std.specs.Prelude.{◌&&◌, ◌||◌, filter, if◌then◌else◌}
use Rattle.std.specs.Str.{bytes_eq}
use Rattle.std.proofs.lemmas.List.{take_more}
use Rattle.std.proofs.lemmas.List.Elements.{All-append, All-cons, All-nil, filter-append}
use Rattle.std.proofs.lemmas.List.Folds.{list_any-append}
use Rattle.xc_base.specs.declared.names.Authority.{Authority}
use Rattle.xc_base.specs.declared.names.Kind.{Kind}
use Rattle.xc_base.specs.declared.names.Key.{Key}
use Rattle.xc_keys.specs.Keys.{is_key}
use Rattle.xc_keys.proofs.KeyLemmas.{key_itself, same_key}
use Rattle.xds_cache.specs.declared.fate.Known.{Known}
use Rattle.xds_cache.specs.KeptFates.{Watched as Rows, Changes, TellsChange, known_of}
use Rattle.config_assembly.specs.Orders.{Name}
use Rattle.config_assembly.specs.Watching.{has_key}
use Rattle.xds_history.specs.Words.{lives_at, same_kind}
use Rattle.xds_history.specs.Fates.{deletes, has_value, lacks}
use Rattle.xds_history.specs.declared.responses.Told.{Told}
use Rattle.book_fates.specs.FateSteps.{AreListed, AreOf, is_let_go, is_theirs, key_at}
use Rattle.book_fates.proofs.PlaceLemmas.{key_sym, of_part}

-- ---- one member more

filter_last : (p : Key → Bool) (key : Key) (keys : List Key) (b : Bool) → p key ≡ b → keys ++ filter p (key ∷ []) ≡ (if b then keys ++ key ∷ [] else keys)
filter_last p key keys true is = ap (λ b. keys ++ (if b then key ∷ [] else [])) is
filter_last p key keys false is = ap (λ b. keys ++ (if b then key ∷ [] else [])) is ∙ append-nil keys

pub filter_next : (p : Key → Bool) (keys old new : List Key) (i : ℕ) (key : Key) → i < length keys → key ≡ get_or keys i key → new ≡ (if p key then old ++ key ∷ [] else old) → old ≡ filter p (take i keys) → new ≡ filter p (take (i + 1) keys)
filter_next p keys old new i key lt is put kept =
    put ∙ ap (λ ks. if p key then ks ++ key ∷ [] else ks) kept
    ∙ sym (filter_last p key (filter p (take i keys)) (p key) refl)
    ∙ sym (filter-append p (take i keys) (key ∷ []))
    ∙ ap (λ k. filter p (take i keys ++ k ∷ [])) is
    ∙ sym (ap (filter p) (take_more keys i key lt))

-- ---- what is listed

-- nothing
pub listed_none : (rows : Rows) (keys : List Key) → AreListed rows rows keys keys
listed_none rows keys key lone = (lone, refl)

-- at one step and then at another
pub listed_on : (first mid new : Rows) (before between after : List Key) → AreListed first mid before between → AreListed mid new between after → AreListed first new before after
listed_on first mid new before between after earlier later key lone =
    let (out, same) = later key lone in
    let (gone, also) = earlier key out in
    (gone, same ∙ also)

none_of : (x y : Bool) → (x || y) ≡ false → (x ≡ false) × (y ≡ false)
none_of true y is = absurd (cc is)
none_of false true is = absurd (cc is)
none_of false false is = (refl, refl)

one_of : (key other : Key) → has_key (key ∷ []) other ≡ is_key key other
one_of key other = or_none (is_key other key) ∙ key_sym other key
  where
    or_none : (b : Bool) → (b || false) ≡ b
    or_none true = refl
    or_none false = refl

still_known : (b : Bool) (rows : Rows) (key other : Key) (change : Option Known → Option Known) → is_key key other ≡ b → change (known_of rows key) ≡ known_of rows key →
    (if b then change (known_of rows key) else known_of rows other) ≡ known_of rows other
still_known true rows key other change is same = same ∙ ap (λ k. known_of rows k) (same_key key other is)
still_known false rows key other change is same = refl

-- a key whose change makes something else
pub listed_if : (is_other : Bool) (old new : Rows) (key : Key) (change : Option Known → Option Known) (before after : List Key) → Changes old new key change → TellsChange is_other old key change →
    after ≡ (if is_other then before ++ key ∷ [] else before) → AreListed old new before after
listed_if true old new key change before after changes tells are other lone =
    let (out, away) = none_of (has_key before other) (has_key (key ∷ []) other) (sym (list_any-append (is_key other) before (key ∷ [])) ∙ ap (λ keys. has_key keys other) (sym are) ∙ lone) in
    (out, changes other ∙ ap (λ b. if b then change (known_of old key) else known_of old other) (sym (one_of key other) ∙ away))
listed_if false old new key change before after changes tells are other lone =
    (ap (λ keys. has_key keys other) (sym are) ∙ lone, changes other ∙ still_known (is_key key other) old key other change refl (tells.0 refl))

-- ---- of whom

own_key : (a : Authority) (kind : Kind) (name : Name) → is_theirs a kind (key_at a kind name) ≡ true
own_key a kind name = first_true (is_theirs a kind (key_at a kind name)) (bytes_eq name name) (sym (of_part a kind name (key_at a kind name)) ∙ key_itself (key_at a kind name))
  where
    first_true : (x y : Bool) → (x && y) ≡ true → x ≡ true
    first_true true y is = refl
    first_true false y is = is

pub of_if : (is_other : Bool) (a : Authority) (kind : Kind) (key : Key) (before after : List Key) → is_theirs a kind key ≡ true → after ≡ (if is_other then before ++ key ∷ [] else before) → AreOf a kind before → AreOf a kind after
of_if true a kind key before after is are all =
    subst (λ keys. AreOf a kind keys) (sym are)
    (All-append (λ k. is_theirs a kind k ≡ true) before (key ∷ []) all (All-cons (λ k. is_theirs a kind k ≡ true) key [] is (All-nil (λ k. is_theirs a kind k ≡ true))))
of_if false a kind key before after is are all = subst (λ keys. AreOf a kind keys) (sym are) all

-- what is let go
let_go_theirs : (d k l la v : Bool) → ((((d && k) && l) && la) && v) ≡ true → (k && l) ≡ true
let_go_theirs true true true la v is = refl
let_go_theirs true true false la v is = absurd (cc is)
let_go_theirs true false l la v is = absurd (cc is)
let_go_theirs false k l la v is = absurd (cc is)

pub gone_theirs : (t : Told) (key : Key) (known : Known) → is_let_go t key known ≡ true → is_theirs t.authority t.kind key ≡ true
gone_theirs t key known is = let_go_theirs (deletes t.kind) (same_kind t.kind key.kind) (lives_at t.authority key.home) (lacks t key) (has_value known) is

pub of_named_if : (is_other : Bool) (a : Authority) (kind : Kind) (name : Name) (before after : List Key) → after ≡ (if is_other then before ++ key_at a kind name ∷ [] else before) → AreOf a kind before → AreOf a kind after
of_named_if is_other a kind name before after are all = of_if is_other a kind (key_at a kind name) before after (own_key a kind name) are all

pub few_if : (is_other : Bool) (key : Key) (before after : List Key) → after ≡ (if is_other then before ++ key ∷ [] else before) → length after ≤ length before + 1
few_if true key before after are = omega (arith, ap length are, length-append before (key ∷ []))
few_if false key before after are = omega (arith, ap length are)

-- What is known of a key is of the key's kind, so a configuration is never lost.
use Rattle.std.proofs.Common.{◌≡◌, inl, ℕ, suc, Bool, true, false, cond, ◌&&◌, List, [], ◌∷◌, map, get_or, Option, Some, None, Result, Ok, Err, refl, sym, ap, ◌∙◌, subst, arith, inr}
use Rattle.std.specs.Prelude.{All, IfOk, IfSome, is_some, find, option_map, option_and_then}
use Rattle.std.specs.List.{cons_option}
use Rattle.std.specs.Option.{option_map_or, option_or}
use Rattle.std.proofs.lemmas.List.Elements.{All-cons, All-map, All-nil}
use Rattle.xc_base.specs.declared.names.Kind.{Kind}
use Rattle.xc_base.specs.declared.names.Home.{Home}
use Rattle.xc_base.specs.declared.names.Key.{Key}
use Rattle.xc_base.specs.declared.names.Time.{Time}
use Rattle.xc_base.specs.declared.names.Authority.{Authority}
use Rattle.xc_base.specs.declared.reason.Reason.{Reason}
use Rattle.xc_base.specs.declared.reason.Reason.TheVariants.{Second}
use Rattle.xc_keys.specs.Keys.{is_key}
use Rattle.xc_keys.proofs.KeyLemmas.{same_key}
use Rattle.proto_discovery.specs.declared.any.AnyValue.{AnyValue}
use Rattle.proto_discovery.specs.Wrapper.{unwrapped}
use Rattle.proto_discovery.specs.declared.wrapper.Unwrapped.{Unwrapped}
use Rattle.proto_discovery.specs.declared.response.Response.{Response}
use Rattle.xds_config.specs.declared.value.Value.{Value}
use Rattle.xds_config.specs.declared.config.Config.{Config}
use Rattle.xds_config.specs.declared.listener_values.RoutesFrom.{RoutesFrom}
use Rattle.xds_config.specs.Values.{kind_of}
use Rattle.xds_history.specs.check_steps.TableSteps.{◌>>=◌, readable}
use Rattle.xds_history.specs.check_steps.declared.check_fault.Stop.{Stop}
use Rattle.xds_history.specs.check_steps.declared.check_fault.Refusal.{Refusal}
use Rattle.xds_history.specs.resource_check.declared.raw.Raw.{Raw}
use Rattle.xds_history.specs.resource_check.declared.raw.Raw.TheVariants as raw
use Rattle.xds_history.specs.resource_check.declared.raw.Found.{Found}
use Rattle.xds_history.specs.resource_check.declared.resource.Checked.{Checked}
use Rattle.xds_history.specs.resource_check.declared.delivery.Delivery.{Delivery}
use Rattle.xds_history.specs.resource_check.Resources.{check_of, found_of, given_name, message_of, name_of, raw_kind, read_raw, under, value_of}
use Rattle.xds_history.specs.resource_check.Deliveries.{among as told_among, apart_where, delivery_of, told_apart, with_name}
use Rattle.xds_cache.specs.declared.fate.Known.{Known}
use Rattle.xds_cache.specs.KeptFates.{fate_at}
use Rattle.call_journal.specs.declared.event.DriverEvent.{DriverEvent}
use Rattle.call_journal.specs.declared.entry.What.{What}
use Rattle.call_journal.specs.declared.entry.Entry.{Entry}
use Rattle.xds_history.specs.config_assembly.Orders.{Name}
use Rattle.xds_history.specs.config_assembly.ReachedResources.{Resources}
use Rattle.xds_history.specs.config_assembly.Front.{IsFrontAwaited, front, front_from, front_of_listener, front_of_route_value, given, named_in, named_routes}
use Rattle.xds_history.specs.config_assembly.Reach.{missing, reach}
use Rattle.xds_history.specs.config_assembly.WholeConfigs.{whole_config}
use Rattle.xds_history.proofs.config_assembly.ReachLemmas.{whole_where}
use Rattle.xds_history.specs.Words.{among as named_among, lives_at, same_kind}
use Rattle.xds_history.specs.Setting.{Setting, known_as, setting_of}
use Rattle.xds_history.specs.declared.responses.Told.{Told}
use Rattle.xds_history.specs.Responses.{Came, answered, answered_kind, checks, delivers, is_named, told_by, told_in}
use Rattle.xds_history.specs.declared.page.Mark.{Mark}
use Rattle.xds_history.specs.declared.page.Mark.TheVariants.{Valid, Invalid, Gone}
use Rattle.xds_history.specs.declared.page.Page.{Page}
use Rattle.xds_history.specs.declared.page.Watched.{Watched}
use Rattle.xds_history.specs.Page.{config_now, find_watched, watched_now}
use Rattle.xds_history.specs.Fates.{fate_by, fate_in, is_deleted, is_expired, judged, last_reason, last_value, mark, mark_of, mark_timed, mark_told, marked, was_gone, watch, watch_key, with_mark}
use Rattle.xds_history.specs.References.{references}
use Rattle.xds_history.specs.Pages.{came, config_after, page_of, pages, present_after}
use Rattle.book_trees.specs.ReportedLaws.{ConfigsAreKept}
use Rattle.book_trees.proofs.GrownLemmas.{found}

-- ---- a checked value is of the kind it was checked for

bound : {A B E : Type 0} (r : Result A E) (f : A → Result B E) (y : B) → (r >>= f) ≡ Ok y → (x : A) × (r ≡ Ok x) × (f x ≡ Ok y)
bound (Ok x) f y is = (x, refl, is)
bound (Err e) f y is = absurd (cc is)

under_ok : {A : Type 0} (name : Option (List ℕ)) (r : Result A Stop) (x : A) → under name r ≡ Ok x → r ≡ Ok x
under_ok {A = A} name (Ok y) x is = (let same : y ≡ x = cc in ap (λ (z : A). let o : Result A Stop = Ok z in o) same)
under_ok name (Err e) x is = absurd (cc is)

readable_ok : {A : Type 0} (r : Result A ℕ) (x : A) → readable r ≡ Ok x → r ≡ Ok x
readable_ok {A = A} (Ok y) x is = (let same : y ≡ x = cc in ap (λ (z : A). let o : Result A ℕ = Ok z in o) same)
readable_ok (Err e) x is = absurd (cc is)

read_kind : (kind : Kind) (bytes : List ℕ) (message : Raw) → read_raw kind bytes ≡ Ok message → raw_kind message ≡ kind
read_kind Kind.Listener bytes message is = let (m, _, made) = bound _ (λ m. Ok (raw.Listener m)) message is in (let same : raw.Listener m ≡ message = cc in ap raw_kind (sym same))
read_kind Kind.Route bytes message is = let (m, _, made) = bound _ (λ m. Ok (raw.Route m)) message is in (let same : raw.Route m ≡ message = cc in ap raw_kind (sym same))
read_kind Kind.Cluster bytes message is = let (m, _, made) = bound _ (λ m. Ok (raw.Cluster m)) message is in (let same : raw.Cluster m ≡ message = cc in ap raw_kind (sym same))
read_kind Kind.Endpoint bytes message is = let (m, _, made) = bound _ (λ m. Ok (raw.Endpoint m)) message is in (let same : raw.Endpoint m ≡ message = cc in ap raw_kind (sym same))

message_kind : (kind : Kind) (any : AnyValue) (message : Raw) → message_of kind any ≡ Ok message → raw_kind message ≡ kind
unfolding message_of
message_kind kind any message is =
    let (typed, _, read) = bound _ (λ typed. readable (read_raw kind any.value)) message is in
    read_kind kind any.value message (readable_ok (read_raw kind any.value) message read)

abbrev found_with : Option (List ℕ) → Raw → Result Found Refusal
found_with given message = under None (name_of given message) >>= λ name. Ok record { name = name; raw = message }

abbrev found_in : Kind → Option (List ℕ) → AnyValue → Result Found Refusal
found_in kind given inner = under given (message_of kind inner) >>= found_with given

named_kind : (given : Option (List ℕ)) (message : Raw) (x : Found) → found_with given message ≡ Ok x → raw_kind message ≡ raw_kind x.raw
named_kind given message x is =
    let made : List ℕ → Found = λ name. record { name = name; raw = message } in
    let ok : List ℕ → Result Found Refusal = λ name. Ok (made name) in
    let (name, _, same) = bound (under None (name_of given message)) ok x is in
    ap (λ (f : Found). raw_kind f.raw) (some_found (made name) x same)
  where
    some_found : (a b : Found) → (let r : Result Found Refusal = Ok a in r) ≡ Ok b → a ≡ b
    some_found a b is = cc

inner_kind : (kind : Kind) (given : Option (List ℕ)) (inner : AnyValue) (x : Found) → found_in kind given inner ≡ Ok x → raw_kind x.raw ≡ kind
inner_kind kind given inner x is =
    let (message, read, named) = bound (under given (message_of kind inner)) (found_with given) x is in
    sym (named_kind given message x named) ∙ message_kind kind inner message (under_ok given (message_of kind inner) message read)

found_kind : (kind : Kind) (any : AnyValue) (x : Found) → found_of kind any ≡ Ok x → raw_kind x.raw ≡ kind
unfolding found_of
found_kind kind any x is =
    let (resource, _, within) = bound (under None (readable (unwrapped any))) (λ (u : Unwrapped). found_in kind (given_name u.name) u.inner) x is in
    inner_kind kind (given_name resource.name) resource.inner x within

value_kind : (refuses : List ℕ → Bool) (name : List ℕ) (message : Raw) (v : Value) → value_of refuses name message ≡ Ok v → kind_of v ≡ raw_kind message
value_kind refuses name (raw.Listener m) v is = let (x, _, made) = bound _ (λ x. Ok (Value.Listener x)) v is in (let same : Value.Listener x ≡ v = cc in ap kind_of (sym same))
value_kind refuses name (raw.Route m) v is = let (x, _, made) = bound _ (λ x. Ok (Value.Route x)) v is in (let same : Value.Route x ≡ v = cc in ap kind_of (sym same))
value_kind refuses name (raw.Cluster m) v is = let (x, _, made) = bound _ (λ x. Ok (Value.Cluster x)) v is in (let same : Value.Cluster x ≡ v = cc in ap kind_of (sym same))
value_kind refuses name (raw.Endpoint m) v is = let (x, _, made) = bound _ (λ x. Ok (Value.Endpoint x)) v is in (let same : Value.Endpoint x ≡ v = cc in ap kind_of (sym same))

abbrev checked_with : (List ℕ → Bool) → Found → Result Checked Refusal
checked_with refuses found = under (Some found.name) (value_of refuses found.name found.raw) >>= λ value. Ok record { name = found.name; value = value }

found_value : (refuses : List ℕ → Bool) (f : Found) (x : Checked) → checked_with refuses f ≡ Ok x → kind_of x.value ≡ raw_kind f.raw
found_value refuses f x is =
    let made : Value → Checked = λ value. record { name = f.name; value = value } in
    let ok : Value → Result Checked Refusal = λ value. Ok (made value) in
    let (v, valued, same) = bound (under (Some f.name) (value_of refuses f.name f.raw)) ok x is in
    ap (λ (c : Checked). kind_of c.value) (sym (some_checked (made v) x same)) ∙ value_kind refuses f.name f.raw v (under_ok (Some f.name) (value_of refuses f.name f.raw) v valued)
  where
    some_checked : (a b : Checked) → (let r : Result Checked Refusal = Ok a in r) ≡ Ok b → a ≡ b
    some_checked a b is = cc

checked_kind : (refuses : List ℕ → Bool) (kind : Kind) (any : AnyValue) (x : Checked) → check_of refuses kind any ≡ Ok x → kind_of x.value ≡ kind
unfolding check_of
checked_kind refuses kind any x is =
    let (f, there, valued) = bound (found_of kind any) (checked_with refuses) x is in
    found_value refuses f x valued ∙ found_kind kind any f there

-- ---- what responses tell

abbrev ChecksKinds : Setting → Type 0
ChecksKinds s = (refuses : Name → Bool) (kind : Kind) (any : AnyValue) (x : Checked) → s.check refuses kind any ≡ Ok x → kind_of x.value ≡ kind

abbrev IsOf : Kind → Value → Type 0
IsOf kind v = kind_of v ≡ kind

abbrev Tells : Kind → Delivery → Type 0
Tells kind part = IfOk part.result (IsOf kind)

delivery_tells : (kind : Kind) (r : Result Checked Refusal) → ((x : Checked) → r ≡ Ok x → kind_of x.value ≡ kind) → Tells kind (delivery_of r)
delivery_tells kind (Ok x) is = is x refl
delivery_tells kind (Err refusal) is = tt

deliveries_tell : (s : Setting) (kind : Kind) (refused : List Name) (resources : List AnyValue) → ChecksKinds s → All (Tells kind) (map delivery_of (checks s kind resources refused))
deliveries_tell s kind refused [] is = All-nil (Tells kind)
deliveries_tell s kind refused (any ∷ more) is =
    let refuses : Name → Bool = λ text. named_among text refused in
    All-cons (Tells kind) (delivery_of (s.check refuses kind any)) (map delivery_of (checks s kind more refused)) (delivery_tells kind (s.check refuses kind any) (is refuses kind any)) (deliveries_tell s kind refused more is)

apart_tells : (kind : Kind) (test : List ℕ → Bool) (part : Delivery) → Tells kind part → Tells kind (apart_where test part)
apart_tells kind test part is = by (option_map_or test part.name false) is
  where
    by : (b : Bool) → Tells kind part → Tells kind (cond b (record part { result = Err Second }) part)
    by true is = tt
    by false is = is

apart_tell : (kind : Kind) (before : List (List ℕ)) (ps : List Delivery) → All (Tells kind) ps → All (Tells kind) (told_apart before ps)
apart_tell kind before [] all = All-nil (Tells kind)
apart_tell kind before (p ∷ ps) all =
    All-cons (Tells kind) (apart_where (λ name. told_among name before) p) (told_apart (with_name p.name before) ps)
    (apart_tells kind (λ name. told_among name before) p (all 0 p (omega arith))) (apart_tell kind (with_name p.name before) ps (λ k d lt. all (suc k) d (omega (arith, lt))))

abbrev TellsKind : Told → Type 0
TellsKind t = All (Tells t.kind) t.parts

told_by_kind : (s : Setting) (a : Authority) (refused : List Name) (r : Option Response) (kind : Option Kind) → ChecksKinds s → IfSome (told_by s a refused r kind) TellsKind
told_by_kind s a refused (Some r) (Some kind) is = apart_tell kind [] (map delivery_of (checks s kind r.resources refused)) (deliveries_tell s kind refused r.resources is)
told_by_kind s a refused (Some r) None is = tt
told_by_kind s a refused None (Some kind) is = tt
told_by_kind s a refused None None is = tt

told_in_kind : (s : Setting) (refused : List Name) (event : DriverEvent) (kind : Option Kind) → ChecksKinds s → IfSome (told_in s refused event kind) TellsKind
told_in_kind s refused (DriverEvent.Response a payload) kind is = told_by_kind s a refused (s.read payload) kind is
told_in_kind s refused (DriverEvent.Opened a) kind is = tt
told_in_kind s refused (DriverEvent.Bytes a how) kind is = tt
told_in_kind s refused (DriverEvent.Lost a) kind is = tt
told_in_kind s refused (DriverEvent.Moment time) kind is = tt
told_in_kind s refused (DriverEvent.Endpoint address state) kind is = tt
told_in_kind s refused DriverEvent.Sweep kind is = tt

-- ---- what comes for a key

same_kinds : (a b : Kind) → same_kind a b ≡ true → a ≡ b
same_kinds Kind.Listener Kind.Listener is = refl
same_kinds Kind.Listener Kind.Route is = absurd (cc is)
same_kinds Kind.Listener Kind.Cluster is = absurd (cc is)
same_kinds Kind.Listener Kind.Endpoint is = absurd (cc is)
same_kinds Kind.Route Kind.Listener is = absurd (cc is)
same_kinds Kind.Route Kind.Route is = refl
same_kinds Kind.Route Kind.Cluster is = absurd (cc is)
same_kinds Kind.Route Kind.Endpoint is = absurd (cc is)
same_kinds Kind.Cluster Kind.Listener is = absurd (cc is)
same_kinds Kind.Cluster Kind.Route is = absurd (cc is)
same_kinds Kind.Cluster Kind.Cluster is = refl
same_kinds Kind.Cluster Kind.Endpoint is = absurd (cc is)
same_kinds Kind.Endpoint Kind.Listener is = absurd (cc is)
same_kinds Kind.Endpoint Kind.Route is = absurd (cc is)
same_kinds Kind.Endpoint Kind.Cluster is = absurd (cc is)
same_kinds Kind.Endpoint Kind.Endpoint is = refl

first_of : (a b : Bool) → (a && b) ≡ true → a ≡ true
first_of true b is = refl
first_of false b is = absurd (cc)

found_tells : (kind : Kind) (p : Delivery → Bool) (ps : List Delivery) (part : Option Delivery) → find p ps ≡ part → All (Tells kind) ps → IfSome (option_map (λ x. x.result) part) (λ r. IfOk r (IsOf kind))
found_tells kind p ps None is all = tt
found_tells kind p ps (Some part) is all = (found (Tells kind) p ps part all is).0

delivers_kind : (t : Told) (k : Key) → TellsKind t → IfSome (delivers t k) (λ r. IfOk r (IsOf k.kind))
delivers_kind t k tells = by (same_kind t.kind k.kind && lives_at t.authority k.home) refl
  where
    by : (b : Bool) → (same_kind t.kind k.kind && lives_at t.authority k.home) ≡ b → IfSome (cond b (option_map (λ p. p.result) (find (is_named k.name) t.parts)) None) (λ r. IfOk r (IsOf k.kind))
    by true is =
        let same : t.kind ≡ k.kind = same_kinds t.kind k.kind (first_of (same_kind t.kind k.kind) (lives_at t.authority k.home) is) in
        subst (λ kind. IfSome (option_map (λ p. p.result) (find (is_named k.name) t.parts)) (λ r. IfOk r (IsOf kind))) same (found_tells t.kind (is_named k.name) t.parts (find (is_named k.name) t.parts) refl tells)
    by false is = tt

abbrev IsMarkOf : Kind → Mark → Type 0
IsMarkOf kind (Valid v) = kind_of v ≡ kind
IsMarkOf kind (Invalid reason) = Unit {0}
IsMarkOf kind Gone = Unit {0}

delivered_mark : (kind : Kind) (r : Option (Result Value Reason)) → IfSome r (λ x. IfOk x (IsOf kind)) → IfSome (option_map mark_of r) (IsMarkOf kind)
delivered_mark kind None is = tt
delivered_mark kind (Some (Ok v)) is = is
delivered_mark kind (Some (Err reason)) is = tt

or_holds : {X : Type 0} (P : X → Type 0) (a b : Option X) → IfSome a P → IfSome b P → IfSome (option_or a b) P
or_holds P None b first second = second
or_holds P (Some x) b first second = first

gone_if : (b : Bool) (kind : Kind) → IfSome (cond b (Some Gone) None) (IsMarkOf kind)
gone_if true kind = tt
gone_if false kind = tt

told_mark : (w : Watched) (t : Option Told) → IfSome t TellsKind → IfSome (option_and_then (mark_told w) t) (IsMarkOf w.key.kind)
told_mark w None is = tt
told_mark w (Some t) is =
    or_holds (IsMarkOf w.key.kind) (option_map mark_of (delivers t w.key)) (cond (is_deleted t w) (Some Gone) None) (delivered_mark w.key.kind (delivers t w.key) (delivers_kind t w.key is)) (gone_if (is_deleted t w) w.key.kind)

timed_mark : (past : List Entry) (ps : List Page) (now : Time) (w : Watched) (event : DriverEvent) (home : Home) → IfSome (mark_timed past ps now w event home) (IsMarkOf w.key.kind)
timed_mark past ps now w (DriverEvent.Moment time) (Home.At a) = gone_if (is_expired past ps now a w) w.key.kind
timed_mark past ps now w (DriverEvent.Moment time) (Home.Nowhere fault) = tt
timed_mark past ps now w (DriverEvent.Opened a) home = tt
timed_mark past ps now w (DriverEvent.Response a payload) home = tt
timed_mark past ps now w (DriverEvent.Bytes a how) home = tt
timed_mark past ps now w (DriverEvent.Lost a) home = tt
timed_mark past ps now w (DriverEvent.Endpoint address state) home = tt
timed_mark past ps now w DriverEvent.Sweep home = tt

abbrev IsTyped : Watched → Type 0
IsTyped w = All (IsMarkOf w.key.kind) w.marks

one_more : (kind : Kind) (m : Option Mark) (marks : List Mark) → IfSome m (IsMarkOf kind) → All (IsMarkOf kind) marks → All (IsMarkOf kind) (cons_option m marks)
one_more kind None marks is all = all
one_more kind (Some m) marks is all = All-cons (IsMarkOf kind) m marks is all

marked_typed : (s : Setting) (c : Came) (past : List Entry) (ps : List Page) (now : Time) → ChecksKinds s → All IsTyped (watched_now ps) → All IsTyped (marked s c past ps now)
marked_typed s c past ps now is all =
    All-map IsTyped (with_mark s c past ps now) (watched_now ps) (λ k d lt.
    let w : Watched = get_or (watched_now ps) k d in
    one_more w.key.kind (mark s c past ps now w) w.marks
    (or_holds (IsMarkOf w.key.kind) (option_and_then (mark_told w) (answered s c)) (mark_timed past ps now w c.event w.key.home)
    (told_mark w (answered s c) (told_in_kind s c.refused c.event (answered_kind c.verdict) is)) (timed_mark past ps now w c.event w.key.home))
    (all k d lt))

-- ---- what is watched

kept_typed : (key : Key) (before : List Watched) (w : Option Watched) → find_watched key before ≡ w → All IsTyped before → All (IsMarkOf key.kind) (option_map_or (λ x. x.marks) w [])
kept_typed key before None is all = All-nil (IsMarkOf key.kind)
kept_typed key before (Some w) is all =
    let (typed, passes) = found IsTyped (λ x. is_key key x.key) before w all is in
    subst (λ (k : Key). All (IsMarkOf k.kind) w.marks) (sym (same_key key w.key passes)) typed

watch_typed : (before : List Watched) (keys : List Key) → All IsTyped before → All IsTyped (watch before keys)
watch_typed before keys all = All-map IsTyped (watch_key before) keys (λ k d lt. kept_typed (get_or keys k d) before (find_watched (get_or keys k d) before) refl all)

page_typed : (s : Setting) (e : Entry) (what : What) (past : List Entry) (ps : List Page) → ChecksKinds s → All IsTyped (watched_now ps) → All IsTyped (page_of s e what past ps).watched
page_typed s e (What.Driver event reply) past ps is all =
    let marks : List Watched = marked s (came event reply) past ps (present_after past event).now in
    watch_typed marks (reach (known_as s (fate_in marks)) (references ps)) (marked_typed s (came event reply) past ps (present_after past event).now is all)
page_typed s e (What.Caller event reply) past ps is all = all

pages_typed : (s : Setting) (past : List Entry) → ChecksKinds s → All IsTyped (watched_now (pages s past))
pages_typed s [] is = All-nil IsTyped
pages_typed s (e ∷ past) is = page_typed s e e.what past (pages s past) is (pages_typed s past is)

-- ---- fates

abbrev IsFateOf : Kind → Known → Type 0
IsFateOf kind (Known.Value v) = kind_of v ≡ kind
IsFateOf kind Known.Wanted = Unit {0}
IsFateOf kind (Known.Invalid reason) = Unit {0}
IsFateOf kind Known.Absent = Unit {0}

last_typed : (kind : Kind) (marks : List Mark) → All (IsMarkOf kind) marks → IfSome (last_value marks) (IsOf kind)
last_typed kind [] all = tt
last_typed kind (Valid v ∷ marks) all = all 0 (Valid v) (omega arith)
last_typed kind (Invalid reason ∷ marks) all = last_typed kind marks (λ k d lt. all (suc k) d (omega (arith, lt)))
last_typed kind (Gone ∷ marks) all = tt

fate_typed : (kind : Kind) (v : Option Value) (reason : Option Reason) (was : Bool) → IfSome v (IsOf kind) → IsFateOf kind (fate_by v reason was)
fate_typed kind (Some v) reason was is = is
fate_typed kind None (Some reason) was is = tt
fate_typed kind None None true is = tt
fate_typed kind None None false is = tt

home_typed : (home : Home) (kind : Kind) (found_fate : Option Known) → IfSome found_fate (IsFateOf kind) → IsFateOf kind (fate_at home found_fate)
home_typed (Home.At a) kind None is = tt
home_typed (Home.At a) kind (Some known) is = is
home_typed (Home.Nowhere fault) kind found_fate is = tt

judged_typed : (key : Key) (watched : List Watched) (w : Option Watched) → find_watched key watched ≡ w → All IsTyped watched → IfSome (option_map (λ x. judged x.marks) w) (IsFateOf key.kind)
judged_typed key watched None is all = tt
judged_typed key watched (Some w) is all =
    let (typed, passes) = found IsTyped (λ x. is_key key x.key) watched w all is in
    let marks : All (IsMarkOf key.kind) w.marks = subst (λ (k : Key). All (IsMarkOf k.kind) w.marks) (sym (same_key key w.key passes)) typed in
    fate_typed key.kind (last_value w.marks) (last_reason w.marks) (was_gone w.marks) (last_typed key.kind w.marks marks)

known_typed : (watched : List Watched) (key : Key) → All IsTyped watched → IsFateOf key.kind (fate_in watched key)
known_typed watched key all = home_typed key.home key.kind (option_map (λ x. judged x.marks) (find_watched key watched)) (judged_typed key watched (find_watched key watched) refl all)

-- ---- where there is no front, a resource is awaited

route_awaited : (r : Resources) (listener name : Name) (known : Known) → r.fate (r.key Kind.Route name) ≡ known → IsFateOf Kind.Route known → given known (front_of_route_value r listener) ≡ None → r.fate (r.key Kind.Route name) ≡ Known.Wanted
route_awaited r listener name Known.Wanted is typed none = is
route_awaited r listener name (Known.Value (Value.Route routes)) is typed none = absurd (cc none)
route_awaited r listener name (Known.Value (Value.Listener v)) is typed none = absurd (cc typed)
route_awaited r listener name (Known.Value (Value.Cluster v)) is typed none = absurd (cc typed)
route_awaited r listener name (Known.Value (Value.Endpoint v)) is typed none = absurd (cc typed)
route_awaited r listener name (Known.Invalid reason) is typed none = absurd (cc none)
route_awaited r listener name Known.Absent is typed none = absurd (cc none)

-- what is known of keys is of their kinds
pub record AreTyped (r : Resources) : Type 0 where
  pub target : r.target.key.kind ≡ Kind.Listener
  pub listener : IsFateOf Kind.Listener (r.fate r.target.key)
  pub routes : (name : Name) → IsFateOf Kind.Route (r.fate (r.key Kind.Route name))

from_awaited : (r : Resources) (listener : Name) (routes : RoutesFrom) → AreTyped r → named_routes (r.fate r.target.key) ≡ named_in routes → front_from r listener routes ≡ None → IsFrontAwaited r
from_awaited r listener (RoutesFrom.Inline routes) typed names none = absurd (cc none)
from_awaited r listener (RoutesFrom.Named name) typed names none =
    inr (name, names, route_awaited r listener name (r.fate (r.key Kind.Route name)) refl (typed.routes name) none)

front_awaited : (r : Resources) (known : Known) → AreTyped r → r.fate r.target.key ≡ known → IsFateOf Kind.Listener known → given known (front_of_listener r) ≡ None → IsFrontAwaited r
front_awaited r Known.Wanted typed is of none = inl is
front_awaited r (Known.Value (Value.Listener listener)) typed is of none = from_awaited r listener.name listener.routes typed (ap named_routes is) none
front_awaited r (Known.Value (Value.Route v)) typed is of none = absurd (cc of)
front_awaited r (Known.Value (Value.Cluster v)) typed is of none = absurd (cc of)
front_awaited r (Known.Value (Value.Endpoint v)) typed is of none = absurd (cc of)
front_awaited r (Known.Invalid reason) typed is of none = absurd (cc none)
front_awaited r Known.Absent typed is of none = absurd (cc none)

waits : (r : Resources) → AreTyped r → front r ≡ None → IsFrontAwaited r
waits r typed none = front_awaited r (r.fate r.target.key) typed refl typed.listener none

-- ---- a configuration stays

not_some : {X : Type 0} (o : Option X) → o ≡ None → is_some o ≡ true → ⊥
not_some None is some = absurd (cc some)
not_some (Some x) is some = absurd (cc is)

config_stays : (r : Resources) (names : List Name) (least : Option Key) (before : Option Config) → AreTyped r → least ≡ missing r.fate (reach r names) → config_after r names least before ≡ None → before ≡ None
config_stays r names (Some key) before typed is none = none
config_stays r names None before typed is none =
    absurd (not_some (whole_config r names) none ((whole_where r names None (whole_config r names) (waits r typed) is refl).1 refl))

resources_typed : (s : Setting) (watched : List Watched) → s.target.key.kind ≡ Kind.Listener → ((kind : Kind) (name : Name) → (s.key kind name).kind ≡ kind) → All IsTyped watched → AreTyped (known_as s (fate_in watched))
resources_typed s watched target keys all = record {
  target = target;
  listener = subst (λ kind. IsFateOf kind (fate_in watched s.target.key)) target (known_typed watched s.target.key all);
  routes = λ name. subst (λ kind. IsFateOf kind (fate_in watched (s.key Kind.Route name))) (keys Kind.Route name) (known_typed watched (s.key Kind.Route name) all);
}

page_keeps : (s : Setting) (e : Entry) (what : What) (past : List Entry) (ps : List Page) → ChecksKinds s → s.target.key.kind ≡ Kind.Listener → ((kind : Kind) (name : Name) → (s.key kind name).kind ≡ kind) → All IsTyped (watched_now ps) →
    (page_of s e what past ps).config ≡ None → config_now ps ≡ None
page_keeps s e (What.Driver event reply) past ps is target keys all none =
    let marks : List Watched = marked s (came event reply) past ps (present_after past event).now in
    let r : Resources = known_as s (fate_in marks) in
    config_stays r (references ps) (missing (fate_in marks) (reach r (references ps))) (config_now ps) (resources_typed s marks target keys (marked_typed s (came event reply) past ps (present_after past event).now is all)) refl none
page_keeps s e (What.Caller event reply) past ps is target keys all none = none

pub configs_are_kept : ConfigsAreKept
configs_are_kept boot target e past is none =
    let s : Setting = setting_of boot target in
    page_keeps s e e.what past (pages s past) checked_kind is (λ kind name. refl) (pages_typed s past checked_kind) none

-- The pattern texts that an entry of a right history refuses are UTF-8.
use Rattle.std.proofs.Common.{◌≡◌, ℕ, List, [], ◌∷◌, map, filter_map, Bool, true, false, All, cond, Option, Some, None, Result, Ok, Err, refl, sym, subst}
use Rattle.std.specs.List.{cons_option}
use Rattle.std.specs.Str.{IsUtf8}
use Rattle.std.proofs.lemmas.List.Elements.{All-cons, All-head, All-nil, All-tail}
use Rattle.xc_base.specs.declared.names.Kind.{Kind}
use Rattle.xc_base.specs.declared.reason.Reason.{Reason}
use Rattle.proto_discovery.specs.declared.any.AnyValue.{AnyValue}
use Rattle.proto_listener.specs.Listener.{listener_of}
use Rattle.proto_listener.specs.Manager.{manager_of}
use Rattle.proto_listener.specs.declared.listener.RawListener.{RawListener}
use Rattle.proto_listener.specs.declared.listener.RawApiListener.{RawApiListener}
use Rattle.proto_listener.specs.declared.manager.RawRds.{RawRds}
use Rattle.proto_listener.specs.declared.manager.RawManagerOne.{RawManagerOne}
use Rattle.proto_listener.specs.declared.manager.RawManagerOne.TheVariants.{Rds, RouteConfig}
use Rattle.proto_route.specs.RawRouteFields.{routes_of as routes_read}
use Rattle.proto_cluster.specs.Cluster.{cluster_of}
use Rattle.proto_cluster.specs.Assignment.{assignment_of}
use Rattle.check_steps.specs.declared.check_fault.Stop.{Stop}
use Rattle.check_steps.specs.declared.check_fault.Stop.TheVariants.{Because, Refused}
use Rattle.check_steps.specs.declared.check_fault.Refusal.{Refusal}
use Rattle.legal_history.specs.resource_check.declared.raw.Raw.{Raw}
use Rattle.legal_history.specs.resource_check.declared.raw.Raw.TheVariants as raw
use Rattle.legal_history.specs.resource_check.declared.raw.Found.{Found}
use Rattle.legal_history.specs.resource_check.declared.resource.Checked.{Checked}
use Rattle.check_routes.specs.ListenerTable.{any_in, any_there, listener_value, manager_in, named_routes, routes_of}
use Rattle.legal_history.specs.resource_check.Resources.{check_of, found_of, message_of, name_of, own_name, read_raw, under, value_of}
use Rattle.check_steps.specs.TableSteps.{◌>>=◌, readable}
use Rattle.xds_bootstrap.specs.declared.bootstrap.Bootstrap.{Bootstrap}
use Rattle.xds_name.specs.declared.target.Target.{Target}
use Rattle.call_journal.specs.declared.entry.Entry.{Entry}
use Rattle.call_journal.specs.declared.entry.What.{What}
use Rattle.legal_history.specs.xds_history.Setting.{setting_of}
use Rattle.legal_history.specs.xds_history.Words.{among}
use Rattle.legal_history.specs.resource_check.Deliveries.{once, refused_text}
use Rattle.legal_history.specs.xds_history.Responses.{refused_in, stopped_at}
use Rattle.legal_history.specs.xds_history.declared.responses.Told.{Told}
use Rattle.legal_history.specs.xds_history.Right.{IsReply}
use Rattle.legal_history.specs.xds_history.Pages.{pages}
use Rattle.text_law.specs.RefusedTexts.{RefusedAreTexts}
use Rattle.text_law.proofs.StopLemmas.{Maybe, RoutesUtf8, Stops, StopsAt, stops_assignment, stops_because, stops_cluster, stops_demand, stops_named, stops_ok, stops_readable, stops_then, stops_value}
use Rattle.text_law.proofs.ReadLemmas.{ManagerUtf8, ManagerOneUtf8, reads_manager, reads_routes}

-- ---- what steps find

record Finds {A E : Type 0} (P : A → Type 0) (r : Result A E) : Type 0 where
  says : (x : A) → r ≡ Ok x → P x

finds_ok : {A E : Type 0} (P : A → Type 0) (x : A) → P x → Finds {A = A} {E = E} P (Ok x)
finds_ok P x h = record { says = λ y is. let same : x ≡ y = cc is in subst P same h }

finds_past : {A B E : Type 0} (P : B → Type 0) (r : Result A E) (f : A → Result B E) → ((x : A) → Finds P (f x)) → Finds P (r >>= f)
finds_past P (Ok x) f k = k x
finds_past P (Err e) f k = record { says = λ y is. absurd (cc is) }

finds_then : {A B E : Type 0} (Q : A → Type 0) (P : B → Type 0) (r : Result A E) (f : A → Result B E) → Finds Q r → ((x : A) → Q x → Finds P (f x)) → Finds P (r >>= f)
finds_then Q P (Ok x) f h k = k x (h.says x refl)
finds_then Q P (Err e) f h k = record { says = λ y is. absurd (cc is) }

finds_readable : {A : Type 0} (P : A → Type 0) (r : Result A ℕ) → Finds P r → Finds P (readable r)
finds_readable P (Ok x) h = finds_ok P x (h.says x refl)
finds_readable P (Err at) h = record { says = λ y is. absurd (cc is) }

stops_found : {A B : Type 0} (Q : A → Type 0) (r : Result A Stop) (f : A → Result B Stop) → Stops r → Finds Q r → ((x : A) → Q x → Stops (f x)) → Stops (r >>= f)
stops_found Q (Ok x) f h g k = k x (g.says x refl)
stops_found Q (Err stop) f h g k = record { says = λ s is. let same : stop ≡ s = cc is in subst StopsAt same (h.says stop refl) }

-- ---- listeners

stops_there : (found : Option AnyValue) → Stops (any_there found)
stops_there None = stops_because Reason.NoRoutes
stops_there (Some any) = stops_ok any

stops_any : (found : Option RawApiListener) → Stops (any_in found)
stops_any None = stops_because Reason.NoRoutes
stops_any (Some api) = stops_there api.api_listener

stops_manager : (raw : RawListener) → Stops (manager_in raw)
unfolding manager_in
stops_manager raw = search (stops_then, stops_any, stops_demand, stops_readable) depth 25

manager_found : (bytes : List ℕ) → Finds ManagerUtf8 (readable (manager_of bytes))
manager_found bytes = finds_readable ManagerUtf8 (manager_of bytes) (record { says = (reads_manager bytes).says })

finds_manager : (raw : RawListener) → Finds ManagerUtf8 (manager_in raw)
unfolding manager_in
finds_manager raw = search (finds_past, manager_found) depth 25

stops_named_routes : (rds : RawRds) → Stops (named_routes rds)
unfolding named_routes
stops_named_routes rds = search (stops_then, stops_demand, stops_named, stops_ok) depth 25

stops_from : (refuses : List ℕ → Bool) (one : Option RawManagerOne) → ManagerOneUtf8 one → Stops (routes_of refuses one)
stops_from refuses None h = stops_because Reason.NoRoutes
stops_from refuses (Some (Rds rds)) h = stops_named_routes rds
stops_from refuses (Some (RouteConfig message)) h = search (h, stops_then, stops_value, stops_ok) depth 25

stops_listener : (refuses : List ℕ → Bool) (name : List ℕ) (message : RawListener) → Stops (listener_value refuses name message)
unfolding listener_value
stops_listener refuses name message =
    stops_found ManagerUtf8 (manager_in message) _ (stops_manager message) (finds_manager message) (λ manager h. search (h, stops_then, stops_from, stops_ok) depth 25)

-- ---- resources

abbrev RawUtf8 : Raw → Type 0
RawUtf8 (raw.Route message) = RoutesUtf8 message
RawUtf8 _ = Unit {0}

stops_raw : (refuses : List ℕ → Bool) (name : List ℕ) (message : Raw) → RawUtf8 message → Stops (value_of refuses name message)
stops_raw refuses name (raw.Listener message) h = search (stops_then, stops_listener, stops_ok) depth 25
stops_raw refuses name (raw.Route message) h = search (h, stops_then, stops_value, stops_ok) depth 25
stops_raw refuses name (raw.Cluster message) h = search (stops_then, stops_cluster, stops_ok) depth 25
stops_raw refuses name (raw.Endpoint message) h = search (stops_then, stops_assignment, stops_ok) depth 25

finds_raw : (kind : Kind) (bytes : List ℕ) → Finds RawUtf8 (read_raw kind bytes)
finds_raw Kind.Listener bytes = finds_past RawUtf8 (listener_of bytes) (λ message. Ok (raw.Listener message)) (λ message. finds_ok RawUtf8 (raw.Listener message) tt)
finds_raw Kind.Route bytes = finds_then RoutesUtf8 RawUtf8 (routes_read bytes) (λ message. Ok (raw.Route message)) (record { says = (reads_routes bytes).says }) (λ message h. finds_ok RawUtf8 (raw.Route message) h)
finds_raw Kind.Cluster bytes = finds_past RawUtf8 (cluster_of bytes) (λ message. Ok (raw.Cluster message)) (λ message. finds_ok RawUtf8 (raw.Cluster message) tt)
finds_raw Kind.Endpoint bytes = finds_past RawUtf8 (assignment_of bytes) (λ message. Ok (raw.Endpoint message)) (λ message. finds_ok RawUtf8 (raw.Endpoint message) tt)

raw_found : (kind : Kind) (bytes : List ℕ) → Finds RawUtf8 (readable (read_raw kind bytes))
raw_found kind bytes = finds_readable RawUtf8 (read_raw kind bytes) (finds_raw kind bytes)

finds_message : (kind : Kind) (any : AnyValue) → Finds RawUtf8 (message_of kind any)
unfolding message_of
finds_message kind any = search (finds_past, raw_found) depth 25

stops_message : (kind : Kind) (any : AnyValue) → Stops (message_of kind any)
unfolding message_of
stops_message kind any = search (stops_then, stops_demand, stops_readable) depth 25

stops_name : (given : Option (List ℕ)) (message : Raw) → Stops (name_of given message)
stops_name (Some name) message = stops_ok name
stops_name None message = stops_named (own_name message)

-- ---- under a name

record Halts {A : Type 0} (r : Result A Refusal) : Type 0 where
  says : (refusal : Refusal) → r ≡ Err refusal → StopsAt refusal.stop

halts_ok : {A : Type 0} (x : A) → Halts {A = A} (Ok x)
halts_ok x = record { says = λ refusal is. absurd (cc is) }

halts_under : {A : Type 0} (name : Option (List ℕ)) (r : Result A Stop) → Stops r → Halts (under name r)
halts_under name (Ok x) h = halts_ok x
halts_under name (Err stop) h = record { says = λ refusal is. let same : record { name = name; stop = stop } ≡ refusal = cc is in subst (λ (x : Refusal). StopsAt x.stop) same (h.says stop refl) }

halts_then : {A B : Type 0} (r : Result A Refusal) (f : A → Result B Refusal) → Halts r → ((x : A) → Halts (f x)) → Halts (r >>= f)
halts_then (Ok x) f h k = k x
halts_then (Err refusal) f h k = record { says = λ other is. let same : refusal ≡ other = cc is in subst (λ (x : Refusal). StopsAt x.stop) same (h.says refusal refl) }

halts_found : {A B : Type 0} (Q : A → Type 0) (r : Result A Refusal) (f : A → Result B Refusal) → Halts r → Finds Q r → ((x : A) → Q x → Halts (f x)) → Halts (r >>= f)
halts_found Q (Ok x) f h g k = k x (g.says x refl)
halts_found Q (Err refusal) f h g k = record { says = λ other is. let same : refusal ≡ other = cc is in subst (λ (x : Refusal). StopsAt x.stop) same (h.says refusal refl) }

finds_under : {A : Type 0} (P : A → Type 0) (name : Option (List ℕ)) (r : Result A Stop) → Finds P r → Finds P (under name r)
finds_under P name (Ok x) h = finds_ok P x (h.says x refl)
finds_under P name (Err stop) h = record { says = λ y is. absurd (cc is) }

abbrev FoundUtf8 : Found → Type 0
FoundUtf8 found = RawUtf8 found.raw

message_then : {B : Type 0} (P : B → Type 0) (name : Option (List ℕ)) (kind : Kind) (any : AnyValue) (f : Raw → Result B Refusal) → ((x : Raw) → RawUtf8 x → Finds P (f x)) → Finds P (under name (message_of kind any) >>= f)
message_then P name kind any f k = finds_then RawUtf8 P (under name (message_of kind any)) f (finds_under RawUtf8 name (message_of kind any) (finds_message kind any)) k

found_end : (name : List ℕ) (message : Raw) → RawUtf8 message → Finds {E = Refusal} FoundUtf8 (Ok (record { name = name; raw = message }))
found_end name message h = finds_ok FoundUtf8 (record { name = name; raw = message }) h

finds_found : (kind : Kind) (any : AnyValue) → Finds FoundUtf8 (found_of kind any)
unfolding found_of
finds_found kind any = search (found_end, message_then, finds_past) depth 25

halts_in : (kind : Kind) (any : AnyValue) → Halts (found_of kind any)
unfolding found_of
halts_in kind any = search (halts_then, halts_under, stops_readable, stops_message, stops_name, halts_ok) depth 25

halts_check : (refuses : List ℕ → Bool) (kind : Kind) (any : AnyValue) → Halts (check_of refuses kind any)
unfolding check_of
halts_check refuses kind any =
    halts_found FoundUtf8 (found_of kind any) _ (halts_in kind any) (finds_found kind any) (λ found h. search (h, halts_then, halts_under, stops_raw, halts_ok) depth 25)

-- ---- refused texts

text_at : (name : Option (List ℕ)) (stop : Stop) → StopsAt stop → Maybe IsUtf8 (refused_text (Err (record { name = name; stop = stop })))
text_at name (Because reason) h = tt
text_at name (Refused text) h = h

text_of : (r : Result Checked Refusal) → Halts r → Maybe IsUtf8 (refused_text r)
text_of (Ok checked) h = tt
text_of (Err refusal) h = text_at refusal.name refusal.stop (h.says refusal refl)

put_text : (o : Option (List ℕ)) (xs : List (List ℕ)) → Maybe IsUtf8 o → All IsUtf8 xs → All IsUtf8 (cons_option o xs)
put_text None xs h k = k
put_text (Some x) xs h k = All-cons IsUtf8 x xs h k

texts_of : (refuses : List ℕ → Bool) (kind : Kind) (anys : List AnyValue) → All IsUtf8 (filter_map refused_text (map (check_of refuses kind) anys))
texts_of refuses kind [] = All-nil IsUtf8
texts_of refuses kind (any ∷ anys) = put_text (refused_text (check_of refuses kind any)) _ (text_of (check_of refuses kind any) (halts_check refuses kind any)) (texts_of refuses kind anys)

once_by : (b : Bool) (before : List (List ℕ)) (x : List ℕ) (xs : List (List ℕ)) → IsUtf8 x → All IsUtf8 (once before xs) → All IsUtf8 (once (x ∷ before) xs) → All IsUtf8 (cond b (once before xs) (x ∷ once (x ∷ before) xs))
once_by true before x xs h k l = k
once_by false before x xs h k l = All-cons IsUtf8 x (once (x ∷ before) xs) h l

once_texts : (before xs : List (List ℕ)) → All IsUtf8 xs → All IsUtf8 (once before xs)
once_texts before [] h = All-nil IsUtf8
once_texts before (x ∷ xs) h =
    let more : All IsUtf8 xs = All-tail IsUtf8 x xs h in
    once_by (among x before) before x xs (All-head IsUtf8 x xs h) (once_texts before xs more) (once_texts (x ∷ before) xs more)

stopped_texts : (boot : Bootstrap) (target : Target) (refused : List (List ℕ)) (told : Option Told) → All IsUtf8 (stopped_at (setting_of boot target) refused told)
stopped_texts boot target refused None = All-nil IsUtf8
stopped_texts boot target refused (Some t) = once_texts [] _ (texts_of (λ text. among text refused) t.kind t.resources)

what_refused : (boot : Bootstrap) (target : Target) (e : Entry) (w : What) (past : List Entry) → IsReply (setting_of boot target) e w past (pages (setting_of boot target) past) → All IsUtf8 (refused_in w)
what_refused boot target e (What.Driver event reply) past h = subst (All IsUtf8) (sym h.refused_is) (stopped_texts boot target reply.refused _)
what_refused boot target e (What.Caller event reply) past h = All-nil IsUtf8

pub refused_are_texts : RefusedAreTexts
refused_are_texts boot target e past h = what_refused boot target e e.what past h.0

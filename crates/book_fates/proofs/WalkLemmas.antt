-- A walk over keys, and what the walks of a response make together.
use Rattle.std.proofs.Common.{◌≡◌, ℕ, ◌+◌, ◌<◌, Bool, true, false, cond, List, length, take, get_or, Option, Some, None, refl, sym, ap, ◌∙◌, subst, option_map}
use Rattle.std.specs.Prelude.{◌&&◌, ◌||◌, if◌then◌else◌, unwrap_or, IsSome, option_and_then}
use Rattle.std.specs.Option.{option_or}
use Rattle.xc_base.specs.declared.names.Authority.{Authority}
use Rattle.xc_base.specs.declared.names.Kind.{Kind}
use Rattle.xc_base.specs.declared.names.Key.{Key}
use Rattle.xc_base.specs.declared.names.Home.{Home}
use Rattle.xc_base.specs.declared.names.Time.{Time}
use Rattle.xc_keys.specs.Keys.{is_key}
use Rattle.xc_keys.proofs.KeyLemmas.{same_key}
use Rattle.xds_cache.specs.declared.fate.Known.{Known}
use Rattle.xds_cache.specs.KeptFates.{Watched as Rows, known_of, fate_at, fate_of, Changes, taken_away}
use Rattle.call_journal.specs.declared.event.DriverEvent.{DriverEvent}
use Rattle.call_journal.specs.declared.entry.Entry.{Entry}
use Rattle.config_assembly.specs.Watching.{has_key}
use Rattle.config_assembly.proofs.WatchLemmas.{has_next}
use Rattle.xds_history.specs.Setting.{Setting}
use Rattle.xds_history.specs.Words.{same_kind, lives_at}
use Rattle.xds_history.specs.Responses.{Came, answered, told_in, answered_kind}
use Rattle.xds_history.specs.declared.responses.Told.{Told}
use Rattle.xds_history.specs.declared.page.Page.{Page}
use Rattle.xds_history.specs.declared.page.Mark.{Mark}
use Rattle.xds_history.specs.Page.{watched_now}
use Rattle.xds_history.specs.Fates.{deletes, has_value, lacks, marked}
use Rattle.book_fates.specs.FateSteps.{Knows, Stepped, AreApart, is_let_go, gone_step, among_step, gone_among, parts_step, told_step, step, out_step, brings, brings_timed, after_marks, WatchesOnly}
use Rattle.book_fates.specs.declared.answered.Answered.{Answered}
use Rattle.book_fates.specs.Delivered.{delivered_by, delivered_in, told_as}
use Rattle.book_fates.proofs.StepLemmas.{knows_marked}
use Rattle.book_fates.proofs.PartLemmas.{told_brings}
use Rattle.book_fates.proofs.PlaceLemmas.{one_key, key_sym}

-- ---- one key more

-- at one key alone
abbrev pub At : Rows → Rows → Key → (Key → Known → Known) → Type 0
At old new key f = (other : Key) → known_of new other ≡ option_map (λ known. if is_key key other then f other known else known) (known_of old other)

over_both : (b h : Bool) (g : Known → Known) (o : Option Known) → ((known : Known) → g (g known) ≡ g known) →
    option_map (λ known. if b then g known else known) (option_map (λ known. if h then g known else known) o) ≡ option_map (λ known. if (h || b) then g known else known) o
over_both b h g None again = refl
over_both true true g (Some known) again = ap Some (again known)
over_both true false g (Some known) again = refl
over_both false true g (Some known) again = refl
over_both false false g (Some known) again = refl

pub next_key : (f : Key → Known → Known) (first mid new : Rows) (keys : List Key) (i : ℕ) (x : Key) → ((key : Key) (known : Known) → f key (f key known) ≡ f key known) → i < length keys → x ≡ get_or keys i x →
    At mid new x f → Stepped first mid (among_step f (take i keys)) → Stepped first new (among_step f (take (i + 1) keys))
next_key f first mid new keys i x again lt is here before other =
    here other
    ∙ ap (option_map (λ known. if is_key x other then f other known else known)) (before other)
    ∙ over_both (is_key x other) (has_key (take i keys) other) (f other) (known_of first other) (again other)
    ∙ ap (λ b. option_map (λ known. if (has_key (take i keys) other || b) then f other known else known) (known_of first other)) (key_sym x other)
    ∙ ap (λ b. option_map (λ known. if b then f other known else known) (known_of first other)) (sym (has_next keys i x other lt is))

all_at : (f : Key → Known → Known) (keys : List Key) (key : Key) (o : Option Known) → (IsSome o → has_key keys key ≡ true) → option_map (among_step f keys key) o ≡ option_map (f key) o
all_at f keys key None only = refl
all_at f keys key (Some known) only = ap (λ b. Some (if b then f key known else known)) (only refl)

-- where no others are watched the walk is a step of all
pub walked_all : (f : Key → Known → Known) (old new : Rows) (keys : List Key) → WatchesOnly old keys → Stepped old new (among_step f keys) → Stepped old new f
walked_all f old new keys only stepped key = stepped key ∙ all_at f keys key (known_of old key) (only key)

-- ---- deletions

homed : (d k l : Bool) (a : Authority) (home : Home) (o : Option Known) → ((((d && k) && lives_at a home) && l) && has_value (fate_at home o)) ≡ ((((d && k) && lives_at a home) && l) && has_value (unwrap_or o Known.Wanted))
homed d k l a (Home.At other) o = refl
homed true true l a (Home.Nowhere fault) o = refl
homed true false l a (Home.Nowhere fault) o = refl
homed false k l a (Home.Nowhere fault) o = refl

not_gone : (x : Bool) → cond (x && false) Known.Absent Known.Absent ≡ Known.Absent
not_gone true = refl
not_gone false = refl

again_at : (g : Bool) (t : Told) (key : Key) (known : Known) → is_let_go t key known ≡ g → gone_step t key (cond g Known.Absent known) ≡ cond g Known.Absent known
again_at true t key known is = not_gone (((deletes t.kind && same_kind t.kind key.kind) && lives_at t.authority key.home) && lacks t key)
again_at false t key known is = ap (λ b. cond b Known.Absent known) is

pub gone_again : (t : Told) (key : Key) (known : Known) → gone_step t key (gone_step t key known) ≡ gone_step t key known
gone_again t key known = again_at (is_let_go t key known) t key known refl

gone_known : (t : Told) (key : Key) (b : Bool) (o : Option Known) → is_let_go t key (unwrap_or o Known.Wanted) ≡ b → option_map (λ known. if b then Known.Absent else known) o ≡ option_map (gone_step t key) o
gone_known t key b None is = refl
gone_known t key b (Some known) is = ap (λ x. Some (if x then Known.Absent else known)) (sym is)

same_at : (o : Option Known) → option_map (λ known. known) o ≡ o
same_at None = refl
same_at (Some known) = refl

gone_other : (e b : Bool) (t : Told) (mid : Rows) (key other : Key) → is_key key other ≡ e → is_let_go t key (fate_of mid key) ≡ b →
    option_map (λ known. if e then (if b then Known.Absent else known) else known) (known_of mid other) ≡ option_map (λ known. if e then gone_step t other known else known) (known_of mid other)
gone_other true b t mid key other same is =
    gone_known t other b (known_of mid other)
    (sym (homed (deletes t.kind) (same_kind t.kind other.kind) (lacks t other) t.authority other.home (known_of mid other)) ∙ subst (λ k. is_let_go t k (fate_of mid k) ≡ b) (same_key key other same) is)
gone_other false b t mid key other same is = refl

-- a key that the response lacks is let go
pub goes : (t : Told) (mid new : Rows) (key : Key) → is_let_go t key (fate_of mid key) ≡ true → Changes mid new key taken_away → At mid new key (gone_step t)
goes t mid new key is changes other = one_key mid new key (λ before. Known.Absent) changes other ∙ gone_other (is_key key other) true t mid key other refl is

none_changes : (e : Bool) (o : Option Known) → o ≡ option_map (λ known. if e then (if false then Known.Absent else known) else known) o
none_changes true o = sym (same_at o)
none_changes false o = sym (same_at o)

pub remains : (t : Told) (mid : Rows) (key : Key) → is_let_go t key (fate_of mid key) ≡ false → At mid mid key (gone_step t)
remains t mid key is other = none_changes (is_key key other) (known_of mid other) ∙ gone_other (is_key key other) false t mid key other refl is

pub goes_out : (mid new : Rows) (key : Key) → Changes mid new key taken_away → At mid new key out_step
goes_out mid new key changes other = one_key mid new key (λ before. Known.Absent) changes other

pub out_again : (key : Key) (known : Known) → out_step key (out_step key known) ≡ out_step key known
out_again key known = refl

-- ---- a response

two_steps : (f g : Known → Known) (o : Option Known) → option_map f (option_map g o) ≡ option_map (λ known. f (g known)) o
two_steps f g None = refl
two_steps f g (Some known) = refl

pub by_point : (f g : Known → Known) (o : Option Known) → ((known : Known) → f known ≡ g known) → option_map f o ≡ option_map g o
by_point f g None same = refl
by_point f g (Some known) same = ap Some (same known)

pub told_all : (t : Told) (old mid new : Rows) (keys : List Key) → AreApart t.parts → WatchesOnly old keys → Stepped old mid (gone_among t keys) → Stepped mid new (parts_step t.authority t.kind t.parts) → Stepped old new (told_step t)
told_all t old mid new keys are only gone taken key =
    taken key
    ∙ ap (option_map (parts_step t.authority t.kind t.parts key)) (walked_all (gone_step t) old mid keys only gone key)
    ∙ two_steps (parts_step t.authority t.kind t.parts key) (gone_step t key) (known_of old key)
    ∙ by_point (λ known. parts_step t.authority t.kind t.parts key (gone_step t key known)) (told_step t key) (known_of old key) (λ known. told_brings t key known are)

or_nothing : (o : Option Mark) → option_or o None ≡ o
or_nothing None = refl
or_nothing (Some m) = refl

untimed : (s : Setting) (c : Came) (t : Told) (event : DriverEvent) (kind : Option Kind) (past : List Entry) (ps : List Page) (now : Time) (key : Key) (known : Known) (home : Home) → told_in s c.refused event kind ≡ Some t → brings_timed past ps now key known event home ≡ None
untimed s c t (DriverEvent.Opened a) kind past ps now key known home is = refl
untimed s c t (DriverEvent.Response a payload) kind past ps now key known home is = refl
untimed s c t (DriverEvent.Bytes a how) kind past ps now key known home is = refl
untimed s c t (DriverEvent.Lost a) kind past ps now key known home is = refl
untimed s c t (DriverEvent.Moment time) kind past ps now key known home is = absurd (cc is)
untimed s c t (DriverEvent.Endpoint address state) kind past ps now key known home is = refl
untimed s c t DriverEvent.Sweep kind past ps now key known home is = refl

-- the step of an entry that answers a response
pub told_only : (s : Setting) (c : Came) (t : Told) (past : List Entry) (ps : List Page) (now : Time) (key : Key) (known : Known) → answered s c ≡ Some t → told_step t key known ≡ step s c past ps now key known
told_only s c t past ps now key known is =
    ap (λ m. after_marks m known)
    (sym (or_nothing (brings t key known))
    ∙ ap (λ o. option_or (brings t key known) o) (sym (untimed s c t c.event (answered_kind c.verdict) past ps now key known key.home is))
    ∙ ap (λ o. option_or (option_and_then (λ t. brings t key known) o) (brings_timed past ps now key known c.event key.home)) (sym is))

told_knows : (s : Setting) (c : Came) (t : Told) (past : List Entry) (ps : List Page) (now : Time) (old new : Rows) → Stepped old new (told_step t) → answered s c ≡ Some t → Knows old (watched_now ps) → Knows new (marked s c past ps now)
told_knows s c t past ps now old new stepped is knows =
    knows_marked s c past ps now old new knows (λ key. stepped key ∙ by_point (told_step t key) (step s c past ps now key) (known_of old key) (λ known. told_only s c t past ps now key known is))

-- what is taken in of a response does what the response does
same_step : (t : Told) (a : Answered) (key : Key) (known : Known) → delivered_by t ≡ delivered_in a → told_step (told_as (delivered_in a)) key known ≡ told_step t key known
same_step t a key known same = ap (λ d. told_step (told_as d) key known) (sym same)

taken_by : (s : Setting) (c : Came) (a : Answered) (o : Option Told) (past : List Entry) (ps : List Page) (now : Time) (old new : Rows) → Stepped old new (told_step (told_as (delivered_in a))) → answered s c ≡ o →
    option_map delivered_by o ≡ Some (delivered_in a) → Knows old (watched_now ps) → Knows new (marked s c past ps now)
taken_by s c a None past ps now old new stepped is same knows = absurd (cc same)
taken_by s c a (Some t) past ps now old new stepped is same knows =
    let delivers : delivered_by t ≡ delivered_in a = cc same in
    told_knows s c t past ps now old new (λ key. stepped key ∙ by_point (told_step (told_as (delivered_in a)) key) (told_step t key) (known_of old key) (λ known. same_step t a key known delivers)) is knows

pub taken_knows : (s : Setting) (c : Came) (a : Answered) (past : List Entry) (ps : List Page) (now : Time) (old new : Rows) → Stepped old new (told_step (told_as (delivered_in a))) →
    option_map delivered_by (answered s c) ≡ Some (delivered_in a) → Knows old (watched_now ps) → Knows new (marked s c past ps now)
taken_knows s c a past ps now old new stepped same knows = taken_by s c a (answered s c) past ps now old new stepped refl same knows

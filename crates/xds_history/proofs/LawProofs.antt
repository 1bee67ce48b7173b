-- The laws' proofs.
use Rattle.std.proofs.Common.{◌≡◌, refl, sym, ap, ◌∙◌, ℕ, List, [], ◌∷◌, ◌++◌, map}
use Rattle.std.specs.Prelude.{Option, Some, None, Result, option_map}
use Rattle.xc_base.specs.declared.names.Key.{Key}
use Rattle.xc_base.specs.declared.reason.Reason.{Reason}
use Rattle.xds_config.specs.declared.config.Front.{Front}
use Rattle.xds_config.specs.declared.config.Config.{Config}
use Rattle.cluster_tree.specs.declared.snapshot.Snapshot.{Snapshot}
use Rattle.ads_stream.specs.declared.verdict.Verdict.{Verdict}
use Rattle.call_journal.specs.declared.event.DriverEvent.{DriverEvent}
use Rattle.call_journal.specs.declared.reply.Sent.{Sent}
use Rattle.call_journal.specs.declared.reply.DriverReply.{DriverReply}
use Rattle.call_journal.specs.declared.entry.What.{What}
use Rattle.call_journal.specs.declared.entry.Entry.{Entry}
use Rattle.config_assembly.specs.Orders.{Name, sorted, name_cmp}
use Rattle.xds_history.specs.Setting.{Setting}
use Rattle.xds_history.specs.Responses.{Came, verdict}
use Rattle.xds_history.specs.Requests.{requests}
use Rattle.xds_history.specs.declared.page.Page.{Page}
use Rattle.xds_history.specs.Page.{latest}
use Rattle.config_assembly.specs.ReachedResources.{Resources}
use Rattle.config_assembly.specs.Front.{front, names_of_front}
use Rattle.config_assembly.specs.WholeConfigs.{cluster_entry, config_with}
use Rattle.xds_history.specs.Pages.{pages, page_of, driver_page, came, present_after}
use Rattle.xds_history.specs.Right.{IsReply, IsDriverReply, IsNumber, Shown, standing}
use Rattle.xds_history.specs.HistoryLaws.{OneReply, NoOthers, given_in, asked_of}

-- ---- one reply

same_number : (now then : Option Shown) (last : Option Snapshot) (n m : Option ℕ) → now ≡ then → IsNumber now last n → IsNumber then last m → n ≡ m
same_number None None last n m same a b = a ∙ sym b
same_number None (Some y) last n m same a b = absurd (cc same)
same_number (Some x) None last n m same a b = absurd (cc same)
same_number (Some x) (Some y) None n m same a b = a ∙ sym b
same_number (Some x) (Some y) (Some last) None None same a b = refl
same_number (Some x) (Some y) (Some last) None (Some m) same a b = absurd (b.1 (cc (same, a)))
same_number (Some x) (Some y) (Some last) (Some n) None same a b = absurd (a.1 (cc (same, b)))
same_number (Some x) (Some y) (Some last) (Some n) (Some m) same a b = ap Some (a.0 ∙ sym b.0)

-- what came, where the verdict is the one on it
same_came : (s : Setting) (past : List Entry) (event other : DriverEvent) (r q : DriverReply) → event ≡ other → r.refused ≡ q.refused → r.verdict ≡ verdict s past event r.refused → q.verdict ≡ verdict s past other q.refused → came event r ≡ came other q
same_came s past event other r q events refused a b = rw (a, b, events, refused) refl

abbrev reply_of : Verdict → List Sent → Option Key → Option ℕ → List Name → DriverReply
reply_of verdict sent missing snapshot refused = record { verdict = verdict; sent = sent; missing = missing; snapshot = snapshot; refused = refused }

same_fields : (r q : DriverReply) → r.verdict ≡ q.verdict → r.sent ≡ q.sent → r.missing ≡ q.missing → r.snapshot ≡ q.snapshot → r.refused ≡ q.refused → r ≡ q
same_fields r q verdicts sents missings snapshots refuseds =
    let same : reply_of r.verdict r.sent r.missing r.snapshot r.refused ≡ reply_of q.verdict q.sent q.missing q.snapshot q.refused = cc (verdicts, sents, missings, snapshots, refuseds) in
    same

-- the page that what came makes, whatever the entry is called
abbrev blank : DriverEvent → Entry
blank event = record { actor = 0; line = 0; what = What.Driver event (record { verdict = Verdict.Done; sent = []; missing = None; snapshot = None; refused = [] }) }

abbrev page_with : Setting → List Entry → List Page → Came → Page
page_with s past ps c = driver_page s (blank c.event) c None past ps (present_after past c.event)

abbrev stands_with : Setting → List Entry → List Page → Came → Option Shown
stands_with s past ps c = standing (present_after past c.event) (page_with s past ps c).config (page_with s past ps c).trees

same_reply : (s : Setting) (past : List Entry) (ps : List Page) (e f : Entry) (event other : DriverEvent) (r q : DriverReply) → event ≡ other → r.refused ≡ q.refused → IsDriverReply s event r past ps (page_of s e (What.Driver event r) past ps) → IsDriverReply s other q past ps (page_of s f (What.Driver other q) past ps) → r ≡ q
same_reply s past ps e f event other r q events refused a b =
    let c : came event r ≡ came other q = same_came s past event other r q events refused a.verdict_is b.verdict_is in
    same_fields r q
    (ap (λ x. x.verdict) c)
    (a.sent_is ∙ (ap (λ x. requests s x past (page_with s past ps x).watched) c ∙ sym b.sent_is))
    (a.missing_is ∙ (ap (λ x. (page_with s past ps x).missing) c ∙ sym b.missing_is))
    (same_number (stands_with s past ps (came event r)) (stands_with s past ps (came other q)) (latest ps) r.snapshot q.snapshot (ap (stands_with s past ps) c) a.number_is b.number_is)
    refused

same_what : (s : Setting) (past : List Entry) (ps : List Page) (e f : Entry) (w x : What) → given_in w ≡ given_in x → IsReply s e w past ps → IsReply s f x past ps → w ≡ x
same_what s past ps e f (What.Driver event r) (What.Driver other q) same a b = cc (same_reply s past ps e f event other r q (cc same) (cc same) a b, same)
same_what s past ps e f (What.Driver event r) (What.Caller other q) same a b = absurd (cc same)
same_what s past ps e f (What.Caller event r) (What.Driver other q) same a b = absurd (cc same)
same_what s past ps e f (What.Caller event r) (What.Caller other q) same a b = cc (a, b, same)

abbrev pub entry_of : ℕ → ℕ → What → Entry
entry_of actor line what = record { actor = actor; line = line; what = what }

same_entry : (e f : Entry) → e.actor ≡ f.actor → e.line ≡ f.line → e.what ≡ f.what → e ≡ f
same_entry e f actors lines whats =
    let same : entry_of e.actor e.line e.what ≡ entry_of f.actor f.line f.what = cc (actors, lines, whats) in
    same

one_more : (s : Setting) (e f : Entry) (past rest : List Entry) → asked_of e ≡ asked_of f → past ≡ rest → IsReply s e e.what past (pages s past) → IsReply s f f.what rest (pages s rest) → e ∷ past ≡ f ∷ rest
one_more s e f past rest same pasts a b =
    let c : IsReply s f f.what past (pages s past) = rw pasts b in
    let whats : e.what ≡ f.what = same_what s past (pages s past) e f e.what f.what (ap (λ x. x.given) same) a c in
    let entries : e ≡ f = same_entry e f (ap (λ x. x.actor) same) (ap (λ x. x.line) same) whats in
    cc (entries, pasts)

pub one_reply : OneReply
one_reply s [] [] a b same = refl
one_reply s [] (f ∷ rest) a b same = absurd (cc same)
one_reply s (e ∷ past) [] a b same = absurd (cc same)
one_reply s (e ∷ past) (f ∷ rest) a b same = one_more s e f past rest (cc same) (one_reply s past rest a.1 b.1 (cc same)) a.0 b.0

-- ---- no others

names_of_entries : (r : Resources) (names : List Name) → map (λ c. c.name) (map (cluster_entry r) names) ≡ names
names_of_entries r [] = refl
names_of_entries r (name ∷ names) = ap (λ rest. name ∷ rest) (names_of_entries r names)

no_others_with : (r : Resources) (references : List Name) (config : Config) (found : Option (Result Front Reason)) → option_map (config_with r references) found ≡ Some config → map (λ c. c.name) config.clusters ≡ sorted name_cmp (names_of_front config.front ++ references)
no_others_with r references config None is = absurd (cc is)
no_others_with r references config (Some found) is =
    let made : config_with r references found ≡ config = cc is in
    rw (← made) (names_of_entries r (sorted name_cmp (names_of_front found ++ references)))

pub no_others : NoOthers
no_others r references config is = no_others_with r references config (front r) is

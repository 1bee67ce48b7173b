-- Keys that are watched again, and entries that bring nothing for a key.
use Rattle.std.proofs.Common.{◌≡◌, Bool, true, false, not, ◌&&◌, ◌||◌, cond, Option, Some, None, List, [], ◌∷◌, map, refl, sym, ap, ap₂, ◌∙◌, subst, IsTrue, option_map, option_and_then}
use Rattle.std.specs.List.{cons_option}
use Rattle.std.specs.Option.{option_map_or, option_or}
use Rattle.xc_base.specs.declared.names.Authority.{Authority}
use Rattle.xc_base.specs.declared.names.Home.{Home}
use Rattle.xc_base.specs.declared.names.Key.{Key}
use Rattle.xc_base.specs.declared.names.Time.{Time}
use Rattle.xc_keys.specs.Keys.{is_key}
use Rattle.xc_keys.proofs.KeyLemmas.{same_key, key_itself}
use Rattle.xds_cache.specs.KeptFates.{fate_at}
use Rattle.ads_stream.specs.declared.verdict.Verdict.{Verdict}
use Rattle.call_journal.specs.declared.event.BytesHow.{BytesHow}
use Rattle.call_journal.specs.declared.event.DriverEvent.{DriverEvent}
use Rattle.call_journal.specs.declared.reply.DriverReply.{DriverReply}
use Rattle.call_journal.specs.declared.entry.Entry.{Entry}
use Rattle.dep_manager.specs.Laws.{AgreeAt}
use Rattle.config_assembly.specs.Watching.{has_key}
use Rattle.xds_history.specs.Setting.{Setting}
use Rattle.xds_history.specs.declared.turns.Turn.TheVariants.{Ends, Stays}
use Rattle.xds_history.specs.Words.{same_authority}
use Rattle.xds_history.specs.Streams.{is_broken, turn_by, turn_if}
use Rattle.xds_history.specs.Responses.{answered}
use Rattle.xds_history.specs.declared.page.Page.{Page}
use Rattle.xds_history.specs.declared.page.Watched.{Watched}
use Rattle.xds_history.specs.declared.page.Mark.{Mark}
use Rattle.xds_history.specs.Page.{find_watched, watched_now}
use Rattle.xds_history.specs.Fates.{judged, mark, mark_told, mark_timed, with_mark, marked, fate_in, watch, watch_key}
use Rattle.xds_history.specs.Pages.{came}
use Rattle.xds_history.specs.HistoryLaws.{is_report}

-- ---- watching the same keys again

watched_at : (b more : Bool) (key k : Key) (marks : List Watched) (rest : Option Watched) → is_key key k ≡ b → (more ≡ true → rest ≡ Some (watch_key marks key)) → (b || more) ≡ true → cond b (Some (watch_key marks k)) rest ≡ Some (watch_key marks key)
watched_at true more key k marks rest test later has = ap (λ x. Some (watch_key marks x)) (sym (same_key key k test))
watched_at false more key k marks rest test later has = later has

watched_again : (marks : List Watched) (keys : List Key) (key : Key) → has_key keys key ≡ true → find_watched key (watch marks keys) ≡ Some (watch_key marks key)
watched_again marks [] key has = absurd (cc has)
watched_again marks (k ∷ keys) key has = watched_at (is_key key k) (has_key keys key) key k marks (find_watched key (watch marks keys)) refl (watched_again marks keys key) has

same_fate_by : (home : Home) (o : Option Watched) → fate_at home (Some (judged (option_map_or (λ w. w.marks) o []))) ≡ fate_at home (option_map (λ w. judged w.marks) o)
same_fate_by home (Some w) = refl
same_fate_by (Home.At a) None = refl
same_fate_by (Home.Nowhere fault) None = refl

-- what came for a key that is watched now has been judged the same
pub same_fates : (marks : List Watched) (keys : List Key) → AgreeAt keys (fate_in marks) (fate_in (watch marks keys))
same_fates marks keys key has =
    ap (λ o. fate_at key.home (option_map (λ (w : Watched). judged w.marks) o)) (watched_again marks keys key has) ∙ same_fate_by key.home (find_watched key marks)

kept_key : (marks : List Watched) (keys : List Key) (key : Key) → has_key keys key ≡ true → watch_key (watch marks keys) key ≡ watch_key marks key
kept_key marks keys key has =
    let found : Option Watched → Watched = λ o. record { key = key; marks = option_map_or (λ w. w.marks) o [] } in ap found (watched_again marks keys key has)

or_more : (b more : Bool) → more ≡ true → (b || more) ≡ true
or_more true more is = refl
or_more false more is = is

watch_twice_of : (marks : List Watched) (keys ks : List Key) → ((key : Key) → has_key ks key ≡ true → has_key keys key ≡ true) → watch (watch marks keys) ks ≡ watch marks ks
watch_twice_of marks keys [] within = refl
watch_twice_of marks keys (k ∷ ks) within =
    let first : has_key (k ∷ ks) k ≡ true = subst (λ b. (b || has_key ks k) ≡ true) (sym (key_itself k)) refl in
    ap₂ (λ w ws. w ∷ ws) (kept_key marks keys k (within k first)) (watch_twice_of marks keys ks (λ key has. within key (or_more (is_key key k) (has_key ks key) has)))

pub watch_twice : (marks : List Watched) (keys : List Key) → watch (watch marks keys) keys ≡ watch marks keys
watch_twice marks keys = watch_twice_of marks keys keys (λ key has. has)

-- ---- a report

pub none_answered : (s : Setting) (event : DriverEvent) (reply : DriverReply) → IsTrue (is_report event) → answered s (came event reply) ≡ None
none_answered s (DriverEvent.Opened a) reply is = absurd (cc is)
none_answered s (DriverEvent.Response a payload) reply is = absurd (cc is)
none_answered s (DriverEvent.Bytes a how) reply is = refl
none_answered s (DriverEvent.Lost a) reply is = absurd (cc is)
none_answered s (DriverEvent.Moment time) reply is = absurd (cc is)
none_answered s (DriverEvent.Endpoint address state) reply is = refl
none_answered s DriverEvent.Sweep reply is = refl

none_timed : (past : List Entry) (ps : List Page) (now : Time) (w : Watched) (event : DriverEvent) (home : Home) → IsTrue (is_report event) → mark_timed past ps now w event home ≡ None
none_timed past ps now w (DriverEvent.Opened a) home is = absurd (cc is)
none_timed past ps now w (DriverEvent.Response a payload) home is = absurd (cc is)
none_timed past ps now w (DriverEvent.Bytes a how) home is = refl
none_timed past ps now w (DriverEvent.Lost a) home is = absurd (cc is)
none_timed past ps now w (DriverEvent.Moment time) home is = absurd (cc is)
none_timed past ps now w (DriverEvent.Endpoint address state) home is = refl
none_timed past ps now w DriverEvent.Sweep home is = refl

pub unbroken : (how : BytesHow) → IsTrue (not (is_broken how)) → is_broken how ≡ false
unbroken BytesHow.Whole is = refl
unbroken BytesHow.Closed is = refl
unbroken BytesHow.Compressed is = absurd (cc is)
unbroken (BytesHow.TooLong length) is = absurd (cc is)
unbroken BytesHow.Ended is = refl

never_turned : (own broken : Bool) → broken ≡ false → turn_if (own && broken) Ends ≡ Stays
never_turned true broken is = ap (λ b. turn_if b Ends) is
never_turned false broken is = refl

pub none_turned : (a : Authority) (event : DriverEvent) (verdict : Verdict) → IsTrue (is_report event) → turn_by a event verdict ≡ Stays
none_turned a (DriverEvent.Opened b) verdict is = absurd (cc is)
none_turned a (DriverEvent.Response b payload) verdict is = absurd (cc is)
none_turned a (DriverEvent.Bytes b how) verdict is = never_turned (same_authority a b) (is_broken how) (unbroken how is)
none_turned a (DriverEvent.Lost b) verdict is = absurd (cc is)
none_turned a (DriverEvent.Moment time) verdict is = absurd (cc is)
none_turned a (DriverEvent.Endpoint address state) verdict is = refl
none_turned a DriverEvent.Sweep verdict is = refl

-- ---- it brings nothing for a key

none_marked : (s : Setting) (event : DriverEvent) (reply : DriverReply) (past : List Entry) (ps : List Page) (now : Time) (w : Watched) → IsTrue (is_report event) → with_mark s (came event reply) past ps now w ≡ w
none_marked s event reply past ps now w is =
    let none : mark s (came event reply) past ps now w ≡ None = ap (λ o. option_or (option_and_then (mark_told w) o) (mark_timed past ps now w event w.key.home)) (none_answered s event reply is) ∙ none_timed past ps now w event w.key.home is in
    let with : Option Mark → Watched = λ o. record w { marks = cons_option o w.marks } in
    ap with none

none_marked_of : (s : Setting) (event : DriverEvent) (reply : DriverReply) (past : List Entry) (ps : List Page) (now : Time) (ws : List Watched) → IsTrue (is_report event) → map (with_mark s (came event reply) past ps now) ws ≡ ws
none_marked_of s event reply past ps now [] is = refl
none_marked_of s event reply past ps now (w ∷ ws) is = ap₂ (λ w ws. w ∷ ws) (none_marked s event reply past ps now w is) (none_marked_of s event reply past ps now ws is)

pub same_marks : (s : Setting) (event : DriverEvent) (reply : DriverReply) (past : List Entry) (ps : List Page) (now : Time) → IsTrue (is_report event) → marked s (came event reply) past ps now ≡ watched_now ps
same_marks s event reply past ps now is = none_marked_of s event reply past ps now (watched_now ps) is

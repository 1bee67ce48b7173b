-- The steps of the driver.
use Rattle.std.proofs.Common.{◌≡◌, ◌<◌, ◌≤◌, ℕ, ◌+◌, Bool, true, false, List, [], ◌∷◌, ◌++◌, length, Option, Some, None, refl, sym, ap, ◌∙◌, subst, append-nil, arith}
use Rattle.std.specs.Prelude.{All, IfSome, IsTrue, option_map, option_to_list}
use Rattle.std.proofs.lemmas.List.{length-map, map-append}
use Rattle.std.proofs.lemmas.List.Elements.{All-append, All-cons, All-nil}
use Rattle.boxcar.specs.Table.{Shelves, Where}
use Rattle.xc_base.specs.declared.names.Kind.{Kind}
use Rattle.xds_bootstrap.specs.declared.bootstrap.Bootstrap.{Bootstrap}
use Rattle.xds_name.specs.declared.target.Target.{Target}
use Rattle.xds_config.specs.declared.config.Config.{Config}
use Rattle.cluster_tree.specs.declared.snapshot.Snapshot.{Snapshot}
use Rattle.snapshot_store.specs.Tickets.{AreTicketsOf, IsTicketOf, values_of}
use Rattle.book_calls.specs.resource_check.declared.delivery.Prepared.{Prepared}
use Rattle.call_journal.specs.declared.event.DriverEvent.{DriverEvent}
use Rattle.call_journal.specs.declared.reply.DriverReply.{DriverReply}
use Rattle.call_journal.specs.declared.entry.What.{What}
use Rattle.call_journal.specs.declared.entry.Entry.{Entry}
use Rattle.book_calls.specs.xds_history.Setting.{Setting, setting_of}
use Rattle.book_calls.specs.xds_history.Page.{config_now, latest_number}
use Rattle.book_calls.specs.xds_history.Pages.{driven, page_of, pages}
use Rattle.book_calls.specs.xds_history.References.{references, snapshots_of}
use Rattle.book_calls.specs.xds_history.Right.{Right}
use Rattle.book_calls.specs.xds_history.HistoryLaws.{is_report}
use Rattle.book_calls.specs.CallsKept.{AreCallsAt}
use Rattle.book_calls.specs.declared.calls.Calls.{Calls}
use Rattle.book_driver.specs.book_trees.TreesKept.{AreTreesAt}
use Rattle.book_driver.specs.book_trees.declared.reported_trees.ReportedTrees.{ReportedTrees}
use Rattle.book_driver.proofs.book_trees.DueNumberLemmas.{numbers_are_few}
use Rattle.book_picks.specs.TurnsKept.{AreTurnsAt}
use Rattle.book_picks.specs.declared.kept_turns.Turns.{Turns}
use Rattle.book_picks.proofs.ServingLemmas.{marks_tell_served, quiet_leaves, trees_serve_all}
use Rattle.book_driver.specs.Courses.{IsRepeat}
use Rattle.book_driver.specs.DriverKept.{IsDriverAt, IsStepAt, reply_in}
use Rattle.book_driver.specs.ShownTrees.{IsPublication, number_in, snapshot_by}
use Rattle.book_driver.specs.declared.channel_driver.Driver.{Driver}
use Rattle.book_driver.specs.declared.channel_driver.Stepped.{Stepped}
use Rattle.book_driver.specs.declared.configured_trees.Published.{Published}
use Rattle.book_driver.proofs.StillLemmas.{still_repeats}
use Rattle.book_progress.specs.ProgressKept.{most_entries}
use Rattle.xds_book.specs.BookEntries.{IsStill}
use Rattle.xds_book.specs.BookKept.{IsLawfulShown, IsReady}
use Rattle.xds_book.specs.Publishing.{IsComplete, Renews, snapshot_in}

-- ---- what is published

complete_one : (s : Setting) (event : DriverEvent) (past : List Entry) (config : Option Config) (p : Published) → IsPublication s event past config p → IsComplete p
complete_one s event past config p at = record {
  lawful = at.lawful;
  views = ap length at.views_are ∙ length-map p.config.clusters _;
  marks = at.marks_are.count;
  pickable = at.pickable;
}

pub complete : (s : Setting) (event : DriverEvent) (past : List Entry) (config : Option Config) (published : Option Published) → IfSome published (IsPublication s event past config) → IfSome published IsComplete
complete s event past config None at = tt
complete s event past config (Some p) at = complete_one s event past config p at

-- ---- picks

turns_driven : (boot : Bootstrap) (target : Target) (past : List Entry) (line : ℕ) (event : DriverEvent) (reply : DriverReply) (published : Option Published) (turns turned : Turns) (old new : ReportedTrees) (config : Option Config) → target.key.kind ≡ Kind.Listener
    → Right (setting_of boot target) (driven 0 line event reply ∷ past) → number_in published ≡ reply.snapshot
    → (page_of (setting_of boot target) (driven 0 line event reply) (What.Driver event reply) past (pages (setting_of boot target) past)).snapshot ≡ option_map snapshot_by published
    → AreTreesAt past (pages (setting_of boot target) past) old → AreTreesAt (driven 0 line event reply ∷ past) (pages (setting_of boot target) (driven 0 line event reply ∷ past)) new
    → config ≡ config_now (pages (setting_of boot target) (driven 0 line event reply ∷ past)) → IfSome published (IsPublication (setting_of boot target) event past config)
    → Renews new.trees published turns turned → AreTurnsAt (pages (setting_of boot target) past) turns → AreTurnsAt (pages (setting_of boot target) (driven 0 line event reply ∷ past)) turned
turns_driven boot target past line event reply None turns turned old new config listener right number snapshot before after config_is at renews turns_at =
    subst (λ (t : Turns). AreTurnsAt (pages (setting_of boot target) (driven 0 line event reply ∷ past)) t) (sym renews)
    (quiet_leaves boot target past (driven 0 line event reply) event reply old turns listener right refl (sym number) before turns_at)
turns_driven boot target past line event reply (Some p) turns turned old new config listener right number snapshot before after config_is at renews turns_at =
    let s = setting_of boot target in
    let e = driven 0 line event reply in
    let now_is : config_now (pages s (e ∷ past)) ≡ Some p.config = sym config_is ∙ at.config_is in
    renews s past e turns_at (record { event = event; reply = reply; what_is = refl; snapshot_is = snapshot }) (trees_serve_all (e ∷ past) (pages s (e ∷ past)) new p.config after now_is)
    (λ same. marks_tell_served s past e event reply p.config p.marks refl at.marks_are (at.names_stay same) now_is)

-- ---- what is ready after the entry

pub right_driven : (s : Setting) (past : List Entry) (line : ℕ) (event : DriverEvent) (prepared : Option Prepared) (stepped : Stepped) (new : Driver) → IsStepAt s past event prepared stepped new → Right s past
    → Right s (driven 0 line event (reply_in stepped) ∷ past)
right_driven s past line event prepared stepped new at right = (at.reply_is line, right)

pub driven_ready : (archive : Shelves) (boot : Bootstrap) (target : Target) (past : List Entry) (line : ℕ) (event : DriverEvent) (prepared : Option Prepared) (stepped : Stepped) (calls after : Calls) (turns turned : Turns) (old new : Driver)
    → target.key.kind ≡ Kind.Listener → Right (setting_of boot target) past → IsReady archive (setting_of boot target) past calls turns old → IsStepAt (setting_of boot target) past event prepared stepped new
    → Renews new.trees.trees.trees stepped.published turns turned → AreCallsAt archive (pages (setting_of boot target) (driven 0 line event (reply_in stepped) ∷ past)) after
    → IsReady archive (setting_of boot target) (driven 0 line event (reply_in stepped) ∷ past) after turned new
driven_ready archive boot target past line event prepared stepped calls after turns turned old new listener right ready at renews kept =
    let later = at.kept line in
    record {
      calls_are = kept;
      turns_are = turns_driven boot target past line event (reply_in stepped) stepped.published turns turned old.trees.trees new.trees.trees new.trees.config listener (at.reply_is line, right) refl (at.snapshot_is line)
          ready.driver_is.configured.trees_are later.configured.trees_are later.configured.config_is at.published renews ready.turns_are;
      driver_is = later;
    }

-- ---- tickets

pub more_stored : (archive : Shelves) (tickets : List (Where Snapshot)) (ticket : Option (Where Snapshot)) → AreTicketsOf archive tickets → IfSome ticket (IsTicketOf archive) → AreTicketsOf archive (tickets ++ option_to_list ticket)
more_stored archive tickets None all one = subst (λ (ts : List (Where Snapshot)). AreTicketsOf archive ts) (sym (append-nil tickets)) all
more_stored archive tickets (Some t) all one =
    All-append (λ (t : Where Snapshot). IsTicketOf archive t) tickets (t ∷ []) all (All-cons (λ (t : Where Snapshot). IsTicketOf archive t) t [] one (All-nil (λ (t : Where Snapshot). IsTicketOf archive t)))

value_list : (ticket : Option (Where Snapshot)) → values_of (option_to_list ticket) ≡ option_to_list (snapshot_in ticket)
value_list None = refl
value_list (Some t) = refl

pub more_snapshots : (s : Setting) (past : List Entry) (line : ℕ) (event : DriverEvent) (reply : DriverReply) (tickets : List (Where Snapshot)) (ticket : Option (Where Snapshot)) → values_of tickets ≡ snapshots_of (pages s past)
    → (page_of s (driven 0 line event reply) (What.Driver event reply) past (pages s past)).snapshot ≡ snapshot_in ticket → values_of (tickets ++ option_to_list ticket) ≡ snapshots_of (pages s (driven 0 line event reply ∷ past))
more_snapshots s past line event reply tickets ticket is published =
    map-append (λ (t : Where Snapshot). t.value) tickets (option_to_list ticket) ∙ ap (λ (xs : List Snapshot). xs ++ values_of (option_to_list ticket)) is
    ∙ ap (λ (xs : List Snapshot). snapshots_of (pages s past) ++ xs) (value_list ticket ∙ ap option_to_list (sym published))

lawful_new : (ticket : Option (Where Snapshot)) (published : Option Published) → snapshot_in ticket ≡ option_map snapshot_by published → IfSome published IsComplete → IfSome ticket (λ t. IsLawfulShown t.value)
lawful_new None published is at = tt
lawful_new (Some t) None is at = absurd (cc is)
lawful_new (Some t) (Some p) is at =
    let same : t.value ≡ snapshot_by p = cc is in
    subst IsLawfulShown (sym same) (record { config = at.lawful; trees = at.pickable })

more_lawful_by : (tickets : List (Where Snapshot)) (ticket : Option (Where Snapshot)) → All (λ (t : Where Snapshot). IsLawfulShown t.value) tickets → IfSome ticket (λ t. IsLawfulShown t.value)
    → All (λ (t : Where Snapshot). IsLawfulShown t.value) (tickets ++ option_to_list ticket)
more_lawful_by tickets None all one = subst (λ (ts : List (Where Snapshot)). All (λ (t : Where Snapshot). IsLawfulShown t.value) ts) (sym (append-nil tickets)) all
more_lawful_by tickets (Some t) all one =
    All-append (λ (t : Where Snapshot). IsLawfulShown t.value) tickets (t ∷ []) all (All-cons (λ (t : Where Snapshot). IsLawfulShown t.value) t [] one (All-nil (λ (t : Where Snapshot). IsLawfulShown t.value)))

pub more_lawful : (tickets : List (Where Snapshot)) (ticket : Option (Where Snapshot)) (published : Option Published) → All (λ (t : Where Snapshot). IsLawfulShown t.value) tickets → snapshot_in ticket ≡ option_map snapshot_by published
    → IfSome published IsComplete → All (λ (t : Where Snapshot). IsLawfulShown t.value) (tickets ++ option_to_list ticket)
more_lawful tickets ticket published all is at = more_lawful_by tickets ticket all (lawful_new ticket published is at)

-- ---- the number of the latest snapshot

number_room : (n count : ℕ) → n ≤ count → count ≤ 1048576 → n + 1 < 4294967296
number_room n count few most = omega (arith, few, most)

latest_few_by : (latest : Option ℕ) (count : ℕ) → IfSome latest (λ n. n ≤ count) → count ≤ most_entries → IfSome latest (λ n. n + 1 < 4294967296)
latest_few_by None count few most = tt
latest_few_by (Some n) count few most = number_room n count few most

pub latest_few : (s : Setting) (past : List Entry) (latest : Option ℕ) → Right s past → length past ≤ most_entries → latest ≡ latest_number (pages s past) → IfSome latest (λ n. n + 1 < 4294967296)
latest_few s past latest right most is = subst (λ (l : Option ℕ). IfSome l (λ n. n + 1 < 4294967296)) (sym is) (latest_few_by (latest_number (pages s past)) (length past) (numbers_are_few s past right) most)

-- ---- steps that aren't counted

pub still_steps : (s : Setting) (past : List Entry) (event : DriverEvent) (old new : ℕ) → (IsRepeat s past event → new ≡ old) → IsTrue (is_report event) → IsStill s past → new ≡ old
still_steps s past event old new counts report still =
    let references_are : references (pages s (still.between ++ still.before ∷ still.earlier)) ≡ references (pages s still.earlier) = sym (ap (λ (h : List Entry). references (pages s h)) still.is) ∙ still.references in
    counts (subst (λ (h : List Entry). IsRepeat s h event) (sym still.is) (still_repeats s still.between still.before still.earlier event report still.calls still.driver references_are))

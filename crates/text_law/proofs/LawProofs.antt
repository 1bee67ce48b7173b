-- One session and one text have one legal history.
use Rattle.std.proofs.Common.{◌≡◌, ℕ, ◌+◌, ◌<◌, ◌≤◌, ◌^◌, List, [], ◌∷◌, ◌++◌, map, reverse, Bool, All, Option, Some, refl, sym, ap, ◌∙◌, subst, append_assoc, arith, lt_of_le_of_lt}
use Rattle.std.proofs.lemmas.List.{append_cancel_left, reverse-reverse}
use Rattle.std.specs.Str.{IsUtf8}
use Rattle.xds_bootstrap.specs.declared.bootstrap.AuthorityEntry.{AuthorityEntry}
use Rattle.call_journal.specs.declared.event.CallerEvent.{CallerEvent}
use Rattle.call_journal.specs.declared.event.DriverEvent.{DriverEvent}
use Rattle.call_journal.specs.declared.reply.CallerReply.{CallerReply}
use Rattle.call_journal.specs.declared.reply.DriverReply.{DriverReply}
use Rattle.call_journal.specs.declared.entry.Entry.{Entry}
use Rattle.call_journal.specs.declared.entry.What.{What}
use Rattle.session_script.specs.Plan.{AreListed, entries_by, entry_event}
use Rattle.session_lines.specs.declared.session.Line.{Line}
use Rattle.session_lines.specs.declared.session.Session.{Session}
use Rattle.legal_history.specs.report_text.ReportLines.{end_line}
use Rattle.report_parts.specs.Driver.{driver_line}
use Rattle.legal_history.specs.report_text.EntryText.{reply_lines}
use Rattle.legal_history.specs.xds_history.Setting.{Setting, setting_of}
use Rattle.legal_history.specs.xds_history.Responses.{refused_in}
use Rattle.legal_history.specs.xds_history.Right.{Right}
use Rattle.legal_history.specs.xds_history.HistoryLaws.{Asked, asked_of}
use Rattle.legal_history.specs.Legal.{AreStarted, IsHistoryOf, is_read}
use Rattle.legal_history.specs.Report.{report}
use Rattle.legal_history.proofs.xds_history.LawProofs.{one_reply}
use Rattle.text_law.specs.TextLaw.{OneText}
use Rattle.text_law.proofs.EntryLemmas.{callers_read, letters_differ, refused_read, tail_of, tails_read}
use Rattle.text_law.proofs.ActorLemmas.{actor_few, caller_is_other, caller_next, driver_is_first, driver_next}
use Rattle.text_law.proofs.ListedLemmas.{Same}
use Rattle.text_law.proofs.RefusedLemmas.{refused_are_texts}
use Rattle.text_law.proofs.SessionLemmas.{read_few}
use Rattle.text_law.proofs.AfterLemmas.{end_differs, onto, onto_reverse, report_entries, rest_first, shown_next, text_after, text_cut, text_end}

abbrev entry_of : ℕ → ℕ → What → Entry
entry_of actor line what = record { actor = actor; line = line; what = what }

-- the pattern texts that right histories of a setting refuse are UTF-8
abbrev RefusesTexts : Setting → Type 0
RefusesTexts s = (e : Entry) (past : List Entry) → Right s (e ∷ past) → All IsUtf8 (refused_in e.what)

-- ---- what is left of a history behind a past: `before` has the same entries with the oldest first

record Rest (readable : List ℕ → Bool) (callers : ℕ) (lines : List Line) (s : Setting) (before past es : List Entry) : Type 0 where
  right : Right s (onto es past)
  listed : AreListed readable callers lines (before ++ es)
  started : (c : ℕ) → AreStarted (entries_by c (before ++ es))

right_past : (s : Setting) (es past : List Entry) → Right s (onto es past) → Right s past
right_past s [] past h = h
right_past s (e ∷ es) past h = (right_past s es (e ∷ past) h).1

module _ (readable : List ℕ → Bool) (callers : ℕ) (lines : List Line) (s : Setting) (a : List AuthorityEntry) (few : callers < 2 ^ 64) (texts : RefusesTexts s) where
  abbrev At : List Entry → List Entry → List Entry → Type 0
  At before past es = Rest readable callers lines s before past es

  rest_next : (before past es : List Entry) (e : Entry) → At before past (e ∷ es) → At (before ++ e ∷ []) (e ∷ past) es
  rest_next before past es e h =
      let same : before ++ e ∷ es ≡ (before ++ e ∷ []) ++ es = sym (append_assoc before (e ∷ []) es) in
      record {
        right = h.right;
        listed = subst (λ (l : List Entry). AreListed readable callers lines l) same h.listed;
        started = λ c. subst (λ (l : List Entry). AreStarted (entries_by c l)) same (h.started c);
      }

  -- ---- the next entry

  asked_driver : (before past es fs : List Entry) (n x l y m : ℕ) (event called : DriverEvent) (r q : DriverReply) (i j k o : ℕ)
      → At before past (entry_of x l (What.Driver event r) ∷ es) → At before past (entry_of y m (What.Driver called q) ∷ fs)
      → tail_of a (shown_next s past (entry_of x l (What.Driver event r))).snapshot (shown_next s past (entry_of x l (What.Driver event r))).cluster (entry_of x l (What.Driver event r))
      (text_after a s (entry_of x l (What.Driver event r) ∷ past) (n + 1) es (end_line i j))
      ≡ tail_of a (shown_next s past (entry_of y m (What.Driver called q))).snapshot (shown_next s past (entry_of y m (What.Driver called q))).cluster (entry_of y m (What.Driver called q))
      (text_after a s (entry_of y m (What.Driver called q) ∷ past) (n + 1) fs (end_line k o))
      → asked_of (entry_of x l (What.Driver event r)) ≡ asked_of (entry_of y m (What.Driver called q))
  asked_driver before past es fs n x l y m event called r q i j k o h g is =
      let e : Entry = entry_of x l (What.Driver event r) in
      let f : Entry = entry_of y m (What.Driver called q) in
      let u : List ℕ = text_after a s (e ∷ past) (n + 1) es (end_line i j) in
      let v : List ℕ = text_after a s (f ∷ past) (n + 1) fs (end_line k o) in
      let first : x ≡ 0 = driver_is_first readable callers lines before es e x refl refl h.listed in
      let second : y ≡ 0 = driver_is_first readable callers lines before fs f y refl refl g.listed in
      let listed : entry_event e ≡ entry_event f = driver_next readable callers lines before es fs e f h.listed g.listed first second in
      let line : l ≡ m = ap (λ (z : ℕ × Option DriverEvent). z.0) listed in
      let events : Some event ≡ Some called = ap (λ (z : ℕ × Option DriverEvent). z.1) listed in
      let event_is : event ≡ called = cc events in
      let text : driver_line a event r ++ (reply_lines a (shown_next s past e).snapshot r ++ u) ≡ driver_line a event q ++ (reply_lines a (shown_next s past f).snapshot q ++ v) =
      subst (λ (z : DriverEvent). driver_line a event r ++ (reply_lines a (shown_next s past e).snapshot r ++ u) ≡ driver_line a z q ++ (reply_lines a (shown_next s past f).snapshot q ++ v)) (sym event_is) is in
      let refused : r.refused ≡ q.refused = refused_read a (shown_next s past e).snapshot (shown_next s past f).snapshot event r q u v
      (texts e past (right_past s es (e ∷ past) h.right)) (texts f past (right_past s fs (f ∷ past) g.right))
      (rest_first a s (e ∷ past) (n + 1) es i j) (rest_first a s (f ∷ past) (n + 1) fs k o) text in
      cc (first, second, line, event_is, refused)

  asked_caller : (before past es fs : List Entry) (n x l y m : ℕ) (event called : CallerEvent) (r q : CallerReply) (i j k o : ℕ)
      → At before past (entry_of x l (What.Caller event r) ∷ es) → At before past (entry_of y m (What.Caller called q) ∷ fs)
      → tail_of a (shown_next s past (entry_of x l (What.Caller event r))).snapshot (shown_next s past (entry_of x l (What.Caller event r))).cluster (entry_of x l (What.Caller event r))
      (text_after a s (entry_of x l (What.Caller event r) ∷ past) (n + 1) es (end_line i j))
      ≡ tail_of a (shown_next s past (entry_of y m (What.Caller called q))).snapshot (shown_next s past (entry_of y m (What.Caller called q))).cluster (entry_of y m (What.Caller called q))
      (text_after a s (entry_of y m (What.Caller called q) ∷ past) (n + 1) fs (end_line k o))
      → asked_of (entry_of x l (What.Caller event r)) ≡ asked_of (entry_of y m (What.Caller called q))
  asked_caller before past es fs n x l y m event called r q i j k o h g is =
      let e : Entry = entry_of x l (What.Caller event r) in
      let f : Entry = entry_of y m (What.Caller called q) in
      let x_few : x ≤ callers = actor_few readable callers lines before es e h.listed in
      let y_few : y ≤ callers = actor_few readable callers lines before fs f g.listed in
      let actors : x ≡ y = callers_read (shown_next s past e).snapshot (shown_next s past f).snapshot (shown_next s past e).cluster (shown_next s past f).cluster x y event called r q
      _ _ (lt_of_le_of_lt x_few few) (lt_of_le_of_lt y_few few) is in
      let some : 1 ≤ x = caller_is_other readable callers lines before es e x refl refl h.listed in
      let same : Same e f = caller_next readable callers lines before es fs e f h.listed g.listed h.started g.started some (sym actors) in
      let events : Some event ≡ Some called = same.1 in
      let event_is : event ≡ called = cc events in
      cc (actors, same.0, event_is)

  asked_next : (before past es fs : List Entry) (n x l : ℕ) (w : What) (y m : ℕ) (z : What) (i j k o : ℕ)
      → At before past (entry_of x l w ∷ es) → At before past (entry_of y m z ∷ fs)
      → tail_of a (shown_next s past (entry_of x l w)).snapshot (shown_next s past (entry_of x l w)).cluster (entry_of x l w) (text_after a s (entry_of x l w ∷ past) (n + 1) es (end_line i j))
      ≡ tail_of a (shown_next s past (entry_of y m z)).snapshot (shown_next s past (entry_of y m z)).cluster (entry_of y m z) (text_after a s (entry_of y m z ∷ past) (n + 1) fs (end_line k o))
      → asked_of (entry_of x l w) ≡ asked_of (entry_of y m z)
  asked_next before past es fs n x l (What.Driver event r) y m (What.Driver called q) i j k o h g is = asked_driver before past es fs n x l y m event called r q i j k o h g is
  asked_next before past es fs n x l (What.Caller event r) y m (What.Caller called q) i j k o h g is = asked_caller before past es fs n x l y m event called r q i j k o h g is
  asked_next before past es fs n x l (What.Driver event r) y m (What.Caller called q) i j k o h g is = absurd (letters_differ a event r _ _ _ y called q _ is)
  asked_next before past es fs n x l (What.Caller event r) y m (What.Driver called q) i j k o h g is = absurd (letters_differ a called q _ _ _ x event r _ (sym is))

  same_next : (before past es fs : List Entry) (n : ℕ) (e f : Entry) (i j k o : ℕ) → At before past (e ∷ es) → At before past (f ∷ fs)
      → text_after a s past n (e ∷ es) (end_line i j) ≡ text_after a s past n (f ∷ fs) (end_line k o) → e ≡ f
  same_next before past es fs n e f i j k o h g is =
      let tails = tails_read a (shown_next s past e).snapshot (shown_next s past f).snapshot (shown_next s past e).cluster (shown_next s past f).cluster n e f
      (text_after a s (e ∷ past) (n + 1) es (end_line i j)) (text_after a s (f ∷ past) (n + 1) fs (end_line k o))
      (sym (text_cut a s past n e es (end_line i j)) ∙ (is ∙ text_cut a s past n f fs (end_line k o))) in
      let asked : asked_of e ≡ asked_of f = asked_next before past es fs n e.actor e.line e.what f.actor f.line f.what i j k o h g tails in
      let both : e ∷ past ≡ f ∷ past = one_reply s (e ∷ past) (f ∷ past) (right_past s es (e ∷ past) h.right) (right_past s fs (f ∷ past) g.right) (ap (λ (z : Asked). z ∷ map asked_of past) asked) in
      cc both

  -- ---- all entries

  text_next : (past es fs : List Entry) (n : ℕ) (e f : Entry) (i j k o : ℕ) → e ≡ f
      → text_after a s past n (e ∷ es) (end_line i j) ≡ text_after a s past n (f ∷ fs) (end_line k o) → text_after a s (e ∷ past) (n + 1) es (end_line i j) ≡ text_after a s (e ∷ past) (n + 1) fs (end_line k o)
  text_next past es fs n e f i j k o same is =
      let one : text_after a s past n (e ∷ es) (end_line i j) ≡ text_after a s past n (e ∷ fs) (end_line k o) =
      subst (λ (z : Entry). text_after a s past n (e ∷ es) (end_line i j) ≡ text_after a s past n (z ∷ fs) (end_line k o)) (sym same) is in
      append_cancel_left _ _ _ (sym (text_cut a s past n e es (end_line i j)) ∙ (one ∙ text_cut a s past n e fs (end_line k o)))

  one_rest : (before past es fs : List Entry) (n i j k o : ℕ) → At before past es → At before past fs
      → text_after a s past n es (end_line i j) ≡ text_after a s past n fs (end_line k o) → es ≡ fs
  one_rest before past [] [] n i j k o h g is = refl
  one_rest before past [] (f ∷ fs) n i j k o h g is = absurd (end_differs a s past n f fs (end_line k o) i j (sym (text_end a s past n (end_line i j)) ∙ is))
  one_rest before past (e ∷ es) [] n i j k o h g is = absurd (end_differs a s past n e es (end_line i j) k o (sym (text_end a s past n (end_line k o)) ∙ sym is))
  one_rest before past (e ∷ es) (f ∷ fs) n i j k o h g is =
      let first : e ≡ f = same_next before past es fs n e f i j k o h g is in
      let after : At (before ++ e ∷ []) (e ∷ past) fs = subst (λ (z : Entry). At (before ++ z ∷ []) (z ∷ past) fs) (sym first) (rest_next before past fs f g) in
      let more : es ≡ fs = one_rest (before ++ e ∷ []) (e ∷ past) es fs (n + 1) i j k o (rest_next before past es e h) after (text_next past es fs n e f i j k o first is) in
      cc (first, more)

-- ---- histories

rest_of : (session : Session) (s : Setting) (history : List Entry) → IsHistoryOf session s history → Rest (is_read s) session.callers session.lines s [] [] (reverse history)
rest_of session s history h = record {
  right = subst (Right s) (sym (onto_reverse history)) h.right;
  listed = h.listed;
  started = h.started;
}

one_history : (session : Session) (s : Setting) (a : List AuthorityEntry) (one other : List Entry) → session.callers < 2 ^ 64 → RefusesTexts s
    → IsHistoryOf session s one → IsHistoryOf session s other → report s a one ≡ report s a other → one ≡ other
one_history session s a one other few texts h k is =
    let reports : report s a (onto (reverse one) []) ≡ report s a (onto (reverse other) []) = ap (report s a) (onto_reverse one) ∙ (is ∙ sym (ap (report s a) (onto_reverse other))) in
    let entries = report_entries a s (reverse one) (reverse other) _ _ reports in
    let same : reverse one ≡ reverse other = one_rest (is_read s) session.callers session.lines s a few texts [] [] (reverse one) (reverse other) 1 _ _ _ _ (rest_of session s one h) (rest_of session s other k) entries in
    sym (reverse-reverse one) ∙ (ap reverse same ∙ reverse-reverse other)

small : (n : ℕ) → n ≤ 16 → n < 2 ^ 64
small n few = omega (arith, few)

pub one_text : OneText
one_text bytes session one other read h k is =
    one_history session (setting_of session.boot session.target) session.boot.authorities one other (small session.callers (read_few bytes session read))
    (refused_are_texts session.boot session.target) h k is

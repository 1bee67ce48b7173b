-- A Book in which nothing was done, before the first turn of a report.
use Rattle.std.proofs.Common.{◌≡◌, ◌≢◌, ◌<◌, ℕ, List, [], ◌∷◌, ◌++◌, length, map, All, Option, Some, None, refl, sym, ap, ◌∙◌, subst, inl, append-nil, arith}
use Rattle.std.specs.Prelude.{drop, option_map, slice_get}
use Rattle.std.specs.List.{range_with_len}
use Rattle.std.proofs.lemmas.Option.{none-some, same_Some, slice_get-map, slice_get_within}
use Rattle.std.proofs.lemmas.List.{length-map}
use Rattle.std.proofs.lemmas.List.FromFn.{get_or-map-range_with_len, length-map-range_with_len}
use Rattle.std.proofs.lemmas.Option.{get_or_from_slice_get}
use Rattle.call_journal.specs.declared.entry.Entry.{Entry}
use Rattle.call_journal.specs.declared.plan.Listed.{Listed}
use Rattle.xds_bootstrap.specs.declared.bootstrap.Bootstrap.{Bootstrap}
use Rattle.xds_name.specs.declared.target.Target.{Target}
use Rattle.session_lines.specs.Lines.{lines_of}
use Rattle.session_lines.specs.declared.session.Session.{Session}
use Rattle.completion_law.specs.xds_history.Setting.{setting_of}
use Rattle.replay_steps.specs.legal_history.Legal.{Legal}
use Rattle.replay_steps.specs.text_law.TextLaw.{text_of}
use Rattle.alike_law.specs.turn_law.TurnLaw.{IsTurn}
use Rattle.alike_law.proofs.turn_law.InTurnProofs.{entries_in_turn}
use Rattle.alike_law.specs.AlikeTexts.{PartsAt}
use Rattle.book_progress.specs.ActorCounts.{count_of}
use Rattle.book_progress.specs.ProgressKept.{counts_of}
use Rattle.book_progress.proofs.TallyLemmas.{count_at}
use Rattle.turn_player.specs.xds_book.BookEntries.{first_book, first_lane}
use Rattle.turn_player.specs.xds_book.BookViews.{BookView, LaneView}
use Rattle.turn_player.specs.TurnPlans.{SeatView}
use Rattle.turn_player.specs.TableSeats.{AreSeated, IsSeatOf, free_seat}
use Rattle.report_replay.specs.ReplayedTurns.{HasCome, HasRead, HasReplayed, IsLegalReplay, ReplayView, lines_left}
use Rattle.report_replay.proofs.FoundLemmas.{no_entry}

no_counts : (n : ℕ) → length (counts_of n []) ≡ n
no_counts n = length-map-range_with_len (λ (a : ℕ). count_of a []) 0 n

-- ---- the first seats

first_seat : (n room k : ℕ) → k < n → IsSeatOf (first_book n room) k (free_seat (first_lane k))
first_seat n room k less = record {
  actor_is = refl;
  own = count_at n [] (counts_of n []) k refl (subst (λ (m : ℕ). k < m) (sym (no_counts n)) less);
  free = refl;
  refused = λ driver. refl;
}

lane_at : (n k : ℕ) (lane : LaneView) → slice_get (map first_lane (range_with_len 0 n)) k ≡ Some lane → (first_lane k ≡ lane) × (k < n)
lane_at n k lane get =
    let lanes : List LaneView = map first_lane (range_with_len 0 n) in
    let many : length lanes ≡ n = length-map-range_with_len first_lane 0 n in
    let less : k < n = subst (λ (m : ℕ). k < m) many (slice_get_within lanes k lane get) in
    (sym (get_or-map-range_with_len first_lane 0 n k k (first_lane k) less (omega arith)) ∙ get_or_from_slice_get lanes k lane (first_lane k) get, less)

seat_in : (n room k : ℕ) (seat : SeatView) (found : Option LaneView) → slice_get (map first_lane (range_with_len 0 n)) k ≡ found → option_map free_seat found ≡ Some seat → IsSeatOf (first_book n room) k seat
seat_in n room k seat None at is = absurd (none-some seat is)
seat_in n room k seat (Some lane) at is =
    let own = lane_at n k lane at in
    subst (λ (s : SeatView). IsSeatOf (first_book n room) k s) (ap free_seat own.0 ∙ same_Some (free_seat lane) seat is) (first_seat n room k own.1)

first_seats : (n room : ℕ) → AreSeated (first_book n room) (map free_seat (map first_lane (range_with_len 0 n)))
first_seats n room = record {
  counted = ap (λ (m : ℕ). counts_of m []) (sym (no_counts n));
  many = length-map (map first_lane (range_with_len 0 n)) free_seat ∙ (length-map-range_with_len first_lane 0 n ∙ sym (no_counts n));
  each = λ k seat get. seat_in n room k seat (slice_get (map first_lane (range_with_len 0 n)) k) refl (sym (slice_get-map free_seat (map first_lane (range_with_len 0 n)) k) ∙ get);
}

pub come_first : (n room : ℕ) (book : BookView) (lanes : List LaneView) (seats : List SeatView) → book ≡ first_book n room → lanes ≡ map first_lane (range_with_len 0 n) → seats ≡ map free_seat lanes → HasCome [] book seats
come_first n room book lanes seats book_is lanes_are seats_are =
    let seated : AreSeated (first_book n room) seats = subst (λ (ss : List SeatView). AreSeated (first_book n room) ss) (sym (seats_are ∙ ap (map free_seat) lanes_are)) (first_seats n room) in
    record {
      entries = ap (λ (b : BookView). b.entries) book_is;
      seated = subst (λ (b : BookView). AreSeated b seats) (sym book_is) seated;
      goes_on = ap (λ (b : BookView). b.is_spent) book_is;
    }

-- ---- before the first turn

some_entries : (session : Session) (history : List Entry) → Legal session history → history ≢ []
some_entries session [] h = λ is. absurd h.ends
some_entries session (e ∷ past) h = λ is. absurd (cc is)

-- the first line of some
record HasFirst (lines : List (List ℕ)) : Type 0 where
  head : List ℕ
  tail : List (List ℕ)
  is : lines ≡ head ∷ tail

has_first : (lines : List (List ℕ)) → 0 < length lines → HasFirst lines
has_first [] some = absurd (omega (arith, some))
has_first (head ∷ tail) some = record { head = head; tail = tail; is = refl }

-- behind the first lines, of which one at least is common
rest_of : (lines common rest : List (List ℕ)) (first : HasFirst common) → lines ≡ common ++ rest → drop 1 lines ≡ first.tail ++ rest
rest_of lines common rest first is = ap (λ (ls : List (List ℕ)). drop 1 ls) (is ∙ ap (λ (ls : List (List ℕ)). ls ++ rest) first.is)

pub begins : (plan : Option (List (List Listed))) (boot : Bootstrap) (target : Target) (session : Session) (history : List Entry) (lists : List (List Listed)) (n room : ℕ) (book : BookView) (lanes : List LaneView) (seats : List SeatView)
    (report : List ℕ) (replay : ReplayView) (number : ℕ) (parts : PartsAt number report (text_of session history)) → IsLegalReplay plan boot target session history lists → 0 < number → book ≡ first_book n room
    → lanes ≡ map first_lane (range_with_len 0 n) → seats ≡ map free_seat lanes → HasRead lists seats report replay → HasReplayed session history parts.parting 0 book replay
begins plan boot target session history lists n room book lanes seats report replay number parts legal some book_is lanes_are seats_are read =
    let first : HasFirst parts.parting.common = has_first parts.parting.common (subst (λ (m : ℕ). 0 < m) (sym parts.many) some) in
    inl (record {
      later = history;
      past = [];
      whole = append-nil history;
      left = some_entries session history legal.legal;
      many = refl;
      come = come_first n room book lanes replay.seats book_is lanes_are (read.seats_are ∙ seats_are);
      before = first.head ∷ [];
      common = first.tail;
      split = first.is;
      lines_are = read.lines_are ∙ rest_of (lines_of report) parts.parting.common parts.parting.one first parts.one_is;
      legal_are = (entries_in_turn (setting_of session.boot session.target) session.boot.authorities history legal.turns).first
          ∙ rest_of (lines_of (text_of session history)) parts.parting.common parts.parting.other first parts.other_is;
    })

-- ---- the report of a legal history

-- it has a line
first_of_report : (session : Session) (history : List Entry) (lines : List (List ℕ)) → history ≢ [] → All IsTurn history → drop 1 lines ≡ lines_left session history [] → 0 < length lines
first_of_report session history [] left turns is = absurd (no_entry session history left turns (sym is))
first_of_report session history (line ∷ lines) left turns is = omega arith

-- it parts from itself behind its last line
abbrev pub whole_report : (session : Session) (history : List Entry) (report : List ℕ) → text_of session history ≡ report → PartsAt (length (lines_of report)) report (text_of session history)
whole_report session history report text = record {
  parting = record { common = lines_of report; one = []; other = [] };
  many = refl;
  one_is = sym (append-nil (lines_of report));
  other_is = ap lines_of text ∙ sym (append-nil (lines_of report));
  listed = λ front back line is off. refl;
}

pub some_lines : (session : Session) (history : List Entry) (report : List ℕ) → Legal session history → All IsTurn history → text_of session history ≡ report → 0 < length (lines_of report)
some_lines session history report legal turns text =
    first_of_report session history (lines_of report) (some_entries session history legal) turns
    (ap (λ (bytes : List ℕ). drop 1 (lines_of bytes)) (sym text) ∙ sym (entries_in_turn (setting_of session.boot session.target) session.boot.authorities history turns).first)

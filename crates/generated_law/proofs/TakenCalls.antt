-- The lines of a caller's call, taken.
use Rattle.std.proofs.Common.{◌≡◌, ℕ, ◌+◌, ◌<◌, ◌≤◌, ◌^◌, List, [], ◌∷◌, ◌++◌, true, false, Option, Some, None, Ok, codes, reverse, refl, ap, ◌∙◌, append_assoc, arith}
use Rattle.std.specs.Fmt.{decimal}
use Rattle.xds_bootstrap.specs.declared.bootstrap.Bootstrap.{Bootstrap}
use Rattle.xds_name.specs.declared.target.Target.{Target}
use Rattle.session_lines.specs.Before.{driver_lines, is_of_other, is_started}
use Rattle.session_lines.specs.Forms as form
use Rattle.session_lines.specs.Forms.{caller_form, form_of, gate_in}
use Rattle.session_lines.specs.Session.{lines_from}
use Rattle.session_lines.specs.Lines.{lines_of}
use Rattle.session_lines.specs.WordValues.{is_number, number_up_to, number_within}
use Rattle.session_lines.specs.Works.{line_of, work_of}
use Rattle.session_lines.specs.declared.session.Act.{Act}
use Rattle.session_lines.specs.declared.session.Line.{Line}
use Rattle.session_lines.specs.declared.session.Work.{Work}
use Rattle.session_lines.specs.declared.session_head.Head.{Head}
use Rattle.session_generator.specs.Rounds.{call_lines, commit_line, pick_line, start_line, word_of_call}
use Rattle.generated_law.specs.GeneratedSession.{called, lines_of_call}
use Rattle.generated_law.proofs.PlainTexts.{ArePlain, clear_spaced, decimal_plain, spaced}
use Rattle.generated_law.proofs.TakenLines.{Takes, gate_is, line_as, line_read, line_taken, no_gate, then_taken, up_to, within}
use Rattle.generated_law.proofs.LineRows.{no_fields}
use Rattle.generated_law.proofs.StandingLines.{Stands, own_call, stands_called, stands_still}

-- ---- a line of words

pub same_text : (head : Head) (before : List Line) (n : ℕ) (a b : List ℕ) (lines : List Line) (m : ℕ) → a ≡ b → Takes head before n b lines m → Takes head before n a lines m
same_text head before n a b lines m is takes rest = ap (λ text. lines_from head before n (lines_of (text ++ rest))) is ∙ takes rest

pub words_taken : (head : Head) (before : List Line) (n : ℕ) (text word : List ℕ) (words : List (List ℕ)) (gate : Option ℕ) (work : Work) (m : ℕ) → text ≡ spaced word words ++ 10 ∷ [] → ArePlain (word ∷ words)
    → line_of head.boot head.callers before n (spaced word words) ≡ Ok (line_as n gate work) → m ≡ n + 1 → Takes head before n text (line_as n gate work ∷ []) m
words_taken head before n text word words gate work m is plain read next =
    same_text head before n text (spaced word words ++ 10 ∷ []) (line_as n gate work ∷ []) m is
    (line_taken head before n (spaced word words) (line_as n gate work) m read (clear_spaced word words plain) next)

-- ---- texts

start_text : (g c i w : List ℕ) → codes "@" ++ g ++ codes " c " ++ c ++ codes " start " ++ i ++ codes " " ++ w ++ codes " /load.S/M\n"
    ≡ spaced (64 ∷ g) (codes "c" ∷ c ∷ codes "start" ∷ i ∷ w ∷ codes "/load.S/M" ∷ []) ++ 10 ∷ []
start_text g c i w = simp append_assoc refl

pick_text : (c i w : List ℕ) → codes "c " ++ c ++ codes " pick " ++ i ++ codes " " ++ w ++ codes "\n" ≡ spaced (codes "c") (c ∷ codes "pick" ∷ i ∷ w ∷ []) ++ 10 ∷ []
pick_text c i w = simp append_assoc refl

commit_text : (c i : List ℕ) → codes "c " ++ c ++ codes " commit " ++ i ++ codes "\n" ≡ spaced (codes "c") (c ∷ codes "commit" ∷ i ∷ []) ++ 10 ∷ []
commit_text c i = simp append_assoc refl

start_spelled : (gate caller call : ℕ) → start_line gate caller call ≡ spaced (64 ∷ decimal gate) (codes "c" ∷ decimal caller ∷ codes "start" ∷ decimal call ∷ decimal (word_of_call call) ∷ codes "/load.S/M" ∷ []) ++ 10 ∷ []
unfolding start_line
start_spelled gate caller call = start_text (decimal gate) (decimal caller) (decimal call) (decimal (word_of_call call))

pick_spelled : (caller call : ℕ) → pick_line caller call ≡ spaced (codes "c") (decimal caller ∷ codes "pick" ∷ decimal call ∷ decimal (word_of_call call) ∷ []) ++ 10 ∷ []
unfolding pick_line
pick_spelled caller call = pick_text (decimal caller) (decimal call) (decimal (word_of_call call))

commit_spelled : (caller call : ℕ) → commit_line caller call ≡ spaced (codes "c") (decimal caller ∷ codes "commit" ∷ decimal call ∷ []) ++ 10 ∷ []
unfolding commit_line
commit_spelled caller call = commit_text (decimal caller) (decimal call)

-- ---- what the lines say

word_small : (call : ℕ) → word_of_call call < 2 ^ 64
word_small call = omega arith

-- a caller is written as a number of 1 to 4
pub record IsCaller (caller : ℕ) : Type 0 where
  pub written : is_number (decimal caller) ≡ true
  pub least : 1 ≤ caller
  pub most : caller ≤ 4

call_read : (call : ℕ) → call ≤ 65535 → number_up_to 65535 (decimal call) ≡ Some call
call_read call le = up_to 65535 call le (omega (arith, le))

word_read : (call : ℕ) → number_up_to 18446744073709551615 (decimal (word_of_call call)) ≡ Some (word_of_call call)
word_read call = let small = word_small call in up_to 18446744073709551615 (word_of_call call) (omega (arith, small)) small

caller_read : (caller : ℕ) → IsCaller caller → number_within 1 4 (decimal caller) ≡ Some caller
caller_read caller is = let most = is.most in within 1 4 caller is.least most (omega (arith, most))

start_works : (boot : Bootstrap) (before : List Line) (caller call : ℕ) → IsCaller caller → call ≤ 65535 → is_of_other caller call before ≡ false → is_started call before ≡ false
    → work_of boot 4 before (form.start (decimal caller) (decimal call) (decimal (word_of_call call)) (codes "/load.S/M") [])
    ≡ Ok (Work.Caller caller (Act.Start record { id = record { 0 = call }; path = codes "/load.S/M"; headers = []; word = word_of_call call }))
unfolding work_of
start_works boot before caller call is few free unstarted = rw (is.written, call_read call few, word_read call, caller_read caller is, free, unstarted, no_fields) refl

pick_works : (boot : Bootstrap) (before : List Line) (caller call : ℕ) → IsCaller caller → call ≤ 65535 → is_of_other caller call before ≡ false
    → work_of boot 4 before (form.pick (decimal caller) (decimal call) (decimal (word_of_call call))) ≡ Ok (Work.Caller caller (Act.Pick record { 0 = call } (word_of_call call)))
unfolding work_of
pick_works boot before caller call is few free = rw (is.written, call_read call few, word_read call, caller_read caller is, free) refl

commit_works : (boot : Bootstrap) (before : List Line) (caller call : ℕ) → IsCaller caller → call ≤ 65535 → is_of_other caller call before ≡ false
    → work_of boot 4 before (form.commit (decimal caller) (decimal call)) ≡ Ok (Work.Caller caller (Act.Commit record { 0 = call }))
unfolding work_of
commit_works boot before caller call is few free = rw (is.written, call_read call few, caller_read caller is, free) refl

-- ---- the lines, each taken

-- a session of four callers
abbrev pub four_callers : Bootstrap → Target → Head
four_callers boot target = record { boot = boot; target = target; callers = 4 }

abbrev start_of : ℕ → Act
start_of call = Act.Start record { id = record { 0 = call }; path = codes "/load.S/M"; headers = []; word = word_of_call call }

abbrev pick_of : ℕ → Act
pick_of call = Act.Pick record { 0 = call } (word_of_call call)

abbrev commit_of : ℕ → Act
commit_of call = Act.Commit record { 0 = call }

module _ (boot : Bootstrap) (target : Target) (before : List Line) (n m caller call : ℕ) (is : IsCaller caller) (small : call ≤ 65535) (free : is_of_other caller call before ≡ false) (few : n ≤ 200000) (behind : driver_lines before < 20000) (next : m ≡ n + 1) where
  start_taken : (gate : ℕ) → 5 ≤ gate → gate + 1 ≤ n → is_started call before ≡ false → Takes (four_callers boot target) before n (start_line gate caller call) (called n (Some gate) caller (start_of call) ∷ []) m
  unfolding gate_in form_of caller_form
  start_taken gate low high unstarted =
      let words = codes "c" ∷ decimal caller ∷ codes "start" ∷ decimal call ∷ decimal (word_of_call call) ∷ codes "/load.S/M" ∷ [] in
      let plain : ArePlain ((64 ∷ decimal gate) ∷ words) = (decimal_plain gate, (refl, (decimal_plain caller, (refl, (decimal_plain call, (decimal_plain (word_of_call call), (refl, tt))))))) in
      words_taken (four_callers boot target) before n (start_line gate caller call) (64 ∷ decimal gate) words (Some gate) (Work.Caller caller (start_of call)) m (start_spelled gate caller call) plain
      (line_read boot 4 before n (64 ∷ decimal gate) words (Some (decimal gate)) words (form.start (decimal caller) (decimal call) (decimal (word_of_call call)) (codes "/load.S/M") []) (Some gate)
      (Work.Caller caller (start_of call)) plain refl refl (gate_is n gate low high (omega (arith, high, few))) (start_works boot before caller call is small free unstarted) few behind)
      next

  pick_taken : Takes (four_callers boot target) before n (pick_line caller call) (called n None caller (pick_of call) ∷ []) m
  unfolding gate_in form_of caller_form
  pick_taken =
      let words = decimal caller ∷ codes "pick" ∷ decimal call ∷ decimal (word_of_call call) ∷ [] in
      let plain : ArePlain (codes "c" ∷ words) = (refl, (decimal_plain caller, (refl, (decimal_plain call, (decimal_plain (word_of_call call), tt))))) in
      words_taken (four_callers boot target) before n (pick_line caller call) (codes "c") words None (Work.Caller caller (pick_of call)) m (pick_spelled caller call) plain
      (line_read boot 4 before n (codes "c") words None (codes "c" ∷ words) (form.pick (decimal caller) (decimal call) (decimal (word_of_call call))) None
      (Work.Caller caller (pick_of call)) plain refl refl (no_gate n) (pick_works boot before caller call is small free) few behind)
      next

  commit_taken : Takes (four_callers boot target) before n (commit_line caller call) (called n None caller (commit_of call) ∷ []) m
  unfolding gate_in form_of caller_form
  commit_taken =
      let words = decimal caller ∷ codes "commit" ∷ decimal call ∷ [] in
      let plain : ArePlain (codes "c" ∷ words) = (refl, (decimal_plain caller, (refl, (decimal_plain call, tt)))) in
      words_taken (four_callers boot target) before n (commit_line caller call) (codes "c") words None (Work.Caller caller (commit_of call)) m (commit_spelled caller call) plain
      (line_read boot 4 before n (codes "c") words None (codes "c" ∷ words) (form.commit (decimal caller) (decimal call)) None
      (Work.Caller caller (commit_of call)) plain refl refl (no_gate n) (commit_works boot before caller call is small free) few behind)
      next

-- ---- a whole call

module _ (boot : Bootstrap) (target : Target) (before : List Line) (n m gate caller call time driver made : ℕ) (is : IsCaller caller) (small : call ≤ 65535) (low : 5 ≤ gate) (high : gate + 1 ≤ n) (few : n + 3 ≤ 200000) (behind : driver < 20000) (next : m ≡ n + 4)
    (stands : Stands call time driver made before) where
  abbrev after_start : List Line
  after_start = called n (Some gate) caller (start_of call) ∷ before

  abbrev after_pick : List Line
  after_pick = called (n + 1) None caller (pick_of call) ∷ after_start

  abbrev after_picks : List Line
  after_picks = called (n + 2) None caller (pick_of call) ∷ after_pick

  abbrev after_call : List Line
  after_call = called (n + 3) None caller (commit_of call) ∷ after_picks

  free_at_first : is_of_other caller call before ≡ false
  free_at_first = stands.free caller call (omega arith)

  free_after_start : is_of_other caller call after_start ≡ false
  free_after_start = own_call n (Some gate) caller (start_of call) call before free_at_first

  free_after_pick : is_of_other caller call after_pick ≡ false
  free_after_pick = own_call (n + 1) None caller (pick_of call) call after_start free_after_start

  free_after_picks : is_of_other caller call after_picks ≡ false
  free_after_picks = own_call (n + 2) None caller (pick_of call) call after_pick free_after_pick

  still : Stands (call + 1) time driver made before
  still = stands_still call time driver made (call + 1) time driver made before stands (omega arith) (omega arith) (omega arith) (omega arith)

  stands_1 : Stands (call + 1) time driver (made + 2) after_start
  stands_1 = stands_called n (Some gate) caller (start_of call) (call + 1) time driver made 2 before still (omega arith) (omega arith)

  stands_2 : Stands (call + 1) time driver (made + 2 + 1) after_pick
  stands_2 = stands_called (n + 1) None caller (pick_of call) (call + 1) time driver (made + 2) 1 after_start stands_1 (omega arith) (omega arith)

  stands_3 : Stands (call + 1) time driver (made + 2 + 1 + 1) after_picks
  stands_3 = stands_called (n + 2) None caller (pick_of call) (call + 1) time driver (made + 2 + 1) 1 after_pick stands_2 (omega arith) (omega arith)

  stands_4 : Stands (call + 1) time driver (made + 2 + 1 + 1 + 1) after_call
  stands_4 = stands_called (n + 3) None caller (commit_of call) (call + 1) time driver (made + 2 + 1 + 1) 1 after_picks stands_3 (omega arith) (omega arith)

  pub call_stands : Stands (call + 1) time driver (made + 5) (reverse (lines_of_call n gate caller call) ++ before)
  call_stands = stands_still (call + 1) time driver (made + 2 + 1 + 1 + 1) (call + 1) time driver (made + 5) after_call stands_4 (omega arith) (omega arith) (omega arith) (omega arith)

  pub call_taken : Takes (four_callers boot target) before n (call_lines gate caller call) (lines_of_call n gate caller call) m
  unfolding call_lines
  call_taken =
      let head = four_callers boot target in
      let start = start_taken boot target before n (n + 1) caller call is small free_at_first (omega (arith, few)) (let d = stands.driver_few in omega (arith, d, behind)) refl gate low high (stands.unstarted call (omega arith)) in
      let pick = pick_taken boot target after_start (n + 1) (n + 2) caller call is small free_after_start (omega (arith, few)) (let d = stands_1.driver_few in omega (arith, d, behind)) (omega arith) in
      let again = pick_taken boot target after_pick (n + 2) (n + 3) caller call is small free_after_pick (omega (arith, few)) (let d = stands_2.driver_few in omega (arith, d, behind)) (omega arith) in
      let commit = commit_taken boot target after_picks (n + 3) m caller call is small free_after_picks few (let d = stands_3.driver_few in omega (arith, d, behind)) (omega (arith, next)) in
      let s = called n (Some gate) caller (start_of call) ∷ [] in
      let p = called (n + 1) None caller (pick_of call) ∷ [] in
      let q = called (n + 2) None caller (pick_of call) ∷ [] in
      let c = called (n + 3) None caller (commit_of call) ∷ [] in
      let two = then_taken head before n (start_line gate caller call) (pick_line caller call) s p (n + 1) (n + 2) start pick in
      let three = then_taken head before n (start_line gate caller call ++ pick_line caller call) (pick_line caller call) (s ++ p) q (n + 2) (n + 3) two again in
      then_taken head before n (start_line gate caller call ++ pick_line caller call ++ pick_line caller call) (commit_line caller call) (s ++ p ++ q) c (n + 3) m three commit

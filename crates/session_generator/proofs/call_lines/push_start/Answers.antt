use Rattle.std.proofs.Common.{◌≡◌, List, ℕ, ◌∷◌, ◌++◌, OnOk, ap, codes, subst, sym, string_bytes}
use Rattle.std.specs.Fmt.{decimal}
use Rattle.session_generator.specs.Rounds.{start_line}
use Rattle.session_generator.proofs.PartLemmas.{eight_parts}
use Rattle.session_generator.proofs.call_lines.push_start.Goals as goal

pub returns : goal.returns
unfolding start_line
returns c =
    rw (← c.word_of_call-word.ensures)
    (subst (λ (t : List ℕ). OnOk c.write.result (string_bytes c.write.new.self ≡ string_bytes c.args.out.now ++ t))
    (ap (λ (t : List ℕ). 64 ∷ t) (sym (eight_parts (decimal c.args.gate) (codes " c ") (decimal c.args.caller) (codes " start ") (decimal c.args.call) (codes " ") (decimal c.word_of_call-word.result) (codes " /load.S/M\n"))))
    c.write.ensures.bytes)

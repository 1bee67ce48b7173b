use Rattle.std.proofs.Common.{◌≡◌, List, ℕ, ◌∷◌, ◌++◌, OnOk, ap, codes, subst, sym, string_bytes}
use Rattle.std.specs.Fmt.{decimal}
use Rattle.session_generator.specs.Rounds.{state_line}
use Rattle.session_generator.proofs.PartLemmas.{four_parts}
use Rattle.session_generator.proofs.round_lines.push_state.Goals as goal

pub returns : goal.returns
unfolding state_line
returns c =
    rw (← c.state_word-state.ensures)
    (subst (λ (t : List ℕ). OnOk c.write.result (string_bytes c.write.new.self ≡ string_bytes c.args.out.now ++ t))
    (ap (λ (t : List ℕ). 64 ∷ t) (sym (four_parts (decimal c.args.gate) (codes " d endpoint 10.0.0.1:80 ") c.state_word-state.result.now (codes "\n"))))
    c.write.ensures.bytes)

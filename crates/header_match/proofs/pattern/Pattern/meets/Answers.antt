use Rattle.std.proofs.Common.{ℕ, ◌<◌, ap, ◌∙◌, arith, List}
use Rattle.std.specs.Prelude.{is_some, chars}
use Rattle.std.proofs.lemmas.List.Elements.{All-from_get_or}
use Rattle.regex.specs.Patterns.{Re, find_str, Config}
use Rattle.regex.specs.Strings.{regex_source, regex_config, regex_pattern}
use Rattle.regex_syntax.specs.Grammar.{read}
use Rattle.header_match.specs.Meets.{meets, anchored, is_found}
use Rattle.header_match.proofs.Alike.{read_is_found}
use Rattle.header_match.proofs.pattern.Pattern.meets.Goals as goal

pub returns : goal.returns
unfolding meets
returns c =
    let inv = c.self.invariant in
    let small = All-from_get_or (λ x. x < 256) c.args.text.now 0 (λ i within. omega (arith, c.type_inv.text i)) in
    let reads = read_is_found (regex_config c.self.inside.regex) (regex_source c.self.inside.regex) c.args.text.now _ _ small inv.2 in
    rw (← c.self.view_is)
    (c.is_match.ensures.found ∙ (ap (λ (re : Re). is_some (find_str re c.args.text.now 0)) (c.in_ok-matcher.ensures.pattern ∙ ap regex_pattern c.get.ensures)
    ∙ (reads ∙ (ap (λ (s : List ℕ). is_found (read (regex_config c.self.inside.regex) (chars s)) c.args.text.now) inv.0
    ∙ ap (λ (k : Config). is_found (read k (chars (anchored c.self.inside.text))) c.args.text.now) inv.1))))

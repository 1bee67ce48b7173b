use Rattle.std.proofs.Common.{◌≡◌, ℕ, List, Bor, Option, Some, None, MatchOption, drop, ap, ◌∙◌, ◌++◌}
use Rattle.std.specs.Str.Pattern.{FindsTextPrefix, StripsPrefix}
use Rattle.xds_name.specs.NameTexts.{after, seen}
use Rattle.xds_name.proofs.TextLemmas.{after_none, after_some}
use Rattle.xds_name.proofs.name_texts.rest_after.Goals as goal

stripped : (prefix text : List ℕ) (r : Option (Bor (List ℕ))) → MatchOption r (FindsTextPrefix prefix text None) (λ x. StripsPrefix (FindsTextPrefix prefix) text x.now) → seen r ≡ after prefix text
stripped prefix text None h = after_none prefix text h
stripped prefix text (Some x) h = after_some prefix text x.now (h.1.1 ∙ ap (λ k. prefix ++ drop k text) h.1.0) (h.2 ∙ ap (λ k. drop k text) h.1.0)

pub returns : goal.returns
returns c = stripped c.args.prefix.now c.args.text.now c.strip_prefix.result c.strip_prefix.ensures.cases

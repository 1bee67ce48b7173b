use Rattle.std.proofs.Common.{◌≡◌, true, sym, ap, subst, ◌∙◌}
use Rattle.std.specs.Ordering.{is_eq}
use Rattle.xc_keys.specs.Keys.{is_key}
use Rattle.xc_keys.proofs.KeyLemmas.{same_key, key_itself}
use Rattle.book_streams.proofs.changed_names.is_same.Goals as goal

pub returns : goal.returns
returns c =
    let e : c.is_eq.result ≡ is_key c.args.key.now c.args.other.now = c.is_eq.ensures ∙ ap is_eq c.compare.ensures in
    (λ is. same_key c.args.key.now c.args.other.now (sym e ∙ is), λ same. e ∙ subst (λ k. is_key c.args.key.now k ≡ true) same (key_itself c.args.key.now))

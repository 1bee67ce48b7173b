use Rattle.std.proofs.Common.{◌≡◌, List, sym, subst, ap, ◌∙◌}
use Rattle.std.specs.Prelude.{IfOk}
use Rattle.xc_base.specs.declared.names.Key.{Key}
use Rattle.ads_stream.specs.declared.request_names.Names.{Names}
use Rattle.book_streams.specs.StreamsKept.{names_among}
use Rattle.book_streams.proofs.ToldLemmas.{kept_more}
use Rattle.book_streams.proofs.told_keys.ToldKeys.names.Goals as goal

pub returns-in-Some-clause-names : goal.returns-in-Some-clause-names
returns-in-Some-clause-names c =
    let found : c.in-Some.names.now ≡ names_among c.self.inside.keys c.args.authority = c.self.invariant c.args.authority.0 c.in-Some.names.now (sym c.in-Some.ensures) in
    subst (λ (n : Names). IfOk c.share.result (λ names. names ≡ n)) (found ∙ ap (λ (keys : List Key). names_among keys c.args.authority) c.self.view_is) c.share.ensures

pub invariant_of-self-in_err-keep : goal.invariant_of-self-in_err-keep
invariant_of-self-in_err-keep c = λ place names kept. c.self.invariant place names (sym (c.in_err-keep.ensures.err place) ∙ kept)

pub invariant_of-self-2 : goal.invariant_of-self-2
invariant_of-self-2 c =
    let listed : c.in_ok-share.field-0 ≡ names_among c.self.inside.keys c.args.authority =
    c.in_ok-share.ensures ∙ c.in_ok-names.ensures ∙ ap (λ (keys : List Key). names_among keys c.args.authority) c.as_slice.ensures in
    kept_more c.self.inside.keys c.self.inside.kept c.keep.new.self c.args.authority.0 c.in_ok-share.field-0 c.self.invariant listed c.in_ok-keep.ensures.ok

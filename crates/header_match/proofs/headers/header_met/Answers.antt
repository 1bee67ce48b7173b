use Rattle.std.proofs.Common.{◌∙◌, refl}
use Rattle.header_match.proofs.ValueLemmas.{fixed_value, no_value, one_value, many_values, rule_met}
use Rattle.header_match.proofs.headers.header_met.Goals as goal

pub returns-then-is_same : goal.returns-then-is_same
returns-then-is_same c =
    let rule = c.args.rule.now in
    rule_met c.test_met-then-is_same.result rule.invert rule.test _ rule.name _ _ _ (c.as_bytes-name.ensures.value ∙ c.as_str.ensures) refl
    (fixed_value c.as_bytes-name.result.now c.args.call.now.headers c.if-ends_with.ensures c.if-is_same.ensures) c.test_met-then-is_same.ensures

pub returns-in_default : goal.returns-in_default
returns-in_default c =
    let rule = c.args.rule.now in
    rule_met c.test_met-in_default.result rule.invert rule.test _ rule.name _ _ _ (c.as_bytes-name.ensures.value ∙ c.as_str.ensures) c.as_slice-headers.ensures
    (no_value c.as_bytes-name.result.now c.as_slice-headers.result.now c.if-ends_with.ensures c.if-is_same.ensures c.in_default.ensures) c.test_met-in_default.ensures

pub returns-in-None : goal.returns-in-None
returns-in-None c =
    let rule = c.args.rule.now in
    rule_met c.test_met-in-None.result rule.invert rule.test _ rule.name _ _ _ (c.as_bytes-name.ensures.value ∙ c.as_str.ensures) c.as_slice-headers.ensures
    (one_value c.as_bytes-name.result.now c.as_str-value.result.now c.as_slice-headers.result.now c.split_at.result.1.now c.in-Some.first c.index-headers-first.result
    c.if-ends_with.ensures c.if-is_same.ensures c.in-Some.ensures c.split_at.ensures.back c.in-None.ensures c.as_str-value.ensures) c.test_met-in-None.ensures

pub returns-in_ok-joined-in-Some-place_of : goal.returns-in_ok-joined-in-Some-place_of
returns-in_ok-joined-in-Some-place_of c =
    let rule = c.args.rule.now in
    rule_met c.test_met-in-Some-place_of.result rule.invert rule.test _ rule.name _ _ _ (c.as_bytes-name.ensures.value ∙ c.as_str.ensures) c.as_slice-headers.ensures
    (many_values c.as_bytes-name.result.now c.as_str-value.result.now _ c.as_slice-headers.result.now c.split_at.result.1.now c.in-Some.first c.index-headers-first.result
    c.if-ends_with.ensures c.if-is_same.ensures c.in-Some.ensures c.split_at.ensures.back c.as_str-value.ensures (c.as_str-in-Some-place_of.ensures.value ∙ c.in_ok-joined-in-Some-place_of.ensures)) c.test_met-in-Some-place_of.ensures

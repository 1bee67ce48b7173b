use Rattle.std.proofs.Common.{sym, ◌∙◌, subst}
use Rattle.std.specs.Str.{IsUtf8}
use Rattle.listed_patterns.proofs.ListingLemmas.{decoded_is, decoded_fails}
use Rattle.listed_patterns.proofs.listing.decoded.Goals as goal

pub returns-in_ok-from_str-in-Ok-Borrowed : goal.returns-in_ok-from_str-in-Ok-Borrowed
returns-in_ok-from_str-in-Ok-Borrowed c =
    decoded_is c.args.spelled.now _ (subst IsUtf8 c.percent_decode.ensures.bytes c.in-Ok-Borrowed.ensures.ok_only_if_utf8)
    (c.in_ok-from_str-in-Ok-Borrowed.ensures ∙ ((rw c.in-Ok-Borrowed.field-0-is at c.in-Ok-Borrowed.ensures.value) ∙ c.percent_decode.ensures.bytes))

pub returns-in_ok-from_string-in-Ok-Owned : goal.returns-in_ok-from_string-in-Ok-Owned
returns-in_ok-from_string-in-Ok-Owned c =
    decoded_is c.args.spelled.now _ (subst IsUtf8 c.percent_decode.ensures.bytes c.in-Ok-Owned.ensures.ok_only_if_utf8)
    (c.in_ok-from_string-in-Ok-Owned.ensures ∙ ((rw c.in-Ok-Owned.field-0-is at c.in-Ok-Owned.ensures.value) ∙ c.percent_decode.ensures.bytes))

pub returns-in-Err-Utf8 : goal.returns-in-Err-Utf8
returns-in-Err-Utf8 c =
    decoded_fails c.args.spelled.now (λ h. let other = c.in-Err-Utf8.ensures.utf8 (subst IsUtf8 (sym c.percent_decode.ensures.bytes) h) in cc)

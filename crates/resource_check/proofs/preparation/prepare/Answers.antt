use Rattle.std.proofs.Common.{rules, ◌≡◌, Some}
use Rattle.std.specs.Result.{result_ok}
use Rattle.proto_discovery.specs.Response.{response_of}
use Rattle.proto_discovery.specs.TypeUrls.{kind_of}
use Rattle.resource_check.proofs.DeliveryLemmas.{is_read, prepared_of}
use Rattle.resource_check.proofs.preparation.prepare.Goals as goal

pub returns-clause-prepared : goal.returns-clause-prepared
returns-clause-prepared g c =
    let read : Some c.in-Some.response ≡ result_ok (response_of c.args.payload) = search rules in
    let kind : c.kind_of-kind.result ≡ kind_of c.in-Some.response.type_url = search rules in
    prepared_of c.args.payload c.in-Some.response c.kind_of-kind.result c.in_ok-parts.field-0.parts c.in_ok-parts.field-0.refused (is_read (response_of c.args.payload) c.in-Some.response read) kind
    (rw c.as_slice-2.ensures at c.in_ok-parts.ensures.parts) (rw c.as_slice-2.ensures at c.in_ok-parts.ensures.refused) c.in_ok-parts.ensures.lawful

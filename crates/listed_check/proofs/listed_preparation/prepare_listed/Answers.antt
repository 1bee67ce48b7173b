use Rattle.std.proofs.Common.{rules, ◌≡◌, Some}
use Rattle.std.specs.Result.{result_ok}
use Rattle.proto_discovery.specs.Response.{response_of}
use Rattle.proto_discovery.specs.TypeUrls.{kind_of}
use Rattle.resource_check.proofs.DeliveryLemmas.{is_read}
use Rattle.listed_check.specs.ListedAnswers.{AreDelivered}
use Rattle.listed_check.proofs.ListedLemmas.{read_prepared}
use Rattle.listed_check.proofs.listed_preparation.prepare_listed.Goals as goal

pub returns-in_default-clause-unbuilt : goal.returns-in_default-clause-unbuilt
returns-in_default-clause-unbuilt g c = c.unread.ensures.told (g.P.Patterns.refused c.args.patterns.now)

pub returns-in-Delivered-clause-prepared : goal.returns-in-Delivered-clause-prepared
returns-in-Delivered-clause-prepared g c =
    let read : Some c.in-Some.response ≡ result_ok (response_of c.args.payload) = search rules in
    let kind : c.kind_of-kind.result ≡ kind_of c.in-Some.response.type_url = search rules in
    let delivered : AreDelivered c.args.listed c.kind_of-kind.result c.in-Some.response.resources c.in-Delivered.parts = rw c.as_slice-2.ensures at (rw c.in-Delivered.is at c.in_ok-parts.ensures.parts) in
    read_prepared c.args.payload c.args.listed c.in-Some.response c.kind_of-kind.result c.in-Delivered.parts (is_read (response_of c.args.payload) c.in-Some.response read) kind delivered

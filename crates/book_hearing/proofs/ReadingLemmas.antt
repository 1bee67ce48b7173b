-- A prepared payload, in the words of the history.
use Rattle.std.proofs.Common.{◌≡◌, ℕ, List, [], Option, Some, Result, Ok, Err, refl, sym, ap, ◌∙◌, subst}
use Rattle.std.specs.Result.{result_ok}
use Rattle.xc_base.specs.declared.names.Kind.{Kind}
use Rattle.xc_base.specs.declared.names.Authority.{Authority}
use Rattle.proto_discovery.specs.declared.response.Response.{Response}
use Rattle.proto_discovery.specs.Response.{response_of}
use Rattle.proto_discovery.specs.TypeUrls.{kind_of}
use Rattle.book_fates.specs.resource_check.declared.delivery.Delivery.{Delivery}
use Rattle.book_fates.specs.resource_check.declared.delivery.Prepared.{Prepared}
use Rattle.book_fates.specs.resource_check.declared.delivery.Reading.TheVariants.{Read}
use Rattle.book_fates.specs.resource_check.Deliveries.{AreLawfulIn, IsLawfulReading, IsPrepared, among, parts_in, reading_with, stops_in, stops_with}
use Rattle.book_fates.specs.config_assembly.Orders.{Name}
use Rattle.book_fates.specs.FateSteps.{AreApart}
use Rattle.book_fates.proofs.PartLemmas.{apart}
use Rattle.book_hearing.specs.HeardEvents.{AreDeliverable}

-- ---- a payload that can be read

pub record IsReading (payload : List ℕ) (refused : List Name) (kind : Option Kind) (version nonce : Name) (parts : List Delivery) : Type 0 where
  pub response : Response
  pub reads : result_ok (response_of payload) ≡ Some response
  pub kind_is : kind_of response.type_url ≡ kind
  pub version_is : version ≡ response.version
  pub nonce_is : nonce ≡ response.nonce
  pub parts_are : parts ≡ parts_in (λ text. among text refused) kind response.resources
  pub stops_are : refused ≡ stops_in (λ text. among text refused) kind response.resources

read_by : (payload : List ℕ) (refused : List Name) (kind : Option Kind) (version nonce : Name) (parts : List Delivery) (o : Result Response ℕ) → response_of payload ≡ o →
    Read kind version nonce parts ≡ reading_with (λ text. among text refused) o → refused ≡ stops_with (λ text. among text refused) o → IsReading payload refused kind version nonce parts
read_by payload refused kind version nonce parts (Ok r) is reading stops =
    let same : kind_of r.type_url ≡ kind = cc reading in
    let version_is : version ≡ r.version = cc reading in
    let nonce_is : nonce ≡ r.nonce = cc reading in
    let parts_are : parts ≡ parts_in (λ text. among text refused) (kind_of r.type_url) r.resources = cc reading in
    record {
      response = r;
      reads = ap result_ok is;
      kind_is = same;
      version_is = version_is;
      nonce_is = nonce_is;
      parts_are = parts_are ∙ ap (λ k. parts_in (λ text. among text refused) k r.resources) same;
      stops_are = stops ∙ ap (λ k. stops_in (λ text. among text refused) k r.resources) same;
    }
read_by payload refused kind version nonce parts (Err at) is reading stops = absurd (cc reading)

pub read_back : (p : Prepared) (kind : Option Kind) (version nonce : Name) (parts : List Delivery) → IsPrepared p → p.reading ≡ Read kind version nonce parts → IsReading p.payload p.refused kind version nonce parts
read_back p kind version nonce parts is reads = read_by p.payload p.refused kind version nonce parts (response_of p.payload) refl (sym reads ∙ is.reading) is.refused

pub lawful_back : (p : Prepared) (kind : Option Kind) (version nonce : Name) (parts : List Delivery) → IsPrepared p → p.reading ≡ Read kind version nonce parts → AreLawfulIn kind parts
lawful_back p kind version nonce parts is reads = subst IsLawfulReading reads is.lawful

pub deliverable_is : (a : Authority) (payload : List ℕ) (refused : List Name) (given : Option Kind) (kind : Kind) (version nonce : Name) (parts : List Delivery) →
    IsReading payload refused given version nonce parts → given ≡ Some kind → AreLawfulIn given parts → AreDeliverable (record { authority = a; kind = kind; version = version; nonce = nonce; parts = parts; refused = refused })
deliverable_is a payload refused given kind version nonce parts is kind_is lawful =
    record {
      apart = subst AreApart (sym (is.parts_are ∙ ap (λ k. parts_in (λ text. among text refused) k is.response.resources) kind_is)) (apart [] _);
      lawful = subst (λ k. AreLawfulIn k parts) kind_is lawful;
    }

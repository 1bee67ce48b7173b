-- What of an answered response is taken in: whose it is, of what kind, and its resources.
use Rattle.std.specs.Prelude.{◌≡◌, List, [], true}
use Rattle.xc_base.specs.declared.names.Kind.{Kind}
use Rattle.xc_base.specs.declared.names.Authority.{Authority}
use Rattle.xds_history.specs.resource_check.declared.delivery.Delivery.{Delivery}
use Rattle.xds_history.specs.declared.responses.Told.{Told}
use Rattle.xds_history.specs.Fates.{deletes}
use Rattle.book_fates.specs.declared.answered.Answered.{Answered}
use Rattle.book_fates.specs.FateSteps.{AreApart, AreLawfulParts}
use Rattle.book_fates.specs.NamedParts.{AreNamesOf}

pub record Delivered : Type 0 where
  pub authority : Authority
  pub kind : Kind
  pub parts : List Delivery

-- what the history's response delivers
abbrev pub delivered_by : Told → Delivered
delivered_by t = record { authority = t.authority; kind = t.kind; parts = t.parts }

-- what is taken in
abbrev pub delivered_in : Answered → Delivered
delivered_in a = record { authority = a.authority; kind = a.kind; parts = a.parts }

-- a response that says this and no more
abbrev pub told_as : Delivered → Told
told_as d = record { authority = d.authority; kind = d.kind; version = []; nonce = []; resources = []; parts = d.parts }

-- no name is delivered twice, each value passed its checks, and where the kind deletes what a response lacks the names are those
-- of the resources
pub record IsReady (a : Answered) : Type 0 where
  pub apart : AreApart a.parts
  pub lawful : AreLawfulParts a.kind a.parts
  pub named : deletes a.kind ≡ true → AreNamesOf a.parts a.names

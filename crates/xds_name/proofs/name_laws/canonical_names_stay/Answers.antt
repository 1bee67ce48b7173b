use Rattle.xds_name.proofs.StayLemmas.{canonical_stays, home_stays}
use Rattle.xds_name.proofs.name_laws.canonical_names_stay.Goals as goal

pub returns : goal.returns
returns c = record { name = canonical_stays; home = home_stays }

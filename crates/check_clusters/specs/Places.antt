-- Where a locality stands: in a priority, under its name.
use Rattle.xds_config.specs.declared.endpoint_values.Locality.{Locality}
use Rattle.check_clusters.specs.declared.localities.Place.{Place}

abbrev pub place_of : Locality → Place
place_of l = record { priority = l.priority; region = l.id.region; zone = l.id.zone; sub_zone = l.id.sub_zone }

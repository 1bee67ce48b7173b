-- Where resources come from (Envoy's ConfigSource).
use Rattle.std.specs.Prelude.{Bool, false, Option, Some, None, is_some}
use Rattle.proto_route.specs.declared.config_source.RawConfigSource.{RawConfigSource}

-- ads or self is set
abbrev pub is_sourced : Option RawConfigSource → Bool
is_sourced None = false
is_sourced (Some source) = is_some source.one

-- What tests of paths say of a path's length (gRFC A28: a path that begins with a text has at least its length).
use Rattle.std.specs.Prelude.{ℕ, Bool, ◌==◌, nat_le, length}
use Rattle.xds_config.specs.declared.route_values.PathTest.{PathTest}
use Rattle.xds_config.specs.declared.path_lengths.LengthTest.{LengthTest}

-- a pattern says nothing of it
abbrev pub length_test : PathTest → LengthTest
length_test (PathTest.Prefix text case) = LengthTest.From (length text)
length_test (PathTest.Whole text case) = LengthTest.Exactly (length text)
length_test (PathTest.Pattern pattern) = LengthTest.From 0

abbrev pub length_met : LengthTest → ℕ → Bool
length_met (LengthTest.From least) bytes = nat_le least bytes
length_met (LengthTest.Exactly same) bytes = same == bytes

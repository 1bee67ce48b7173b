-- The pattern texts that right histories tell as refused (this project's own).
use Rattle.std.specs.Prelude.{List, ◌∷◌, All}
use Rattle.std.specs.Str.{IsUtf8}
use Rattle.xds_bootstrap.specs.declared.bootstrap.Bootstrap.{Bootstrap}
use Rattle.xds_name.specs.declared.target.Target.{Target}
use Rattle.call_journal.specs.declared.entry.Entry.{Entry}
use Rattle.legal_history.specs.xds_history.Setting.{setting_of}
use Rattle.legal_history.specs.xds_history.Responses.{refused_in}
use Rattle.legal_history.specs.xds_history.Right.{Right}

-- the pattern texts that an entry of a right history of a session's setting tells as refused are UTF-8
abbrev pub RefusedAreTexts : Type 0
RefusedAreTexts =
    (boot : Bootstrap) (target : Target) (e : Entry) (past : List Entry) → Right (setting_of boot target) (e ∷ past) → All IsUtf8 (refused_in e.what)

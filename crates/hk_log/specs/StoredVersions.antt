-- How a version is stored.
use Rattle.std.specs.Prelude.{Some, None}
use Rattle.hk_log.specs.Versions.{VersionValue}
use Rattle.hk_log.specs.declared.version.Known.{Known}
use Rattle.hk_log.specs.declared.version.Known.TheVariants.{Row, End, Both}

abbrev pub stored : Known → VersionValue
stored (Row row) = record { row = Some row; died = None }
stored (End died) = record { row = None; died = Some died }
stored (Both row died) = record { row = Some row; died = Some died }

use Rattle.std.proofs.Common.{◌≡◌, map, take}
use Rattle.hk_cli_json.specs.Reading.{row_of}
use Rattle.hk_cli_json.proofs.reading.rows_of.Given as goal

abbrev pub invariant-loop-line : goal.invariant-loop-line
invariant-loop-line l = l.rows.items ≡ map row_of (take l.line-index l.lines)

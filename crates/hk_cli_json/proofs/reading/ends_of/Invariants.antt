use Rattle.std.proofs.Common.{◌≡◌, map, take}
use Rattle.hk_cli_json.specs.Reading.{end_of}
use Rattle.hk_cli_json.proofs.reading.ends_of.Given as goal

abbrev pub invariant-loop-line : goal.invariant-loop-line
invariant-loop-line l = l.ends.items ≡ map end_of (take l.line-index l.lines)

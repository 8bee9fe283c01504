use Rattle.std.proofs.Common.{◌≡◌, ◌++◌, drop}
use Rattle.std.specs.String.{string_bytes}
use Rattle.hk_cli_json.specs.Fields.{listed}
use Rattle.hk_cli_json.specs.Answers.{keyed_text}
use Rattle.hk_cli_json.proofs.answer.put_rows.Given as goal

abbrev pub invariant-loop-index : goal.invariant-loop-index
invariant-loop-index l =
    string_bytes l.out ++ listed keyed_text l.index (drop l.index l.rows) ≡ string_bytes l.initial.out ++ listed keyed_text 0 l.rows

use Rattle.std.proofs.Common.{◌≡◌, ◌++◌, drop}
use Rattle.std.specs.String.{string_bytes}
use Rattle.hk_cli_json.specs.Fields.{listed}
use Rattle.hk_cli_json.specs.Items.{placed_text}
use Rattle.hk_cli_json.proofs.item.put_rows.Given as goal

abbrev pub invariant-loop-index : goal.invariant-loop-index
invariant-loop-index l =
    string_bytes l.out ++ listed placed_text l.index (drop l.index l.rows) ≡ string_bytes l.initial.out ++ listed placed_text 0 l.rows

use Rattle.std.proofs.Common.{◌≡◌, ◌++◌, drop}
use Rattle.std.specs.String.{string_bytes}
use Rattle.hk_cli_json.specs.Fields.{listed}
use Rattle.hk_cli_json.specs.Items.{end_text}
use Rattle.hk_cli_json.proofs.item.put_ends.Given as goal

abbrev pub invariant-loop-index : goal.invariant-loop-index
invariant-loop-index l =
    string_bytes l.out ++ listed end_text l.index (drop l.index l.ends) ≡ string_bytes l.initial.out ++ listed end_text 0 l.ends

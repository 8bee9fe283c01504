use Rattle.std.proofs.Common.{◌≡◌, take}
use Rattle.hk_model.specs.Replica.Answers.{visible}
use Rattle.hk_chains.specs.Indexed.{rows_of_keys}
use Rattle.hk_chains.specs.Reads.{with_facts}
use Rattle.hk_store.proofs.facts.Facts.rows_of_keys.Given as goal

abbrev pub invariant-loop-key : goal.invariant-loop-key
invariant-loop-key l = l.rows.items ≡ rows_of_keys (visible (with_facts l.self) l.time) l.table l.tag (take l.key-index l.keys)

use Rattle.std.proofs.Common.{◌≡◌, ◌≤◌, ◌*◌, length, take, All}
use Rattle.std.specs.List.{flat_map}
use Rattle.hk_fragment_bytes.specs.Fragments as spec
use Rattle.hk_fragment_bytes.proofs.fragment_encoding.facts_len.Given as goal

abbrev pub invariant-loop-fact : goal.invariant-loop-fact
invariant-loop-fact l = (l.total ≡ length (flat_map spec.fact_text (take l.fact-index l.facts))) × (l.total ≤ 4129 * l.fact-index) × All spec.KnownFits (take l.fact-index l.facts)

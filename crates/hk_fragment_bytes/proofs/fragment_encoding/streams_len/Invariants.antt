use Rattle.std.proofs.Common.{◌≡◌, ◌≤◌, ◌*◌, length, take, map}
use Rattle.std.specs.List.{flat_map}
use Rattle.hk_fragment_bytes.specs.Fragments as spec
use Rattle.hk_fragment_bytes.proofs.fragment_encoding.streams_len.Given as goal

abbrev pub invariant-loop-index : goal.invariant-loop-index
invariant-loop-index l = (l.total ≡ length (flat_map spec.stream_text (map spec.wire_stream_of (take l.index l.got)))) × (l.total ≤ 137438953472 * l.index)

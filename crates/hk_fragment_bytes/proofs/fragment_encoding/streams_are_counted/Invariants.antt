use Rattle.std.proofs.Common.{◌≡◌, drop, map}
use Rattle.hk_fragment_bytes.specs.Fragments as spec
use Rattle.hk_fragment_bytes.proofs.fragment_encoding.streams_are_counted.Given as goal

abbrev pub invariant-loop-index : goal.invariant-loop-index
invariant-loop-index l = spec.streams_are_counted (map spec.wire_stream_of (drop l.index l.got)) ≡ spec.streams_are_counted (map spec.wire_stream_of l.got)

use Rattle.std.proofs.Common.{◌≡◌, ◌++◌, ℕ, length, map}
use Rattle.std.specs.Int.{w32}
use Rattle.std.specs.List.{flat_map}
use Rattle.std.specs.Map.Iter.{deref_pair}
use Rattle.hk_frames.specs.Fields.{number}
use Rattle.hk_model.specs.Replica.Streams.{stream_at}
use Rattle.hk_fragment_bytes.specs.Fragments as spec
use Rattle.hk_fragment_bytes.proofs.fragment_encoding.put_waits.Given as goal

abbrev pub invariant-loop-count : goal.invariant-loop-count
invariant-loop-count l = l.out.items ≡ l.fn.out.items ++ (number w32 (length (spec.wire_stream_of (stream_at l.fn.got l.fn.s)).waiting) ++ flat_map spec.mark_text (map (deref_pair {K = ℕ} {X = ℕ}) l.yielded))

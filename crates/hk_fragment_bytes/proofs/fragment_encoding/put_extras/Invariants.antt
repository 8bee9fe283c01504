use Rattle.std.proofs.Common.{◌≡◌, ◌++◌, ℕ, length, map}
use Rattle.std.specs.Int.{w32, w64}
use Rattle.std.specs.List.{flat_map}
use Rattle.hk_frames.specs.Fields.{number}
use Rattle.hk_model.specs.Replica.Streams.{stream_at}
use Rattle.hk_fragment_bytes.specs.Fragments as spec
use Rattle.hk_fragment_bytes.proofs.fragment_encoding.put_extras.Given as goal

abbrev pub invariant-loop-number : goal.invariant-loop-number
invariant-loop-number l = l.out.items ≡ l.fn.out.items ++ (number w32 (length (spec.wire_stream_of (stream_at l.fn.got l.fn.s)).extra) ++ flat_map (number w64) (map (λ (n : ℕ). n) l.yielded))

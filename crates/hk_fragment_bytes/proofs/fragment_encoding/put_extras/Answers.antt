use Rattle.std.proofs.Common.{◌≡◌, ◌++◌, ℕ, List, map, sym, ap, ◌∙◌, length}
use Rattle.std.specs.Int.{w32, w64}
use Rattle.std.specs.List.{flat_map}
use Rattle.std.proofs.lemmas.Map.Iter.{iter_end}
use Rattle.hk_frames.specs.Fields.{number}
use Rattle.hk_model.specs.Replica.Streams.{stream_at}
use Rattle.hk_fragment_bytes.specs.Fragments.{wire_stream_of}
use Rattle.hk_fragment_bytes.proofs.StreamRead.{extras_listed}
use Rattle.hk_fragment_bytes.proofs.fragment_encoding.put_extras.Goals as goal

pub returns-clause-ok : goal.returns-clause-ok
returns-clause-ok c =
    let e : map (λ (n : ℕ). n) c.loop-number.yielded ≡ c.extra_numbers-number-items.result = (iter_end (λ (n : ℕ). n) c.extra_numbers-number-items.result c.loop-number.yielded c.into_iter-number-iterator.result c.loop-number.number-iterator c.next.new.self c.next.result c.into_iter-number-iterator.ensures.into_iter_gives c.loop-number.yielded_by c.in-None.is c.next.ensures.steps).0 in
    c.loop-number.invariant
    ∙ ap (λ (ys : List ℕ). c.args.out.now.items ++ (number w32 (length (wire_stream_of (stream_at c.args.got.now c.args.s)).extra) ++ flat_map (number w64) ys))
    (e ∙ sym (extras_listed c.extra_numbers-number-items.result (stream_at c.args.got.now c.args.s) c.extra_numbers-number-items.ensures.rising c.extra_numbers-number-items.ensures.value))

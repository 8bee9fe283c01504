use Rattle.std.proofs.Common.{◌++◌, List, refl, ap, ◌∙◌, length, map}
use Rattle.std.specs.Int.{w32, w64}
use Rattle.std.specs.List.{flat_map}
use Rattle.hk_frames.specs.Fields.{number}
use Rattle.hk_model.specs.Replica.Streams.{StreamContent}
use Rattle.hk_fragment.specs.Parts.{Known}
use Rattle.hk_fragment_bytes.specs.Fragments.{wire_stream_of, stream_text, wire_fragment_of}
use Rattle.hk_fragment_bytes.proofs.ReadingLoops.{map_ok}
use Rattle.hk_fragment_bytes.proofs.WrittenFragments.{put_parts}
use Rattle.hk_fragment_bytes.proofs.fragment_encoding.put_fragment_front.Goals as goal

pub returns-clause-ok : goal.returns-clause-ok
returns-clause-ok c =
    map_ok c.put_u32.result (λ e. put_parts (wire_fragment_of c.args.fragment.now) c.args.fragment.now.content.streams c.streams.result c.args.out.now.items c.put_u64.new.out.items c.put_u16.new.out.items c.put_u64-2.new.out.items c.put_u64-3.new.out.items c.put_streams.new.out.items c.put_u32.new.out.items
    refl (c.streams.ensures.value ∙ c.config-config.ensures.streams)
    (c.in_ok-put_u64.ensures.ok ∙ ap (λ n. c.args.out.now.items ++ number w64 n) (c.log.ensures ∙ c.config-config.ensures.log))
    c.in_ok-put_u16.ensures.ok
    (c.in_ok-put_u64-2.ensures.ok ∙ ap (λ n. c.put_u16.new.out.items ++ number w64 n) (c.number.ensures.value ∙ c.base.ensures.value))
    (c.in_ok-put_u64-3.ensures.ok ∙ ap (λ n. c.put_u64-2.new.out.items ++ number w64 n) (c.number-2.ensures.value ∙ c.horizon.ensures.value))
    (c.in_ok-put_streams.ensures.ok ∙ ap (λ (g : List StreamContent). c.put_u64-3.new.out.items ++ flat_map stream_text (map wire_stream_of g)) c.got.ensures.value)
    (e ∙ ap (λ (fs : List Known). c.put_streams.new.out.items ++ number w32 (length fs)) c.facts.ensures.value)) c.put_u32.ensures.ok

use Rattle.std.proofs.Common.{◌≡◌, ◌∙◌, ◌+◌, true, cond, sym, ap, length, map, List, Some, None, arith}
use Rattle.hk_model.specs.Replica.Streams.{StreamContent}
use Rattle.hk_fragment.specs.Heads.{head_of}
use Rattle.hk_fragment_bytes.specs.Fragments.{wire_stream_of, streams_are_counted, streams_text}
use Rattle.hk_fragment_bytes.specs.Parts.{head_is_counted, head_text, wire_head_of}
use Rattle.hk_fragment_bytes.proofs.Lengths.{head_text_len}
use Rattle.hk_fragment_bytes.proofs.fragment_head.head_bytes.Goals as goal

pub returns : goal.returns
returns c =
    let head = wire_head_of (head_of c.args.fragment.now) in
    let counted : head_is_counted head ≡ true =
    ap (λ (streams : List StreamContent). streams_are_counted (map wire_stream_of streams)) (sym c.got.ensures.value) ∙ sym c.streams_are_counted.ensures ∙ c.if-not-streams_are_counted.false in
    let all = head_text_len head in
    let streams = c.streams_len.ensures.len ∙ ap (λ (s : List StreamContent). length (streams_text s)) c.got-2.ensures.value in
    let is : c.head_len-start.result + c.streams_len.result + c.number_len.result ≡ length (head_text head) = omega (arith, all, c.head_len-start.ensures.len, streams, c.number_len.ensures.len) in
    ap Some is ∙ sym (ap (λ b. cond b (Some (length (head_text head))) None) counted)

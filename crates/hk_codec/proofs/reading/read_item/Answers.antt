use Rattle.std.proofs.Common.{arith}
use Rattle.hk_frames.specs.Fields.{IsBytes}
use Rattle.hk_codec.proofs.ReadFields.{head_takes}
use Rattle.hk_codec.proofs.reading.read_item.Goals as goal

pub read_kind-requires : goal.read_kind-requires
read_kind-requires c =
    let fits : IsBytes c.args.rest.now = λ i. omega (arith, c.type_inv.rest i) in
    let head = head_takes c.args.rest.now (record { version = c.in_ok-head.head.version; kind = c.in_ok-head.head.kind; log = c.in_ok-head.head.log; stream = c.in_ok-head.head.stream }, c.read_head.new.cursor) fits (rw c.new-cursor.ensures at c.in_ok-head.ensures) in
    record { bytes = head.0.rest_fits; version = head.1.version }

use Rattle.std.proofs.Common.{◌≡◌, length, arith, ◌∙◌}
use Rattle.hk_codec.proofs.ReadItems.{moment_takes, ends_take, rows_take, is_entry}
use Rattle.hk_codec.proofs.reading.read_entry.Goals as goal

pub of_parts-requires : goal.of_parts-requires
of_parts-requires c =
    let m = moment_takes c.args.cursor.now ((c.in_ok-number.number, c.in_ok-number.time), c.read_moment.new.cursor) c.requires.bytes c.in_ok-number.ensures in
    let es = ends_take c.args.head.version c.in_ok-number.time c.read_moment.new.cursor (c.in_ok-ends.ends.items, c.read_ends.new.cursor) c.requires.version m.takes.rest_fits c.in_ok-ends.ensures in
    let n : c.len.result ≡ length c.in_ok-ends.ends.items = c.len.ensures ∙ omega (arith, c.in_ok-ends.ends.ok) in
    let rs = rows_take c.args.head.version (length c.in_ok-ends.ends.items) c.read_ends.new.cursor (c.in_ok-rows.rows.items, c.read_rows.new.cursor) c.requires.version es.takes.rest_fits (rw n at c.in_ok-rows.ensures) in
    is_entry c.args.head.version c.args.head.log c.args.head.stream c.in_ok-number.number c.in_ok-number.time c.in_ok-ends.ends.items c.in_ok-rows.rows.items c.args.cursor.now c.read_moment.new.cursor c.read_ends.new.cursor c.read_rows.new.cursor (omega arith) (omega arith) (omega arith) m es rs

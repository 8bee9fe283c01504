use Rattle.std.proofs.Common.{arith}
use Rattle.hk_frames.specs.Fields.{IsBytes}
use Rattle.hk_frames.proofs.FrameStream.{at_start, value_more, values_stop, values_fault}
use Rattle.hk_frames.proofs.frames.take_frames.Goals as goal

pub frames-init : goal.frames-init
frames-init g c = at_start g.F.Format.format.seen g.F.Format.format.meant g.F.Format.format.rest_text g.F.Format.format.IsEncodable c.args.bytes.now c.args.out.now.items

pub overflow_add-used : goal.overflow_add-used
overflow_add-used g c =
    let fits : IsBytes c.args.bytes.now = λ i. omega (arith, c.type_inv.bytes i) in
    let s = value_more g.F.Format.format.seen g.F.Format.format.meant g.F.Format.LEAST_BYTES g.F.Format.MOST_BYTES g.F.Format.format.read g.F.Format.format.rest_text g.F.Format.format.IsEncodable c.requires c.args.bytes.now c.args.out.now.items c.frames.out.items c.frames.used c.in-Ok-Some.value c.in-Ok-Some.len fits c.frames.invariant (rw c.in-Ok-Some.field-0-is at c.in-Ok-Some.ensures) in
    omega (arith, s.so_far.fits)

pub frames-smaller : goal.frames-smaller
frames-smaller g c =
    let fits : IsBytes c.args.bytes.now = λ i. omega (arith, c.type_inv.bytes i) in
    let s = value_more g.F.Format.format.seen g.F.Format.format.meant g.F.Format.LEAST_BYTES g.F.Format.MOST_BYTES g.F.Format.format.read g.F.Format.format.rest_text g.F.Format.format.IsEncodable c.requires c.args.bytes.now c.args.out.now.items c.frames.out.items c.frames.used c.in-Ok-Some.value c.in-Ok-Some.len fits c.frames.invariant (rw c.in-Ok-Some.field-0-is at c.in-Ok-Some.ensures) in
    omega (arith, s.so_far.fits, s.least)

pub frames-preserved : goal.frames-preserved
frames-preserved g c =
    let fits : IsBytes c.args.bytes.now = λ i. omega (arith, c.type_inv.bytes i) in
    let s = value_more g.F.Format.format.seen g.F.Format.format.meant g.F.Format.LEAST_BYTES g.F.Format.MOST_BYTES g.F.Format.format.read g.F.Format.format.rest_text g.F.Format.format.IsEncodable c.requires c.args.bytes.now c.args.out.now.items c.frames.out.items c.frames.used c.in-Ok-Some.value c.in-Ok-Some.len fits c.frames.invariant (rw c.in-Ok-Some.field-0-is at c.in-Ok-Some.ensures) in
    rw c.in_ok-push-in-Ok-Some.ensures.items s.so_far

pub returns-in-Ok-None-clause-read : goal.returns-in-Ok-None-clause-read
returns-in-Ok-None-clause-read g c =
    values_stop g.F.Format.format.seen g.F.Format.format.meant g.F.Format.LEAST_BYTES g.F.Format.MOST_BYTES g.F.Format.format.read g.F.Format.format.rest_text g.F.Format.format.IsEncodable c.requires c.args.bytes.now c.args.out.now.items c.frames.out.items c.frames.used c.frames.invariant (rw c.in-Ok-None.field-0-is at c.in-Ok-None.ensures)

pub returns-in-Err-Fault-clause-read : goal.returns-in-Err-Fault-clause-read
returns-in-Err-Fault-clause-read g c =
    let read = values_fault g.F.Format.format.seen g.F.Format.format.meant g.F.Format.LEAST_BYTES g.F.Format.MOST_BYTES g.F.Format.format.read g.F.Format.format.rest_text g.F.Format.format.IsEncodable c.requires c.args.bytes.now c.args.out.now.items c.frames.out.items c.frames.used c.in-Err-Fault.fault c.frames.invariant (rw c.in-Err-Fault.field-0-is at c.in-Err-Fault.ensures) in
    rw c.in-Err-Fault.fault-is read

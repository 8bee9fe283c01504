use Rattle.std.proofs.Common.{arith, refl, inl, inr}
use Rattle.std.proofs.lemmas.Result.{err_from_is_err_and}
use Rattle.hk_frames.specs.Fields.{IsBytes}
use Rattle.hk_codec.proofs.RewrittenFrames.{nothing_yet, more_fits, more_rewritten, out_kept, stops_short, cut_off, faulty}
use Rattle.hk_codec.proofs.rewriting.rewrite_frames.Goals as goal

pub frames-init : goal.frames-init
frames-init c = nothing_yet c.args.bytes.now c.args.out.now.items

pub returns-in_err-put_frame-in-Ok-Some : goal.returns-in_err-put_frame-in-Ok-Some
returns-in_err-put_frame-in-Ok-Some c =
    let p = err_from_is_err_and c.from_residual.result c.from_residual.ensures.1 in
    rw (p.1, p.2) (stops_short c.args.bytes.now c.args.out.now.items c.frames.out.items c.frames.used c.frames.invariant c.put_frame.new.out.items c.in_err-put_frame-in-Ok-Some.ensures.kept, inl refl)

pub overflow_add-used : goal.overflow_add-used
overflow_add-used c =
    let fits : IsBytes c.args.bytes.now = λ i. omega (arith, c.type_inv.bytes i) in
    let m = more_fits c.args.bytes.now c.args.out.now.items c.frames.out.items c.frames.used c.frames.invariant c.in-Ok-Some.item c.in-Ok-Some.len fits (rw c.in-Ok-Some.field-0-is at c.in-Ok-Some.ensures) in
    omega (arith, m.0)

pub frames-smaller-in_ok-put_frame-in-Ok-Some : goal.frames-smaller-in_ok-put_frame-in-Ok-Some
frames-smaller-in_ok-put_frame-in-Ok-Some c =
    let fits : IsBytes c.args.bytes.now = λ i. omega (arith, c.type_inv.bytes i) in
    let m = more_fits c.args.bytes.now c.args.out.now.items c.frames.out.items c.frames.used c.frames.invariant c.in-Ok-Some.item c.in-Ok-Some.len fits (rw c.in-Ok-Some.field-0-is at c.in-Ok-Some.ensures) in
    omega (arith, m.0, m.1)

pub frames-smaller : goal.frames-smaller
frames-smaller c =
    let fits : IsBytes c.args.bytes.now = λ i. omega (arith, c.type_inv.bytes i) in
    let m = more_fits c.args.bytes.now c.args.out.now.items c.frames.out.items c.frames.used c.frames.invariant c.in-Ok-Some.item c.in-Ok-Some.len fits (rw c.in-Ok-Some.field-0-is at c.in-Ok-Some.ensures) in
    omega (arith, m.0, m.1)

pub frames-preserved-in_ok-put_frame-in-Ok-Some : goal.frames-preserved-in_ok-put_frame-in-Ok-Some
frames-preserved-in_ok-put_frame-in-Ok-Some c =
    let fits : IsBytes c.args.bytes.now = λ i. omega (arith, c.type_inv.bytes i) in
    more_rewritten c.args.bytes.now c.args.out.now.items c.frames.out.items c.frames.used c.frames.invariant c.in-Ok-Some.item c.in-Ok-Some.len c.put_frame.new.out.items fits (rw c.in-Ok-Some.field-0-is at c.in-Ok-Some.ensures) c.in_ok-put_frame-in-Ok-Some.ensures.ok

pub frames-preserved : goal.frames-preserved
frames-preserved c =
    let fits : IsBytes c.args.bytes.now = λ i. omega (arith, c.type_inv.bytes i) in
    more_rewritten c.args.bytes.now c.args.out.now.items c.frames.out.items c.frames.used c.frames.invariant c.in-Ok-Some.item c.in-Ok-Some.len c.put_frame.new.out.items fits (rw c.in-Ok-Some.field-0-is at c.in-Ok-Some.ensures) c.in_ok-put_frame-in-Ok-Some.ensures.ok

pub returns-then-used-bytes : goal.returns-then-used-bytes
returns-then-used-bytes c =
    let kept = out_kept c.args.bytes.now c.args.out.now.items c.frames.out.items c.frames.used c.frames.invariant in
    (kept, inr (cut_off c.args.bytes.now c.args.out.now.items c.frames.out.items c.frames.used c.frames.invariant (rw c.in-Ok-None.field-0-is at c.in-Ok-None.ensures) c.if-used-bytes.true))

pub returns-in-Err-Fault : goal.returns-in-Err-Fault
returns-in-Err-Fault c =
    let kept = out_kept c.args.bytes.now c.args.out.now.items c.frames.out.items c.frames.used c.frames.invariant in
    rw c.in-Err-Fault.fault-is (kept, inr (faulty c.args.bytes.now c.args.out.now.items c.frames.out.items c.frames.used c.frames.invariant c.in-Err-Fault.fault (rw c.in-Err-Fault.field-0-is at c.in-Err-Fault.ensures)))

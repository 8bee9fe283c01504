use Rattle.std.proofs.Common.{◌≡◌, ◌<◌, ◌≤◌, ◌+◌, ◌-◌, drop, take, length, sym, ap, subst, ◌∙◌, arith}
use borrow.Rule.Slice.PartMut.{put_mid}
use Rattle.std.proofs.lemmas.List.{take_rest, length-drop}
use Rattle.hk_doors.specs.Handing.{Place, WatchValue, HandsOn}
use Rattle.hk_doors.proofs.Handing.{rest_step, further, head_step, rest_behind, unwritten, written_len}
use Rattle.hk_doors.proofs.frame_watch.FrameWatch.take.Goals as goal

pub loop-done-preserved-then-rest-gt0 : goal.loop-done-preserved-then-rest-gt0
loop-done-preserved-then-rest-gt0 c =
    let i = c.loop-done.invariant in
    let e = c.take_rest-rest.ensures in
    record {
      some = omega arith;
      kept = i.kept;
      same = i.same;
      begun = e.begun ∙ i.begun;
      gets = rest_step c.args.passes c.args.self.now.place c.loop-done.self.place c.take_rest-rest.new.self.place c.args.bytes.now c.loop-done.bytes c.loop-done.done c.take_rest-rest.result i.gets i.rest (omega arith) e.left e.place;
      rest = further c.args.bytes.now c.loop-done.bytes c.loop-done.done c.take_rest-rest.result i.rest;
    }

pub loop-done-preserved : goal.loop-done-preserved
loop-done-preserved c =
    let i = c.loop-done.invariant in
    let r = c.take_rest-rest.ensures in
    let h = c.take_head-taken.ensures in
    let d = c.loop-done.done in
    let k = c.take_head-taken.result.count in
    let came = c.args.bytes.now in
    let got = c.loop-done.bytes in
    let part = c.take_head-taken.new.bytes in
    let some : 0 < k = omega arith in
    let nothing : c.take_rest-rest.result ≡ 0 = omega arith in
    let stays : c.loop-done.self.place ≡ c.take_rest-rest.new.self.place = sym (r.stays nothing) in
    let none : c.take_rest-rest.new.self.place.left ≡ 0 = r.none nothing (omega arith) in
    let gets : HandsOn c.args.passes c.args.self.now.place (take d came) (take d got) c.take_rest-rest.new.self.place = subst (λ (b : Place). HandsOn c.args.passes c.args.self.now.place (take d came) (take d got) b) stays i.gets in
    let is : take (length got - d) (drop d got) ≡ drop d got = take_rest got d in
    let few : d + k ≤ length got = omega (arith, h.some, length-drop d got, ap length is) in
    let len : length (put_mid d (length got - d) got part) ≡ length got = written_len got _ part d is h.kept in
    record {
      some = omega (arith, len, few);
      kept = len ∙ i.kept;
      same = λ all. unwritten got _ part d is (h.same all) ∙ i.same all;
      begun = h.begun ∙ (ap (λ (w : WatchValue). w.begun) c.is_enough.ensures ∙ (r.begun ∙ i.begun));
      gets = head_step c.args.passes c.args.self.now.place c.take_rest-rest.new.self.place c.take_head-taken.new.self.place came got _ part d k is gets i.rest i.some none (h.head some) (h.judged some) (h.place some);
      rest = rest_behind came got _ part d k is i.some i.rest h.rest;
    }

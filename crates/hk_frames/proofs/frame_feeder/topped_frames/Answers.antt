use Rattle.std.proofs.Common.{◌≡◌, ◌++◌, true, length, drop, eqb, eq-eqb, sym, ap, ◌∙◌, arith, inl, inr}
use Rattle.std.proofs.lemmas.List.{take-append-drop, nil_from_length}
use Rattle.std.proofs.lemmas.Bool.{eqb-true}
use Rattle.hk_frames.specs.Framing.{IsWhole}
use Rattle.hk_frames.proofs.FrameStream.{tail_is, fault_first, piece_read, whole_first}
use Rattle.hk_frames.proofs.frame_feeder.topped_frames.Goals as goal

pub returns-then-is_some-clause-read : goal.returns-then-is_some-clause-read
returns-then-is_some-clause-read g c =
    let parts : c.split_at.result.0.now ++ c.split_at.result.1.now ≡ c.args.piece.now = rw (c.split_at.ensures.front, c.split_at.ensures.back) (take-append-drop c.lacking.result c.args.piece.now) in
    fault_first g.F.Format.format.seen g.F.Format.format.meant g.F.Format.LEAST_BYTES g.F.Format.MOST_BYTES g.F.Format.format.read g.F.Format.format.rest_text g.F.Format.format.IsEncodable c.args.out.now.items c.take_frames.new.out.items c.args.rest.now.items c.args.piece.now c.split_at.result.0.now c.split_at.result.1.now c.deref-2.result.now _ c.extend_from_slice.new.self.items c.in_ok-progress.progress.fault parts (c.deref-2.ensures.value ∙ c.in_ok-extend_from_slice.ensures.items) (sym c.is_some.ensures ∙ c.if-is_some.true) c.in_ok-progress.ensures.read

pub returns-then-is_empty-clause-read : goal.returns-then-is_empty-clause-read
returns-then-is_empty-clause-read g c =
    let parts : c.split_at.result.0.now ++ c.split_at.result.1.now ≡ c.args.piece.now = rw (c.split_at.ensures.front, c.split_at.ensures.back) (take-append-drop c.lacking.result c.args.piece.now) in
    let text : c.deref-2.result.now ≡ c.args.rest.now.items ++ c.split_at.result.0.now = c.deref-2.ensures.value ∙ c.in_ok-extend_from_slice.ensures.items in
    let none : length c.split_at.result.1.now ≡ 0 = eqb-true _ _ (sym c.is_empty.ensures ∙ c.if-is_empty.true) in
    let left : c.drop_front.new.bytes.items ≡ drop c.in_ok-progress.progress.used c.deref-2.result.now = c.drop_front.ensures ∙ ap (drop c.in_ok-progress.progress.used) (sym c.deref-2.ensures.value) in
    piece_read g.F.Format.format.seen g.F.Format.format.meant g.F.Format.LEAST_BYTES g.F.Format.MOST_BYTES g.F.Format.format.read g.F.Format.format.rest_text g.F.Format.format.IsEncodable c.args.out.now.items c.take_frames.new.out.items c.args.rest.now.items c.args.piece.now c.split_at.result.0.now c.split_at.result.1.now c.deref-2.result.now _ c.drop_front.new.bytes.items c.in_ok-progress.progress.fault parts text (nil_from_length c.split_at.result.1.now none) (sym c.is_some.ensures ∙ c.if-is_some.false) left c.in_ok-progress.ensures.read

pub returns-clause-read : goal.returns-clause-read
returns-clause-read g c =
    let parts : c.split_at.result.0.now ++ c.split_at.result.1.now ≡ c.args.piece.now = rw (c.split_at.ensures.front, c.split_at.ensures.back) (take-append-drop c.lacking.result c.args.piece.now) in
    let text : c.deref-2.result.now ≡ c.args.rest.now.items ++ c.split_at.result.0.now = c.deref-2.ensures.value ∙ c.in_ok-extend_from_slice.ensures.items in
    let whole : IsWhole c.deref-2.result.now = elim c.lacking.ensures.whole [
      | inl all ↦
          let none : length c.split_at.result.1.now ≡ 0 = omega (arith, all, c.split_at.ensures.back_len) in
          let empty : eqb (length c.split_at.result.1.now) 0 ≡ true = eq-eqb _ _ none in
          absurd (cc (empty, c.is_empty.ensures, c.if-is_empty.false))
      | inr one ↦ rw (text, c.split_at.ensures.front, ← c.deref.ensures.value) one
    ] in
    rw (c.in_ok-replace.ensures.ok, tail_is c.in_ok-behind.behind.used c.split_at.result.1.now)
    (whole_first g.F.Format.format.seen g.F.Format.format.meant g.F.Format.LEAST_BYTES g.F.Format.MOST_BYTES g.F.Format.format.read g.F.Format.format.rest_text g.F.Format.format.IsEncodable c.requires c.args.out.now.items c.take_frames.new.out.items c.take_frames-2.new.out.items c.args.rest.now.items c.args.piece.now c.split_at.result.0.now c.split_at.result.1.now c.deref-2.result.now _ c.in_ok-progress.progress.fault _ parts text (sym c.is_some.ensures ∙ c.if-is_some.false) whole c.in_ok-progress.ensures.read c.in_ok-behind.ensures.read)

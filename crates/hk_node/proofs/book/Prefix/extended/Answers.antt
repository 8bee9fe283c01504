use Rattle.std.proofs.Common.{◌≡◌, ◌+◌, true, length-append, None, All, List, [], ◌∷◌, ◌++◌, length, sym, ◌∙◌, ap, subst, arith}
use Rattle.std.proofs.lemmas.List.Elements.{All-append, All-cons, All-nil}
use Rattle.logbook.specs.Pages.{Book}
use Rattle.hk_oplog.specs.declared.op.Op.{Op}
use Rattle.hk_oplog.specs.Final.{IsFormed}
use Rattle.hk_oplog.specs.Replay.{kind_of, replay, refusal_of, is_legal}
use Rattle.hk_node.proofs.AddedOperation.{adds_moves, added}
use Rattle.hk_oplog.proofs.LegalLists.{kind-snoc, legal-snoc}
use Rattle.hk_node.proofs.book.Prefix.extended.Goals as goal

pub compare_exchange-found-requires : goal.compare_exchange-found-requires
compare_exchange-found-requires c =
    let h = c.args.counter.now.is_counter in
    let offer = c.plain-offer.ensures in
    let pen = c.no_pen-pen.ensures in
    let seen = c.again-seen.ensures in
    let sub = c.in_ok-count.ensures {u = tt} in
    let long : length c.again-seen.result.log ≡ c.self.inside.ops = ap (λ s. length s.log) seen ∙ sym c.self.invariant.0 in
    let len : length c.again-seen.result.log ≡ c.in_ok-count.count + 1 = omega (arith, long, sub.0, sub.1) in
    let name : c.again-seen.result.book ≡ c.args.counter.now.word.book = ap (λ s. s.book) seen ∙ ap (λ (v : Book × List Op). v.0) c.self.view_is ∙ sym c.requires.counter in (
      ap (λ w. w.tracked) h,
      name,
      pen.0 ∙ name,
      offer.0,
      rw (ap (λ w. w.key) h, pen.1, offer.1, offer.3) (adds_moves c.again-seen.result.log c.args.op.now c.in_ok-count.count len),
    )

pub invariant_of-result : goal.invariant_of-result
invariant_of-result c =
    let e = c.compare_exchange-found.ensures in
    let b = c.self.inside in
    let op = c.args.op.now in
    let ends : c.compare_exchange-found.new.seen.log ≡ c.again-seen.result.log ++ c.plain-offer.result.ask ∷ [] = added c.compare_exchange-found.result c.in_ok-count.count c.again-seen.result.log c.compare_exchange-found.new.seen.log c.plain-offer.result.ask c.if-found-count.false e.7 in
    let here : c.compare_exchange-found.new.seen.log ≡ b.seen.log ++ op ∷ [] = ends ∙ ap (λ s. s.log ++ c.plain-offer.result.ask ∷ []) c.again-seen.ensures ∙ ap (λ (o : Op). b.seen.log ++ o ∷ []) c.plain-offer.ensures.1 in
    let more = c.in_ok-ops.ensures {u = tt} in
    let long = length-append b.seen.log (op ∷ []) in
    let count : c.in_ok-ops.ops ≡ length (b.seen.log ++ op ∷ []) = omega (arith, more.1, c.self.invariant.0, long) in
    let may : refusal_of (replay b.seen.log) op ≡ None = subst (λ (v : Book × List Op). refusal_of (replay v.1) op ≡ None) (sym c.self.view_is) c.requires.legal in (
      count ∙ ap length (sym here),
      subst (λ (l : List Op). is_legal l ≡ true) (sym here) (legal-snoc b.seen.log op c.self.invariant.1 may),
      c.again-kind.ensures ∙ c.self.invariant.2 ∙ sym (kind-snoc b.seen.log op c.self.invariant.1) ∙ ap kind_of (sym here),
      subst (λ (l : List Op). All IsFormed l) (sym here) (All-append IsFormed b.seen.log (op ∷ []) c.self.invariant.3 (All-cons IsFormed op [] c.formed.ensures (All-nil IsFormed))),
    )

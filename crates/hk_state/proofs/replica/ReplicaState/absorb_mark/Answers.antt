use Rattle.std.proofs.Common.{◌≡◌, sym, ◌∙◌, subst, Ok, None, true, false, length}
use Rattle.hk_model.specs.Replica.Content.{Content}
use Rattle.hk_model.specs.Replica.Streams.{stream_at, adds_nothing}
use Rattle.hk_log.specs.declared.item.Item.TheVariants.{Closed}
use Rattle.hk_model.specs.declared.took.Took.TheVariants.{Repeated}
use Rattle.hk_model.specs.Replica.Items.{wrong_log}
use Rattle.hk_state.specs.Calls.{Absorbs}
use Rattle.hk_state.specs.Replica.{content_of_parts}
use Rattle.hk_state.proofs.AbsorbedItem.{mark_repeated, mark_result}
use Rattle.hk_state.proofs.replica.ReplicaState.absorb_mark.Goals as goal

pub returns-then-adds_nothing : goal.returns-then-adds_nothing
returns-then-adds_nothing c =
    let a = c.self.inside in
    let k = c.args.mark.now in
    let none : wrong_log a.config.log (length a.got) (Closed k) ≡ None = subst (λ (x : Content). wrong_log x.log (length x.streams) (Closed k) ≡ None) (sym c.self.view_is) c.requires in
    let told : adds_nothing (stream_at a.got k.stream) k.count k.upto ≡ true = (λ i. adds_nothing (stream_at a.got (sym c.stream.ensures i)) (sym c.n.ensures.value i) (sym c.m.ensures i)) ∙ sym c.adds_nothing.ensures ∙ c.if-adds_nothing.true in
    subst (λ (x : Content). Absorbs x x (Closed k) (Ok Repeated)) c.self.view_is (mark_repeated a.config a.horizon a.facts a.got c.self.invariant k c.n.ensures.lawful none told)

pub invariant_of-self : goal.invariant_of-self
invariant_of-self c =
    let a = c.self.inside in
    let k = c.args.mark.now in
    let e = c.take_mark.ensures in
    let none : wrong_log a.config.log (length a.got) (Closed k) ≡ None = subst (λ (x : Content). wrong_log x.log (length x.streams) (Closed k) ≡ None) (sym c.self.view_is) c.requires in
    let new : adds_nothing (stream_at a.got k.stream) k.count k.upto ≡ false = (λ i. adds_nothing (stream_at a.got (sym c.stream.ensures i)) (sym c.n.ensures.value i) (sym c.m.ensures i)) ∙ sym c.adds_nothing.ensures ∙ c.if-adds_nothing.false in
    (mark_result a.config a.horizon a.facts a.got c.self.invariant k c.n.ensures.lawful none new c.take_mark.result c.take_mark.new.got e.told e.got e.err e.kept).1

pub returns : goal.returns
returns c =
    let a = c.self.inside in
    let k = c.args.mark.now in
    let e = c.take_mark.ensures in
    let none : wrong_log a.config.log (length a.got) (Closed k) ≡ None = subst (λ (x : Content). wrong_log x.log (length x.streams) (Closed k) ≡ None) (sym c.self.view_is) c.requires in
    let new : adds_nothing (stream_at a.got k.stream) k.count k.upto ≡ false = (λ i. adds_nothing (stream_at a.got (sym c.stream.ensures i)) (sym c.n.ensures.value i) (sym c.m.ensures i)) ∙ sym c.adds_nothing.ensures ∙ c.if-adds_nothing.false in
    let after : Content = content_of_parts a.config a.horizon a.facts c.take_mark.new.got in
    subst (λ (x : Content). Absorbs x after (Closed k) c.take_mark.result) c.self.view_is
    (mark_result a.config a.horizon a.facts a.got c.self.invariant k c.n.ensures.lawful none new c.take_mark.result c.take_mark.new.got e.told e.got e.err e.kept).0

use Rattle.std.proofs.Common.{◌≡◌, sym, subst, None, false, nat_le, length}
use Rattle.std.specs.FinSet as set
use Rattle.hk_model.specs.Replica.Content.{Content}
use Rattle.hk_model.specs.Replica.Streams.{stream_at}
use Rattle.hk_model.specs.Replica.Items.{wrong_log}
use Rattle.hk_log.specs.declared.item.Item.TheVariants.{Commit}
use Rattle.hk_state.specs.Calls.{Absorbs}
use Rattle.hk_state.specs.Replica.{content_of_parts}
use Rattle.hk_state.proofs.AbsorbedItem.{entry_result}
use Rattle.hk_state.proofs.replica.ReplicaState.absorb_own_entry.Goals as goal

pub invariant_of-self : goal.invariant_of-self
invariant_of-self c =
    let a = c.self.inside in
    let e = c.args.entry in
    let t = c.take_entry.ensures in
    let none : wrong_log a.config.log (length a.got) (Commit e) ≡ None = subst (λ (x : Content). wrong_log x.log (length x.streams) (Commit e) ≡ None) (sym c.self.view_is) c.requires in
    let new : set.contains (stream_at a.got e.stream).taken e.number ≡ false = subst (λ (x : Content). set.contains (stream_at x.streams e.stream).taken e.number ≡ false) (sym c.self.view_is) c.in_default.ensures.new in
    let timely : nat_le e.time (stream_at a.got e.stream).closed ≡ false = subst (λ (x : Content). nat_le e.time (stream_at x.streams e.stream).closed ≡ false) (sym c.self.view_is) c.in_default.ensures.timely in
    (entry_result a.config a.horizon a.facts a.got c.self.invariant e c.in_default.ensures.lawful none new timely c.take_entry.result c.take_entry.new.facts c.take_entry.new.got t.told t.facts t.got t.agrees t.err t.same_facts t.same_got).1

pub returns : goal.returns
returns c =
    let a = c.self.inside in
    let e = c.args.entry in
    let t = c.take_entry.ensures in
    let none : wrong_log a.config.log (length a.got) (Commit e) ≡ None = subst (λ (x : Content). wrong_log x.log (length x.streams) (Commit e) ≡ None) (sym c.self.view_is) c.requires in
    let new : set.contains (stream_at a.got e.stream).taken e.number ≡ false = subst (λ (x : Content). set.contains (stream_at x.streams e.stream).taken e.number ≡ false) (sym c.self.view_is) c.in_default.ensures.new in
    let timely : nat_le e.time (stream_at a.got e.stream).closed ≡ false = subst (λ (x : Content). nat_le e.time (stream_at x.streams e.stream).closed ≡ false) (sym c.self.view_is) c.in_default.ensures.timely in
    let after : Content = content_of_parts a.config a.horizon c.take_entry.new.facts c.take_entry.new.got in
    subst (λ (x : Content). Absorbs x after (Commit e) c.take_entry.result) c.self.view_is
    (entry_result a.config a.horizon a.facts a.got c.self.invariant e c.in_default.ensures.lawful none new timely c.take_entry.result c.take_entry.new.facts c.take_entry.new.got t.told t.facts t.got t.agrees t.err t.same_facts t.same_got).0

use Rattle.std.proofs.Common.{◌≡◌, sym, subst, None, false, nat_le, length, cond, Err, ◌∷◌, [], OnOk, IfErr}
use Rattle.std.specs.FinSet as set
use Rattle.hk_model.specs.Replica.Content.{Content}
use Rattle.hk_model.specs.Replica.Streams.{stream_at, all_together, streams_of}
use Rattle.hk_model.specs.Replica.Items.{wrong_log}
use Rattle.hk_types.specs.declared.faults.Refusal.TheVariants.{Conflict, Memory}
use Rattle.hk_log.specs.Items.{EntryValue}
use Rattle.hk_log.specs.declared.item.Item.TheVariants.{Commit}
use Rattle.hk_state.specs.Calls.{Absorbs}
use Rattle.hk_state.specs.Replica.{content_of_parts}
use Rattle.hk_store.specs.Facts.{with_entry, conflicts_with_entry}
use Rattle.hk_store.specs.Reads.{facts_of_content}
use Rattle.hk_state.proofs.AbsorbedItem.{entry_refused, entry_result}
use Rattle.hk_state.proofs.replica.ReplicaState.absorb_entry.Goals as goal

pub returns-in_default-copy : goal.returns-in_default-copy
returns-in_default-copy c =
    let a = c.self.inside in
    let e = c.args.entry.now in
    let why = c.refusal_without_memory.result in
    let none : wrong_log a.config.log (length a.got) (Commit e) ≡ None = subst (λ (x : Content). wrong_log x.log (length x.streams) (Commit e) ≡ None) (sym c.self.view_is) c.requires in
    let new : set.contains (stream_at a.got e.stream).taken e.number ≡ false = subst (λ (x : Content). set.contains (stream_at x.streams e.stream).taken e.number ≡ false) (sym c.self.view_is) c.in_default.ensures.new in
    let timely : nat_le e.time (stream_at a.got e.stream).closed ≡ false = subst (λ (x : Content). nat_le e.time (stream_at x.streams e.stream).closed ≡ false) (sym c.self.view_is) c.in_default.ensures.timely in
    let err : why ≡ cond (conflicts_with_entry a.facts e) Conflict Memory = subst (λ (x : Content). why ≡ cond (conflicts_with_entry (facts_of_content x) e) Conflict Memory) (sym c.self.view_is) c.refusal_without_memory.ensures in
    subst (λ (x : Content). Absorbs x x (Commit e) (Err why)) c.self.view_is
    (entry_refused a.config a.horizon a.facts a.got c.self.invariant e c.in_default.ensures.lawful none new timely why err)

pub invariant_of-self : goal.invariant_of-self
invariant_of-self c =
    let a = c.self.inside in
    let e = c.args.entry.now in
    let t = c.take_entry.ensures in
    let same = c.in-Ok.ensures in
    let facts = subst (λ (x : EntryValue). OnOk c.take_entry.result (c.take_entry.new.facts ≡ with_entry a.facts x)) same t.facts in
    let got = subst (λ (x : EntryValue). OnOk c.take_entry.result (c.take_entry.new.got ≡ all_together a.got (streams_of (length a.got) (Commit x ∷ [])))) same t.got in
    let agrees = subst (λ (x : EntryValue). OnOk c.take_entry.result (conflicts_with_entry a.facts x ≡ false)) same t.agrees in
    let err = subst (λ (x : EntryValue). IfErr c.take_entry.result (λ why. why ≡ cond (conflicts_with_entry a.facts x) Conflict Memory)) same t.err in
    let none : wrong_log a.config.log (length a.got) (Commit e) ≡ None = subst (λ (x : Content). wrong_log x.log (length x.streams) (Commit e) ≡ None) (sym c.self.view_is) c.requires in
    let new : set.contains (stream_at a.got e.stream).taken e.number ≡ false = subst (λ (x : Content). set.contains (stream_at x.streams e.stream).taken e.number ≡ false) (sym c.self.view_is) c.in_default.ensures.new in
    let timely : nat_le e.time (stream_at a.got e.stream).closed ≡ false = subst (λ (x : Content). nat_le e.time (stream_at x.streams e.stream).closed ≡ false) (sym c.self.view_is) c.in_default.ensures.timely in
    (entry_result a.config a.horizon a.facts a.got c.self.invariant e c.in_default.ensures.lawful none new timely c.take_entry.result c.take_entry.new.facts c.take_entry.new.got t.told facts got agrees err t.same_facts t.same_got).1

pub returns : goal.returns
returns c =
    let a = c.self.inside in
    let e = c.args.entry.now in
    let t = c.take_entry.ensures in
    let same = c.in-Ok.ensures in
    let facts = subst (λ (x : EntryValue). OnOk c.take_entry.result (c.take_entry.new.facts ≡ with_entry a.facts x)) same t.facts in
    let got = subst (λ (x : EntryValue). OnOk c.take_entry.result (c.take_entry.new.got ≡ all_together a.got (streams_of (length a.got) (Commit x ∷ [])))) same t.got in
    let agrees = subst (λ (x : EntryValue). OnOk c.take_entry.result (conflicts_with_entry a.facts x ≡ false)) same t.agrees in
    let err = subst (λ (x : EntryValue). IfErr c.take_entry.result (λ why. why ≡ cond (conflicts_with_entry a.facts x) Conflict Memory)) same t.err in
    let none : wrong_log a.config.log (length a.got) (Commit e) ≡ None = subst (λ (x : Content). wrong_log x.log (length x.streams) (Commit e) ≡ None) (sym c.self.view_is) c.requires in
    let new : set.contains (stream_at a.got e.stream).taken e.number ≡ false = subst (λ (x : Content). set.contains (stream_at x.streams e.stream).taken e.number ≡ false) (sym c.self.view_is) c.in_default.ensures.new in
    let timely : nat_le e.time (stream_at a.got e.stream).closed ≡ false = subst (λ (x : Content). nat_le e.time (stream_at x.streams e.stream).closed ≡ false) (sym c.self.view_is) c.in_default.ensures.timely in
    let after : Content = content_of_parts a.config a.horizon c.take_entry.new.facts c.take_entry.new.got in
    subst (λ (x : Content). Absorbs x after (Commit e) c.take_entry.result) c.self.view_is
    (entry_result a.config a.horizon a.facts a.got c.self.invariant e c.in_default.ensures.lawful none new timely c.take_entry.result c.take_entry.new.facts c.take_entry.new.got t.told facts got agrees err t.same_facts t.same_got).0

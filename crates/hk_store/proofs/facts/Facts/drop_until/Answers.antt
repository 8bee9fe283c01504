use Rattle.std.proofs.Common.{ap, ◌∙◌, List}
use Rattle.hk_model.specs.History.Rows.{RowKey, row_key_of}
use Rattle.hk_index.specs.Timed.{is_among}
use Rattle.hk_chains.proofs.SoughtVersions.{ended_rows}
use Rattle.hk_store.proofs.StatedFacts.{fewer_later, fewer_stated, pruned_fewer, pruned_later, pruned_listed}
use Rattle.hk_store.proofs.facts.Facts.drop_until.Goals as goal

pub drop_ended-requires : goal.drop_ended-requires
drop_ended-requires c q e =
    let a = c.self.inside in
    let rows = c.in_ok-rows.rows.items in
    ap (λ (l : List RowKey). is_among l (row_key_of q)) c.deref.ensures.value
    ∙ ended_rows a.chains a.stated c.ends_until.result rows c.self.invariant.stated c.in_ok-rows.ensures.ok c.args.until q (rw (← c.self.view_is) at (c.ends_until.ensures q)) e

pub invariant_of-self : goal.invariant_of-self
invariant_of-self c =
    let a = c.self.inside in
    let h = c.args.until in
    rw c.drop_ended.ensures (record {
      tagged = pruned_listed a.chains h a.tags c.self.invariant.tagged;
      stated = fewer_stated a.chains _ a.stated (pruned_fewer a.chains h) c.self.invariant.stated;
      later = fewer_later a.chains _ a.first_end (pruned_fewer a.chains h) c.self.invariant.later;
    })

pub note_ends_above-requires : goal.note_ends_above-requires
note_ends_above-requires c v died e = pruned_later c.self.inside.chains c.args.until v died (rw c.drop_ended.ensures at e)

use Rattle.hk_chains.proofs.Indexed.{part_listed}
use Rattle.hk_store.proofs.StatedFacts.{fewer_later, fewer_stated, part_fewer}
use Rattle.hk_store.proofs.facts.Facts.forget.Goals as goal

pub invariant_of-self : goal.invariant_of-self
invariant_of-self c =
    let a = c.self.inside in
    let v = c.args.version.now in
    let part = c.args.part in
    let fewer = part_fewer a.chains v part in
    rw (c.note_gone.ensures, c.note_gone-2.ensures, c.forget-lost.ensures) (record {
      tagged = part_listed a.chains v a.tags c.self.invariant.tagged part;
      stated = fewer_stated a.chains _ a.stated fewer c.self.invariant.stated;
      later = fewer_later a.chains _ a.first_end fewer c.self.invariant.later;
    })

use Rattle.std.proofs.Common.{◌≡◌, refl, sym, ◌∙◌, subst, ap, None, Err, length}
use Rattle.hk_log.specs.declared.item.Item.TheVariants.{Commit, Closed}
use Rattle.hk_model.specs.Replica.Content.{Content}
use Rattle.hk_model.specs.Replica.Items.{wrong_log}
use Rattle.hk_state.specs.Calls.{Absorbs}
use Rattle.hk_state.proofs.AbsorbedItem.{fits, refused}
use Rattle.hk_state.proofs.Represented.{absorbs_of}
use Rattle.hk_state.proofs.StayingAnswers.{absorb_stays}
use Rattle.hk_state.proofs.replica.ReplicaState.absorb.Goals as goal

pub returns-in-Some-clause-gives : goal.returns-in-Some-clause-gives
returns-in-Some-clause-gives c =
    let a = c.self.inside in
    let item = c.args.item.now in
    let why = c.in-Some.why in
    subst (λ (x : Content). Absorbs x x item (Err why)) c.self.view_is (refused a.config a.horizon a.facts a.got c.self.invariant item why (sym c.wrong_log.ensures ∙ c.in-Some.is))

pub returns-in-Some-clause-represents : goal.returns-in-Some-clause-represents
returns-in-Some-clause-represents c =
    let a = c.self.inside in
    let item = c.args.item.now in
    let why = c.in-Some.why in
    absorbs_of c.args.self.now c.args.self.now item (Err why)
    (subst (λ (x : Content). Absorbs x x item (Err why)) c.self.view_is (refused a.config a.horizon a.facts a.got c.self.invariant item why (sym c.wrong_log.ensures ∙ c.in-Some.is)))

pub absorb_entry-requires : goal.absorb_entry-requires
absorb_entry-requires c =
    let a = c.self.inside in
    subst (λ (x : Content). wrong_log x.log (length x.streams) (Commit c.in-Commit.entry) ≡ None) c.self.view_is
    (fits a.config a.horizon a.facts a.got c.self.invariant (Commit c.in-Commit.entry) ∙ ap (wrong_log a.config.log a.config.streams) (sym c.in-Commit.is) ∙ sym c.wrong_log.ensures ∙ c.in_default.is)

pub absorb_mark-requires : goal.absorb_mark-requires
absorb_mark-requires c =
    let a = c.self.inside in
    subst (λ (x : Content). wrong_log x.log (length x.streams) (Closed c.in-Closed.mark) ≡ None) c.self.view_is
    (fits a.config a.horizon a.facts a.got c.self.invariant (Closed c.in-Closed.mark) ∙ ap (wrong_log a.config.log a.config.streams) (sym c.in-Closed.is) ∙ sym c.wrong_log.ensures ∙ c.in_default.is)

pub returns-in-Commit-clause-represents : goal.returns-in-Commit-clause-represents
returns-in-Commit-clause-represents c = rw c.in-Commit.is (absorbs_of c.args.self.now c.absorb_entry.new.self (Commit c.in-Commit.entry) c.absorb_entry.result c.absorb_entry.ensures)

pub returns-in-Closed-clause-represents : goal.returns-in-Closed-clause-represents
returns-in-Closed-clause-represents c = rw c.in-Closed.is (absorbs_of c.args.self.now c.absorb_mark.new.self (Closed c.in-Closed.mark) c.absorb_mark.result c.absorb_mark.ensures)

pub returns-in-Some-clause-stays : goal.returns-in-Some-clause-stays
returns-in-Some-clause-stays c t old soon q = refl

pub returns-in-Commit-clause-stays : goal.returns-in-Commit-clause-stays
returns-in-Commit-clause-stays c = absorb_stays c.args.self.now c.absorb_entry.new.self (Commit c.in-Commit.entry) c.absorb_entry.result c.absorb_entry.ensures

pub returns-in-Closed-clause-stays : goal.returns-in-Closed-clause-stays
returns-in-Closed-clause-stays c = absorb_stays c.args.self.now c.absorb_mark.new.self (Closed c.in-Closed.mark) c.absorb_mark.result c.absorb_mark.ensures

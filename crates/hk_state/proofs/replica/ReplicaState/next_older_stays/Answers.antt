use Rattle.std.proofs.Common.{◌≡◌, sym, ◌∙◌, subst, ◌-◌, false}
use Rattle.hk_model.specs.History.Rows.{row_key_of}
use Rattle.hk_model.specs.Replica.Content.{Content}
use Rattle.hk_model.specs.Replica.Touches.{next_older_stays}
use Rattle.hk_facts.specs.Chains.{latest_at}
use Rattle.hk_facts.proofs.LatestVersion.{is_latest}
use Rattle.hk_store.proofs.ChainsAtTime.{chain_of}
use Rattle.hk_state.specs.Replica.{content_of_parts}
use Rattle.hk_state.specs.Touched.{stays_found}
use Rattle.hk_state.proofs.TouchedPast.{none_known, older_found, row_unknown}
use Rattle.hk_state.proofs.replica.ReplicaState.next_older_stays.Goals as goal

pub returns-in_default : goal.returns-in_default
returns-in_default c =
    let a = c.self.inside in
    let here = content_of_parts a.config a.horizon a.facts a.got in
    let v = c.args.version.now in
    subst (λ (x : Content). false ≡ next_older_stays x c.args.time v) c.self.view_is (sym (none_known here c.args.time v (row_unknown here (row_key_of v) c.in_default.ensures.none)))

pub returns : goal.returns
returns c =
    let a = c.self.inside in
    let here = content_of_parts a.config a.horizon a.facts a.got in
    let v = c.args.version.now in
    let chain = c.in-Some.chain.now in
    let found = latest_at chain (v.born - 1) in
    c.open_before.ensures
    ∙ subst (λ (x : Content). stays_found c.args.time found ≡ next_older_stays x c.args.time v) c.self.view_is
    (sym (older_found here c.args.time v chain (chain_of here (row_key_of v) chain c.in-Some.ensures.some) c.self.invariant.lawful found (is_latest (v.born - 1) chain)))

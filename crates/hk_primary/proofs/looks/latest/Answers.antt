use Rattle.hk_model.specs.History.Rows.{RowKey}
use Rattle.hk_primary.proofs.LatestInChain.{latest_none, latest_some}
use Rattle.hk_primary.proofs.looks.latest.Goals as goal

pub returns-in-Some : goal.returns-in-Some
returns-in-Some c =
    let k : RowKey = record { table = c.key.inside.table; key = c.key.inside.key } in
    rw (← c.key.view_is, c.span.ensures) (latest_some c.args.facts.now k c.args.upto c.in_ok-chain.chain.now c.in_ok-chain.ensures.some _ _ c.in-Some.ensures)

pub returns-in-None : goal.returns-in-None
returns-in-None c =
    let k : RowKey = record { table = c.key.inside.table; key = c.key.inside.key } in
    rw (← c.key.view_is) (latest_none c.args.facts.now k c.args.upto c.in_ok-chain.chain.now c.in_ok-chain.ensures.some c.in-None.ensures)

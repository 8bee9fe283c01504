use Rattle.std.proofs.Common.{sym, ap, ◌∙◌, ◌++◌, ◌∷◌, [], ◌+◌, map, take, arith}
use Rattle.std.proofs.lemmas.List.{take_all, take_more}
use Rattle.hk_chains.specs.Versions.{borrowed}
use Rattle.hk_chains.proofs.SoughtVersions.{all_found, more_found, none_found, unknown_found}
use Rattle.hk_chains.proofs.stated.sought_of.Goals.{in-Some+in_ok-push_sought, in_default}
use Rattle.hk_chains.proofs.stated.sought_of.Goals as goal

pub loop-row-init : goal.loop-row-init
loop-row-init c = none_found c.args.chains.now c.args.sought.now _ (ap (map borrowed) c.new-found.ensures.items)

pub loop-row-preserved : goal.loop-row-preserved
loop-row-preserved c =
    let f = c.args.chains.now in
    let s = c.args.sought.now in
    let l = c.loop-row in
    let i = l.row-index in
    let rows = c.args.rows.now in
    let row = c.row-item.result in
    let found = map borrowed l.found.items in
    let more = take_more rows i row (omega arith) ∙ ap (λ y. take i rows ++ y ∷ []) (sym c.row-item.is) in
    elim c.match-chain.branch [
      | in-Some+in_ok-push_sought w ↦ rw w.found-is (more_found f s (take i rows) (take (i + 1) rows) row w.in-Some.chain.now found (map borrowed w.push_sought.new.found.items) more (rw (← c.row.view_is) w.in-Some.ensures.some) w.in_ok-push_sought.ensures l.invariant)
      | in_default w ↦ rw w.found-is (unknown_found f s (take i rows) (take (i + 1) rows) row found more (rw (← c.row.view_is) w.in_default.ensures.none) l.invariant)
    ]

pub returns : goal.returns
returns c =
    let l = c.loop-row in
    let rows = c.args.rows.now in
    all_found c.args.chains.now c.args.sought.now rows (take l.row-index rows) (map borrowed l.found.items) (take_all l.row-index rows (omega (arith, c.loop-row-test.false))) c.requires l.invariant

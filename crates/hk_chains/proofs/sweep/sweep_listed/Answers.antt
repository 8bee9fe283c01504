use Rattle.std.proofs.Common.{◌++◌, ◌∷◌, [], ◌+◌, ap, sym, ◌∙◌, refl, take, arith}
use Rattle.std.proofs.lemmas.List.{take_all, take_more}
use Rattle.hk_chains.proofs.FactsByRow.{seen}
use Rattle.hk_chains.proofs.SweptChains.{all_left, listed_left, none_listed, swept_listed, swept_more, swept_same}
use Rattle.hk_chains.proofs.sweep.sweep_listed.Goals as goal

pub loop-row-init : goal.loop-row-init
loop-row-init c = record {
  own = c.slot_bound-own.ensures.own;
  stored = c.requires.stored;
  same = refl;
  listed = c.requires.listed;
  swept = none_listed (seen c.args.chains.now) c.args.until;
}

pub loop-row-preserved : goal.loop-row-preserved
loop-row-preserved c =
    let l = c.loop-row in
    let h = c.args.until in
    let row = c.row-item.result in
    let rows = c.args.rows.now in
    let i = l.row-index in
    let more = take_more rows i row (omega arith) ∙ ap (λ y. take i rows ++ y ∷ []) (sym c.row-item.is) in
    let n = c.sweep_row.new.chains in
    let swept = c.sweep_row.ensures.swept in
    record {
      own = c.sweep_row.ensures.own;
      stored = c.sweep_row.ensures.stored;
      same = swept_same (seen l.chains) (seen n) row h swept ∙ l.invariant.same;
      listed = swept_listed (seen l.chains) (seen n) row h swept rows l.invariant.listed;
      swept = swept_more (seen l.chains) (seen n) row h swept (take i rows) (take (i + 1) rows) more l.invariant.swept;
    }

pub returns-clause-swept : goal.returns-clause-swept
returns-clause-swept c =
    let l = c.loop-row in
    all_left (seen l.chains) c.args.until (listed_left (seen l.chains) c.args.until c.args.rows.now (take l.row-index c.args.rows.now) (take_all l.row-index c.args.rows.now (omega (arith, c.loop-row-test.false))) l.invariant.listed l.invariant.swept) ∙ l.invariant.same

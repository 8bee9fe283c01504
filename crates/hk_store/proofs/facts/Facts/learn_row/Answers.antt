use Rattle.std.proofs.Common.{sym, ap, ◌∙◌, ◌||◌, cond, nat_lt, None}
use Rattle.hk_facts.specs.declared.fact.Fact.TheVariants.{Row}
use Rattle.hk_chains.proofs.Indexed.{put_is}
use Rattle.hk_store.proofs.LearntFacts.{never, row_comes_in, no_row_comes}
use Rattle.hk_store.proofs.facts.Facts.learn_row.Goals as goal

pub returns-in_default-clause-ok : goal.returns-in_default-clause-ok
returns-in_default-clause-ok c = no_row_comes c.args.self.now c.args.version.now _ (never (nat_lt c.args.coming.now.horizon c.args.version.now.born || c.args.coming.now.old) _ (sym c.in_default.ensures.value))

pub returns-then-has_row-clause-ok : goal.returns-then-has_row-clause-ok
returns-then-has_row-clause-ok c =
    let f = c.args.self.now in
    let v = c.args.version.now in
    row_comes_in f c.put.new.self v _ c.in-Some.row.now c.in_ok-copied.copied (ap (λ b. cond b c.args.told.now.row None) (sym c.has_row.ensures ∙ c.if-has_row.true) ∙ sym c.in-Some.ensures.value) c.in_ok-copied.ensures (put_is f c.put.new.self v (Row c.in_ok-copied.copied) c.in_ok-put.ensures.ok)

pub returns-clause-ok : goal.returns-clause-ok
returns-clause-ok c = no_row_comes c.args.self.now c.args.version.now _ (ap (λ b. cond b c.args.told.now.row None) (sym c.has_row.ensures ∙ c.if-has_row.false))

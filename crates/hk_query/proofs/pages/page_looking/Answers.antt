use Rattle.hk_query.proofs.PageAtTime.{paged, refused_page}
use Rattle.hk_query.proofs.pages.page_looking.Goals as goal

pub returns-in-Some : goal.returns-in-Some
returns-in-Some c = refused_page c.args.state.now c.args.of.time c.args.of.table c.args.of.low c.args.of.high c.args.of.most c.args.looks c.in-Some.why c.in-Some.ensures

pub returns-in-None : goal.returns-in-None
returns-in-None c =
    paged c.args.state.now c.args.of.time c.args.of.table c.args.of.low c.args.of.high c.args.of.most c.args.looks c.facts.result.now c.facts.ensures.rows c.facts.ensures.ends c.in-None.ensures c.page.result c.page.ensures.ok c.page.ensures.err

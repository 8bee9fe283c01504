use Rattle.std.proofs.Common.{rules, List, ap, ◌∙◌, filter}
use Rattle.std.proofs.lemmas.Fn.{filter_same}
use Rattle.hk_oplog.specs.declared.op.Hold.{Hold}
use Rattle.hk_link_state.specs.LinkStates.{LinkStateValue, is_other_hold}
use Rattle.hk_link_state.proofs.link_state.LinkState.forget.Goals as goal

pub returns : goal.returns
returns c =
    let b = c.self.inside in
    ap (λ (hs : List Hold). record { most = b.budget.now; giving = b.giving; came = b.came; holds = hs; buffers = b.buffers })
    (filter_same _ (is_other_hold c.args.number) _ (λ x b f' k. search rules) _ _ c.retain.ensures.filtered)
    ∙ ap (λ (l : LinkStateValue). record l { holds = filter (is_other_hold c.args.number) l.holds }) c.self.view_is

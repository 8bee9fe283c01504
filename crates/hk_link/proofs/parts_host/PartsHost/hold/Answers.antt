use Rattle.hk_link_state.specs.LinkStates.{link_of}
use Rattle.hk_link.proofs.LinkHolds.{hold_unheld}
use Rattle.hk_link.proofs.parts_host.PartsHost.hold.Goals as goal

pub returns-in-Err-clause-told : goal.returns-in-Err-clause-told
returns-in-Err-clause-told g c =
    rw (← c.self.view_is, c.in-Err.ensures.kept) (hold_unheld g.H.NodeSide.side.may_hold (link_of c.self.inside.inner c.self.inside.kept) c.hold_refusal.new.self c.args.time c.hold_refusal.result c.in-Err.ensures.few c.hold_refusal.ensures.held)

use Rattle.hk_link_state.proofs.WholeGiven.{is_given_whole}
use Rattle.hk_link_state.proofs.outgoing_transfer.given_law.Goals as goal

pub returns : goal.returns
returns c = λ most. is_given_whole c.args.fragment.now most c.fragment_law.ensures.facts

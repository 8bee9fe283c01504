use Rattle.hk_fragment_bytes.proofs.OneWireFragment.{fragment_same}
use Rattle.hk_values.proofs.laws.one_wire_fragment.Goals as goal

pub returns : goal.returns
returns c = fragment_same c.args.one.now c.args.other.now c.got-one.ensures.numbered c.got-other.ensures.numbered

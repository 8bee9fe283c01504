use Rattle.hk_delta.proofs.MergeInputs.{joins_of}
use Rattle.hk_delta.proofs.joining.join.Goals as goal

pub returns : goal.returns
returns c = record {
  gives = c.join_sent.ensures;
  represents = joins_of c.args.target.now c.join_sent.new.target c.args.fragment.now c.join_sent.result c.join_sent.ensures;
}

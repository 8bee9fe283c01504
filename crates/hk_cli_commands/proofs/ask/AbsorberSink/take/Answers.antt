use Rattle.hk_cli_commands.proofs.Absorbed.{taken_last}
use Rattle.hk_cli_commands.proofs.ask.AbsorberSink.take.Goals as goal

pub returns-clause-ok : goal.returns-clause-ok
returns-clause-ok c start before taken =
    taken_last before c.args.item start.state c.args.self.now.state c.absorb_owned.new.self taken (c.in_ok-_took._took, c.in_ok-_took.ensures.gives)

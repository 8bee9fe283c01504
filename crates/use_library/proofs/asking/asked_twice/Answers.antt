use Rattle.use_library.proofs.TwoAnswers.{second_same}
use Rattle.use_library.proofs.asking.asked_twice.Goals as goal

pub returns : goal.returns
returns g c = second_same c.ask.new.self c.ask-again.new.self c.args.at c.args.query.now c.in_ok-first.first c.ask-again.result c.ask-again.ensures.seen c.seen-formed.ensures.formed c.ask-again.ensures.legal (c.in_ok-first.ensures.stays c.requires) c.ask-again.ensures.answer

use Rattle.std.proofs.Common.{sym, ap, ◌∙◌, length}
use Rattle.hk_state.proofs.WrongLogs.{count_streams}
use Rattle.hk_state.proofs.items.note_all.Goals as goal

pub join-requires : goal.join-requires
join-requires c = c.requires.many ∙ sym (ap length c.in_ok-given-in_default.ensures.ok ∙ count_streams c.args.config.streams c.args.items.now)

use Rattle.std.proofs.Common.{refl}
use Rattle.hk_link_state.proofs.Seen.{same_prefix}
use Rattle.hk_seats.proofs.Seen.{no_reading_is}
use Rattle.hk_seats.proofs.reading.read_at.Goals as goal

pub returns-in-Front : goal.returns-in-Front
returns-in-Front g c = (c.front.ensures.legal, c.front.ensures.seen, rw c.in-Front.is c.front.ensures.told)

pub returns-in-Delta : goal.returns-in-Delta
returns-in-Delta g c = (c.delta.ensures.legal, c.delta.ensures.seen, rw c.in-Delta.is c.delta.ensures.told)

pub returns-in-Full : goal.returns-in-Full
returns-in-Full g c = (c.whole.ensures.legal, c.whole.ensures.seen, rw c.in-Full.is c.whole.ensures.told)

pub returns-in-Ask : goal.returns-in-Ask
returns-in-Ask g c = (c.ask.ensures.legal, c.ask.ensures.seen, rw c.in-Ask.is c.ask.ensures.told)

pub returns-in_default : goal.returns-in_default
returns-in_default g c =
    (c.no_kind.ensures.legal, same_prefix _ _ refl, no_reading_is _ _ c.args.request _ c.in_default.not-Front c.in_default.not-Delta c.in_default.not-Full c.in_default.not-Ask (c.no_kind.ensures.told, refl))

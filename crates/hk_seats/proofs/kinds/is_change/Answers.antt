use Rattle.std.proofs.Common.{sym, subst}
use Rattle.hk_seats.specs.Telling.{IsChange}
use Rattle.hk_seats.proofs.GoingOn.{feed_goes_on, items_go_on}
use Rattle.hk_seats.proofs.kinds.is_change.Goals as goal

pub returns-in-Items-clause-reply : goal.returns-in-Items-clause-reply
returns-in-Items-clause-reply c = λ _. subst IsChange (sym c.in-Items.is) (items_go_on c.in-Items.field-0)

pub returns-in-Feed-clause-reply : goal.returns-in-Feed-clause-reply
returns-in-Feed-clause-reply c = λ _. subst IsChange (sym c.in-Feed.is) (feed_goes_on c.in-Feed.field-0)

-- What ends a command, as it is printed.
use Rattle.std.specs.Prelude.{ℕ, Option, Some, None}
use Rattle.hk_types.specs.declared.faults.Refusal.{Refusal}
use Rattle.hk_types.specs.declared.faults.Refusal.TheVariants.{ForeignLog}
use Rattle.hk_cli_reasons.specs.declared.Origin.{Origin}
use Rattle.hk_cli_input.specs.declared.stop.LinkFault.{LinkFault}
use Rattle.hk_cli_input.specs.declared.stop.LinkFault.TheVariants.{Cut, NoNode, OtherLog}
use Rattle.hk_cli_input.specs.declared.stop.Stop.{Stop}
use Rattle.hk_cli_input.specs.declared.stop.Stop.TheVariants.{Refused, RefusedAt, SendFault, NetFault, NetTold, Link}

-- the refusal that is printed for what a connection failed by
abbrev pub refusal_of : LinkFault → Option Refusal
refusal_of (NoNode peer why) = Some why
refusal_of (OtherLog sent own) = Some ForeignLog
refusal_of other = None

-- the number of the device or the connection that failed
abbrev pub device_number : Stop → ℕ
device_number (Link Cut place) = 1
device_number SendFault = 92
device_number NetFault = 93
device_number NetTold = 93
device_number other = 91

-- a refusal of which it isn't known yet where it came from comes from here
abbrev pub placed : Origin → Stop → Stop
placed origin (Refused why) = RefusedAt why origin
placed origin other = other

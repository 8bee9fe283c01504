-- The number of each reason why links are not served.
use Rattle.std.specs.Prelude.{ℕ}
use Rattle.hk_host.specs.declared.fault.NetFault.{NetFault}
use Rattle.hk_host.specs.declared.fault.NetFault.TheVariants.{Memory, Socket}

abbrev pub net_fault_number : NetFault → ℕ
net_fault_number Memory = 90
net_fault_number Socket = 93

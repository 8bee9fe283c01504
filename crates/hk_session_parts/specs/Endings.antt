-- The number of each way to end.
use Rattle.std.specs.Prelude.{ℕ}
use Rattle.hk_types.specs.FaultNumbers.{fault_number}
use Rattle.hk_session_parts.specs.declared.ended.Ended.{Ended}
use Rattle.hk_session_parts.specs.declared.ended.Ended.TheVariants.{Clean, Fault, Memory, ReadFault, WriteFault}

abbrev pub ended_number : Ended → ℕ
ended_number Clean = 0
ended_number (Fault f) = fault_number f
ended_number Memory = 90
ended_number ReadFault = 91
ended_number WriteFault = 92

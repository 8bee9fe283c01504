-- A handle may go to another thread: what it owns says the same to every thread.
use mir.Raw.{raw}
use mathlib.Core.Bool.{Bool, true, false}
use base.Shift.{Keyless}
use denote.Memory.{lone}
use denote.RawPtr.{Ptr}
use denote.Struct.Struct.{exits_of}
use denote.Struct.Owning.{shape, fields, to}
use denote.Param.Send.{IsSend, AllSend, owning_send, struct_send, sendable}
use Rattle.std.proofs.Crossing as crossing
use Rattle.std_alloc.proofs.SendSync.{quiet, lies}
use Rattle.std.specs.declared.option.Option.{Option}
use Rattle.std.specs.declared.option.Option.TheVariants.{None, Some}
use Rattle.hk_handle.specs.Holding.{heap, holds}
use Rattle.hk_handle.specs.contracts.replica.Replica as Replica
use Rattle.hk_handle.proofs.replica.Replica.TheSendSync.{the_send as replica}
use Rattle.hk_handle.specs.contracts.handle.Handle.{the_row, the_type}

keyless : (p : Ptr) (live : Bool) (s : Option Replica.the_row.Denot) → Keyless (holds Replica.the_row p live s)
keyless p true (Some x) = (lies Replica.the_row replica p x, crossing.frees.frees heap (raw (lone Replica.the_row.mir)) p)
keyless p true None = tt
keyless p false (Some x) = tt
keyless p false None = tt

pub send : IsSend the_row
send =
    let all : AllSend (fields the_type) = (search sendable, (search sendable, tt)) in
    owning_send the_type all (λ d. keyless d.at d.live d.replica)
    (λ k. quiet (to the_type) (exits_of k (fields the_type)) ((struct_send (shape the_type) all).leaving k))

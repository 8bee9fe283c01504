use Rattle.std.proofs.Common.{List, ℕ, ◌≡◌, ◌+◌, ◌-◌, ◌^◌, min}
use Rattle.std.specs.Io.KnownBytes.{Appends, Consumes}
use Rattle.hk_session_parts.specs.Sessions.{Stands, IsResting}
use Rattle.hk_session.proofs.serving.serve_waiting.Given as goal

abbrev pub invariant-loop : goal.invariant-loop
invariant-loop g l =
    (l.reader.faults ≡ 0) × (l.writer.faults ≡ 0) × (l.reader.calls ≡ min (l.fn.reader.calls + l.counter) (2 ^ 64 - 1))
    × g.H.Host.ready l.host × ((bytes : List ℕ) × Consumes (g.R.Read.remaining l.fn.reader.device) (g.R.Read.remaining l.reader.device) bytes
    × (text : List ℕ) × Appends (g.W.Write.contents l.fn.writer.device) (g.W.Write.contents l.writer.device) text
    × Stands g.row.LATEST g.H.Host.may l.fn.host l.host bytes text l.session × IsResting l.session)

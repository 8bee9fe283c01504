-- The numbers in messages that have a limit.
use Rattle.std.specs.Prelude.{ℕ, not, nat_le, ◌==◌}
use Rattle.std.specs.Int.{w32}
use Rattle.hk_types.specs.declared.faults.FormFault.TheVariants.{BadCount, BadNumber}
use Rattle.hk_frames.specs.Fields.{number_at}
use Rattle.hk_answers.specs.Readers.{Reader, fault_where}

-- the most rows that are wanted, 1 at least
unfoldable pub most_at : Reader ℕ
most_at bytes = fault_where (number_at w32) (λ n. n == 0) BadCount bytes

-- how many milliseconds are waited at most, 600,000 at most
unfoldable pub wait_at : Reader ℕ
wait_at bytes = fault_where (number_at w32) (λ n. not (nat_le n 600000)) BadNumber bytes

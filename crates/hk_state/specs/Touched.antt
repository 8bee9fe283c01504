-- What is looked at to see whether a prune touches the past.
use Rattle.std.specs.Prelude.{ℕ, Bool, false, not, Option, Some, None}
use Rattle.hk_log.specs.Versions.{VersionValue}
use Rattle.hk_model.specs.Replica.Content.{at_most}

-- whether a version was found, and stays in a prune to h
abbrev pub stays_found : ℕ → Option (ℕ × VersionValue) → Bool
stays_found h None = false
stays_found h (Some e) = not (at_most h e.1.died)

-- When a content can be asked.
use Rattle.std.specs.Prelude.{ℕ, nat_lt, if◌then◌else◌, Option, Some, None}
use Rattle.hk_types.specs.declared.faults.Refusal.{Refusal}
use Rattle.hk_types.specs.declared.faults.Refusal.TheVariants.{TooOld, NotYet}
use Rattle.hk_model.specs.Replica.Content.{Content, readable}

-- why a content can't be asked at t, if it can't
abbrev pub time_refusal : Content → ℕ → Option Refusal
time_refusal c t =
    if nat_lt t c.horizon then Some (TooOld c.horizon)
    else if nat_lt (readable c) t then Some (NotYet (readable c))
    else None

-- What of a join touches the past, version by version.
use Rattle.std.specs.Prelude.{◌≡◌, ℕ, List, Bool, not, ◌&&◌, ◌||◌, nat_le, nat_lt, is_some, if◌then◌else◌}
use Rattle.std.specs.List.{list_any}
use Rattle.std.specs.FinMap as finmap
use Rattle.hk_types.specs.declared.version_key.VersionKey.{VersionKey}
use Rattle.hk_log.specs.Versions.{VersionValue}
use Rattle.hk_model.specs.Replica.Content.{at_most}
use Rattle.hk_store.specs.Facts.{FactsValue}
use Rattle.hk_store.specs.Versions.{AreVersions}
use Rattle.hk_merge.specs.declared.plan.Admission.{Admission}
use Rattle.hk_merge.specs.declared.plan.Retention.{Retention}
use Rattle.hk_merge.specs.Sent.{sends_row}

-- a test passes of one of the versions of these facts, in whatever list they stand
abbrev pub AnyOf : FactsValue → (VersionKey × VersionValue → Bool) → Bool → Type 0
AnyOf f test result = (es : List (VersionKey × VersionValue)) × AreVersions f es × (result ≡ list_any test es)

-- ---- of what is sent to a target that has these facts and can be read up to a time

module _ (own : FactsValue) (readable : ℕ) (coming : Admission) where
  -- whether a row comes, born by then, that the target lacks
  abbrev pub late_row : VersionKey → VersionValue → Bool
  late_row v sent = nat_le v.born readable && (is_some sent.row && (not (is_some (finmap.get own.rows v)) && (nat_lt coming.horizon v.born || coming.old)))

  -- whether an end comes, by then, that the target lacks
  abbrev pub late_end : VersionKey → VersionValue → Bool
  late_end v sent = at_most readable sent.died && (not (is_some (finmap.get own.ends v)) && not (at_most coming.horizon sent.died))

  abbrev pub is_late : VersionKey → VersionValue → Bool
  is_late v sent = late_row v sent || late_end v sent

-- ---- of the target's own, where the whole is sent and the horizon rises

-- whether a row goes astray: it ended by the horizon and is sent again, or it did not and is not sent
abbrev pub strays : Retention → VersionKey → VersionValue → Bool
strays l v own =
    nat_le v.born l.horizon && (is_some own.row && (if at_most l.horizon own.died then sends_row l.sent.now v else not (sends_row l.sent.now v)))

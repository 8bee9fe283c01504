-- A fragment by its parts: its facts as one list of versions, and the rules that they keep.
use Rattle.std.specs.Prelude.{◌≡◌, ℕ, Bool, true, not, ◌&&◌, ◌||◌, ◌==◌, nat_le, nat_lt, if◌then◌else◌, List, [], ◌∷◌, ◌++◌, map, filter_map, length, All, Option, Some, None, Result, Ok, Err}
use Rattle.std.specs.Option.{option_map}
use Rattle.std.specs.Ordering.{is_lt}
use Rattle.std.specs.FinMap as finmap
use Rattle.hk_types.specs.Values.{ConfigValue, RowValue}
use Rattle.hk_types.specs.declared.version_key.VersionKey.{VersionKey}
use Rattle.hk_types.specs.declared.faults.FormFault.{FormFault}
use Rattle.hk_types.specs.declared.faults.FormFault.TheVariants.{BadNumber, BadOrder}
use Rattle.hk_log.specs.Versions.{VersionValue, is_known}
use Rattle.hk_model.specs.History.Rows.{version_key_cmp}
use Rattle.hk_model.specs.Replica.Streams.{StreamContent}
use Rattle.hk_model.specs.Replica.Content.{Content, least_closed}
use Rattle.hk_model.specs.Replica.Lawful.{IsLawfulStream}
use Rattle.hk_model.specs.Replica.Fragments.{FragmentValue}
use Rattle.hk_marks.specs.Seen.{IsNumbered}

-- a version and what is known of it
abbrev pub Known : Type 0
Known = VersionKey × VersionValue

-- what is read of these versions, by version key
abbrev pub values_by_version : {Y : Type 0} → (VersionValue → Option Y) → List Known → finmap.FinMap version_key_cmp Y
values_by_version read facts = finmap.from_entries (filter_map (λ e. option_map (λ y. (e.0, y)) (read e.1)) facts)

-- the fragment of these parts
abbrev pub fragment_seen : ConfigValue → ℕ → ℕ → List StreamContent → List Known → FragmentValue
fragment_seen config base horizon streams facts =
    record {
      base = base;
      content = record { log = config.log; horizon = horizon; rows = values_by_version (λ x. x.row) facts; ends = values_by_version (λ x. x.died) facts; streams = streams };
    }

-- what a content knows of a version
abbrev pub known_of : Content → VersionKey → VersionValue
known_of c v = record { row = finmap.get c.rows v; died = finmap.get c.ends v }

-- the versions of which a content has a row or an end, by rising version key, each with what is known of it
abbrev pub versions_listed : Content → List Known
versions_listed c =
    finmap.entries (finmap.from_entries {R = version_key_cmp} (map (λ v. (v, known_of c v)) (finmap.keys c.rows ++ finmap.keys c.ends)))

-- whether a version comes after the one before it, where there is one
abbrev pub follows : Option VersionKey → VersionKey → Bool
follows None v = true
follows (Some before) v = is_lt (version_key_cmp before v)

-- a row is of a version that was born above the base
abbrev pub is_valid_row : ℕ → ℕ → Option RowValue → Bool
is_valid_row base born None = true
is_valid_row base born (Some row) = nat_lt base born

-- an end is above the base, the horizon and the time at which the version was born
abbrev pub is_valid_end : ℕ → ℕ → ℕ → Option ℕ → Bool
is_valid_end base horizon born None = true
is_valid_end base horizon born (Some died) = nat_lt base died && nat_lt horizon died && nat_lt born died

-- whether what is known of a version may stand in a fragment with this base and this horizon
abbrev pub is_valid_fact : ℕ → ℕ → Known → Bool
is_valid_fact base horizon e = nat_lt 0 e.0.born && is_known e.1 && is_valid_row base e.0.born e.1.row && is_valid_end base horizon e.0.born e.1.died

-- the first fault of the facts, the first of them after the version before it
abbrev pub facts_fault : ℕ → ℕ → Option VersionKey → List Known → Option FormFault
facts_fault base horizon before [] = None
facts_fault base horizon before (e ∷ facts) =
    if not (follows before e.0) then Some BadOrder
    else if not (is_valid_fact base horizon e) then Some BadNumber
    else facts_fault base horizon (Some e.0) facts

-- the first fault of a fragment of these parts, in the order of its bytes
abbrev pub fragment_fault : ℕ → ℕ → List StreamContent → List Known → Option FormFault
fragment_fault base horizon streams facts =
    if not ((base == 0) || nat_le horizon base) then Some BadNumber
    else if nat_lt (least_closed streams) horizon then Some BadNumber
    else facts_fault base horizon None facts

-- a value, unless there is a fault
abbrev pub unless : {X : Type 0} → Option FormFault → X → Result X FormFault
unless None x = Ok x
unless (Some fault) x = Err fault

-- the fragment of these parts, or its first fault
abbrev pub checked_fragment : ConfigValue → ℕ → ℕ → List StreamContent → List Known → Result FragmentValue FormFault
checked_fragment config base horizon streams facts =
    unless (fragment_fault base horizon streams facts) (fragment_seen config base horizon streams facts)

-- a fragment that states this oldest readable time, where that is lower than its own
abbrev pub lowered : FragmentValue → ℕ → FragmentValue
lowered f k = if nat_lt k f.content.horizon then record f { content = record f.content { horizon = k } } else f

-- what holds of the parts of every fragment
pub record IsFragment (config : ConfigValue) (base horizon : ℕ) (streams : List StreamContent) (facts : List Known) : Type 0 where
  pub as_many : length streams ≡ config.streams
  pub lawful_streams : All IsLawfulStream streams
  pub numbered_streams : All IsNumbered streams
  pub faultless : fragment_fault base horizon streams facts ≡ None

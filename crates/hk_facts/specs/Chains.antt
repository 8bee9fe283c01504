-- The chain of a key: its versions, by the time at which they were born.
use Rattle.std.specs.Prelude.{ℕ, Bool, not, ◌&&◌, ◌==◌, nat_le, nat_lt, List, [], ◌∷◌, Option, Some, None, Result, Ok, Err, if◌then◌else◌, is_some, ◌≡◌, true, ◌≤◌, ◌<◌, ◌⊎◌}
use Rattle.std.specs.Ordering.{nat_cmp}
use Rattle.std.specs.FinMap as finmap
use Rattle.hk_types.specs.Values.{RowValue}
use Rattle.hk_types.specs.declared.faults.Refusal.{Refusal}
use Rattle.hk_types.specs.declared.faults.Refusal.TheVariants.{Memory}
use Rattle.hk_log.specs.Versions.{VersionValue}
use Rattle.hk_model.specs.Replica.Maps.{or_else}
use Rattle.hk_model.specs.Replica.Content.{at_most}
use Rattle.hk_facts.specs.declared.fact.Fact.{Fact}
use Rattle.hk_facts.specs.declared.fact.Part.{Part}
use Rattle.hk_facts.specs.Facts.{has_like, put_result, without, died_of}

-- the value of a `Chain`
abbrev pub ChainValue : Type 0
ChainValue = finmap.FinMap nat_cmp VersionValue

module _ {X : Type 0} where
  -- the map with this at the key, or with nothing there
  abbrev pub set_at : finmap.FinMap nat_cmp X → ℕ → Option X → finmap.FinMap nat_cmp X
  set_at m k None = finmap.remove m k
  set_at m k (Some x) = finmap.insert m k x

  -- the map where what stands at a key is changed
  abbrev pub alter : (Option X → Option X) → finmap.FinMap nat_cmp X → ℕ → finmap.FinMap nat_cmp X
  alter f m k = set_at m k (f (finmap.get m k))

  -- the map with this at the key, if it is not refused
  abbrev pub put_at : finmap.FinMap nat_cmp X → ℕ → Result X Refusal → Result (finmap.FinMap nat_cmp X) Refusal
  put_at m k (Ok x) = Ok (finmap.insert m k x)
  put_at m k (Err why) = Err why

  -- the map where what stands at a key is changed, if that is not refused
  abbrev pub put_by : (Option X → Result X Refusal) → finmap.FinMap nat_cmp X → ℕ → Result (finmap.FinMap nat_cmp X) Refusal
  put_by f m k = put_at m k (f (finmap.get m k))

-- the chain with a fact on the version that was born then
abbrev pub chain_put : ChainValue → ℕ → Fact → Result ChainValue Refusal
chain_put c born fact = put_by (put_result fact) c born

-- whether nothing like the fact is known of the version that was born then
abbrev pub is_new_to : ChainValue → ℕ → Fact → Bool
is_new_to c born fact = not (has_like (finmap.get c born) fact)

-- the chain without a part of the version that was born then
abbrev pub chain_forget : ChainValue → ℕ → Part → ChainValue
chain_forget c born part = alter (without part) c born

-- the chain without the versions that end at most at h
abbrev pub chain_until : ChainValue → ℕ → ChainValue
chain_until c h = finmap.retain_keys c (λ born. not (at_most h (died_of (finmap.get c born))))

-- the last of a list that passes a test
abbrev pub last_where : {A : Type 0} → (A → Bool) → List A → Option A
last_where p [] = None
last_where p (x ∷ xs) = or_else (last_where p xs) (if p x then Some x else None)

-- of the versions that have a row and were born at most at t, the one born last
abbrev pub latest_at : ChainValue → ℕ → Option (ℕ × VersionValue)
latest_at c t = last_where (λ e. nat_le e.0 t && is_some e.1.row) (finmap.entries c)

-- the row of a version, unless it ended by t
abbrev pub shown : ℕ → Option (ℕ × VersionValue) → Option RowValue
shown t None = None
shown t (Some e) = if at_most t e.1.died then None else e.1.row

-- the row at t: that of the latest version with a row, unless that one ended at most at t
abbrev pub row_at : ChainValue → ℕ → Option RowValue
row_at c t = shown t (latest_at c t)

-- the row of the version that was born then, if it is the latest and did not end by t
abbrev pub picked : ℕ → ℕ → Option (ℕ × VersionValue) → Option RowValue
picked t born None = None
picked t born (Some e) = if (e.0 == born) && not (at_most t e.1.died) then e.1.row else None

-- a put is refused: by what is known, or, where nothing is known of the version, for memory
abbrev pub RefusesPut : ChainValue → ℕ → Fact → Refusal → Type 0
RefusesPut c born fact why = (chain_put c born fact ≡ Err why) ⊎ ((why ≡ Memory) × (finmap.get c born ≡ None))

-- whether a birth is after a time, if there is a time
abbrev pub is_after : Option ℕ → ℕ → Bool
is_after None born = true
is_after (Some time) born = nat_lt time born

-- of the versions whose birth passes a test the one born first
pub record IsEarliest (c : ChainValue) (test : ℕ → Bool) (found : ℕ × VersionValue) : Type 0 where
  pub known : finmap.get c found.0 ≡ Some found.1
  pub passes : test found.0 ≡ true
  pub earliest : (born : ℕ) → test born ≡ true → is_some (finmap.get c born) ≡ true → found.0 ≤ born

-- the version born first of those whose birth passes a test, or none where there is none
abbrev pub FirstBorn : ChainValue → (ℕ → Bool) → Option (ℕ × VersionValue) → Type 0
FirstBorn c test (Some found) = IsEarliest c test found
FirstBorn c test None = (born : ℕ) → test born ≡ true → finmap.get c born ≡ None

-- of the versions born before a time the one born last
pub record IsLastBefore (c : ChainValue) (time : ℕ) (found : ℕ × VersionValue) : Type 0 where
  pub known : finmap.get c found.0 ≡ Some found.1
  pub before : found.0 < time
  pub last : (born : ℕ) → born < time → is_some (finmap.get c born) ≡ true → born ≤ found.0

-- the version born last of those born before a time, or none where there is none
abbrev pub LastBefore : ChainValue → ℕ → Option (ℕ × VersionValue) → Type 0
LastBefore c time (Some found) = IsLastBefore c time found
LastBefore c time None = (born : ℕ) → born < time → finmap.get c born ≡ None

-- What a contract sees of a `SlotMap`.
use Rattle.std.specs.Prelude.{◌≡◌, ℕ, List, Some, refl, is_some, if◌then◌else◌}
use Rattle.std.specs.declared.cmp.Ordering.{Ordering}
use Rattle.std.specs.Coded.{Coded, code_by, coded×, coded_ℕ, coded_list}
use Rattle.std.specs.FinMap as finmap

-- the value of each key, and its slot, in the order of the keys
pub record Slots (K V : Type 0) : Type 0 where
  pub entries : List (K × V)
  pub slots : List (K × ℕ)

abbrev pub slots_code : {K V : Type 0} → Coded K → Coded V → Coded (Slots K V)
slots_code {K} {V} key value =
    code_by (List (K × V) × List (K × ℕ))
    (coded× (coded_list (coded× key value)) (coded_list (coded× key coded_ℕ)))
    (λ s. (s.entries, s.slots)) (λ p. record { entries = p.0; slots = p.1 }) (λ _. refl)

module _ {K V : Type 0} (R : K → K → Ordering) where
  abbrev pub map_of : Slots K V → finmap.FinMap R V
  map_of s = finmap.from_entries s.entries

  -- what the map has, in the order of the keys
  abbrev pub pairs_of : Slots K V → List (K × V)
  pairs_of s = finmap.entries (map_of s)

  abbrev pub slots_of : Slots K V → finmap.FinMap R ℕ
  slots_of s = finmap.from_entries s.slots

  -- the map with this value at the key, unless something stands there
  abbrev pub with_new : finmap.FinMap R V → K → V → finmap.FinMap R V
  with_new m key value = if finmap.contains_key m key then m else finmap.insert m key value

  -- no key has the slot
  abbrev pub IsFree : Slots K V → ℕ → Type 0
  IsFree s slot = (key : K) → finmap.get (slots_of s) key ≡ Some slot → ⊥

  -- a key has a slot exactly if it has a value, and no two keys have one slot
  pub record AreOwn (s : Slots K V) : Type 0 where
    pub keys : (key : K) → is_some (finmap.get (slots_of s) key) ≡ is_some (finmap.get (map_of s) key)
    pub own : (a b : K) (slot : ℕ) → finmap.get (slots_of s) a ≡ Some slot → finmap.get (slots_of s) b ≡ Some slot → a ≡ b

  -- the key has another value, in the slot that it had
  pub record IsWritten (old : Slots K V) (key : K) (value : V) (new : Slots K V) : Type 0 where
    pub map : map_of new ≡ finmap.insert (map_of old) key value
    pub slots : new.slots ≡ old.slots

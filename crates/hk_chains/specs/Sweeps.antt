-- Chains of which the ended versions of one row are dropped.
use Rattle.std.specs.Prelude.{◌≡◌, ℕ, ◌&&◌, true, List, Some, None, if◌then◌else◌}
use Rattle.std.specs.Ordering.{eq_by_cmp}
use Rattle.std.specs.FinMap as finmap
use Rattle.hk_types.specs.declared.version_key.VersionKey.{VersionKey}
use Rattle.hk_model.specs.History.Rows.{RowKey, row_key_cmp, row_key_of}
use Rattle.hk_model.specs.Replica.Content.{at_most}
use Rattle.hk_facts.specs.Chains.{ChainValue}
use Rattle.hk_facts.specs.Facts.{died_of}
use Rattle.hk_index.specs.Timed.{is_among}
use Rattle.hk_slots.specs.SlotMaps.{Slots, slots_of}
use Rattle.hk_chains.specs.Drops.{pruned_facts}
use Rattle.hk_chains.specs.Facts.{ChainsValue, stored_version, facts_of}

-- the versions of the row that ended by h are gone, and no others
abbrev pub IsSwept : ChainsValue → ChainsValue → RowKey → ℕ → Type 0
IsSwept old new row h = (q : VersionKey) → stored_version new q ≡ (if eq_by_cmp row_key_cmp (row_key_of q) row && at_most h (died_of (stored_version old q)) then None else stored_version old q)

-- each key that has a slot had it before
abbrev pub HasFewerSlots : Slots RowKey ChainValue → Slots RowKey ChainValue → Type 0
HasFewerSlots old new = (row : RowKey) (slot : ℕ) → finmap.get (slots_of row_key_cmp new) row ≡ Some slot → finmap.get (slots_of row_key_cmp old) row ≡ Some slot

-- all versions that ended by h are gone, and no others
abbrev pub ArePruned : ChainsValue → ChainsValue → ℕ → Type 0
ArePruned old new h = facts_of new ≡ pruned_facts (facts_of old) h

-- each version that ended by h is of one of these rows
abbrev pub HasEnded : ChainsValue → ℕ → List RowKey → Type 0
HasEnded chains h rows = (q : VersionKey) → at_most h (died_of (stored_version chains q)) ≡ true → is_among rows (row_key_of q) ≡ true

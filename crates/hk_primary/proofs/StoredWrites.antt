-- A write to a stored tree, whose keys are row keys, is a write to the map that it is seen as.
use Rattle.std.proofs.Common.{◌≡◌, sym, ap, ◌∙◌, Some, length, map, is_some}
use Rattle.std.specs.BTreeMap.{BTreeMap}
use Rattle.std.specs.BTreeMap as tree
use Rattle.std.specs.FinMap as finmap
use Rattle.hk_model.specs.History.Rows.{RowKey, row_key_cmp}
use Rattle.hk_model.proofs.Replica.Maps.{row_key_total, row_key_same}
use Rattle.hk_facts.proofs.StoredTrees.{get_tree, get_updated, entries_tree}

module _ {X : Type 0} where
  -- the map that a tree is seen as
  abbrev pub seen : BTreeMap RowKey X → finmap.FinMap row_key_cmp X
  seen m = finmap.from_entries m.entries

  pub contains_seen : (m : BTreeMap RowKey X) (q : RowKey) → is_some (tree.get row_key_cmp m q) ≡ finmap.contains_key (seen m) q
  contains_seen m q = ap is_some (sym (get_tree row_key_total m q))

  pub len_seen : (m : BTreeMap RowKey X) → tree.IsOrdered row_key_cmp m → length m.entries ≡ finmap.len (seen m)
  len_seen m h = sym (finmap.len-entries (seen m) ∙ ap length (entries_tree row_key_total row_key_same m h))

  pub values_seen : (m : BTreeMap RowKey X) → tree.IsOrdered row_key_cmp m → tree.values m ≡ finmap.values (seen m)
  values_seen m h = ap (map (λ (e : RowKey × X). e.1)) (sym (entries_tree row_key_total row_key_same m h))

  pub seen_insert : (m n : BTreeMap RowKey X) (k : RowKey) (w : X) → tree.Updates row_key_cmp m n k (Some w) → seen n ≡ finmap.insert (seen m) k w
  seen_insert m n k w u = finmap.same_map row_key_total row_key_same _ _ (λ q. get_updated row_key_total m n k (Some w) u q ∙ sym (finmap.get-insert row_key_total (seen m) k w q))

-- Tests on all that items say, item by item.
use Rattle.std.proofs.Common.{◌≡◌, refl, ap, ◌∙◌, ℕ, Bool, ◌||◌, List, [], ◌∷◌}
use Rattle.std.proofs.lemmas.List.Folds.{list_any-append}
use Rattle.std.specs.List.{list_any}
use Rattle.hk_types.specs.Values.{RowValue}
use Rattle.hk_types.specs.declared.version_key.VersionKey.{VersionKey}
use Rattle.hk_log.specs.declared.item.Item.{Item}
use Rattle.hk_log.specs.declared.item.Item.TheVariants.{Commit, Closed}
use Rattle.hk_model.specs.History.Facts.{row_facts, end_facts}
use Rattle.hk_model.specs.Replica.Rules.{conflict}
use Rattle.hk_delta.specs.Gathers.{facts_conflict, inserted_rows, stated_ends}

any_rows : (p : VersionKey × RowValue → Bool) (items : List Item) → list_any p (row_facts items) ≡ list_any (λ i. list_any p (inserted_rows i)) items
any_rows p [] = refl
any_rows p (Commit e ∷ items) = list_any-append p (inserted_rows (Commit e)) (row_facts items) ∙ ap (λ b. list_any p (inserted_rows (Commit e)) || b) (any_rows p items)
any_rows p (Closed m ∷ items) = any_rows p items

any_ends : (p : VersionKey × ℕ → Bool) (items : List Item) → list_any p (end_facts items) ≡ list_any (λ i. list_any p (stated_ends i)) items
any_ends p [] = refl
any_ends p (Commit e ∷ items) = list_any-append p (stated_ends (Commit e)) (end_facts items) ∙ ap (λ b. list_any p (stated_ends (Commit e)) || b) (any_ends p items)
any_ends p (Closed m ∷ items) = any_ends p items

pub rows_conflict : (same : RowValue → RowValue → Bool) (items : List Item) → conflict same (row_facts items) ≡ list_any (λ i. list_any (λ e. list_any (λ j. list_any (facts_conflict same e) (inserted_rows j)) items) (inserted_rows i)) items
rows_conflict same items = any_rows (λ e. list_any (facts_conflict same e) (row_facts items)) items ∙ (λ t. list_any (λ i. list_any (λ e. any_rows (facts_conflict same e) items t) (inserted_rows i)) items)

pub ends_conflict : (same : ℕ → ℕ → Bool) (items : List Item) → conflict same (end_facts items) ≡ list_any (λ i. list_any (λ e. list_any (λ j. list_any (facts_conflict same e) (stated_ends j)) items) (stated_ends i)) items
ends_conflict same items = any_ends (λ e. list_any (facts_conflict same e) (end_facts items)) items ∙ (λ t. list_any (λ i. list_any (λ e. any_ends (facts_conflict same e) items t) (stated_ends i)) items)

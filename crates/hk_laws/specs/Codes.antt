-- The code of a world, by which proofs tell such values apart.
use Rattle.std.specs.Prelude.{ℕ, List, refl, ◌≡◌, ◌⊎◌}
use Rattle.std.proofs.Common.{inl, inr}
use Rattle.std.specs.Coded.{Coded, code_by, coded×, coded⊎, coded_ℕ, coded_list}
use Rattle.hk_types.specs.Values.{ConfigValue, RowValue}
use Rattle.hk_types.specs.declared.version_key.VersionKey.{VersionKey}
use Rattle.hk_log.specs.Versions.{row_code}
use Rattle.hk_log.specs.Items.{EntryValue, MarkValue}
use Rattle.hk_log.specs.declared.item.Item.{Item}
use Rattle.hk_log.specs.declared.item.Item.TheVariants.{Commit, Closed}
use Rattle.hk_model.specs.declared.write_op.WriteOp.{WriteOp}
use Rattle.hk_model.specs.Replica.Codes.{version_key_code, content_code}
use Rattle.hk_model.specs.Replica.Content.{Content}
use Rattle.hk_model.specs.History.Histories.{Transaction, Act, History}
use Rattle.hk_model.specs.History.Histories.Act.{Commits, Retires}
use Rattle.hk_primary.specs.Txns.{write_code}
use Rattle.hk_laws.specs.Running.{Running}

abbrev pub config_code : Coded ConfigValue
config_code = code_by (ℕ × ℕ) (coded× coded_ℕ coded_ℕ) (λ c. (c.log, c.streams)) (λ p. record { log = p.0; streams = p.1 }) (λ _. refl)

abbrev pub transaction_code : Coded Transaction
transaction_code = code_by (ℕ × (ℕ × List WriteOp)) (coded× coded_ℕ (coded× coded_ℕ (coded_list write_code))) (λ t. (t.time, (t.stream, t.writes))) (λ p. record { time = p.0; stream = p.1.0; writes = p.1.1 }) (λ _. refl)

-- an act as its transaction or its stream, and back
abbrev pub parts_of_act : Act → Transaction ⊎ ℕ
parts_of_act (Commits t) = inl t
parts_of_act (Retires stream) = inr stream

abbrev pub act_of_parts : Transaction ⊎ ℕ → Act
act_of_parts (inl t) = Commits t
act_of_parts (inr stream) = Retires stream

pub act_again : (a : Act) → act_of_parts (parts_of_act a) ≡ a
act_again (Commits t) = refl
act_again (Retires stream) = refl

abbrev pub act_code : Coded Act
act_code = code_by (Transaction ⊎ ℕ) (coded⊎ transaction_code coded_ℕ) parts_of_act act_of_parts act_again

abbrev pub placed_row_code : Coded (ℕ × ℕ × RowValue)
placed_row_code = code_by (ℕ × (ℕ × RowValue)) (coded× coded_ℕ (coded× coded_ℕ row_code)) (λ r. (r.0, (r.1, r.2))) (λ p. (p.0, p.1.0, p.1.1)) (λ _. refl)

abbrev pub entry_code : Coded EntryValue
entry_code =
    code_by (ℕ × (ℕ × (ℕ × (ℕ × (List VersionKey × List (ℕ × ℕ × RowValue))))))
    (coded× coded_ℕ (coded× coded_ℕ (coded× coded_ℕ (coded× coded_ℕ (coded× (coded_list version_key_code) (coded_list placed_row_code))))))
    (λ e. (e.log, (e.stream, (e.number, (e.time, (e.ends, e.rows))))))
    (λ p. record { log = p.0; stream = p.1.0; number = p.1.1.0; time = p.1.1.1.0; ends = p.1.1.1.1.0; rows = p.1.1.1.1.1 }) (λ _. refl)

abbrev pub mark_code : Coded MarkValue
mark_code = code_by (ℕ × (ℕ × (ℕ × ℕ))) (coded× coded_ℕ (coded× coded_ℕ (coded× coded_ℕ coded_ℕ))) (λ m. (m.log, (m.stream, (m.count, m.upto)))) (λ p. record { log = p.0; stream = p.1.0; count = p.1.1.0; upto = p.1.1.1 }) (λ _. refl)

-- an item as its entry or its mark, and back
abbrev pub parts_of_item : Item → EntryValue ⊎ MarkValue
parts_of_item (Commit e) = inl e
parts_of_item (Closed m) = inr m

abbrev pub item_of_parts : EntryValue ⊎ MarkValue → Item
item_of_parts (inl e) = Commit e
item_of_parts (inr m) = Closed m

pub item_again : (i : Item) → item_of_parts (parts_of_item i) ≡ i
item_again (Commit e) = refl
item_again (Closed m) = refl

abbrev pub item_code : Coded Item
item_code = code_by (EntryValue ⊎ MarkValue) (coded⊎ entry_code mark_code) parts_of_item item_of_parts item_again

abbrev pub running_code : Coded Running
running_code =
    code_by (ConfigValue × (History × (List Item × List Content)))
    (coded× config_code (coded× (coded_list act_code) (coded× (coded_list item_code) (coded_list content_code))))
    (λ r. (r.config, (r.world.history, (r.world.emitted, r.world.replicas))))
    (λ p. record { config = p.0; world = record { history = p.1.0; emitted = p.1.1.0; replicas = p.1.1.1 } }) (λ _. refl)

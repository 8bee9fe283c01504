-- What a join of a part of a history leaves and answers.
use Rattle.std.specs.Prelude.{◌≡◌, ◌⊎◌, ◌++◌, ◌<◌, ◌≤◌, ℕ, max, true, is_ok, List, Result, Ok, Err, IfOk, IfErr}
use Rattle.hk_types.specs.Values.{ConfigValue}
use Rattle.hk_types.specs.declared.faults.Refusal.{Refusal}
use Rattle.hk_types.specs.declared.faults.Refusal.TheVariants.{Gap, Memory}
use Rattle.hk_log.specs.declared.item.Item.{Item}
use Rattle.hk_model.specs.Replica.Content.{Content, readable}
use Rattle.hk_model.specs.Replica.ContentOf.{content_of}
use Rattle.hk_model.specs.Replica.Fragments.{FragmentValue, part}
use Rattle.hk_model.specs.History.Histories.{History, IsHistory, AreItemsOf}
use Rattle.hk_model.specs.Replica.Replicas.{Represents}
use Rattle.hk_model.specs.Replica.Rules.{gather_result, join_result}
use Rattle.hk_state.specs.Items.{log_of_content}

-- where the target represents items of a history, and the fragment is the part of others of its items: a base that
-- leaves no gap leaves the target representing all of them at the greater horizon, unless memory ran out; above
-- the readable mark it is refused, and nothing changes
abbrev pub JoinsOf : Content → Content → FragmentValue → Result (Unit {0}) Refusal → Type 0
JoinsOf old new f result =
    (config : ConfigValue) (history : History) (own others : List Item) (g h base : ℕ) → IsHistory config history → Represents config history own g old
    → AreItemsOf config history others → h ≤ readable (content_of config others h) → (base ≡ 0) ⊎ (h ≤ base) → f ≡ part config others h base
    → (base ≤ readable old → IfOk result (λ done. Represents config history (own ++ others) (max g h) new) × IfErr result (λ why. why ≡ Memory))
    × (readable old < base → (result ≡ Err (Gap base (readable old))) × (new ≡ old))

-- the content that has a fragment joined to it, where there is one
abbrev pub joined_if : Content → Result FragmentValue Refusal → Result Content Refusal
joined_if c (Ok f) = join_result c f
joined_if c (Err why) = Err why

-- the content took what these items make in its log, or nothing changed: it was refused so, or memory ran out where they make
-- a fragment
abbrev pub JoinsItems : Content → Content → List Item → Result (Unit {0}) Refusal → Type 0
JoinsItems old new items (Ok done) = joined_if old (gather_result (log_of_content old) items) ≡ Ok new
JoinsItems old new items (Err why) =
    (new ≡ old)
    × ((joined_if old (gather_result (log_of_content old) items) ≡ Err why)
    ⊎ ((why ≡ Memory) × (is_ok (gather_result (log_of_content old) items) ≡ true)))

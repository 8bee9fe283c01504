use Rattle.std.proofs.Common.{◌≡◌, ℕ, sym, subst, ◌∙◌, All, None}
use Rattle.hk_types.specs.Values.{ConfigValue}
use Rattle.hk_log.specs.declared.item.Item.TheVariants.{Commit}
use Rattle.hk_model.specs.Replica.Rules.{first_wrong_log}
use Rattle.hk_model.proofs.History.Writes.{All_In}
use Rattle.hk_state.specs.Items.{log_of_content}
use Rattle.hk_delta.specs.Agreeing.{IsAbove}
use Rattle.hk_delta.proofs.AddedItems.{added_lawful, added_so, lacked_so}
use Rattle.hk_delta.proofs.items.join_items.Goals as goal

pub add_items-requires-clause-lawful : goal.add_items-requires-clause-lawful
add_items-requires-clause-lawful c =
    let t = c.args.target.now in
    let items = c.args.items.now in
    let above = subst (λ (h : ℕ). All (IsAbove h) items) c.horizon.ensures.value c.if-not-are_above.ensures.above in
    added_lawful t c.horizon.ensures.lawful items c.if-not-are_above.ensures.lawful (λ e i. All_In (IsAbove t.horizon) items above (Commit e) i)

pub returns-in-Ok : goal.returns-in-Ok
returns-in-Ok c =
    let t = c.args.target.now in
    let items = c.args.items.now in
    let same : c.config.result ≡ log_of_content t = λ i. record { log = c.config.ensures.log i; streams = c.config.ensures.streams i } in
    let fits = subst (λ (k : ConfigValue). first_wrong_log k items ≡ None) same (sym c.first_wrong_log.ensures ∙ c.in_default.is) in
    let above = subst (λ (h : ℕ). All (IsAbove h) items) c.horizon.ensures.value c.if-not-are_above.ensures.above in
    added_so t items fits c.horizon.ensures.lawful c.if-not-are_above.ensures.lawful above c.in-Ok.ensures.agrees c.add_items.new.self c.in-Ok.ensures.ok

pub returns-in-Err-Memory : goal.returns-in-Err-Memory
returns-in-Err-Memory c =
    let t = c.args.target.now in
    let items = c.args.items.now in
    let same : c.config.result ≡ log_of_content t = λ i. record { log = c.config.ensures.log i; streams = c.config.ensures.streams i } in
    let fits = subst (λ (k : ConfigValue). first_wrong_log k items ≡ None) same (sym c.first_wrong_log.ensures ∙ c.in_default.is) in
    lacked_so t items fits c.add_items.new.self c.refusal_of.result c.in-Err-Memory.ensures.kept c.refusal_of.ensures.conflict c.refusal_of.ensures.other

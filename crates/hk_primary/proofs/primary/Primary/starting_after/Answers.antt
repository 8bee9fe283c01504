use Rattle.std.proofs.Common.{◌≡◌, refl, sym, ap, ◌∙◌, subst, ℕ, ◌+◌, zero, suc, ◌≤◌, arith, map, replicate, [], List, ◌∷◌, false}
use Rattle.std.specs.List.{range_with_len}
use Rattle.hk_types.specs.Values.{ConfigValue}
use Rattle.hk_log.specs.declared.item.Item.{Item}
use Rattle.hk_model.specs.History.Histories.{entries_in, is_retired}
use Rattle.hk_store.specs.Facts.{FactsValue, no_facts}
use Rattle.hk_primary.specs.Log.{IsPrimary}
use Rattle.hk_primary.proofs.primary.Primary.starting_after.Goals as goal

no_counts : (a n : ℕ) → replicate n 0 ≡ map (entries_in []) (range_with_len a n)
no_counts a zero = refl
no_counts a (suc n) = ap (λ more. 0 ∷ more) (no_counts (a + 1) n)

none_retired : (a n : ℕ) → replicate n false ≡ map (is_retired []) (range_with_len a n)
none_retired a zero = refl
none_retired a (suc n) = ap (λ more. false ∷ more) (none_retired (a + 1) n)

none_yet : (config : ConfigValue) → config.streams ≤ 64 → IsPrimary config 0 [] no_facts (replicate config.streams 0) (replicate config.streams false)
none_yet config few = record { few_streams = few; logged = tt; newest_is = refl; rows_are = refl; ends_are = refl; counts_are = no_counts 1 config.streams; retired_are = none_retired 1 config.streams }

pub invariant_of-result : goal.invariant_of-result
invariant_of-result c =
    let counts : c.in_ok-counts.counts.items ≡ replicate c.args.config.streams 0 = c.in_ok-counts.ensures.items_if_clones_equal (λ y e. e) ∙ ap (λ n. replicate n 0) (c.from.ensures ∙ c.streams.ensures.value) in
    let retired : c.in_ok-retired.retired.items ≡ replicate c.args.config.streams false = c.in_ok-retired.ensures.items_if_clones_equal (λ y e. e) ∙ ap (λ n. replicate n false) (c.from-2.ensures ∙ c.streams-2.ensures.value) in
    rw (c.zero.ensures, c.new.ensures.items, c.new-2.ensures, counts, retired) (none_yet c.args.config (let most = c.streams.ensures.most in let value = c.streams.ensures.value in omega arith))

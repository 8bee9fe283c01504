-- Why the first of the items that is none of the log is none, over lists one after the other.
use Rattle.std.proofs.Common.{◌≡◌, refl, sym, ap, ◌∙◌, ℕ, zero, suc, ◌+◌, ◌<◌, Option, Some, None, List, [], ◌∷◌, ◌++◌, map, replicate, take, drop, length, get_or}
use Rattle.std.proofs.lemmas.List.FromFn.{length-map-range_with_len}
use Rattle.std.proofs.lemmas.List.{take_more, take-append-drop}
use Rattle.std.specs.List.{range_with_len}
use Rattle.hk_types.specs.Values.{ConfigValue}
use Rattle.hk_log.specs.declared.item.Item.{Item}
use Rattle.hk_model.specs.Replica.Items.{wrong_log}
use Rattle.hk_model.specs.Replica.Maps.{or_else}
use Rattle.hk_model.specs.Replica.Streams.{stream_of, streams_of, unknown}
use Rattle.hk_model.specs.Replica.Rules.{first_wrong_log}

or_else-assoc : {X : Type 0} (a b c : Option X) → or_else a (or_else b c) ≡ or_else (or_else a b) c
or_else-assoc None b c = refl
or_else-assoc (Some x) b c = refl

pub wrong_log-append : (config : ConfigValue) (xs ys : List Item) → first_wrong_log config (xs ++ ys) ≡ or_else (first_wrong_log config xs) (first_wrong_log config ys)
wrong_log-append config [] ys = refl
wrong_log-append config (x ∷ xs) ys = ap (or_else (wrong_log config.log config.streams x)) (wrong_log-append config xs ys) ∙ or_else-assoc (wrong_log config.log config.streams x) (first_wrong_log config xs) (first_wrong_log config ys)

or_else-none : {X : Type 0} (a b : Option X) → or_else a b ≡ None → (a ≡ None) × (b ≡ None)
or_else-none None b e = (refl, e)
or_else-none (Some x) b e = absurd cc

-- where no item is none of the log, each is of it
pub fits_at : (config : ConfigValue) (items : List Item) (i : ℕ) (x : Item) → x ≡ get_or items i x → i < length items → first_wrong_log config items ≡ None → wrong_log config.log config.streams x ≡ None
fits_at config items i x is below none =
    let parts = or_else-none (first_wrong_log config (take (i + 1) items)) (first_wrong_log config (drop (i + 1) items)) (sym (wrong_log-append config (take (i + 1) items) (drop (i + 1) items)) ∙ ap (first_wrong_log config) (take-append-drop (i + 1) items) ∙ none) in
    let more = take_more items i x below ∙ ap (λ (y : Item). take i items ++ y ∷ []) (sym is) in
    let last = or_else-none (first_wrong_log config (take i items)) (first_wrong_log config (x ∷ [])) (sym (wrong_log-append config (take i items) (x ∷ [])) ∙ ap (first_wrong_log config) (sym more) ∙ parts.0) in
    (or_else-none (wrong_log config.log config.streams x) None last.1).0

no_streams : (a n : ℕ) → map (stream_of []) (range_with_len a n) ≡ replicate n unknown
no_streams a zero = refl
no_streams a (suc n) = ap (λ s. unknown ∷ s) (no_streams (a + 1) n)

-- what no items tell of the streams
pub none_told : (n : ℕ) → streams_of n [] ≡ replicate n unknown
none_told n = no_streams 1 n

pub count_streams : (n : ℕ) (items : List Item) → length (streams_of n items) ≡ n
count_streams n items = length-map-range_with_len (stream_of items) 1 n

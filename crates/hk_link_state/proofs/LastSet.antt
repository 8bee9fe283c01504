-- The last hold of a link's list becomes another.
use Rattle.std.proofs.Common.{◌≡◌, ℕ, ◌-◌, ◌<◌, ◌≤◌, set, List, [], ◌∷◌, ◌++◌, length, take, sym, ap, ◌∙◌, arith}
use Rattle.std.proofs.lemmas.Grind.{take-set_at}
use Rattle.std.proofs.lemmas.List.{length-set, take_all}
use Rattle.hk_oplog.specs.declared.op.Hold.{Hold}

-- the last one is another
pub last_set : (slice items : List Hold) (len count : ℕ) (hold : Hold) → slice ≡ items → length slice ≡ len → count ≡ length slice → 0 < len
    → set items (count - 1) hold ≡ take (len - 1) items ++ hold ∷ []
last_set slice items len count hold value sized counted some =
    let l : length items ≡ len = ap length (sym value) ∙ sized in
    let all : length (set items (len - 1) hold) ≤ len = let s = length-set items (len - 1) hold in omega (arith, s, l) in
    ap (λ (k : ℕ). set items (k - 1) hold) (counted ∙ sized)
    ∙ (sym (take_all len (set items (len - 1) hold) all) ∙ take-set_at items (len - 1) len hold (omega (arith, some)) (omega (arith, some, l)))

-- Writes that are tested one by one, before a transaction is built of them.
use Rattle.std.proofs.Common.{◌≡◌, refl, sym, ap, ◌∙◌, ℕ, zero, suc, ◌+◌, Bool, true, false, cond, Ok, Err, List, [], ◌∷◌, ◌++◌, length, take, drop, get_or, is_some, Option, Some, None, Result, ◌<◌, ◌≤◌, ◌||◌, nat_le, le-leb, arith, add-one}
use Rattle.std.proofs.lemmas.Bool.{lt-leb}
use Rattle.std.proofs.Math.Seq.{drop-length}
use Rattle.std.proofs.lemmas.List.Folds.{list_any-append}
use Rattle.std.specs.List.{list_any}
use Rattle.std.specs.Ordering.{eq_by_cmp}
use Rattle.std.specs.FinMap as finmap
use Rattle.hk_types.specs.declared.faults.Refusal.{Refusal}
use Rattle.hk_types.specs.declared.faults.Refusal.TheVariants.{TwiceWritten, TooManyWrites}
use Rattle.hk_model.specs.History.Rows.{RowKey, row_key_cmp}
use Rattle.hk_model.specs.History.Histories.{written_key}
use Rattle.hk_model.specs.History.Commits.{writes_result}
use Rattle.hk_model.specs.declared.write_op.WriteOp.{WriteOp}
use Rattle.hk_model.proofs.Replica.Maps.{row_key_total}
use Rattle.hk_laws.specs.Calls.{IsBuilt}

-- the writes by key
abbrev pub Writes : Type 0
Writes = finmap.FinMap row_key_cmp WriteOp

-- whether one of the writes is of a row
abbrev pub writes_row : RowKey → List WriteOp → Bool
writes_row k ws = list_any (λ w. eq_by_cmp row_key_cmp k (written_key w)) ws

-- the first so many writes make a map, from which the others are built
pub record Started (ws : List WriteOp) (i : ℕ) : Type 0 where
  pub made : Writes
  pub rest : writes_result made (drop i ws) ≡ writes_result finmap.empty ws
  pub count : finmap.len made ≡ i
  pub keys : (k : RowKey) → finmap.contains_key made k ≡ writes_row k (take i ws)

pub started_none : (ws : List WriteOp) → Started ws 0
started_none ws = record { made = finmap.empty; rest = refl; count = finmap.len-empty row_key_cmp WriteOp; keys = λ k. ap is_some (finmap.get-empty {X = WriteOp} row_key_cmp k) }

next_at : {X : Type 0} (xs : List X) (i : ℕ) (x : X) → i < length xs → x ≡ get_or xs i x → drop i xs ≡ x ∷ drop (suc i) xs
next_at [] i x l is = absurd (omega arith)
next_at (y ∷ ys) zero x l is = λ i. sym is i ∷ ys
next_at (y ∷ ys) (suc i) x l is = next_at ys i x (omega arith) is

taken_at : {X : Type 0} (xs : List X) (i : ℕ) (x : X) → i < length xs → x ≡ get_or xs i x → take (suc i) xs ≡ take i xs ++ x ∷ []
taken_at [] i x l is = absurd (omega arith)
taken_at (y ∷ ys) zero x l is = λ i. sym is i ∷ []
taken_at (y ∷ ys) (suc i) x l is = ap (λ zs. y ∷ zs) (taken_at ys i x (omega arith) is)

either_way : (a b : Bool) → (a || b) ≡ (b || (a || false))
either_way true true = refl
either_way true false = refl
either_way false true = refl
either_way false false = refl

or_some : (b : Bool) (w : WriteOp) (x : Option WriteOp) → is_some (cond b (Some w) x) ≡ (b || is_some x)
or_some true w x = refl
or_some false w x = refl

-- what comes of a write, by whether its row is written before it and whether there are too many
abbrev writes_on : Bool → Bool → Result Writes Refusal → Result Writes Refusal
writes_on twice many rest = cond twice (Err TwiceWritten) (cond many (Err TooManyWrites) rest)

module _ (ws : List WriteOp) (i : ℕ) (w : WriteOp) (within : i < length ws) (is : w ≡ get_or ws i w) (s : Started ws i) where
  one : writes_result finmap.empty ws ≡ writes_on (finmap.contains_key s.made (written_key w)) (nat_le 1024 (finmap.len s.made)) (writes_result (finmap.insert s.made (written_key w) w) (drop (suc i) ws))
  one = sym s.rest ∙ ap (writes_result s.made) (next_at ws i w within is)

  pub written_twice : writes_row (written_key w) (take i ws) ≡ true → writes_result finmap.empty ws ≡ Err TwiceWritten
  written_twice there = one ∙ ap (λ b. writes_on b (nat_le 1024 (finmap.len s.made)) (writes_result (finmap.insert s.made (written_key w) w) (drop (suc i) ws))) (s.keys (written_key w) ∙ there)

  pub written_often : writes_row (written_key w) (take i ws) ≡ false → 1024 ≤ i → writes_result finmap.empty ws ≡ Err TooManyWrites
  written_often absent full =
      let many : 1024 ≤ finmap.len s.made = let e = s.count in omega arith in
      one ∙ (λ j. writes_on ((s.keys (written_key w) ∙ absent) j) (le-leb 1024 (finmap.len s.made) many j) (writes_result (finmap.insert s.made (written_key w) w) (drop (suc i) ws)))

  pub started_more : writes_row (written_key w) (take i ws) ≡ false → i < 1024 → Started ws (i + 1)
  started_more absent room =
      let few : finmap.len s.made < 1024 = let e = s.count in omega arith in
      let new = s.keys (written_key w) ∙ absent in
      record {
        made = finmap.insert s.made (written_key w) w;
        rest = ap (λ n. writes_result (finmap.insert s.made (written_key w) w) (drop n ws)) (add-one i)
            ∙ sym (λ j. writes_on (new j) (lt-leb 1024 (finmap.len s.made) few j) (writes_result (finmap.insert s.made (written_key w) w) (drop (suc i) ws)))
            ∙ sym one;
        count = finmap.len-insert row_key_total s.made (written_key w) w ∙ ap (λ b. cond b (finmap.len s.made) (finmap.len s.made + 1)) new ∙ ap (λ n. n + 1) s.count;
        keys = λ k.
            ap is_some (finmap.get-insert row_key_total s.made (written_key w) w k)
            ∙ or_some (eq_by_cmp row_key_cmp k (written_key w)) w (finmap.get s.made k)
            ∙ ap (λ b. eq_by_cmp row_key_cmp k (written_key w) || b) (s.keys k)
            ∙ either_way (eq_by_cmp row_key_cmp k (written_key w)) (writes_row k (take i ws))
            ∙ sym (list_any-append (λ x. eq_by_cmp row_key_cmp k (written_key x)) (take i ws) (w ∷ []))
            ∙ ap (writes_row k) (sym (ap (λ n. take n ws) (add-one i) ∙ taken_at ws i w within is));
      }

-- all make a transaction
pub all_built : (ws : List WriteOp) (i : ℕ) → Started ws i → length ws ≤ i → i ≤ length ws → IsBuilt ws
all_built ws i s l m =
    let e : i ≡ length ws = omega (arith, l, m) in
    (s.made, sym s.rest ∙ ap (writes_result s.made) (ap (λ n. drop n ws) e ∙ drop-length ws))

-- A page that is filled row by row is the first page of all rows.
use Rattle.std.proofs.Common.{◌≡◌, sym, ap, subst, ◌∙◌, ℕ, ◌+◌, ◌<◌, Bool, true, false, nat_lt, List, [], ◌∷◌, ◌++◌, length, take, append_assoc, length-append, arith, Option, None, Some, Result, Ok, Err}
use Rattle.std.proofs.lemmas.Bool.Decides.{nat_tests}
use Rattle.std.proofs.lemmas.List.{append-nil}
use Rattle.std.proofs.Math.Seq.{take-append_seam, take-length}
use Rattle.hk_types.specs.Values.{RowValue}
use Rattle.hk_model.specs.declared.page.Page.{Page}
use Rattle.hk_model.specs.Replica.Pages.{page_len, page_of}
use Rattle.hk_model.specs.History.Rows.{RowKey}
use Rattle.hk_facts.specs.Chains.{ChainValue, row_at}
use Rattle.hk_chains.specs.Paging.{Takes, IsFull, IsPageWithin, final_len}
use Rattle.hk_chains.specs.Reads.{keyed_if, rows_at}
use Rattle.hk_chains.specs.declared.page.PageBuilder.{PageBuilder}

-- ---- all rows

no_more : (most left : ℕ) (done : List (ℕ × RowValue)) → final_len (length done) most left [] ≡ length done
no_more most left [] = omega arith
no_more most left (d ∷ done) = omega arith

page_is : (most room : ℕ) (all done : List (ℕ × RowValue)) (more : Bool) → take (page_len most room all) all ≡ done → nat_lt (page_len most room all) (length all) ≡ more
    → record { rows = done; more = more } ≡ page_of most room all
page_is most room all done more rows follow = λ i. record { rows = sym rows i; more = sym follow i }

not_below : (n m : ℕ) → n ≡ m → nat_lt n m ≡ false
not_below n m e = grind (arith, nat_tests)

below : (n m k : ℕ) → m ≡ n + k → 0 < k → nat_lt n m ≡ true
below n m k e some = grind (arith, nat_tests)

-- where no row is left to come, the page has all rows
pub done_page : (most room left : ℕ) (all done : List (ℕ × RowValue)) → done ++ [] ≡ all → final_len (length done) most left [] ≡ page_len most room all
    → record { rows = done; more = false } ≡ page_of most room all
done_page most room left all done is len =
    let count : page_len most room all ≡ length done = sym len ∙ no_more most left done in
    let whole : all ≡ done = sym is ∙ append-nil done in
    page_is most room all done false
    (ap (λ n. take n all) count ∙ ap (take (length done)) whole ∙ take-length done)
    (not_below (page_len most room all) (length all) (count ∙ ap length (sym whole)))

-- where a row was left out, more follow
pub full_page : (most room : ℕ) (all done rest : List (ℕ × RowValue)) → done ++ rest ≡ all → 0 < length rest → length done ≡ page_len most room all
    → record { rows = done; more = true } ≡ page_of most room all
full_page most room all done rest is some len =
    page_is most room all done true
    (ap (λ n. take n all) (sym len) ∙ ap (take (length done)) (sym is) ∙ take-append_seam done rest)
    (below (page_len most room all) (length all) (length rest) (ap length (sym is) ∙ length-append done rest ∙ ap (λ n. n + length rest) len) some)

-- where there is no row, a page has none
pub empty_page : (most room : ℕ) (done all : List (ℕ × RowValue)) → done ≡ [] → [] ≡ all → record { rows = done; more = false } ≡ page_of most room all
empty_page most room done all none is = ap (λ (rows : List (ℕ × RowValue)). record { rows = rows; more = false }) none ∙ ap (page_of most room) is

-- ---- a loop over chains

-- what a page that is filled from the rows that chains have at t has, while some of the chains are to come: the rows of
-- the others, and as many in the end as the first page of all
abbrev pub Fills : ℕ → ℕ → ℕ → List (ℕ × RowValue) → PageBuilder → List (RowKey × ChainValue) → Type 0
Fills t most room all page chains =
    (page.most ≡ most) × (page.rows.items ++ rows_at t chains ≡ all) × (final_len (length page.rows.items) most page.room (rows_at t chains) ≡ page_len most room all)

module _ (t most room : ℕ) (all : List (ℕ × RowValue)) (old new : PageBuilder) (chains rest : List (RowKey × ChainValue)) (e : RowKey × ChainValue) (rows : List (ℕ × RowValue)) (is : chains ≡ e ∷ rest) (same : rows ≡ keyed_if e.0.key (row_at e.1 t)) (fills : Fills t most room all old chains) where
  split : rows_at t chains ≡ rows ++ rows_at t rest
  split = ap (rows_at t) is ∙ ap (λ l. l ++ rows_at t rest) (sym same)

  pub fills_on : Takes old new rows → Fills t most room all new rest
  fills_on takes =
      let placed : new.rows.items ++ rows_at t rest ≡ all = ap (λ l. l ++ rows_at t rest) takes.1 ∙ append_assoc old.rows.items rows (rows_at t rest) ∙ ap (λ l. old.rows.items ++ l) (sym split) ∙ fills.1 in
      let count : final_len (length new.rows.items) most new.room (rows_at t rest) ≡ final_len (length old.rows.items) most old.room (rows ++ rows_at t rest) = subst (λ (m : ℕ). final_len (length new.rows.items) m new.room (rows_at t rest) ≡ final_len (length old.rows.items) m old.room (rows ++ rows_at t rest)) fills.0 (takes.2 (rows_at t rest)) in
      (takes.0 ∙ fills.0, placed, count ∙ ap (final_len (length old.rows.items) most old.room) (sym split) ∙ fills.2)

  pub filled : IsFull old new rows → record { rows = new.rows.items; more = true } ≡ page_of most room all
  filled full =
      let placed : new.rows.items ++ (rows ++ rows_at t rest) ≡ all = ap (λ l. l ++ (rows ++ rows_at t rest)) full.0 ∙ ap (λ l. old.rows.items ++ l) (sym split) ∙ fills.1 in
      let count : final_len (length old.rows.items) most old.room (rows ++ rows_at t rest) ≡ length old.rows.items = subst (λ (m : ℕ). final_len (length old.rows.items) m old.room (rows ++ rows_at t rest) ≡ length old.rows.items) fills.0 (full.2 (rows_at t rest)) in
      let some : 0 < length (rows ++ rows_at t rest) = let l = length-append rows (rows_at t rest) in let m = full.1 in omega (arith, l, m) in
      full_page most room all new.rows.items (rows ++ rows_at t rest) placed some
      (ap length full.0 ∙ sym count ∙ ap (final_len (length old.rows.items) most old.room) (sym split) ∙ fills.2)

-- the same of other rows whose first page is the same
pub same_page_within : {E : Type 0} (looks : Option ℕ) (most room : ℕ) (rows others : List (ℕ × RowValue)) (r : Result (Option Page) E) → page_of most room rows ≡ page_of most room others → IsPageWithin looks most room rows r → IsPageWithin looks most room others r
same_page_within looks most room rows others (Ok None) same is = is
same_page_within looks most room rows others (Ok (Some page)) same is = is ∙ same
same_page_within looks most room rows others (Err e) same is = tt

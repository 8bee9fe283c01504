-- A page beside its definition.
use Rattle.std.specs.Prelude.{◌≡◌, ◌≢◌, ◌⊎◌, ◌<◌, ◌+◌, ℕ, true, false, List, [], ◌∷◌, ◌++◌, Option, None, MatchOption, Result, Ok, Err, IsOk, MatchResult}
use Rattle.hk_types.specs.Values.{RowValue}
use Rattle.hk_types.specs.declared.faults.Refusal.{Refusal}
use Rattle.hk_types.specs.declared.faults.Refusal.TheVariants.{Memory}
use Rattle.hk_model.specs.declared.page.Page.{Page}
use Rattle.hk_model.specs.declared.query.Query.TheVariants.{Range}
use Rattle.hk_model.specs.Replica.Answers.{Rows, reply}
use Rattle.hk_model.specs.Replica.Content.{Content}
use Rattle.hk_model.specs.Replica.Pages.{PageValue, page_reply, page_seen}

-- the first page of what a content replies to a range at t
abbrev pub range_page : Content → ℕ → ℕ → ℕ → ℕ → ℕ → Result PageValue Refusal
range_page c t table low high most = page_reply most (reply c t (Range table low high))

-- the page is that of the definition, or memory ran out where that is a page
abbrev pub PageReplies : Content → ℕ → ℕ → ℕ → ℕ → ℕ → Result Page Refusal → Type 0
PageReplies c t table low high most result =
    MatchResult result (λ page. range_page c t table low high most ≡ Ok (page_seen page))
    (λ why. (range_page c t table low high most ≡ Err why) ⊎ ((why ≡ Memory) × IsOk (range_page c t table low high most)))

-- the same of a call that may give up where its looks are counted
abbrev pub PageRepliesWithin : Option ℕ → Content → ℕ → ℕ → ℕ → ℕ → ℕ → Result (Option Page) Refusal → Type 0
PageRepliesWithin looks c t table low high most result =
    MatchResult result (λ found. MatchOption found (looks ≢ None) (λ page. range_page c t table low high most ≡ Ok (page_seen page)))
    (λ why. (range_page c t table low high most ≡ Err why) ⊎ ((why ≡ Memory) × IsOk (range_page c t table low high most)))

-- the key of the last of these rows, or else this one
abbrev pub last_key_after : ℕ → List (ℕ × RowValue) → ℕ
last_key_after key [] = key
last_key_after key (e ∷ rows) = last_key_after e.0 rows

-- the key of the last row of a page
abbrev pub last_key : PageValue → ℕ
last_key p = last_key_after 0 p.rows

-- where more follow, the rows of a range are those of its first page and then those of the range that begins above the page's last key,
-- so the pages of one time, asked one after another, are together the rows of that time
abbrev pub PagesGoOn : Type 0
PagesGoOn =
    (c : Content) (t table low high most : ℕ) (p : PageValue) → 0 < most → range_page c t table low high most ≡ Ok p → p.more ≡ true
    → (rest : List (ℕ × RowValue)) × (reply c t (Range table low high) ≡ Ok (Rows (p.rows ++ rest))) × (reply c t (Range table (last_key p + 1) high) ≡ Ok (Rows rest))

-- a page after which none follow has all rows of its range
abbrev pub PagesEnd : Type 0
PagesEnd =
    (c : Content) (t table low high most : ℕ) (p : PageValue) → range_page c t table low high most ≡ Ok p → p.more ≡ false
    → reply c t (Range table low high) ≡ Ok (Rows p.rows)

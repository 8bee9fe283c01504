-- What a call from outside is told of a page of rows.
use Rattle.std.specs.Prelude.{◌≡◌, ◌⊎◌, ◌^◌, ℕ, false, if◌then◌else◌, List, Option, Some, None, Result, Ok, Err, IsOk, MatchResult, filter, take, length, nat_le, nat_lt}
use Rattle.std.specs.List.{flat_map}
use Rattle.hk_types.specs.Values.{RowValue}
use Rattle.hk_types.specs.FaultNumbers.{refusal_number}
use Rattle.hk_types.specs.declared.faults.FormFault.TheVariants.{BadNumber}
use Rattle.hk_types.specs.declared.faults.Refusal.{Refusal}
use Rattle.hk_types.specs.declared.faults.Refusal.TheVariants.{Form, Memory}
use Rattle.hk_model.specs.declared.page.Page.{Page}
use Rattle.hk_model.specs.declared.query.Query.TheVariants.{ByTag}
use Rattle.hk_model.specs.Replica.Answers.{AnswerValue}
use Rattle.hk_model.specs.Replica.Content.{Content}
use Rattle.hk_model.specs.Replica.Pages.{PageValue, answered_rows, page_seen}
use Rattle.hk_query.specs.Pages.{last_key, range_page}
use Rattle.hk_answers.specs.Answers.{keyed_text}
use Rattle.hk_handle.specs.declared.found.Paged.{Paged}
use Rattle.hk_handle.specs.Values.{ReplicaValue}
use Rattle.hk_handle.specs.Calls.{asked_reply, copied_into}

-- a page or a refusal
abbrev pub Paging : Type 0
Paging = Result PageValue Refusal

-- the first page of the rows of a table between two keys at a number, which is refused where it is no time
abbrev pub ranged_page : Content → ℕ → ℕ → ℕ → ℕ → ℕ → Paging
ranged_page c time table low high most = if nat_lt (2 ^ 62) time then Err (Form BadNumber) else range_page c time table low high most

-- the rows whose keys are not below one
abbrev pub rows_from : ℕ → List (ℕ × RowValue) → List (ℕ × RowValue)
rows_from low rows = filter (λ e. nat_le low e.0) rows

-- at most so many of these rows, from the first on, and whether others follow
abbrev pub first_rows : ℕ → List (ℕ × RowValue) → PageValue
first_rows most rows = record { rows = take most rows; more = nat_lt most (length rows) }

-- at most so many of the rows that are replied, from a key on, and whether others follow
abbrev pub first_replied : ℕ → ℕ → Result AnswerValue Refusal → Paging
first_replied low most (Ok a) = Ok (first_rows most (rows_from low (answered_rows a)))
first_replied low most (Err why) = Err why

-- the first rows of a table with a tag, from a key on, at a number
abbrev pub tagged_page : Content → ℕ → ℕ → ℕ → ℕ → ℕ → Paging
tagged_page c time table tag low most = first_replied low most (asked_reply c time (ByTag table tag))

-- why there is no page: that is what is refused, or memory ran out for one
abbrev pub WhyNoPage : Paging → Refusal → Type 0
WhyNoPage paging why = (paging ≡ Err why) ⊎ ((why ≡ Memory) × IsOk paging)

-- a page is the one that was asked for, or why there is none
abbrev pub IsPage : Paging → Result Page Refusal → Type 0
IsPage paging result = MatchResult result (λ page. paging ≡ Ok (page_seen page)) (λ why. WhyNoPage paging why)

-- the same by the number of the refusal
abbrev pub IsNoPageBy : Paging → ℕ → Type 0
IsNoPageBy paging number = (why : Refusal) × (number ≡ refusal_number why) × WhyNoPage paging why

-- the bytes of rows
abbrev pub page_text : List (ℕ × RowValue) → List ℕ
page_text rows = flat_map keyed_text rows

-- what is told of a page: whether others follow, how many rows it has, the last one's key, and how many bytes they have
abbrev pub TellsPage : Paged → PageValue → Type 0
TellsPage told page =
    (told.more ≡ page.more) × (told.rows ≡ length page.rows) × (told.last ≡ last_key page) × (told.len ≡ length (page_text page.rows))

-- nothing is told of a page
abbrev pub TellsNothing : Paged → Type 0
TellsNothing told = (told.more ≡ false) × (told.rows ≡ 0) × (told.last ≡ 0) × (told.len ≡ 0)

-- the rows of a page are kept in the place of the last reply, and nothing else changed
abbrev pub KeepsPage : ReplicaValue → ReplicaValue → PageValue → Type 0
KeepsPage old new page = new ≡ record old { reply = page_text page.rows }

-- a page was kept and told, and as much of it as there is room was written
abbrev pub WritesPage : ReplicaValue → ReplicaValue → PageValue → Paged → List ℕ → List ℕ → ℕ → Type 0
WritesPage old new page told before after number =
    (number ≡ 0) × KeepsPage old new page × TellsPage told page × (after ≡ copied_into before new.reply told.len)

-- no page was written, and nothing changed
abbrev pub WritesNone : ReplicaValue → ReplicaValue → Paged → List ℕ → List ℕ → Type 0
WritesNone old new told before after = (new ≡ old) × TellsNothing told × (after ≡ before)

-- a page that was found was written, or memory ran out; a refusal was told
abbrev pub WritesFound : ReplicaValue → ReplicaValue → Result Page Refusal → Paged → List ℕ → List ℕ → ℕ → Type 0
WritesFound old new (Ok page) told before after number =
    WritesPage old new (page_seen page) told before after number ⊎ ((number ≡ 90) × WritesNone old new told before after)
WritesFound old new (Err why) told before after number = (number ≡ refusal_number why) × WritesNone old new told before after

-- the page that a replica was asked for was written, and is kept and told; or it is refused, and then nothing was written
abbrev pub PagedAt : Option ReplicaValue → Option ReplicaValue → (Content → Paging) → Paged → List ℕ → List ℕ → ℕ → Type 0
PagedAt None None asked told before after number = (number ≡ 255) × TellsNothing told × (after ≡ before)
PagedAt None (Some new) asked told before after number = ⊥
PagedAt (Some old) None asked told before after number = ⊥
PagedAt (Some old) (Some new) asked told before after number =
    ((page : PageValue) × (asked old.host.content ≡ Ok page) × WritesPage old new page told before after number)
    ⊎ (IsNoPageBy (asked old.host.content) number × WritesNone old new told before after)

-- a page of the rows of a table between two keys was written
abbrev pub Pages : Option ReplicaValue → Option ReplicaValue → ℕ → ℕ → ℕ → ℕ → ℕ → Paged → List ℕ → List ℕ → ℕ → Type 0
Pages old new time table low high most told before after number =
    PagedAt old new (λ c. ranged_page c time table low high most) told before after number

-- a page of the rows of a table with a tag was written
abbrev pub TagPaged : Option ReplicaValue → Option ReplicaValue → ℕ → ℕ → ℕ → ℕ → ℕ → Paged → List ℕ → List ℕ → ℕ → Type 0
TagPaged old new time table tag low most told before after number =
    PagedAt old new (λ c. tagged_page c time table tag low most) told before after number

-- A page of what shows at a time that can be asked is that of the reply.
use Rattle.std.proofs.Common.{◌≡◌, sym, ap, ◌∙◌, ℕ, Option, None, Some, Result, Ok, Err, IfErr, is_ok, inl, inr}
use Rattle.hk_types.specs.declared.faults.Refusal.{Refusal}
use Rattle.hk_types.specs.declared.faults.Refusal.TheVariants.{Memory}
use Rattle.hk_model.specs.declared.page.Page.{Page}
use Rattle.hk_model.specs.declared.query.Query.TheVariants.{Range}
use Rattle.hk_model.specs.History.Histories.{Tables}
use Rattle.hk_model.specs.Replica.Answers.{answer, visible}
use Rattle.hk_model.specs.Replica.Content.{Content}
use Rattle.hk_model.specs.Replica.Pages.{PageValue, answered_rows, page_of, page_reply, page_room}
use Rattle.hk_store.specs.Paging.{IsPageWithin}
use Rattle.hk_store.specs.Facts.{FactsValue}
use Rattle.hk_store.specs.Reads.{rows_ranged}
use Rattle.hk_query.specs.Pages.{PageRepliesWithin, range_page}
use Rattle.hk_query.specs.Times.{time_refusal}
use Rattle.hk_query.proofs.ReplyAtTime.{refused, same_shown, shown}

module _ (c : Content) (t table low high most : ℕ) where
  pub refused_page : (looks : Option ℕ) (why : Refusal) → Some why ≡ time_refusal c t → PageRepliesWithin looks c t table low high most (Err why)
  refused_page looks why e = inl (ap (page_reply most) (refused c t (Range table low high) why e))

  shown_page : None ≡ time_refusal c t → range_page c t table low high most ≡ Ok (page_of most page_room (answered_rows (answer (visible c t) (Range table low high))))
  shown_page free = ap (page_reply most) (shown c t (Range table low high) free)

  -- a page of these tables
  abbrev page_shown : Tables → Result PageValue Refusal
  page_shown tables = Ok (page_of most page_room (answered_rows (answer tables (Range table low high))))

  pub paged : (looks : Option ℕ) (f : FactsValue) → f.rows ≡ c.rows → f.ends ≡ c.ends → None ≡ time_refusal c t → (r : Result (Option Page) Refusal)
      → IsPageWithin looks most page_room (rows_ranged f t table low high) r → IfErr r (λ why. why ≡ Memory)
      → PageRepliesWithin looks c t table low high most r
  paged looks f rows ends free (Ok None) ok err = ok
  paged looks f rows ends free (Ok (Some page)) ok err = shown_page free ∙ ap page_shown (sym (same_shown c t f rows ends)) ∙ ap Ok (sym ok)
  paged looks f rows ends free (Err why) ok err = inr (err, ap is_ok (shown_page free))

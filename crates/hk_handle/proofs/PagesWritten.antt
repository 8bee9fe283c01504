-- What a handle's call did where a page was asked for, and written.
use Rattle.std.proofs.Common.{◌≡◌, ℕ, List, Option, Some, Result, Ok, Err, IsOk, inl, inr, refl, sym, subst}
use Rattle.hk_types.specs.declared.faults.Refusal.{Refusal}
use Rattle.hk_types.specs.declared.faults.Refusal.TheVariants.{Memory}
use Rattle.hk_model.specs.declared.page.Page.{Page}
use Rattle.hk_model.specs.Replica.Content.{Content}
use Rattle.hk_model.specs.Replica.Pages.{page_seen}
use Rattle.hk_handle.specs.declared.found.Paged.{Paged}
use Rattle.hk_handle.specs.Values.{ReplicaValue}
use Rattle.hk_handle.specs.Pages.{Paging, IsPage, WritesFound, PagedAt}

found_at : (old new : ReplicaValue) (asked : Content → Paging) (found : Result Page Refusal) (told : Paged) (before after : List ℕ) (number : ℕ)
    → IsPage (asked old.host.content) found → WritesFound old new found told before after number
    → PagedAt (Some old) (Some new) asked told before after number
found_at old new asked (Ok page) told before after number is (inl wrote) = inl (page_seen page, is, wrote)
found_at old new asked (Ok page) told before after number is (inr none) = inr ((Memory, none.0, inr (refl, subst (λ (p : Paging). IsOk p) (sym is) refl)), none.1)
found_at old new asked (Err why) told before after number is none = inr ((why, none.0, is), none.1)

pub paged_at : (first last : Option ReplicaValue) (old new : ReplicaValue) (asked : Content → Paging) (found : Result Page Refusal) (told : Paged) (before after : List ℕ) (number : ℕ)
    → first ≡ Some old → last ≡ Some new → IsPage (asked old.host.content) found → WritesFound old new found told before after number
    → PagedAt first last asked told before after number
paged_at first last old new asked found told before after number was becomes is wrote =
    subst (λ (h : Option ReplicaValue). PagedAt h last asked told before after number) (sym was)
    (subst (λ (h : Option ReplicaValue). PagedAt (Some old) h asked told before after number) (sym becomes)
    (found_at old new asked found told before after number is wrote))

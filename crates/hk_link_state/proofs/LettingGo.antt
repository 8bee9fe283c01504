-- The holds of a link that ends are let go one after the other, and those that stand are gathered in front of the list.
use Rattle.std.proofs.Common.{◌≡◌, ℕ, ◌+◌, ◌<◌, ◌≤◌, List, [], ◌∷◌, ◌++◌, length, take, drop, Option, Some, None, Result, refl, sym, ap, subst, ◌∙◌, get_or, append_assoc, append-nil, arith}
use Rattle.std.proofs.lemmas.List.{drop_more, drop_all, drop-set-lt, length-set}
use Rattle.std.proofs.lemmas.Grind.{drop_more_same, take-set_at}
use mathlib.Core.List.{IsPrefix}
use Rattle.hk_types.specs.declared.faults.Refusal.{Refusal}
use Rattle.hk_oplog.specs.declared.op.Hold.{Hold}
use Rattle.hk_oplog.specs.declared.op.Op.{Op}
use Rattle.hk_link_state.specs.LaterReplying.{AreLetGo, IsLetGo, next_place, placed, with_back}

-- the first n of these holds were asked for; those of them that stand are the first ones of the list, and from n on it is as it was
pub record IsLettingGo {S : Type 0} (list : S → List Op) (may_release : S → Hold → Result ℕ (Option Hold × Refusal) → S → Type 0) (first : S) (holds : List Hold) (n : ℕ) (now : S) (left : List Hold) (kept : ℕ) : Type 0 where
  pub others : (last : S) (rest : List Hold) → AreLetGo may_release now (drop n holds) last rest → AreLetGo may_release first holds last (take kept left ++ rest)
  pub seen : IsPrefix (list first) (list now)
  pub same : drop n left ≡ drop n holds
  pub sized : length left ≡ length holds
  pub within : kept ≤ n

pub none_asked : {S : Type 0} (list : S → List Op) (may_release : S → Hold → Result ℕ (Option Hold × Refusal) → S → Type 0) (first : S) (holds : List Hold)
    → IsLettingGo list may_release first holds 0 first holds 0
none_asked list may_release first holds =
    record { others = λ last rest h. h; seen = ([], append-nil (list first)); same = refl; sized = refl; within = omega arith }

with_back_in : (back : Option Hold) (rest : List Hold) (left : List Hold) (kept : ℕ) → kept < length left
    → take (next_place back kept) (placed back left kept) ++ rest ≡ take kept left ++ with_back back rest
with_back_in None rest left kept lt = refl
with_back_in (Some hold) rest left kept lt =
    ap (λ (l : List Hold). l ++ rest) (take-set_at left kept (kept + 1) hold refl lt) ∙ append_assoc (take kept left) (hold ∷ []) rest

later_same : (back : Option Hold) (left : List Hold) (kept n : ℕ) → kept ≤ n → drop (n + 1) (placed back left kept) ≡ drop (n + 1) left
later_same None left kept n le = refl
later_same (Some hold) left kept n le = drop-set-lt (n + 1) left kept hold (omega (arith, le))

placed_sized : (back : Option Hold) (left : List Hold) (kept : ℕ) → length (placed back left kept) ≡ length left
placed_sized None left kept = refl
placed_sized (Some hold) left kept = length-set left kept hold

next_within : (back : Option Hold) (kept n : ℕ) → kept ≤ n → next_place back kept ≤ n + 1
next_within None kept n le = omega (arith, le)
next_within (Some hold) kept n le = omega (arith, le)

same_at : (xs ys : List Hold) (n : ℕ) (d : Hold) → n < length xs → n < length ys → drop n xs ≡ drop n ys → get_or xs n d ≡ get_or ys n d
same_at xs ys n d lx ly e = head_same (sym (drop_more xs n d lx) ∙ e ∙ drop_more ys n d ly)
  where
    head_same : {x y : Hold} {xs ys : List Hold} → x ∷ xs ≡ y ∷ ys → x ≡ y
    head_same {x} {y} e = ap (λ (l : List Hold). get_or l 0 x) e

pub next_asked : {S : Type 0} (list : S → List Op) (may_release : S → Hold → Result ℕ (Option Hold × Refusal) → S → Type 0) (first : S) (holds : List Hold) (n : ℕ) (now next : S) (left : List Hold) (kept : ℕ) (back : Option Hold) (hold d : Hold)
    → n < length left → hold ≡ get_or left n d → IsLettingGo list may_release first holds n now left kept → IsLetGo may_release now hold next back → IsPrefix (list now) (list next)
    → IsLettingGo list may_release first holds (n + 1) next (placed back left kept) (next_place back kept)
next_asked {S} list may_release first holds n now next left kept back hold d lt is before asked goes = record {
  others = λ last rest h.
      subst (λ (l : List Hold). AreLetGo may_release first holds last l) (sym (with_back_in back rest left kept (let le = before.within in omega (arith, lt, le))))
      (before.others last (with_back back rest) (subst (λ (hs : List Hold). AreLetGo may_release now hs last (with_back back rest)) (sym (drop_more holds n d here)) (next, back, rest, one, h, refl)));
  seen = (before.seen.0 ++ goes.0, sym (append_assoc (list first) before.seen.0 goes.0) ∙ (ap (λ (l : List Op). l ++ goes.0) before.seen.1 ∙ goes.1));
  same = later_same back left kept n before.within ∙ drop_more_same left holds n before.same;
  sized = placed_sized back left kept ∙ before.sized;
  within = next_within back kept n before.within;
}
  where
    here : n < length holds
    here = subst (λ (k : ℕ). n < k) before.sized lt

    one : IsLetGo may_release now (get_or holds n d) next back
    one = subst (λ (x : Hold). IsLetGo may_release now x next back) (is ∙ same_at left holds n d lt here before.same) asked

pub all_asked : {S : Type 0} (list : S → List Op) (may_release : S → Hold → Result ℕ (Option Hold × Refusal) → S → Type 0) (first : S) (holds : List Hold) (n : ℕ) (now : S) (left : List Hold) (kept : ℕ)
    → length left ≤ n → IsLettingGo list may_release first holds n now left kept → AreLetGo may_release first holds now (take kept left)
all_asked list may_release first holds n now left kept over before =
    subst (λ (l : List Hold). AreLetGo may_release first holds now l) (append-nil (take kept left))
    (before.others now [] (subst (λ (hs : List Hold). AreLetGo may_release now hs now []) (sym (drop_all n holds (subst (λ (k : ℕ). k ≤ n) before.sized over))) (refl, refl)))

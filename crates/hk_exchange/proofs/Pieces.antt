-- What a socket took in pieces.
use Rattle.std.proofs.Common.{◌≡◌, ◌≤◌, ◌+◌, ◌-◌, ℕ, List, [], ◌∷◌, ◌++◌, Option, length, take, drop, sym, ap, subst, ◌∙◌, append-nil, append_assoc, refl, arith}
use Rattle.std.specs.Io.KnownBytes.{Keeps}
use Rattle.std.proofs.KnownBytes.{Appends-trans, Appends-nil, Appends-kept}
use Rattle.std.proofs.lemmas.List.{drop-drop, take-append-drop, append_cancel_left}
use Rattle.std.proofs.Math.Seq.{take-add}
use Rattle.hk_exchange.specs.Pipes.{Takes, TakesFront}

pub takes_nothing : (a : Option (List ℕ)) (s : List ℕ) → Takes a a s s []
takes_nothing a s = (sym (append-nil s), Appends-nil a)

-- a write that failed took nothing
pub takes_kept : (a b : Option (List ℕ)) (s ys : List ℕ) → Keeps a b → Takes a b s s (take 0 ys)
takes_kept a b s ys h = (sym (append-nil s), Appends-kept a a b [] (Appends-nil a) h)

pub takes_both : (a b c : Option (List ℕ)) (s t u one other : List ℕ) → Takes a b s t one → Takes b c t u other → Takes a c s u (one ++ other)
takes_both a b c s t u one other h k = (k.0 ∙ ap (λ (l : List ℕ). l ++ other) h.0 ∙ append_assoc s one other, Appends-trans a b c one other h.1 k.1)

pub takes_more : (a b c : Option (List ℕ)) (s t u xs : List ℕ) (from done n : ℕ) → Takes a b s t (take done (drop from xs)) → Takes b c t u (take n (drop (from + done) xs)) → Takes a c s u (take (done + n) (drop from xs))
takes_more a b c s t u xs from done n h k =
    let ys = drop from xs in
    let next = subst (λ (l : List ℕ). Takes b c t u (take n l)) (sym (drop-drop done from xs)) k in
    subst (Takes a c s u) (sym (take-add done n ys)) (takes_both a b c s t u (take done ys) (take n (drop done ys)) h next)

pub takes_no_more : (a b c : Option (List ℕ)) (s t u text : List ℕ) → Takes a b s t text → Takes b c t u [] → Takes a c s u text
takes_no_more a b c s t u text h k = subst (Takes a c s u) (append-nil text) (takes_both a b c s t u text [] h k)

-- so many of the bytes from a place on are a front of them
pub front_of : (a b : Option (List ℕ)) (s t ys : List ℕ) (n : ℕ) → Takes a b s t (take n ys) → TakesFront a b s t ys
front_of a b s t ys n h = (take n ys, drop n ys, sym (take-append-drop n ys), h)

-- and of what follows them too
pub front_before : (a b : Option (List ℕ)) (s t text more : List ℕ) → TakesFront a b s t text → TakesFront a b s t (text ++ more)
front_before a b s t text more h = (h.0, h.1 ++ more, ap (λ (l : List ℕ). l ++ more) h.2 ∙ append_assoc h.0 h.1 more, h.3)

pub front_none : (a : Option (List ℕ)) (s text : List ℕ) → TakesFront a a s s text
front_none a s text = ([], text, refl, takes_nothing a s)

-- what was taken of these, where all of them were, and then of those behind them
pub front_behind : (a b c : Option (List ℕ)) (s t u text more : List ℕ) → TakesFront a b s t text → t ≡ s ++ text → TakesFront b c t u more → TakesFront a c s u (text ++ more)
front_behind a b c s t u text more h all k =
    let same : h.0 ≡ text = append_cancel_left s h.0 text (sym h.3.0 ∙ all) in
    let parts : text ++ more ≡ (h.0 ++ k.0) ++ k.1 =
    ap (λ (l : List ℕ). l ++ more) (sym same) ∙ ap (λ (l : List ℕ). h.0 ++ l) k.2 ∙ sym (append_assoc h.0 k.0 k.1) in
    (h.0 ++ k.0, k.1, parts, takes_both a b c s t u h.0 k.0 h.3 k.3)

-- where nothing stands any more, all was taken
pub all_taken : (s t standing left : List ℕ) → t ++ left ≡ s ++ standing → length left ≡ 0 → t ≡ s ++ standing
all_taken s t standing [] kept none = sym (append-nil t) ∙ kept
all_taken s t standing (byte ∷ left) kept none = absurd (omega (arith, none))

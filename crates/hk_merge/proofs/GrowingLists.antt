-- Lists that grow by what each version of a list gives.
use Rattle.std.proofs.Common.{◌≡◌, sym, ap, ◌∙◌, ℕ, ◌+◌, ◌<◌, List, [], ◌∷◌, ◌++◌, map, take, length, get_or, append_assoc}
use Rattle.std.proofs.lemmas.List.{take_more, map_push, append-nil}
use Rattle.std.proofs.lemmas.List.Concat.{flat_map-append}
use Rattle.std.specs.List.{flat_map}

pub grown_none : {A : Type 0} (xs : List A) → xs ≡ xs ++ []
grown_none xs = sym (append-nil xs)

-- one more of a list
pub grown_more : {A B C : Type 0} (shows : A → B) (g : B → List C) (first now new : List C) (xs : List A) (i : ℕ) (x : A) → x ≡ get_or xs i x → i < length xs → now ≡ first ++ flat_map g (map shows (take i xs)) → new ≡ now ++ g (shows x) → new ≡ first ++ flat_map g (map shows (take (i + 1) xs))
grown_more shows g first now new xs i x is below before one =
    one
    ∙ ap (λ l. l ++ g (shows x)) before
    ∙ append_assoc first (flat_map g (map shows (take i xs))) (g (shows x))
    ∙ ap (λ l. first ++ l) (
    ap (λ l. flat_map g (map shows (take i xs)) ++ l) (sym (append-nil (g (shows x))))
    ∙ sym (flat_map-append g (map shows (take i xs)) (shows x ∷ []))
    ∙ ap (flat_map g) (sym (map_push shows (take i xs) x))
    ∙ ap (λ l. flat_map g (map shows l)) (sym (take_more xs i x below ∙ ap (λ y. take i xs ++ y ∷ []) (sym is))))

-- What a receiver took, joined; and what is said of a result.
use Rattle.std.proofs.Common.{ℕ, take, Option, true, is_ok, Result, Ok, Err, OnOk, OnErr, ◌≡◌, refl, List, [], ◌++◌, sym, ap, ◌∙◌, subst, append_assoc, append-nil}
use Rattle.std.specs.Io.KnownBytes.{Consumes}
use Rattle.std.proofs.KnownBytes.{Consumes-trans}
use Rattle.hk_cli_input.specs.Taking.{TookMore, TookFront, TookNone}

pub took_no_more : {T X : Type 0} (took : T → List X → T → Type 0) (a : T) → TookMore took a a []
took_no_more {T} {X} took a start before h = subst (λ (l : List X). took start l a) (sym (append-nil before)) h

pub took_both : {T X : Type 0} (took : T → List X → T → Type 0) (a b c : T) (xs ys : List X) → TookMore took a b xs → TookMore took b c ys → TookMore took a c (xs ++ ys)
took_both {T} {X} took a b c xs ys first second start before h = subst (λ (l : List X). took start l c) (append_assoc before xs ys) (second start (before ++ xs) (first start before h))

pub took_then : {T X : Type 0} (took : T → List X → T → Type 0) (a b c : T) (xs : List X) → TookMore took a b xs → TookNone took b c → TookMore took a c xs
took_then took a b c xs first second start before h = second start (before ++ xs) (first start before h)

-- behind what was taken a front of what follows was
pub front_behind : {T X : Type 0} (took : T → List X → T → Type 0) (a b c : T) (xs ys : List X) → TookMore took a b xs → TookFront took b c ys → TookFront took a c (xs ++ ys)
front_behind {T} {X} took a b c xs ys first second =
    (xs ++ second.0, second.1, ap (λ (l : List X). xs ++ l) second.2 ∙ sym (append_assoc xs second.0 second.1), took_both took a b c xs second.0 first second.3)

-- nothing of it was
pub front_none : {T X : Type 0} (took : T → List X → T → Type 0) (a : T) (all : List X) → TookFront took a a all
front_none took a all = ([], all, refl, took_no_more took a)

pub err_so : {A E P : Type 0} (r : Result A E) → P → OnErr r P
err_so (Ok x) p = tt
err_so (Err e) p = p

pub ok_so : {A E P : Type 0} (r : Result A E) → (is_ok r ≡ true → P) → OnOk r P
ok_so (Ok x) p = p refl
ok_so (Err e) p = tt

pub from_ok : {A E P : Type 0} (r : Result A E) → is_ok r ≡ true → OnOk r P → P
from_ok (Ok x) good p = p
from_ok (Err e) good p = cc

pub err_then : {A E P Q : Type 0} (r : Result A E) → OnErr r P → (P → Q) → OnErr r Q
err_then (Ok x) p then = tt
err_then (Err e) p then = then p

-- ---- what was read

-- a read that gave nothing
pub none_read : (o p q : Option (List ℕ)) (bytes buf : List ℕ) (n : ℕ) → Consumes o p bytes → Consumes p q (take n buf) → n ≡ 0 → Consumes o q bytes
none_read o p q bytes buf n h k zero_is = subst (Consumes o q) (ap (λ (i : ℕ). bytes ++ take i buf) zero_is ∙ append-nil bytes) (Consumes-trans o p q bytes (take n buf) h k)

-- what was read and a piece more, where this is done with both
pub piece_read : (Done : List ℕ → Type 0) (o p q : Option (List ℕ)) (bytes buf : List ℕ) (n : ℕ) → Consumes o p bytes → Consumes p q (take n buf) → Done (bytes ++ take n buf) → (all : List ℕ) × Consumes o q all × Done all
piece_read Done o p q bytes buf n h k done = (bytes ++ take n buf, Consumes-trans o p q bytes (take n buf) h k, done)

-- The bytes that come say which a session gets.
use Rattle.std.proofs.Common.{◌≡◌, ◌≤◌, ℕ, ◌+◌, true, Option, Some, None, List, [], ◌∷◌, ◌++◌, length, take, drop, slice_get, refl, sym, ap, ◌∙◌, subst, arith, length-append}
use Rattle.std.specs.Int.{w32, from_be_bytes}
use Rattle.std.proofs.lemmas.Bool.Decides.{nat_tests}
use Rattle.std.proofs.lemmas.List.{take-append-le}
use Rattle.std.proofs.Math.Seq.{take-append_seam, drop-append_seam}
use Rattle.hk_frames.specs.Framing.{len_of}
use Rattle.hk_message_head.specs.declared.request_kinds.Does.{Does}
use Rattle.hk_message_head.specs.Kinds.{does_at}
use Rattle.hk_doors.specs.declared.passes.Passes.{Passes}
use Rattle.hk_doors.specs.declared.passes.Passes.TheVariants.{All}
use Rattle.hk_doors.specs.Doors.{lets_kind}
use Rattle.hk_doors.specs.Handing.{Place, head_len, IsHead, judged_kind, judged, behind, Gets, JoinsLaw, OneLaw, AllLaw}
use Rattle.hk_doors.proofs.Handing.{hands_on}

-- two fronts of one list that are as long, and what is behind them
front_same : (n : ℕ) (x y u v : List ℕ) → x ++ y ≡ u ++ v → length x ≡ n → length u ≡ n → x ≡ u
front_same n x y u v e a b =
    sym (take-append_seam x y) ∙ (ap (λ (m : ℕ). take m (x ++ y)) a ∙ (ap (take n) e ∙ (ap (λ (m : ℕ). take m (u ++ v)) (sym b) ∙ take-append_seam u v)))

back_same : (n : ℕ) (x y u v : List ℕ) → x ++ y ≡ u ++ v → length x ≡ n → length u ≡ n → y ≡ v
back_same n x y u v e a b =
    sym (drop-append_seam x y) ∙ (ap (λ (m : ℕ). drop m (x ++ y)) a ∙ (ap (drop n) e ∙ (ap (λ (m : ℕ). drop m (u ++ v)) (sym b) ∙ drop-append_seam u v)))

head_least : (p : Passes) (len : ℕ) → 4 ≤ head_len p len
head_least p len = grind (arith, nat_tests)

is_least : (p : Passes) (head : List ℕ) → IsHead p head → 4 ≤ length head
is_least p head is_head = omega (arith, is_head, head_least p (len_of head))

-- the first four bytes say how long a frame is, and so where its head ends
head_same : (p : Passes) (g m h n : List ℕ) → g ++ m ≡ h ++ n → IsHead p g → IsHead p h → length g ≡ length h
head_same p g m h n e is other =
    let front : take 4 g ≡ take 4 h = sym (take-append-le 4 g m (is_least p g is)) ∙ (ap (take 4) e ∙ take-append-le 4 h n (is_least p h other)) in
    is ∙ (ap (λ (bytes : List ℕ). head_len p (from_be_bytes w32 bytes)) front ∙ sym other)

-- a head doesn't fit into what is left of a frame
none_fits : (p : Passes) (left : ℕ) (x rest head more : List ℕ) → length x ≤ left → length rest ≡ left → x ≡ rest ++ (head ++ more) → IsHead p head → ⊥
none_fits p left x rest head more few is e is_head =
    omega (arith, few, is, ap length e, length-append rest (head ++ more), length-append head more, is_least p head is_head)

gets_one : (p : Passes) (a b c : Place) (gs hs : List (List ℕ)) (x y z : List ℕ) → Gets p a gs x y b → Gets p a hs x z c → (y ≡ z) × (b ≡ c)
gets_one p a b c [] [] x y z s t = (s.0 ∙ sym t.0, s.2 ∙ sym t.2)
gets_one p a b c [] (h ∷ hs) x y z s t = absurd (none_fits p a.left x t.0 h t.1 s.1 t.3 t.4 t.6)
gets_one p a b c (g ∷ gs) [] x y z s t = absurd (none_fits p a.left x s.0 g s.1 t.1 s.3 s.4 s.6)
gets_one p a b c (g ∷ gs) (h ∷ hs) x y z s t =
    let both : s.0 ++ (g ++ s.1) ≡ t.0 ++ (h ++ t.1) = sym s.4 ∙ t.4 in
    let rest : s.0 ≡ t.0 = front_same a.left s.0 (g ++ s.1) t.0 (h ++ t.1) both s.3 t.3 in
    let back : g ++ s.1 ≡ h ++ t.1 = back_same a.left s.0 (g ++ s.1) t.0 (h ++ t.1) both s.3 t.3 in
    let len : length g ≡ length h = head_same p g s.1 h t.1 back s.6 t.6 in
    let head : g ≡ h = front_same (length h) g s.1 h t.1 back len refl in
    let more : s.1 ≡ t.1 = back_same (length h) g s.1 h t.1 back len refl in
    let moved : Gets p (behind h) gs s.1 s.2 b = subst (λ (q : List ℕ). Gets p (behind q) gs s.1 s.2 b) head s.7 in
    let same : Gets p (behind h) gs t.1 s.2 b = subst (λ (m : List ℕ). Gets p (behind h) gs m s.2 b) more moved in
    let next = gets_one p (behind h) b c gs hs t.1 s.2 t.2 same t.7 in
    let first : y ≡ t.0 ++ (judged p g ++ s.2) = s.5 ∙ ap (λ (r : List ℕ). r ++ (judged p g ++ s.2)) rest in
    let second : y ≡ t.0 ++ (judged p h ++ s.2) = first ∙ ap (λ (q : List ℕ). t.0 ++ (judged p q ++ s.2)) head in
    (second ∙ (ap (λ (w : List ℕ). t.0 ++ (judged p h ++ w)) next.0 ∙ sym t.5), next.1)

-- ---- at a door for all

each_passes : (does : Option Does) → lets_kind All does ≡ true
each_passes (Some does) = refl
each_passes None = refl

unturned : (head : List ℕ) (kind : Option ℕ) → judged_kind All head kind ≡ head
unturned head None = refl
unturned head (Some kind) = rw (each_passes (does_at kind)) refl

gets_all : (a b : Place) (hs : List (List ℕ)) (x y : List ℕ) → Gets All a hs x y b → y ≡ x
gets_all a b [] x y s = s.0
gets_all a b (h ∷ hs) x y s =
    let same : judged All h ≡ h = unturned h (slice_get h 5) in
    s.5 ∙ (ap (λ (q : List ℕ). s.0 ++ (q ++ s.2)) same ∙ (ap (λ (w : List ℕ). s.0 ++ (h ++ w)) (gets_all (behind h) b hs s.1 s.2 s.7) ∙ sym s.4))

pub joins_law : JoinsLaw
joins_law p a b c x u y v h k = hands_on p a b c x y u v h k

pub one_law : OneLaw
one_law p a b c x y z h k = gets_one p a b c h.0 k.0 x y z h.1 k.1

pub all_law : AllLaw
all_law a b x y h = gets_all a b h.0 x y h.1

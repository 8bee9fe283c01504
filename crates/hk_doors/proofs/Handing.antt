-- How what is handed on goes on.
use Rattle.std.proofs.Common.{◌≡◌, ◌≤◌, ℕ, ◌+◌, ◌-◌, if◌then◌else◌, eqb, List, [], ◌∷◌, ◌++◌, length, take, drop, refl, sym, ap, ◌∙◌, subst, arith, append_assoc, length-append}
use Rattle.std.proofs.lemmas.Bool.Decides.{nat_tests}
use Rattle.std.proofs.lemmas.List.{append-nil, take-append-drop, drop-drop, length-take, length-drop}
use Rattle.std.proofs.Math.ListN.{drop_of_length-le}
use Rattle.std.proofs.Math.Seq.{take-add, take-append-add, drop-append-add}
use borrow.Rule.Slice.PartMut.{put_mid}
use Rattle.hk_frames.specs.Framing.{len_of}
use Rattle.hk_doors.specs.declared.passes.Passes.{Passes}
use Rattle.hk_doors.specs.Handing.{Place, inside, IsHead, judged, behind, Gets, HandsOn}

-- of nothing that is left nothing is left
settled : (whole left more : ℕ) → (if eqb (left - more) 0 then 0 else (if eqb left 0 then 0 else whole)) ≡ (if eqb (left - more) 0 then 0 else whole)
settled whole left more = grind (arith, nat_tests)

-- a place and then another
on : (whole left m n : ℕ) → inside (inside whole (left - m)).whole ((left - m) - n) ≡ inside whole (left - (m + n))
on whole left m n =
    let e : (left - m) - n ≡ left - (m + n) = omega arith in
    let first : inside (inside whole (left - m)).whole ((left - m) - n) ≡ inside whole ((left - m) - n) = ap (λ (w : ℕ). record { whole = w; left = (left - m) - n }) (settled whole (left - m) n) in
    rw (← e) first

came_on : (x r s m u : List ℕ) → x ≡ r ++ (s ++ m) → x ++ u ≡ r ++ (s ++ (m ++ u))
came_on x r s m u e = rw e (simp append_assoc)

-- behind bytes within a frame
behind_some : (p : Passes) (a b c : Place) (gs : List (List ℕ)) (x y u v : List ℕ) → Gets p a [] x y b → Gets p b gs u v c → Gets p a gs (x ++ u) (y ++ v) c
behind_some p a b c [] x y u v h k =
    let e : b.left ≡ a.left - length x = ap (λ (q : Place). q.left) h.2 in
    let w : b.whole ≡ (inside a.whole (a.left - length x)).whole = ap (λ (q : Place). q.whole) h.2 in
    let same : y ++ v ≡ x ++ u = cc (h.0, k.0) in
    let few : length (x ++ u) ≤ a.left = omega (arith, length-append x u, e, h.1, k.1) in
    let there : inside b.whole (b.left - length u) ≡ inside a.whole (a.left - (length x + length u)) = rw (w, e) (on a.whole a.left (length x) (length u)) in
    (same, few, k.2 ∙ (there ∙ ap (λ (n : ℕ). inside a.whole (a.left - n)) (sym (length-append x u))))
behind_some p a b c (head ∷ gs) x y u v h k =
    let e : b.left ≡ a.left - length x = ap (λ (q : Place). q.left) h.2 in
    let left : length (x ++ k.0) ≡ a.left = omega (arith, length-append x k.0, e, h.1, k.3) in
    let came : x ++ u ≡ (x ++ k.0) ++ (head ++ k.1) = rw k.4 (simp append_assoc) in
    let got : y ++ v ≡ (x ++ k.0) ++ (judged p head ++ k.2) = rw (h.0, k.5) (simp append_assoc) in
    (x ++ k.0, k.1, k.2, left, came, got, k.6, k.7)

-- what follows follows
pub gets_on : (p : Passes) (a b c : Place) (hs gs : List (List ℕ)) (x y u v : List ℕ) → Gets p a hs x y b → Gets p b gs u v c → Gets p a (hs ++ gs) (x ++ u) (y ++ v) c
gets_on p a b c [] gs x y u v h k = behind_some p a b c gs x y u v h k
gets_on p a b c (head ∷ hs) gs x y u v h k =
    (h.0, h.1 ++ u, h.2 ++ v, h.3, came_on x h.0 head h.1 u h.4, came_on y h.0 (judged p head) h.2 v h.5, h.6, gets_on p (behind head) b c hs gs h.1 h.2 u v h.7 k)

pub hands_on : (p : Passes) (a b c : Place) (x y u v : List ℕ) → HandsOn p a x y b → HandsOn p b u v c → HandsOn p a (x ++ u) (y ++ v) c
hands_on p a b c x y u v h k = (h.0 ++ k.0, gets_on p a b c h.0 k.0 x y u v h.1 k.1)

-- nothing
gets_nothing : (p : Passes) (a : Place) → a ≡ inside a.whole a.left → Gets p a [] [] [] a
gets_nothing p a h =
    let e : a.left ≡ a.left - 0 = omega arith in
    (refl, omega arith, h ∙ ap (inside a.whole) e)

pub hands_nothing : (p : Passes) (a : Place) → a ≡ inside a.whole a.left → HandsOn p a [] [] a
hands_nothing p a h = ([], gets_nothing p a h)

-- bytes within a frame
pub hands_rest : (p : Passes) (a : Place) (x : List ℕ) → length x ≤ a.left → HandsOn p a x x (inside a.whole (a.left - length x))
hands_rest p a x h = ([], (refl, h, refl))

twice : (whole left : ℕ) → (if eqb left 0 then 0 else whole) ≡ (if eqb left 0 then 0 else (if eqb left 0 then 0 else whole))
twice whole left = grind (arith, nat_tests)

-- the head of a frame
pub hands_head : (p : Passes) (a : Place) (head : List ℕ) → a.left ≡ 0 → IsHead p head → HandsOn p a head (judged p head) (behind head)
hands_head p a head none is_head =
    let whole = 4 + len_of head in
    let left = 4 + len_of head - length head in
    let stands : behind head ≡ inside (behind head).whole (behind head).left = ap (λ (w : ℕ). record { whole = w; left = left }) (twice whole left) in
    (head ∷ [], ([], [], [], sym none, sym (append-nil head), sym (append-nil (judged p head)), is_head, gets_nothing p (behind head) stands))

-- ---- at a place of a list

-- a list whose part from a place on was written
tail : (d : ℕ) (xs ys : List ℕ) → put_mid d (length xs - d) xs ys ≡ take d xs ++ ys
tail d xs ys =
    let none : drop (length xs - d) (drop d xs) ≡ [] = drop_of_length-le (drop d xs) {i = length xs - d} (omega (arith, length-drop d xs)) in
    ap (λ (zs : List ℕ). take d xs ++ (ys ++ zs)) none ∙ ap (λ (zs : List ℕ). take d xs ++ zs) (append-nil ys)

tail_take : (d k : ℕ) (xs ys : List ℕ) → d ≤ length xs → take (d + k) (put_mid d (length xs - d) xs ys) ≡ take d xs ++ take k ys
tail_take d k xs ys few =
    let e : d ≡ length (take d xs) = omega (arith, length-take d xs) in
    ap (take (d + k)) (tail d xs ys) ∙ (ap (λ (n : ℕ). take (n + k) (take d xs ++ ys)) e ∙ take-append-add (take d xs) ys k)

tail_drop : (d k : ℕ) (xs ys : List ℕ) → d ≤ length xs → drop (d + k) (put_mid d (length xs - d) xs ys) ≡ drop k ys
tail_drop d k xs ys few =
    let e : d ≡ length (take d xs) = omega (arith, length-take d xs) in
    ap (drop (d + k)) (tail d xs ys) ∙ (ap (λ (n : ℕ). drop (n + k) (take d xs ++ ys)) e ∙ drop-append-add (take d xs) ys k)

-- bytes within a frame
pub rest_step : (p : Passes) (a b c : Place) (came got : List ℕ) (d k : ℕ) → HandsOn p a (take d came) (take d got) b → drop d got ≡ drop d came → d + k ≤ length came → k ≤ b.left → c ≡ inside b.whole (b.left - k) → HandsOn p a (take (d + k) came) (take (d + k) got) c
rest_step p a b c came got d k h same few left there =
    let x = take k (drop d came) in
    let n : length x ≡ k = omega (arith, length-take k (drop d came), length-drop d came, few) in
    let rest : HandsOn p b x x (inside b.whole (b.left - k)) = subst (λ (m : ℕ). HandsOn p b x x (inside b.whole (b.left - m))) n (hands_rest p b x (omega (arith, n, left))) in
    let more = hands_on p a b (inside b.whole (b.left - k)) (take d came) (take d got) x x h rest in
    rw (take-add d k came, take-add d k got, same, there) more

-- what is behind them
pub further : (came got : List ℕ) (d k : ℕ) → drop d got ≡ drop d came → drop (d + k) got ≡ drop (d + k) came
further came got d k same = sym (drop-drop k d got) ∙ (ap (drop k) same ∙ drop-drop k d came)

-- the head of a frame, in a part that held `old` before it was written
pub head_step : (p : Passes) (a b c : Place) (came got old part : List ℕ) (d k : ℕ) → old ≡ drop d got → HandsOn p a (take d came) (take d got) b → drop d got ≡ drop d came → d ≤ length got → b.left ≡ 0 → IsHead p (take k old) → take k part ≡ judged p (take k old) → c ≡ behind (take k old) → HandsOn p a (take (d + k) came) (take (d + k) (put_mid d (length got - d) got part)) c
head_step p a b c came got old part d k is h same few none is_head is_judged there =
    let x = take k old in
    let more = hands_on p a b (behind x) (take d came) (take d got) x (judged p x) h (hands_head p b x none is_head) in
    let front : take (d + k) came ≡ take d came ++ x = take-add d k came ∙ ap (λ (zs : List ℕ). take d came ++ take k zs) (sym same ∙ sym is) in
    rw (front, tail_take d k got part few, is_judged, there) more

-- what is behind it
pub rest_behind : (came got old part : List ℕ) (d k : ℕ) → old ≡ drop d got → d ≤ length got → drop d got ≡ drop d came → drop k part ≡ drop k old → drop (d + k) (put_mid d (length got - d) got part) ≡ drop (d + k) came
rest_behind came got old part d k is few same rest = tail_drop d k got part few ∙ (rest ∙ (ap (drop k) (is ∙ same) ∙ drop-drop k d came))

-- where nothing was written
pub unwritten : (got old part : List ℕ) (d : ℕ) → old ≡ drop d got → part ≡ old → put_mid d (length got - d) got part ≡ got
unwritten got old part d is same = tail d got part ∙ (ap (λ (zs : List ℕ). take d got ++ zs) (same ∙ is) ∙ take-append-drop d got)

-- as long as it was
pub written_len : (got old part : List ℕ) (d : ℕ) → old ≡ drop d got → length part ≡ length old → length (put_mid d (length got - d) got part) ≡ length got
written_len got old part d is same = ap length (tail d got part) ∙ (length-append (take d got) part ∙ (ap (λ (n : ℕ). length (take d got) + n) (same ∙ ap length is) ∙ (sym (length-append (take d got) (drop d got)) ∙ ap length (take-append-drop d got))))

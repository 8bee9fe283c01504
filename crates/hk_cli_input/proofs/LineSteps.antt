-- The lines of bytes that come one after the other.
use Rattle.std.proofs.Common.{◌≡◌, ◌≢◌, ◌<◌, ◌≤◌, ℕ, min, Bool, true, false, cond, ◌==◌, List, [], ◌∷◌, ◌++◌, length, map, take, refl, sym, ap, subst, ◌∙◌, append_assoc, append-nil, arith}
use Rattle.std.proofs.Math.Seq.{take-nil}
use Rattle.std.proofs.lemmas.Bool.Decides.{nat_tests}
use Rattle.std.proofs.lemmas.List.{map-append, length-take, length-append, take_all, take-append-le}
use Rattle.hk_cli_input.specs.Taking.{TookMore, TookNone}
use Rattle.hk_cli_input.specs.Lines.{in_front, lines_of, TookAll, TookSome, Stands, GoesOn, BreaksOff}
use Rattle.hk_cli_input.proofs.Took.{took_no_more, took_both, took_then}

-- the lines with a byte more
abbrev with_byte : ℕ → List (List ℕ) → List (List ℕ)
with_byte b [] = []
with_byte b (line ∷ []) = cond (b == 10) (line ∷ [] ∷ []) ((line ++ b ∷ []) ∷ [])
with_byte b (line ∷ next ∷ lines) = line ∷ with_byte b (next ∷ lines)

-- there is a first line
some_line : (bytes : List ℕ) → (first : List ℕ) × (others : List (List ℕ)) × (lines_of bytes ≡ first ∷ others)
some_line [] = ([], [], refl)
some_line (x ∷ xs) = cases (x == 10)
  where
    fronted : (ls : List (List ℕ)) → (first : List ℕ) × (others : List (List ℕ)) × (in_front x ls ≡ first ∷ others)
    fronted [] = (x ∷ [], [], refl)
    fronted (l ∷ ls) = (x ∷ l, ls, refl)

    cases : (is : Bool) → (first : List ℕ) × (others : List (List ℕ)) × (cond is ([] ∷ lines_of xs) (in_front x (lines_of xs)) ≡ first ∷ others)
    cases true = ([], lines_of xs, refl)
    cases false = fronted (lines_of xs)

in_front_with : (x b : ℕ) (line : List ℕ) (lines : List (List ℕ)) → in_front x (with_byte b (line ∷ lines)) ≡ with_byte b (in_front x (line ∷ lines))
in_front_with x b line [] = cases (b == 10)
  where
    cases : (is : Bool) → in_front x (cond is (line ∷ [] ∷ []) ((line ++ b ∷ []) ∷ [])) ≡ cond is ((x ∷ line) ∷ [] ∷ []) (((x ∷ line) ++ b ∷ []) ∷ [])
    cases true = refl
    cases false = refl
in_front_with x b line (next ∷ lines) = refl

with_first : (b x : ℕ) (xs first : List ℕ) (others : List (List ℕ)) → lines_of xs ≡ first ∷ others → lines_of (xs ++ b ∷ []) ≡ with_byte b (lines_of xs) → (is : Bool)
    → cond is ([] ∷ lines_of (xs ++ b ∷ [])) (in_front x (lines_of (xs ++ b ∷ []))) ≡ with_byte b (cond is ([] ∷ lines_of xs) (in_front x (lines_of xs)))
with_first b x xs first others is behind true =
    ap (λ (ls : List (List ℕ)). [] ∷ ls) (behind ∙ ap (with_byte b) is) ∙ ap (λ (ls : List (List ℕ)). with_byte b ([] ∷ ls)) (sym is)
with_first b x xs first others is behind false =
    ap (in_front x) (behind ∙ ap (with_byte b) is) ∙ in_front_with x b first others ∙ ap (λ (ls : List (List ℕ)). with_byte b (in_front x ls)) (sym is)

-- the lines of bytes and one byte more
pub lines_with : (b : ℕ) (bytes : List ℕ) → lines_of (bytes ++ b ∷ []) ≡ with_byte b (lines_of bytes)
lines_with b [] = refl
lines_with b (x ∷ xs) =
    let some = some_line xs in
    with_first b x xs some.0 some.1 some.2 (lines_with b xs) (x == 10)

with_behind : (b : ℕ) (whole : List (List ℕ)) (line : List ℕ) → with_byte b (whole ++ line ∷ []) ≡ whole ++ with_byte b (line ∷ [])
with_behind b [] line = refl
with_behind b (l ∷ []) line = refl
with_behind b (l ∷ m ∷ ls) line = ap (λ (x : List (List ℕ)). l ∷ x) (with_behind b (m ∷ ls) line)

-- a line feed ends the last line
pub feed_behind : (bytes : List ℕ) (whole : List (List ℕ)) (line : List ℕ) → lines_of bytes ≡ whole ++ line ∷ [] → lines_of (bytes ++ 10 ∷ []) ≡ (whole ++ line ∷ []) ++ [] ∷ []
feed_behind bytes whole line is = lines_with 10 bytes ∙ ap (with_byte 10) is ∙ with_behind 10 whole line ∙ sym (append_assoc whole (line ∷ []) ([] ∷ []))

-- another byte goes on with it
pub byte_behind : (b : ℕ) (bytes : List ℕ) (whole : List (List ℕ)) (line : List ℕ) → (b == 10) ≡ false → lines_of bytes ≡ whole ++ line ∷ [] → lines_of (bytes ++ b ∷ []) ≡ whole ++ (line ++ b ∷ []) ∷ []
byte_behind b bytes whole line other is =
    lines_with b bytes ∙ ap (with_byte b) is ∙ with_behind b whole line
    ∙ ap (λ (v : Bool). whole ++ cond v (line ∷ [] ∷ []) ((line ++ b ∷ []) ∷ [])) other

stay_behind : (b : ℕ) (more bytes : List ℕ) (whole : List (List ℕ)) (line : List ℕ) → lines_of bytes ≡ whole ++ line ∷ []
    → ((now : List ℕ) (lines : List (List ℕ)) (last : List ℕ) → lines_of now ≡ lines ++ last ∷ [] → (rest : List (List ℕ)) × (lines_of (now ++ more) ≡ lines ++ rest))
    → (feeds : Bool) → (b == 10) ≡ feeds → (rest : List (List ℕ)) × (lines_of (bytes ++ b ∷ more) ≡ whole ++ rest)
stay_behind b more bytes whole line is then true feeds =
    let here : lines_of (bytes ++ b ∷ []) ≡ (whole ++ line ∷ []) ++ [] ∷ [] =
    lines_with b bytes ∙ ap (with_byte b) is ∙ with_behind b whole line
    ∙ ap (λ (v : Bool). whole ++ cond v (line ∷ [] ∷ []) ((line ++ b ∷ []) ∷ [])) feeds ∙ sym (append_assoc whole (line ∷ []) ([] ∷ [])) in
    let r = then (bytes ++ b ∷ []) (whole ++ line ∷ []) [] here in
    (line ∷ r.0, ap lines_of (sym (append_assoc bytes (b ∷ []) more)) ∙ r.1 ∙ append_assoc whole (line ∷ []) r.0)
stay_behind b more bytes whole line is then false other =
    let r = then (bytes ++ b ∷ []) whole (line ++ b ∷ []) (byte_behind b bytes whole line other is) in
    (r.0, ap lines_of (sym (append_assoc bytes (b ∷ []) more)) ∙ r.1)

-- the lines that are whole stay, whatever follows
pub whole_stay : (more bytes : List ℕ) (whole : List (List ℕ)) (line : List ℕ) → lines_of bytes ≡ whole ++ line ∷ [] → (rest : List (List ℕ)) × (lines_of (bytes ++ more) ≡ whole ++ rest)
whole_stay [] bytes whole line is = (line ∷ [], ap lines_of (append-nil bytes) ∙ is)
whole_stay (b ∷ more) bytes whole line is =
    stay_behind b more bytes whole line is (λ now lines last here. whole_stay more now lines last here) (b == 10) refl

-- ---- where a reading stands

pub stands_start : {T : Type 0} (most : ℕ) (took : T → List (List ℕ) → T → Type 0) (a : T) → Stands most took a a [] []
stands_start most took a = ([], [], refl, took_no_more took a, sym (take-nil most))

pub stands_none : {T : Type 0} (most : ℕ) (took : T → List (List ℕ) → T → Type 0) (start a b : T) (bytes kept : List ℕ) → Stands most took start a bytes kept → TookNone took a b → Stands most took start b bytes kept
stands_none most took start a b bytes kept s none = (s.0, s.1, s.2, took_then took start a b _ s.3 none, s.4)

-- the last line too was taken
taken_line : {T : Type 0} (most : ℕ) (took : T → List (List ℕ) → T → Type 0) (start a b : T) (bytes kept : List ℕ) → (s : Stands most took start a bytes kept) → TookMore took a b (kept ∷ [])
    → TookMore took start b (map (take most) (s.0 ++ s.1 ∷ []))
taken_line most took start a b bytes kept s more =
    subst (TookMore took start b)
    (ap (λ (l : List ℕ). map (take most) s.0 ++ l ∷ []) s.4 ∙ sym (map-append (take most) s.0 (s.1 ∷ [])))
    (took_both took start a b (map (take most) s.0) (kept ∷ []) s.3 more)

pub stands_feed : {T : Type 0} (most : ℕ) (took : T → List (List ℕ) → T → Type 0) (a b : T) (byte : ℕ) (line kept kept_after : List ℕ) → byte ≡ 10 → line ≡ kept → kept_after ≡ [] → TookMore took a b (line ∷ [])
    → GoesOn most took a b kept kept_after (byte ∷ [])
stands_feed most took a b byte line kept kept_after feeds same empty more start bytes s = (
  s.0 ++ s.1 ∷ [],
  [],
  ap (λ (n : ℕ). lines_of (bytes ++ n ∷ [])) feeds ∙ feed_behind bytes s.0 s.1 s.2,
  taken_line most took start a b bytes kept s (subst (λ (l : List ℕ). TookMore took a b (l ∷ [])) same more),
  empty ∙ sym (take-nil most),
)

other_byte : (b : ℕ) → b ≢ 10 → (b == 10) ≡ false
other_byte b other = grind (arith, nat_tests, other)

pub stands_byte : {T : Type 0} (most : ℕ) (took : T → List (List ℕ) → T → Type 0) (a : T) (byte : ℕ) (kept kept_after : List ℕ) → byte ≢ 10 → length kept < most → kept_after ≡ kept ++ byte ∷ [] → GoesOn most took a a kept kept_after (byte ∷ [])
stands_byte most took a byte kept kept_after other less is start bytes s =
    (s.0, s.1 ++ byte ∷ [], byte_behind byte bytes s.0 s.1 (other_byte byte other) s.2, s.3, is ∙ same)
  where
    same : kept ++ byte ∷ [] ≡ take most (s.1 ++ byte ∷ [])
    same =
        let counts : length kept ≡ min most (length s.1) = ap length s.4 ∙ length-take most s.1 in
        let short : length s.1 < most = omega (arith, counts, less) in
        let fits : length (s.1 ++ byte ∷ []) ≤ most = omega (arith, length-append s.1 (byte ∷ []), short) in
        let under : length s.1 ≤ most = omega (arith, short) in
        ap (λ (l : List ℕ). l ++ byte ∷ []) (s.4 ∙ take_all most s.1 under) ∙ sym (take_all most (s.1 ++ byte ∷ []) fits)

pub stands_long : {T : Type 0} (most : ℕ) (took : T → List (List ℕ) → T → Type 0) (a b : T) (byte : ℕ) (kept : List ℕ) → byte ≢ 10 → most ≤ length kept → TookNone took a b → GoesOn most took a b kept kept (byte ∷ [])
stands_long most took a b byte kept other full none start bytes s =
    (s.0, s.1 ++ byte ∷ [], byte_behind byte bytes s.0 s.1 (other_byte byte other) s.2, took_then took start a b _ s.3 none, s.4 ∙ sym (take-append-le most s.1 (byte ∷ []) long))
  where
    long : most ≤ length s.1
    long =
        let counts : length kept ≡ min most (length s.1) = ap length s.4 ∙ length-take most s.1 in
        omega (arith, counts, full)

-- ---- what was taken in the end

pub all_lines : {T : Type 0} (most : ℕ) (took : T → List (List ℕ) → T → Type 0) (start a b : T) (bytes line kept : List ℕ) → line ≡ kept → Stands most took start a bytes kept → TookMore took a b (line ∷ [])
    → TookAll most took start b bytes
all_lines most took start a b bytes line kept same s more =
    subst (λ (ls : List (List ℕ)). TookMore took start b (map (take most) ls)) (sym s.2)
    (taken_line most took start a b bytes kept s (subst (λ (l : List ℕ). TookMore took a b (l ∷ [])) same more))

pub first_lines : {T : Type 0} (most : ℕ) (took : T → List (List ℕ) → T → Type 0) (start a b : T) (bytes more kept : List ℕ) → Stands most took start a bytes kept → TookNone took a b → TookSome most took start b (bytes ++ more)
first_lines most took start a b bytes more kept s none =
    let r = whole_stay more bytes s.0 s.1 s.2 in
    (map (take most) s.0, map (take most) r.0, ap (map (take most)) r.1 ∙ map-append (take most) s.0 r.0, took_then took start a b _ s.3 none)

pub first_lines_here : {T : Type 0} (most : ℕ) (took : T → List (List ℕ) → T → Type 0) (start a b : T) (bytes kept : List ℕ) → Stands most took start a bytes kept → TookNone took a b → TookSome most took start b bytes
first_lines_here most took start a b bytes kept s none =
    subst (TookSome most took start b) (append-nil bytes) (first_lines most took start a b bytes [] kept s none)

-- ---- pieces

pub goes_both : {T : Type 0} (most : ℕ) (took : T → List (List ℕ) → T → Type 0) (a b c : T) (kept between after xs ys zs : List ℕ) → GoesOn most took a b kept between xs → GoesOn most took b c between after ys → zs ≡ xs ++ ys → GoesOn most took a c kept after zs
goes_both most took a b c kept between after xs ys zs first second is start bytes s =
    subst (λ (l : List ℕ). Stands most took start c l after) (append_assoc bytes xs ys ∙ ap (λ (l : List ℕ). bytes ++ l) (sym is)) (second start (bytes ++ xs) (first start bytes s))

pub breaks_behind : {T : Type 0} (most : ℕ) (took : T → List (List ℕ) → T → Type 0) (a b c : T) (kept between xs ys zs : List ℕ) → GoesOn most took a b kept between xs → TookNone took b c → zs ≡ xs ++ ys → BreaksOff most took a c kept zs
breaks_behind most took a b c kept between xs ys zs first none is start bytes s =
    subst (TookSome most took start c) (append_assoc bytes xs ys ∙ ap (λ (l : List ℕ). bytes ++ l) (sym is)) (first_lines most took start b c (bytes ++ xs) ys between (first start bytes s) none)

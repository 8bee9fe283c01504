-- A whole frame is never told to be cut off: a feeder alone tells it, at the end.
use Rattle.std.proofs.Common.{◌≡◌, ℕ, ◌+◌, Bool, true, false, cond, ltb, List, length, Option, Some, None, Result, Ok, Err, refl, ap}
use Rattle.hk_types.specs.declared.faults.FormFault.{FormFault}
use Rattle.hk_types.specs.declared.faults.FormFault.TheVariants.{Truncated}
use Rattle.hk_frames.specs.Fields.{◌>>=◌, check}
use Rattle.hk_frames.specs.Framing.{len_of, rest_at, framed, value_of, BeginsAs}

-- is the fault another one
abbrev pub is_other : FormFault → Bool
is_other Truncated = false
is_other fault = true

-- is the fault another one, if there is one
abbrev pub is_whole : {A : Type 0} → Result A FormFault → Bool
is_whole (Ok x) = true
is_whole (Err fault) = is_other fault

-- ---- steps

pub bind_whole : {A B : Type 0} (r : Result A FormFault) (f : A → Result B FormFault) → is_whole r ≡ true → ((x : A) → is_whole (f x) ≡ true) → is_whole (r >>= f) ≡ true
bind_whole (Ok x) f h k = k x
bind_whole (Err fault) f h k = h

pub cond_whole : {A : Type 0} (b : Bool) (x y : Result A FormFault) → is_whole x ≡ true → is_whole y ≡ true → is_whole (cond b x y) ≡ true
cond_whole true x y h k = h
cond_whole false x y h k = k

pub check_whole : (b : Bool) (fault : FormFault) → is_other fault ≡ true → is_whole (check b fault) ≡ true
check_whole true fault h = h
check_whole false fault h = refl

abbrev pub Whole : {A : Type 0} → (List ℕ → Result A FormFault) → Type 0
Whole read = (bytes : List ℕ) → is_whole (read bytes) ≡ true

pub framed_whole : {X : Type 0} (least most : ℕ) (read : List ℕ → Result X FormFault) → Whole read → Whole (framed least most read)
unfolding framed rest_at
framed_whole least most read h bytes =
    bind_whole (rest_at least most bytes) _
    (cond_whole (ltb (length bytes) 4) _ _ refl
    (cond_whole (ltb most (len_of bytes)) _ _ refl
    (cond_whole (ltb (len_of bytes) least) _ _ refl
    (cond_whole (ltb (length bytes) (4 + len_of bytes)) _ _ refl refl))))
    (value_whole read h)
  where
    value_whole : {X : Type 0} (read : List ℕ → Result X FormFault) → Whole read → (rest : Option (List ℕ)) → is_whole (value_of read rest) ≡ true
    value_whole read h None = refl
    value_whole read h (Some rest) = bind_whole (read rest) _ (h rest) (λ _. refl)

-- what is read of frames whose rests are never told to be cut off
pub never_cut : {X Y T : Type 0} (seen : X → Y) (meant : T → Y) (least most : ℕ) (read : List ℕ → Result T FormFault) (rest_text : T → List ℕ) (HasText : T → Type 0) → Whole read
    → (text : List ℕ) (xs : List X) → BeginsAs seen meant least most read rest_text HasText text xs (Err Truncated) → ⊥
never_cut seen meant least most read rest_text HasText whole text xs h =
    let w : is_whole (framed least most read h.2.0) ≡ true = framed_whole least most read whole h.2.0 in
    let v : is_whole (framed least most read h.2.0) ≡ false = ap is_whole h.2.3 in
    absurd cc

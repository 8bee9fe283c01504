-- Frames of any kind of value: what is read is encoded so, and what is encoded is read again.
use Rattle.std.proofs.Common.{◌≡◌, ℕ, ◌+◌, ◌^◌, ◌<◌, ◌≤◌, ◌⊎◌, Bool, true, false, cond, ltb, List, ◌++◌, length, take, drop, Option, Some, None, Result, Ok, Err, refl, sym, ap, subst, ◌∙◌, append_assoc, arith, inl, inr}
use Rattle.std.specs.Int.{w32, from_be_bytes}
use Rattle.std.proofs.lemmas.Bool.{ltb-true, ltb-false, lt-ltb, le-ltb}
use Rattle.std.proofs.lemmas.List.{take-append-le, drop-append-le, take_at, take-append-drop, length-take, length-drop, length-append, drop-drop}
use Rattle.hk_types.specs.declared.faults.FormFault.{FormFault}
use Rattle.hk_types.specs.declared.faults.FormFault.TheVariants.{TooLong, WrongLength}
use Rattle.hk_frames.specs.Fields.{IsBytes, ◌>>=◌, mapped, number, number_at}
use Rattle.hk_frames.specs.Framing.{len_of, rest_at, value_of, framed, encoded, IsPartial, IsFormat}
use Rattle.hk_frames.proofs.ReadingSteps.{IsBytes-take, IsBytes-drop, bind_ok, done, ok_is}
use Rattle.hk_frames.proofs.Numbers.{wide32, number_takes, number_again, number_len}

-- ---- the rest

abbrev pub maybe : {A : Type 0} → Option A → Result (Option A) FormFault
maybe o = Ok o

otherwise : {A : Type 0} (b : Bool) (x y z : A) → (x ≡ z → ⊥) → cond b x y ≡ z → (b ≡ false) × (y ≡ z)
otherwise true x y z never e = absurd (never e)
otherwise false x y z never e = (refl, e)

chosen : {A : Type 0} (b : Bool) (x y z : A) → cond b x y ≡ z → ((b ≡ true) × (x ≡ z)) ⊎ ((b ≡ false) × (y ≡ z))
chosen true x y z e = inl (refl, e)
chosen false x y z e = inr (refl, e)

some_is : {A : Type 0} (x y : A) → maybe (Some x) ≡ maybe (Some y) → x ≡ y
some_is x y e = cc

-- a whole frame is there, and its rest is this
pub record HasRest (least most : ℕ) (bytes rest : List ℕ) : Type 0 where
  pub four : ltb (length bytes) 4 ≡ false
  pub at_most : ltb most (len_of bytes) ≡ false
  pub at_least : ltb (len_of bytes) least ≡ false
  pub long : ltb (length bytes) (4 + len_of bytes) ≡ false
  pub is : take (len_of bytes) (drop 4 bytes) ≡ rest

rest_is : (least most : ℕ) (bytes rest : List ℕ) → rest_at least most bytes ≡ Ok (Some rest) → HasRest least most bytes rest
unfolding rest_at
rest_is least most bytes rest e =
    let last : Result (Option (List ℕ)) FormFault = Ok (Some (take (len_of bytes) (drop 4 bytes))) in
    let a = otherwise (ltb (length bytes) 4) (Ok None) (cond (ltb most (len_of bytes)) (Err TooLong) (cond (ltb (len_of bytes) least) (Err WrongLength) (cond (ltb (length bytes) (4 + len_of bytes)) (Ok None) last))) (maybe (Some rest)) (λ h. cc) e in
    let b = otherwise (ltb most (len_of bytes)) (Err TooLong) (cond (ltb (len_of bytes) least) (Err WrongLength) (cond (ltb (length bytes) (4 + len_of bytes)) (Ok None) last)) (maybe (Some rest)) (λ h. cc) a.1 in
    let c = otherwise (ltb (len_of bytes) least) (Err WrongLength) (cond (ltb (length bytes) (4 + len_of bytes)) (Ok None) last) (maybe (Some rest)) (λ h. cc) b.1 in
    let d = otherwise (ltb (length bytes) (4 + len_of bytes)) (Ok None) last (maybe (Some rest)) (λ h. cc) c.1 in
    record { four = a.0; at_most = b.0; at_least = c.0; long = d.0; is = some_is (take (len_of bytes) (drop 4 bytes)) rest d.1 }

has_rest : (least most : ℕ) (bytes rest : List ℕ) → HasRest least most bytes rest → rest_at least most bytes ≡ Ok (Some rest)
unfolding rest_at
has_rest least most bytes rest h = rw (h.four, h.at_most, h.at_least, h.long, h.is) refl

-- how the bytes fall into the length, the rest and what is behind
pub record RestIs (bytes rest : List ℕ) : Type 0 where
  pub parts : bytes ≡ (number w32 (length rest) ++ rest) ++ drop (4 + length rest) bytes
  pub fits : 4 + length rest ≤ length bytes
  pub len : length rest ≡ len_of bytes
  pub bytes_fit : IsBytes rest

rest_takes : (least most : ℕ) (bytes rest : List ℕ) → IsBytes bytes → HasRest least most bytes rest → RestIs bytes rest
unfolding number_at
rest_takes least most bytes rest fits h =
    let four : 4 ≤ length bytes = ltb-false _ _ h.four in
    let long : 4 + len_of bytes ≤ length bytes = ltb-false _ _ h.long in
    let read : number_at w32 bytes ≡ Ok (len_of bytes, drop 4 bytes) = rw h.four refl in
    let t = number_takes w32 (2 ^ 32) wide32 bytes (len_of bytes, drop 4 bytes) fits read in
    let len : length (take (len_of bytes) (drop 4 bytes)) ≡ len_of bytes = omega (arith, length-take (len_of bytes) (drop 4 bytes), length-drop 4 bytes) in
    let split : drop 4 bytes ≡ take (len_of bytes) (drop 4 bytes) ++ drop (4 + len_of bytes) bytes = sym (take-append-drop (len_of bytes) (drop 4 bytes)) ∙ ap (λ (t : List ℕ). take (len_of bytes) (drop 4 bytes) ++ t) (drop-drop (len_of bytes) 4 bytes) in
    let whole : bytes ≡ (number w32 (len_of bytes) ++ take (len_of bytes) (drop 4 bytes)) ++ drop (4 + len_of bytes) bytes =
    t.0.parts ∙ ap (λ (r : List ℕ). number w32 (len_of bytes) ++ r) split ∙ sym (append_assoc (number w32 (len_of bytes)) (take (len_of bytes) (drop 4 bytes)) (drop (4 + len_of bytes) bytes)) in
    let made : RestIs bytes (take (len_of bytes) (drop 4 bytes)) = record {
      parts = subst (λ (k : ℕ). bytes ≡ (number w32 k ++ take (len_of bytes) (drop 4 bytes)) ++ drop (4 + k) bytes) (sym len) whole;
      fits = omega (arith, long, len);
      len = len;
      bytes_fit = IsBytes-take (len_of bytes) (drop 4 bytes) (IsBytes-drop 4 bytes fits);
    } in
    subst (λ (r : List ℕ). RestIs bytes r) h.is made

-- ---- frames

some_rest : {X : Type 0} (read : List ℕ → Result X FormFault) (o : Option (List ℕ)) (x : X × ℕ) → value_of read o ≡ Ok (Some x) → (rest : List ℕ) × (o ≡ Some rest) × (read rest ≡ Ok x.0) × (4 + length rest ≡ x.1)
some_rest read None x e = absurd cc
some_rest {X = X} read (Some rest) x e =
    let g = bind_ok (read rest) (λ y. Ok (Some (y, 4 + length rest))) (Some x) e in
    let same = some_is (g.0, 4 + length rest) x g.2 in
    (rest, refl, g.1 ∙ ap (λ (y : X × ℕ). Ok y.0) same, ap (λ (y : X × ℕ). y.1) same)

no_rest : {X : Type 0} (read : List ℕ → Result X FormFault) (o : Option (List ℕ)) → value_of read o ≡ Ok None → o ≡ None
no_rest read None e = refl
no_rest read (Some rest) e = let g = bind_ok (read rest) (λ y. Ok (Some (y, 4 + length rest))) None e in absurd cc

-- what a frame that was read is
pub record FrameIs {X : Type 0} (rest_text : X → List ℕ) (IsValue : X → Type 0) (bytes : List ℕ) (x : X) (n : ℕ) : Type 0 where
  pub parts : bytes ≡ encoded rest_text x ++ drop n bytes
  pub value : IsValue x
  pub least : 4 ≤ n
  pub fits : n ≤ length bytes

module _ {X : Type 0} (least most : ℕ) (read : List ℕ → Result X FormFault) (rest_text : X → List ℕ) (IsValue : X → Type 0) (format : IsFormat least most read rest_text IsValue) where
  pub frame_takes : (bytes : List ℕ) (x : X) (n : ℕ) → IsBytes bytes → framed least most read bytes ≡ Ok (Some (x, n)) → FrameIs rest_text IsValue bytes x n
  unfolding framed encoded
  frame_takes bytes x n fits e =
      let a = bind_ok (rest_at least most bytes) (value_of read) (Some (x, n)) e in
      let b = some_rest read a.0 (x, n) a.2 in
      let there : rest_at least most bytes ≡ Ok (Some b.0) = a.1 ∙ ap maybe b.1 in
      let has = rest_is least most bytes b.0 there in
      let r = rest_takes least most bytes b.0 fits has in
      let within : len_of bytes ≤ most = ltb-false _ _ has.at_most in
      let v = format.takes b.0 x r.bytes_fit (omega (arith, r.len, within)) b.2 in
      let whole : bytes ≡ (number w32 (length b.0) ++ b.0) ++ drop n bytes = subst (λ (k : ℕ). bytes ≡ (number w32 (length b.0) ++ b.0) ++ drop k bytes) b.3 r.parts in
      record {
        parts = subst (λ (t : List ℕ). bytes ≡ (number w32 (length t) ++ t) ++ drop n bytes) v.0 whole;
        value = v.1;
        least = omega (arith, b.3);
        fits = omega (arith, r.fits, b.3);
      }

-- ---- the length field

field_is : (n : ℕ) (rest : List ℕ) → n < 2 ^ 32 → (len_of (number w32 n ++ rest) ≡ n) × (drop 4 (number w32 n ++ rest) ≡ rest)
unfolding number_at
field_is n rest lt =
    let long : ltb (length (number w32 n ++ rest)) 4 ≡ false = le-ltb _ _ (omega (arith, length-append (number w32 n) rest, number_len w32 (2 ^ 32) wide32 n)) in
    let e : done (len_of (number w32 n ++ rest), drop 4 (number w32 n ++ rest)) ≡ done (n, rest) = sym (rw long refl) ∙ number_again w32 (2 ^ 32) wide32 n rest lt in
    let p = ok_is (len_of (number w32 n ++ rest), drop 4 (number w32 n ++ rest)) (n, rest) e in
    (ap (λ (x : ℕ × List ℕ). x.0) p, ap (λ (x : ℕ × List ℕ). x.1) p)

-- a length in its limits, and at least as many bytes behind it
encoded_has : (least most : ℕ) (rest behind : List ℕ) → most < 2 ^ 32 → least ≤ length rest → length rest ≤ most → HasRest least most (number w32 (length rest) ++ (rest ++ behind)) rest
encoded_has least most rest behind wide low high =
    let field = field_is (length rest) (rest ++ behind) (omega arith) in
    let whole : length (number w32 (length rest) ++ (rest ++ behind)) ≡ 4 + (length rest + length behind) = omega (arith, length-append (number w32 (length rest)) (rest ++ behind), length-append rest behind, number_len w32 (2 ^ 32) wide32 (length rest)) in
    let len : len_of (number w32 (length rest) ++ (rest ++ behind)) ≡ length rest = field.0 in
    record {
      four = le-ltb _ _ (omega (arith, whole));
      at_most = le-ltb _ _ (omega (arith, len));
      at_least = le-ltb _ _ (omega (arith, len));
      long = le-ltb _ _ (omega (arith, whole, len));
      is = rw (field.0, field.1) (take_at rest behind (length rest) refl);
    }

-- ---- less than a frame

partial_rest : (least most : ℕ) (bytes : List ℕ) → rest_at least most bytes ≡ Ok None → IsPartial least most bytes
unfolding rest_at
partial_rest least most bytes e =
    let none : Result (Option (List ℕ)) FormFault = Ok None in
    let last : Result (Option (List ℕ)) FormFault = Ok (Some (take (len_of bytes) (drop 4 bytes))) in
    elim (chosen (ltb (length bytes) 4) (Ok None) (cond (ltb most (len_of bytes)) (Err TooLong) (cond (ltb (len_of bytes) least) (Err WrongLength) (cond (ltb (length bytes) (4 + len_of bytes)) (Ok None) last))) none e) [
      | inl a ↦ inl (ltb-true _ _ a.0)
      | inr a ↦ elim (chosen (ltb most (len_of bytes)) (Err TooLong) (cond (ltb (len_of bytes) least) (Err WrongLength) (cond (ltb (length bytes) (4 + len_of bytes)) (Ok None) last)) none a.1) [
        | inl b ↦ absurd cc
        | inr b ↦ elim (chosen (ltb (len_of bytes) least) (Err WrongLength) (cond (ltb (length bytes) (4 + len_of bytes)) (Ok None) last) none b.1) [
          | inl c ↦ absurd cc
          | inr c ↦ elim (chosen (ltb (length bytes) (4 + len_of bytes)) (Ok None) last none c.1) [
            | inl d ↦ inr (ltb-false _ _ c.0, ltb-false _ _ b.0, ltb-true _ _ d.0)
            | inr d ↦ absurd cc
          ]
        ]
      ]
    ]

-- whatever a test gives, where both ways give the same
either_way : {A : Type 0} (b : Bool) (x y : A) → y ≡ x → cond b x y ≡ x
either_way true x y e = refl
either_way false x y e = e

rest_partial : (least most : ℕ) (bytes : List ℕ) → IsPartial least most bytes → rest_at least most bytes ≡ Ok None
unfolding rest_at
rest_partial least most bytes (inl few) = let a : ltb (length bytes) 4 ≡ true = lt-ltb _ _ few in rw a refl
rest_partial least most bytes (inr p) =
    let b : ltb most (len_of bytes) ≡ false = le-ltb _ _ p.1 in
    let c : ltb (len_of bytes) least ≡ false = le-ltb _ _ p.0 in
    let d : ltb (length bytes) (4 + len_of bytes) ≡ true = lt-ltb _ _ p.2 in
    either_way (ltb (length bytes) 4) (Ok None) _ (rw (b, c, d) refl)

pub partial_is : {X : Type 0} (least most : ℕ) (read : List ℕ → Result X FormFault) (bytes : List ℕ) → framed least most read bytes ≡ Ok None → IsPartial least most bytes
unfolding framed
partial_is least most read bytes e =
    let a = bind_ok (rest_at least most bytes) (value_of read) None e in
    partial_rest least most bytes (a.1 ∙ ap maybe (no_rest read a.0 a.2))

pub partial_again : {X : Type 0} (least most : ℕ) (read : List ℕ → Result X FormFault) (bytes : List ℕ) → IsPartial least most bytes → framed least most read bytes ≡ Ok None
unfolding framed
partial_again least most read bytes h = rw (rest_partial least most bytes h) refl

module _ {X : Type 0} (least most : ℕ) (read : List ℕ → Result X FormFault) (rest_text : X → List ℕ) (IsValue : X → Type 0) (format : IsFormat least most read rest_text IsValue) where
  pub frame_again : (x : X) (behind : List ℕ) → IsValue x → framed least most read (encoded rest_text x ++ behind) ≡ Ok (Some (x, length (encoded rest_text x)))
  unfolding framed encoded
  frame_again x behind h =
      let regrouped : (number w32 (length (rest_text x)) ++ rest_text x) ++ behind ≡ number w32 (length (rest_text x)) ++ (rest_text x ++ behind) = append_assoc (number w32 (length (rest_text x))) (rest_text x) behind in
      let size : length (number w32 (length (rest_text x)) ++ rest_text x) ≡ 4 + length (rest_text x) = omega (arith, length-append (number w32 (length (rest_text x))) (rest_text x), number_len w32 (2 ^ 32) wide32 (length (rest_text x))) in
      let there = has_rest least most (number w32 (length (rest_text x)) ++ (rest_text x ++ behind)) (rest_text x) (encoded_has least most (rest_text x) behind format.in_width (format.at_least x h) (format.at_most x h)) in
      rw (regrouped, there, format.again x h, size) refl

-- ---- more bytes behind

-- the length field stays
pub len_stays : (bytes more : List ℕ) → 4 ≤ length bytes → len_of (bytes ++ more) ≡ len_of bytes
len_stays bytes more four = ap (from_be_bytes w32) (take-append-le 4 bytes more four)

rest_stays : (least most : ℕ) (bytes more : List ℕ) (r : Result (Option (List ℕ)) FormFault) → rest_at least most bytes ≡ r → (r ≡ Ok None → ⊥) → rest_at least most (bytes ++ more) ≡ r
unfolding rest_at
rest_stays least most bytes more r e never =
    let none : Result (Option (List ℕ)) FormFault = Ok None in
    let last : Result (Option (List ℕ)) FormFault = Ok (Some (take (len_of bytes) (drop 4 bytes))) in
    let a = otherwise (ltb (length bytes) 4) none (cond (ltb most (len_of bytes)) (Err TooLong) (cond (ltb (len_of bytes) least) (Err WrongLength) (cond (ltb (length bytes) (4 + len_of bytes)) none last))) r (λ h. never (sym h)) e in
    let four : 4 ≤ length bytes = ltb-false _ _ a.0 in
    let len : len_of (bytes ++ more) ≡ len_of bytes = len_stays bytes more four in
    let four_more : ltb (length (bytes ++ more)) 4 ≡ false = le-ltb _ _ (omega (arith, length-append bytes more)) in
    rw (four_more, len) (elim (chosen (ltb most (len_of bytes)) (Err TooLong) (cond (ltb (len_of bytes) least) (Err WrongLength) (cond (ltb (length bytes) (4 + len_of bytes)) none last)) r a.1) [
      | inl b ↦ rw b.0 b.1
      | inr b ↦ rw b.0 (elim (chosen (ltb (len_of bytes) least) (Err WrongLength) (cond (ltb (length bytes) (4 + len_of bytes)) none last) r b.1) [
        | inl c ↦ rw c.0 c.1
        | inr c ↦
            let d = otherwise (ltb (length bytes) (4 + len_of bytes)) none last r (λ h. never (sym h)) c.1 in
            let long : 4 + len_of bytes ≤ length bytes = ltb-false _ _ d.0 in
            let long_more : ltb (length (bytes ++ more)) (4 + len_of bytes) ≡ false = le-ltb _ _ (omega (arith, length-append bytes more)) in
            let same : take (len_of bytes) (drop 4 (bytes ++ more)) ≡ take (len_of bytes) (drop 4 bytes) = rw drop-append-le (take-append-le (len_of bytes) (drop 4 bytes) more (omega (arith, length-drop 4 bytes))) in
            rw (c.0, long_more, same) d.1
      ])
    ])

no_fault : {A : Type 0} {f : FormFault} → maybe {A = A} None ≡ Err f → ⊥
no_fault e = cc

-- a fault stays, whatever follows
pub fault_stays : {X : Type 0} (least most : ℕ) (read : List ℕ → Result X FormFault) (bytes more : List ℕ) (f : FormFault) → framed least most read bytes ≡ Err f → framed least most read (bytes ++ more) ≡ Err f
unfolding framed
fault_stays {X = X} least most read bytes more f e =
    let never : rest_at least most bytes ≡ Ok None → ⊥ = λ h. no_fault (sym (ap (λ (r : Result (Option (List ℕ)) FormFault). r >>= value_of read) h) ∙ e) in
    ap (λ (r : Result (Option (List ℕ)) FormFault). r >>= value_of read) (rest_stays least most bytes more (rest_at least most bytes) refl never) ∙ e

-- the length field of a frame says how long it is
pub encoded_len : {X : Type 0} (least most : ℕ) (read : List ℕ → Result X FormFault) (rest_text : X → List ℕ) (IsValue : X → Type 0) (format : IsFormat least most read rest_text IsValue) (x : X) (behind : List ℕ) → IsValue x → length (encoded rest_text x) ≡ 4 + len_of (encoded rest_text x ++ behind)
unfolding encoded
encoded_len least most read rest_text IsValue format x behind h =
    let size : length (number w32 (length (rest_text x)) ++ rest_text x) ≡ 4 + length (rest_text x) = omega (arith, length-append (number w32 (length (rest_text x))) (rest_text x), number_len w32 (2 ^ 32) wide32 (length (rest_text x))) in
    let field = field_is (length (rest_text x)) (rest_text x ++ behind) (omega (arith, format.at_most x h, format.in_width)) in
    size ∙ ap (λ (k : ℕ). 4 + k) (sym field.0 ∙ ap len_of (sym (append_assoc (number w32 (length (rest_text x))) (rest_text x) behind)))

-- ---- what is seen of a frame

-- what is seen of a frame that was read, where one is there
abbrev pub frame_seen : {T Y : Type 0} → (T → Y) → Option (T × ℕ) → Option (Y × ℕ)
frame_seen meant None = None
frame_seen meant (Some x) = Some (meant x.0, x.1)

rest_seen : {T Y : Type 0} (meant : T → Y) (n : ℕ) (r : Result T FormFault) → (mapped meant r >>= λ y. Ok (Some (y, n))) ≡ mapped (frame_seen meant) (r >>= λ t. Ok (Some (t, n)))
rest_seen meant n (Ok t) = refl
rest_seen meant n (Err f) = refl

value_seen : {T Y : Type 0} (meant : T → Y) (read : List ℕ → Result T FormFault) (r : Result (Option (List ℕ)) FormFault) → (r >>= value_of (λ rest. mapped meant (read rest))) ≡ mapped (frame_seen meant) (r >>= value_of read)
value_seen meant read (Err f) = refl
value_seen meant read (Ok None) = refl
value_seen meant read (Ok (Some rest)) = rest_seen meant (4 + length rest) (read rest)

-- a frame, read for what is seen of its value
pub framed_seen : {T Y : Type 0} (meant : T → Y) (least most : ℕ) (read : List ℕ → Result T FormFault) (bytes : List ℕ) → framed least most (λ rest. mapped meant (read rest)) bytes ≡ mapped (frame_seen meant) (framed least most read bytes)
unfolding framed
framed_seen meant least most read bytes = value_seen meant read (rest_at least most bytes)

abbrev seen_frame : {Y : Type 0} → Option (Y × ℕ) → Result (Option (Y × ℕ)) FormFault
seen_frame o = Ok o

frame_told : {T Y : Type 0} (meant : T → Y) (r : Result (Option (T × ℕ)) FormFault) (y : Y) (n : ℕ) → mapped (frame_seen meant) r ≡ seen_frame (Some (y, n)) → (t : T) × (r ≡ Ok (Some (t, n))) × (y ≡ meant t)
frame_told meant (Err f) y n e = absurd cc
frame_told meant (Ok None) y n e = absurd cc
frame_told {Y = Y} meant (Ok (Some x)) y n e =
    let p = some_is (meant x.0, x.1) (y, n) e in
    (x.0, ap (λ (k : ℕ). Ok (Some (x.0, k))) (ap (λ (z : Y × ℕ). z.1) p), sym (ap (λ (z : Y × ℕ). z.0) p))

none_told : {T Y : Type 0} (meant : T → Y) (r : Result (Option (T × ℕ)) FormFault) → mapped (frame_seen meant) r ≡ seen_frame None → r ≡ Ok None
none_told meant (Err f) e = absurd cc
none_told meant (Ok None) e = refl
none_told meant (Ok (Some x)) e = absurd cc

fault_told : {T Y : Type 0} (meant : T → Y) (r : Result (Option (T × ℕ)) FormFault) (f : FormFault) → mapped (frame_seen meant) r ≡ Err f → r ≡ Err f
fault_told meant (Err g) f e = cc
fault_told meant (Ok None) f e = absurd cc
fault_told meant (Ok (Some x)) f e = absurd cc

module _ {T Y : Type 0} (meant : T → Y) (least most : ℕ) (read : List ℕ → Result T FormFault) (bytes : List ℕ) where
  pub frame_is_told : (y : Y) (n : ℕ) → framed least most (λ rest. mapped meant (read rest)) bytes ≡ Ok (Some (y, n)) → (t : T) × (framed least most read bytes ≡ Ok (Some (t, n))) × (y ≡ meant t)
  frame_is_told y n e = frame_told meant (framed least most read bytes) y n (sym (framed_seen meant least most read bytes) ∙ e)

  pub no_frame_is_told : framed least most (λ rest. mapped meant (read rest)) bytes ≡ Ok None → framed least most read bytes ≡ Ok None
  no_frame_is_told e = none_told meant (framed least most read bytes) (sym (framed_seen meant least most read bytes) ∙ e)

  pub frame_fault_is_told : (f : FormFault) → framed least most (λ rest. mapped meant (read rest)) bytes ≡ Err f → framed least most read bytes ≡ Err f
  frame_fault_is_told f e = fault_told meant (framed least most read bytes) f (sym (framed_seen meant least most read bytes) ∙ e)

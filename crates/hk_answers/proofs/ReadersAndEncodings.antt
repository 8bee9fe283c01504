-- Readers and encodings that undo each other, and how they are put together.
use Rattle.std.proofs.Common.{◌≡◌, ℕ, zero, suc, ◌^◌, ◌<◌, ◌≤◌, Bool, true, false, not, ◌||◌, cond, eqb, ltb, leb, List, [], ◌∷◌, ◌++◌, length, Result, Ok, refl, sym, ap, subst, ◌∙◌, append_assoc, arith, Option, Some, None}
use Rattle.std.specs.List.{flat_map}
use Rattle.std.proofs.lemmas.List.Concat.{flat_map-cons}
use Rattle.std.specs.Int.{Width, w16, w32, w64}
use Rattle.std.proofs.lemmas.Bool.{ltb-false, le-ltb, eqb-true, not-false, not_from_true, not-true}
use Rattle.hk_types.specs.declared.faults.FormFault.{FormFault}
use Rattle.hk_types.specs.declared.faults.FormFault.TheVariants.{BadStream, BadNumber}
use Rattle.hk_frames.specs.Fields.{IsBytes, ◌>>=◌, check, number, byte_at, number_at, list_at}
use Rattle.hk_frames.proofs.ReadingSteps.{bind_ok, check_ok, ok_is, Takes, Takes-then}
use Rattle.hk_frames.proofs.Numbers.{IsWide, wide16, wide32, wide64, number_takes, number_again}
use Rattle.hk_codec.proofs.ReadFields.{byte_takes}
use Rattle.hk_answers.specs.Readers.{Reader, both, fault_where, mapped_value, by_kind, list_by, list_by_count, time_at, Chained, positive_at, is_ops, ops_at, front_at, stream_count_at}

-- what is read is encoded so, and what is encoded so is read again
pub record IsField {X : Type 0} (read : Reader X) (text : X → List ℕ) (Is : X → Type 0) : Type 0 where
  pub takes : (bytes : List ℕ) (x : X × List ℕ) → IsBytes bytes → read bytes ≡ Ok x → Takes bytes (text x.0) x.1 × Is x.0
  pub again : (x : X) (rest : List ℕ) → Is x → read (text x ++ rest) ≡ Ok (x, rest)

pub number_field : (w : Width) (limit : ℕ) → IsWide w limit → IsField (number_at w) (number w) (λ n. n < limit)
number_field w limit wide = record { takes = λ bytes x fits e. number_takes w limit wide bytes x fits e; again = λ n rest lt. number_again w limit wide n rest lt }

pub field16 : IsField (number_at w16) (number w16) (λ n. n < 2 ^ 16)
field16 = number_field w16 (2 ^ 16) wide16

pub field32 : IsField (number_at w32) (number w32) (λ n. n < 2 ^ 32)
field32 = number_field w32 (2 ^ 32) wide32

pub field64 : IsField (number_at w64) (number w64) (λ n. n < 2 ^ 64)
field64 = number_field w64 (2 ^ 64) wide64

-- one after the other
pub both_field : {A B : Type 0} (a : Reader A) (b : Reader B) (s : A → List ℕ) (t : B → List ℕ) (P : A → Type 0) (Q : B → Type 0) → IsField a s P → IsField b t Q → IsField (both a b) (λ p. s p.0 ++ t p.1) (λ p. P p.0 × Q p.1)
both_field {A = A} {B = B} a b s t P Q f g =
    record {
      takes = λ bytes x fits e.
          let y = bind_ok (a bytes) (λ p. b p.1 >>= λ q. Ok ((p.0, q.0), q.1)) x e in
          let z = bind_ok (b y.0.1) (λ q. Ok ((y.0.0, q.0), q.1)) x y.2 in
          let u = f.takes bytes y.0 fits y.1 in
          let v = g.takes y.0.1 z.0 u.0.rest_fits z.1 in
          subst (λ (p : (A × B) × List ℕ). Takes bytes (s p.0.0 ++ t p.0.1) p.1 × (P p.0.0 × Q p.0.1)) {x = ((y.0.0, z.0.0), z.0.1)} (ok_is ((y.0.0, z.0.0), z.0.1) x z.2)
          (Takes-then bytes (s y.0.0) y.0.1 (t z.0.0) z.0.1 u.0 v.0, (u.1, v.1));
      again = λ p rest h.
          ap (both a b) (append_assoc (s p.0) (t p.1) rest)
          ∙ ap (λ (r : Result (A × List ℕ) FormFault). r >>= λ x. b x.1 >>= λ y. Ok ((x.0, y.0), y.1)) (f.again p.0 (t p.1 ++ rest) h.0)
          ∙ ap (λ (r : Result (B × List ℕ) FormFault). r >>= λ y. Ok ((p.0, y.0), y.1)) (g.again p.1 rest h.1);
    }

-- with a fault where the value is barred
pub barred_field : {A : Type 0} (a : Reader A) (bad : A → Bool) (fault : FormFault) (s : A → List ℕ) (P : A → Type 0) → IsField a s P → IsField (fault_where a bad fault) s (λ x. P x × (bad x ≡ false))
barred_field {A = A} a bad fault s P f =
    record {
      takes = λ bytes x fits e.
          let y = bind_ok (a bytes) (λ p. check (bad p.0) fault >>= λ _. Ok p) x e in
          let z = check_ok (bad y.0.0) fault (λ _. Ok y.0) x y.2 in
          let u = f.takes bytes y.0 fits y.1 in
          subst (λ (p : A × List ℕ). Takes bytes (s p.0) p.1 × (P p.0 × (bad p.0 ≡ false))) {x = y.0} (ok_is y.0 x z.1) (u.0, (u.1, z.0));
      again = λ x rest h.
          ap (λ (r : Result (A × List ℕ) FormFault). r >>= λ p. check (bad p.0) fault >>= λ _. Ok p) (f.again x rest h.0)
          ∙ ap (λ (b : Bool). check b fault >>= λ _. Ok (x, rest)) h.1;
    }

-- said of the values otherwise
pub same_field : {X : Type 0} (r : Reader X) (s : X → List ℕ) (P Q : X → Type 0) → ((x : X) → P x → Q x) → ((x : X) → Q x → P x) → IsField r s P → IsField r s Q
same_field r s P Q there back f =
    record {
      takes = λ bytes x fits e. let u = f.takes bytes x fits e in (u.0, there x.0 u.1);
      again = λ x rest h. f.again x rest (back x h);
    }

-- with a fault where the value breaks a rule
pub kept_field : {A : Type 0} (a : Reader A) (keeps : A → Bool) (fault : FormFault) (s : A → List ℕ) (P : A → Type 0) → IsField a s P → IsField (fault_where a (λ x. not (keeps x)) fault) s (λ x. P x × (keeps x ≡ true))
kept_field a keeps fault s P f =
    same_field (fault_where a (λ x. not (keeps x)) fault) s (λ x. P x × (not (keeps x) ≡ false)) (λ x. P x × (keeps x ≡ true))
    (λ x h. (h.0, not-false (keeps x) h.1)) (λ x h. (h.0, not_from_true (keeps x) h.1)) (barred_field a (λ x. not (keeps x)) fault s P f)

pub time_field : IsField time_at (number w64) (λ n. n ≤ 2 ^ 62)
unfolding time_at
time_field =
    same_field (fault_where (number_at w64) (λ n. ltb (2 ^ 62) n) BadNumber) (number w64) (λ n. (n < 2 ^ 64) × (ltb (2 ^ 62) n ≡ false)) (λ n. n ≤ 2 ^ 62)
    (λ n h. ltb-false (2 ^ 62) n h.1) (λ n h. (omega (arith, h), le-ltb (2 ^ 62) n h))
    (barred_field (number_at w64) (λ n. ltb (2 ^ 62) n) BadNumber (number w64) (λ n. n < 2 ^ 64) field64)

-- what is made of a value, where the value can be made back
pub made_field : {A B : Type 0} (f : A → B) (g : B → A) (r : Reader A) (s : A → List ℕ) (t : B → List ℕ) (P : A → Type 0) (Q : B → Type 0) → IsField r s P
    → ((a : A) → P a → (s a ≡ t (f a)) × Q (f a)) → ((b : B) → Q b → (f (g b) ≡ b) × ((t b ≡ s (g b)) × P (g b))) → IsField (mapped_value f r) t Q
made_field {A = A} {B = B} f g r s t P Q field there back =
    record {
      takes = λ bytes x fits e.
          let y = bind_ok (r bytes) (λ a. Ok (f a.0, a.1)) x e in
          let u = field.takes bytes y.0 fits y.1 in
          let v = there y.0.0 u.1 in
          subst (λ (p : B × List ℕ). Takes bytes (t p.0) p.1 × Q p.0) {x = (f y.0.0, y.0.1)} (ok_is (f y.0.0, y.0.1) x y.2)
          (subst (λ (w : List ℕ). Takes bytes w y.0.1) v.0 u.0, v.1);
      again = λ b rest h.
          let v = back b h in
          ap (λ (w : List ℕ). mapped_value f r (w ++ rest)) v.1.0
          ∙ ap (λ (y : Result (A × List ℕ) FormFault). y >>= λ p. Ok (f p.0, p.1)) (field.again (g b) rest v.1.1)
          ∙ ap (λ (c : B). Ok (c, rest)) v.0;
    }

-- ---- numbers with rules

pub not_zero : (n : ℕ) → eqb n 0 ≡ false → not (eqb n 0) ≡ true
not_zero n e = rw e refl

pub positive_field : IsField positive_at (number w64) (λ n. (n < 2 ^ 64) × (not (eqb n 0) ≡ true))
unfolding positive_at
positive_field =
    same_field _ (number w64) (λ n. (n < 2 ^ 64) × (eqb n 0 ≡ false)) (λ n. (n < 2 ^ 64) × (not (eqb n 0) ≡ true)) (λ n h. (h.0, not_zero n h.1)) (λ n h. (h.0, not-true (eqb n 0) h.1))
    (barred_field (number_at w64) (λ n. eqb n 0) BadNumber (number w64) (λ n. n < 2 ^ 64) field64)

pub ops_field : IsField ops_at (number w64) (λ n. (n < 2 ^ 64) × (is_ops n ≡ true))
unfolding ops_at
ops_field = kept_field (number_at w64) is_ops BadNumber (number w64) (λ n. n < 2 ^ 64) field64

abbrev pub AreTimes : ℕ × ℕ → Type 0
AreTimes p = (p.0 ≤ 2 ^ 62) × (p.1 ≤ 2 ^ 62)

pub front_field : IsField front_at (λ p. number w64 p.0 ++ number w64 p.1) (λ p. AreTimes p × (leb p.0 p.1 ≡ true))
unfolding front_at
front_field =
    kept_field (both time_at time_at) (λ p. leb p.0 p.1) BadNumber _ AreTimes
    (both_field time_at time_at (number w64) (number w64) (λ n. n ≤ 2 ^ 62) (λ n. n ≤ 2 ^ 62) time_field time_field)

pub or_false : (a b : Bool) → a ≡ false → b ≡ false → (a || b) ≡ false
or_false true b p q = absurd cc
or_false false b p q = q

abbrev pub StreamCount : ℕ → Type 0
StreamCount n = (n < 2 ^ 16) × ((ltb n 1 || ltb 64 n) ≡ false)

pub stream_count_field : IsField stream_count_at (number w16) StreamCount
unfolding stream_count_at
stream_count_field = barred_field (number_at w16) (λ n. ltb n 1 || ltb 64 n) BadStream (number w16) (λ n. n < 2 ^ 16) field16

-- ---- kinds

-- a reader by kinds and an encoding that undo each other
pub record AreKinds {X : Type 0} (of_kind : ℕ → Reader X) (kind : X → ℕ) (text : X → List ℕ) (Is : X → Type 0) : Type 0 where
  pub takes : (k : ℕ) (bytes : List ℕ) (x : X × List ℕ) → IsBytes bytes → of_kind k bytes ≡ Ok x → (kind x.0 ≡ k) × (Takes bytes (text x.0) x.1 × Is x.0)
  pub again : (x : X) (rest : List ℕ) → Is x → of_kind (kind x) (text x ++ rest) ≡ Ok (x, rest)

pub kinded_field : {X : Type 0} (of_kind : ℕ → Reader X) (kind : X → ℕ) (text : X → List ℕ) (Is : X → Type 0) → AreKinds of_kind kind text Is → IsField (by_kind of_kind) (λ x. kind x ∷ text x) Is
unfolding byte_at
kinded_field {X = X} of_kind kind text Is f =
    record {
      takes = λ bytes x fits e.
          let y = bind_ok (byte_at bytes) (λ k. of_kind k.0 k.1) x e in
          let t = byte_takes bytes y.0 fits y.1 in
          let u = f.takes y.0.0 y.0.1 x t.rest_fits y.2 in
          (subst (λ (k : ℕ). Takes bytes (k ∷ text x.0) x.1) (sym u.0) (Takes-then bytes (y.0.0 ∷ []) y.0.1 (text x.0) x.1 t u.1.0), u.1.1);
      again = λ x rest h. f.again x rest h;
    }

-- the case of a kind: this one, or one of the others
pub this_or : {A : Type 0} (k c : ℕ) (x y : Result A FormFault) (z : A) (P : Type 0) → cond (eqb k c) x y ≡ Ok z → (k ≡ c → x ≡ Ok z → P) → (y ≡ Ok z → P) → P
this_or k c x y z P e this other = by (eqb k c) refl e
  where
    by : (b : Bool) → eqb k c ≡ b → cond b x y ≡ Ok z → P
    by true t f = this (eqb-true k c t) f
    by false t f = other f

-- a value of a kind, made of what a reader gives
pub made_takes : {A X : Type 0} (f : A → X) (r : Reader A) (s : A → List ℕ) (P : A → Type 0) → IsField r s P
    → (kind : X → ℕ) (text : X → List ℕ) (Is : X → Type 0) (k : ℕ) → ((a : A) → kind (f a) ≡ k) → ((a : A) → text (f a) ≡ s a) → ((a : A) → P a → Is (f a))
    → (bytes : List ℕ) (x : X × List ℕ) → IsBytes bytes → mapped_value f r bytes ≡ Ok x → (kind x.0 ≡ k) × (Takes bytes (text x.0) x.1 × Is x.0)
made_takes {A = A} {X = X} f r s P field kind text Is k kinds texts is bytes x fits e =
    let y = bind_ok (r bytes) (λ a. Ok (f a.0, a.1)) x e in
    let u = field.takes bytes y.0 fits y.1 in
    subst (λ (p : X × List ℕ). (kind p.0 ≡ k) × (Takes bytes (text p.0) p.1 × Is p.0)) {x = (f y.0.0, y.0.1)} (ok_is (f y.0.0, y.0.1) x y.2)
    (kinds y.0.0, (subst (λ (t : List ℕ). Takes bytes t y.0.1) (sym (texts y.0.0)) u.0, is y.0.0 u.1))

pub nothing_takes : {X : Type 0} (v : X) (kind : X → ℕ) (text : X → List ℕ) (Is : X → Type 0) (k : ℕ) → kind v ≡ k → text v ≡ [] → Is v
    → (bytes : List ℕ) (x : X × List ℕ) → IsBytes bytes → ◌≡◌ {A = Result (X × List ℕ) FormFault} (Ok (v, bytes)) (Ok x) → (kind x.0 ≡ k) × (Takes bytes (text x.0) x.1 × Is x.0)
nothing_takes {X = X} v kind text Is k kinds texts is bytes x fits e =
    subst (λ (p : X × List ℕ). (kind p.0 ≡ k) × (Takes bytes (text p.0) p.1 × Is p.0)) {x = (v, bytes)} (ok_is (v, bytes) x e)
    (kinds, (subst (λ (t : List ℕ). Takes bytes t bytes) (sym texts) (record { parts = refl; rest_fits = fits }), is))

pub made_again : {A X : Type 0} (f : A → X) (r : Reader A) (s : A → List ℕ) (P : A → Type 0) → IsField r s P → (a : A) (rest : List ℕ) → P a → mapped_value f r (s a ++ rest) ≡ Ok (f a, rest)
made_again {A = A} f r s P field a rest h = ap (λ (y : Result (A × List ℕ) FormFault). y >>= λ p. Ok (f p.0, p.1)) (field.again a rest h)

-- ---- messages

-- ---- lists

pub record ListIs {X P : Type 0} (place : X → P) (text : X → List ℕ) (Fit : Option P → X → Type 0) (n : ℕ) (before : Option P) (bytes : List ℕ) (xs : List X) (rest : List ℕ) : Type 0 where
  pub takes : Takes bytes (flat_map text xs) rest
  pub len : length xs ≡ n
  pub each : Chained place Fit before xs

module _ {X P : Type 0} (place : X → P) (one : Option P → Reader X) (text : X → List ℕ) (Fit : Option P → X → Type 0) (field : (before : Option P) → IsField (one before) text (Fit before)) where
  list_takes : (n : ℕ) (before : Option P) (bytes : List ℕ) (x : List X × List ℕ) → IsBytes bytes → list_at place one n before bytes ≡ Ok x → ListIs place text Fit n before bytes x.0 x.1
  unfolding list_at
  list_takes zero before bytes x fits e =
      subst (λ (y : List X × List ℕ). ListIs place text Fit 0 before bytes y.0 y.1) {x = ([], bytes)} (ok_is ([], bytes) x e) (record { takes = record { parts = refl; rest_fits = fits }; len = refl; each = tt })
  list_takes (suc n) before bytes x fits e =
      let a = bind_ok (one before bytes) (λ first. list_at place one n (Some (place first.0)) first.1 >>= λ others. Ok (first.0 ∷ others.0, others.1)) x e in
      let b = bind_ok (list_at place one n (Some (place a.0.0)) a.0.1) (λ others. Ok (a.0.0 ∷ others.0, others.1)) x a.2 in
      let first = (field before).takes bytes a.0 fits a.1 in
      let second = list_takes n (Some (place a.0.0)) a.0.1 b.0 first.0.rest_fits b.1 in
      let both = Takes-then bytes (text a.0.0) a.0.1 (flat_map text b.0.0) b.0.1 first.0 second.takes in
      let whole : Takes bytes (flat_map text (a.0.0 ∷ b.0.0)) b.0.1 = rw flat_map-cons both in
      subst (λ (y : List X × List ℕ). ListIs place text Fit (suc n) before bytes y.0 y.1) {x = (a.0.0 ∷ b.0.0, b.0.1)} (ok_is (a.0.0 ∷ b.0.0, b.0.1) x b.2)
      (record { takes = whole; len = ap suc second.len; each = (first.1, second.each) })

  list_again : (xs : List X) (before : Option P) (rest : List ℕ) → Chained place Fit before xs → list_at place one (length xs) before (flat_map text xs ++ rest) ≡ Ok (xs, rest)
  unfolding list_at
  list_again [] before rest h = refl
  list_again (x ∷ xs) before rest h =
      let regrouped : flat_map text (x ∷ xs) ++ rest ≡ text x ++ (flat_map text xs ++ rest) = ap (λ (t : List ℕ). t ++ rest) (flat_map-cons text x xs) ∙ append_assoc (text x) (flat_map text xs) rest in
      ap (list_at place one (suc (length xs)) before) regrouped
      ∙ rw ((field before).again x (flat_map text xs ++ rest) h.0, list_again xs (Some (place x)) rest h.1) refl

  pub many_field : (n : ℕ) → IsField (list_at place one n None) (flat_map text) (λ xs. (length xs ≡ n) × Chained place Fit None xs)
  many_field n =
      record {
        takes = λ bytes x fits e. let l = list_takes n None bytes x fits e in (l.takes, (l.len, l.each));
        again = λ xs rest h. ap (λ (k : ℕ). list_at place one k None (flat_map text xs ++ rest)) (sym h.0) ∙ list_again xs None rest h.1;
      }

  pub listed_field : (w : Width) (count_at : Reader ℕ) (Most : ℕ → Type 0) → IsField count_at (number w) Most → IsField (list_by count_at place one) (λ xs. number w (length xs) ++ flat_map text xs) (λ xs. Most (length xs) × Chained place Fit None xs)
  listed_field w count_at Most counts =
      record {
        takes = λ bytes x fits e.
            let a = bind_ok (count_at bytes) (λ count. list_at place one count.0 None count.1) x e in
            let t = counts.takes bytes a.0 fits a.1 in
            let l = list_takes a.0.0 None a.0.1 x t.0.rest_fits a.2 in
            let both = Takes-then bytes (number w a.0.0) a.0.1 (flat_map text x.0) x.1 t.0 l.takes in
            (subst (λ (k : ℕ). Takes bytes (number w k ++ flat_map text x.0) x.1) (sym l.len) both, (subst Most (sym l.len) t.1, l.each));
        again = λ xs rest h.
            ap (list_by count_at place one) (append_assoc (number w (length xs)) (flat_map text xs) rest)
            ∙ ap (λ (r : Result (ℕ × List ℕ) FormFault). r >>= λ count. list_at place one count.0 None count.1) (counts.again (length xs) (flat_map text xs ++ rest) h.0)
            ∙ list_again xs None rest h.1;
      }

  pub counted_field : IsField (list_by_count place one) (λ xs. number w32 (length xs) ++ flat_map text xs) (λ xs. (length xs < 2 ^ 32) × Chained place Fit None xs)
  counted_field = listed_field w32 (number_at w32) (λ n. n < 2 ^ 32) field32

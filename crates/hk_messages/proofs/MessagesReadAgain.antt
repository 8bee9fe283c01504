-- Messages: what is read is encoded so, and what is encoded so is read again.
use Rattle.std.proofs.Common.{◌≡◌, ℕ, ◌≤◌, Bool, true, false, not, cond, eqb, ltb, leb, List, [], ◌∷◌, ◌++◌, length, Result, Ok, refl, sym, ap, subst, ◌∙◌, arith}
use Rattle.std.proofs.lemmas.Bool.{ltb-false, le-leb, leb-true, eqb-true, eq-eqb, not-false, and_from}
use Rattle.std.proofs.lemmas.List.{append-nil, nil_from_length}
use Rattle.hk_types.specs.declared.faults.FormFault.{FormFault}
use Rattle.hk_types.specs.declared.faults.FormFault.TheVariants.{BadKind, BadVersion, WrongLength}
use Rattle.hk_frames.specs.Fields.{IsBytes, ◌>>=◌, check, byte_at}
use Rattle.hk_frames.specs.Framing.{IsFormat}
use Rattle.hk_frames.proofs.ReadingSteps.{bind_ok, check_ok, ok_is, Takes, Takes-then, both as both_true}
use Rattle.hk_codec.proofs.ReadFields.{byte_takes}
use Rattle.hk_answers.specs.Readers.{Reader}
use Rattle.hk_answers.proofs.ReadersAndEncodings.{AreKinds}
use Rattle.hk_message_head.specs.Messages.{version_of, message_text, is_read, head_at, message_at}

-- ---- versions

pub at_most_two : (kind : ℕ) → version_of kind ≤ 2
at_most_two kind = by (ltb kind 48)
  where
    by : (b : Bool) → cond b 1 2 ≤ 2
    by true = omega arith
    by false = omega arith

at_least_one : (kind : ℕ) → leb 1 (version_of kind) ≡ true
at_least_one kind = by (ltb kind 48)
  where
    by : (b : Bool) → leb 1 (cond b 1 2) ≡ true
    by true = refl
    by false = refl

-- ---- heads

-- what holds of a head that was read
pub record HeadTaken (latest : ℕ) (bytes : List ℕ) (x : ℕ × List ℕ) : Type 0 where
  pub parts : Takes bytes (version_of x.0 ∷ x.0 ∷ []) x.1
  pub within : version_of x.0 ≤ latest

head_takes : (latest : ℕ) (bytes : List ℕ) (x : ℕ × List ℕ) → IsBytes bytes → head_at latest bytes ≡ Ok x → HeadTaken latest bytes x
unfolding head_at
head_takes latest bytes x fits e =
    let a = bind_ok (byte_at bytes) (λ version. check (not (is_read latest version.0)) BadVersion >>= λ _. byte_at version.1 >>= λ kind. check (not (eqb (version_of kind.0) version.0)) BadKind >>= λ _. Ok kind) x e in
    let b = check_ok (not (is_read latest a.0.0)) BadVersion (λ _. byte_at a.0.1 >>= λ kind. check (not (eqb (version_of kind.0) a.0.0)) BadKind >>= λ _. Ok kind) x a.2 in
    let c = bind_ok (byte_at a.0.1) (λ kind. check (not (eqb (version_of kind.0) a.0.0)) BadKind >>= λ _. Ok kind) x b.1 in
    let d = check_ok (not (eqb (version_of c.0.0) a.0.0)) BadKind (λ _. Ok c.0) x c.2 in
    let t = byte_takes bytes a.0 fits a.1 in
    let u = byte_takes a.0.1 c.0 t.rest_fits c.1 in
    let same : version_of c.0.0 ≡ a.0.0 = eqb-true (version_of c.0.0) a.0.0 (not-false (eqb (version_of c.0.0) a.0.0) d.0) in
    let read = both_true (leb 1 a.0.0) (leb a.0.0 latest) (not-false (is_read latest a.0.0) b.0) in
    let whole : Takes bytes (a.0.0 ∷ c.0.0 ∷ []) c.0.1 = Takes-then bytes (a.0.0 ∷ []) a.0.1 (c.0.0 ∷ []) c.0.1 t u in
    subst (HeadTaken latest bytes) {x = c.0} (ok_is c.0 x d.1)
    (record { parts = subst (λ (v : ℕ). Takes bytes (v ∷ c.0.0 ∷ []) c.0.1) (sym same) whole; within = subst (λ (v : ℕ). v ≤ latest) (sym same) (leb-true a.0.0 latest read.1) })

head_again : (latest kind : ℕ) (rest : List ℕ) → version_of kind ≤ latest → head_at latest (version_of kind ∷ kind ∷ rest) ≡ Ok (kind, rest)
unfolding head_at byte_at
head_again latest kind rest within =
    ap (λ (b : Bool). check (not b) BadVersion >>= λ _. check (not (eqb (version_of kind) (version_of kind))) BadKind >>= λ _. Ok (kind, rest))
    (and_from (leb 1 (version_of kind)) (leb (version_of kind) latest) (at_least_one kind) (le-leb (version_of kind) latest within))
    ∙ ap (λ (b : Bool). check (not b) BadKind >>= λ _. Ok (kind, rest)) (eq-eqb (version_of kind) (version_of kind) refl)

-- ---- messages

-- what can be told of a message: its value, its length, and its version
abbrev pub IsMessage : {X : Type 0} → ℕ → (X → ℕ) → (X → List ℕ) → (X → Type 0) → X → Type 0
IsMessage latest kind text Is x = Is x × ((leb (length (message_text (kind x) (text x))) 268435456 ≡ true) × (version_of (kind x) ≤ latest))

-- messages whose bodies are read by kinds are a format
pub message_format : {X : Type 0} (latest : ℕ) (of_kind : ℕ → Reader X) (kind : X → ℕ) (text : X → List ℕ) (Is : X → Type 0) → AreKinds of_kind kind text Is
    → IsFormat 2 268435456 (message_at latest of_kind) (λ x. message_text (kind x) (text x)) (IsMessage latest kind text Is)
unfolding message_at
message_format {X = X} latest of_kind kind text Is f =
    record {
      takes = λ bytes x fits most e.
          let a = bind_ok (head_at latest bytes) (λ k. of_kind k.0 k.1 >>= λ b. check (ltb 0 (length b.1)) WrongLength >>= λ _. Ok b.0) x e in
          let b = bind_ok (of_kind a.0.0 a.0.1) (λ b. check (ltb 0 (length b.1)) WrongLength >>= λ _. Ok b.0) x a.2 in
          let c = check_ok (ltb 0 (length b.0.1)) WrongLength (λ _. Ok b.0.0) x b.2 in
          let t = head_takes latest bytes a.0 fits a.1 in
          let u = f.takes a.0.0 a.0.1 b.0 t.parts.rest_fits b.1 in
          let none : length b.0.1 ≤ 0 = ltb-false 0 (length b.0.1) c.0 in
          let nothing : b.0.1 ≡ [] = nil_from_length b.0.1 (omega arith) in
          let both : Takes bytes (message_text a.0.0 (text b.0.0)) b.0.1 = Takes-then bytes (version_of a.0.0 ∷ a.0.0 ∷ []) a.0.1 (text b.0.0) b.0.1 t.parts u.1.0 in
          let named : bytes ≡ message_text (kind b.0.0) (text b.0.0) ++ b.0.1 = subst (λ (k : ℕ). bytes ≡ message_text k (text b.0.0) ++ b.0.1) (sym u.0) both.parts in
          let whole : bytes ≡ message_text (kind b.0.0) (text b.0.0) = named ∙ ap (λ (r : List ℕ). message_text (kind b.0.0) (text b.0.0) ++ r) nothing ∙ append-nil (message_text (kind b.0.0) (text b.0.0)) in
          subst (λ (y : X). (bytes ≡ message_text (kind y) (text y)) × IsMessage latest kind text Is y) {x = b.0.0} (ok_is b.0.0 x c.1)
          (whole, (u.1.1, (le-leb _ _ (subst (λ (l : List ℕ). length l ≤ 268435456) whole most), subst (λ (k : ℕ). version_of k ≤ latest) (sym u.0) t.within)));
      again = λ x h.
          let body : of_kind (kind x) (text x) ≡ Ok (x, []) = ap (of_kind (kind x)) (sym (append-nil (text x))) ∙ f.again x [] h.0 in
          ap (λ (r : Result (ℕ × List ℕ) FormFault). r >>= λ k. of_kind k.0 k.1 >>= λ b. check (ltb 0 (length b.1)) WrongLength >>= λ _. Ok b.0) (head_again latest (kind x) (text x) h.1.1)
          ∙ ap (λ (r : Result (X × List ℕ) FormFault). r >>= λ b. check (ltb 0 (length b.1)) WrongLength >>= λ _. Ok b.0) body;
      at_least = λ x h. omega arith;
      at_most = λ x h. leb-true _ _ h.1.0;
      in_width = omega arith;
    }

-- a format, said of the values otherwise
pub same_format : {X : Type 0} (least most : ℕ) (read : List ℕ → Result X FormFault) (rest_text : X → List ℕ) (P Q : X → Type 0) → ((x : X) → P x → Q x) → ((x : X) → Q x → P x) → IsFormat least most read rest_text P → IsFormat least most read rest_text Q
same_format least most read rest_text P Q there back f =
    record {
      takes = λ bytes x fits within e. let u = f.takes bytes x fits within e in (u.0, there x u.1);
      again = λ x h. f.again x (back x h);
      at_least = λ x h. f.at_least x (back x h);
      at_most = λ x h. f.at_most x (back x h);
      in_width = f.in_width;
    }

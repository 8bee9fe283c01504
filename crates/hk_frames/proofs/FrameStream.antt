-- Frames of any kind of value, one after the other.
use Rattle.std.proofs.Common.{◌≡◌, ℕ, ◌+◌, ◌-◌, ◌≤◌, List, [], ◌∷◌, ◌++◌, length, map, take, drop, Option, Some, None, Result, Ok, Err, true, false, is_some, refl, sym, ap, subst, ◌∙◌, append_assoc, arith, inl, inr}
use Rattle.std.specs.List.{flat_map, AllByRecursion, All}
use Rattle.std.proofs.lemmas.List.{map-append, length-append, length-drop, drop-drop, drop_at, append-nil, nil_from_length}
use Rattle.std.proofs.lemmas.List.Elements.{All-cons, All-nil}
use Rattle.std.proofs.lemmas.Grind.{flat_map-append}
use Rattle.std.proofs.lemmas.List.Concat.{flat_map-cons}
use Rattle.std.proofs.Math.Seq.{take-append_seam, take-length}
use Rattle.hk_types.specs.declared.faults.FormFault.{FormFault}
use Rattle.hk_types.specs.declared.faults.Refusal.{Refusal}
use Rattle.hk_frames.specs.Fields.{IsBytes, mapped}
use Rattle.hk_frames.specs.Framing.{len_of, framed, encoded, IsWhole, Begins, BeginsAs, IsFormat, AddsValues, Feeds, rest_of}
use Rattle.hk_frames.proofs.ReadingSteps.{IsBytes-drop}
use Rattle.hk_frames.proofs.OneFrame.{maybe, frame_takes, frame_again, partial_is, partial_again, fault_stays, encoded_len, frame_is_told, no_frame_is_told, frame_fault_is_told}

-- the bytes from a place on, as a slice has them
pub tail_is : (used : ℕ) (text : List ℕ) → take (length text - used) (drop used text) ≡ drop used text
tail_is used text = ap (λ (k : ℕ). take k (drop used text)) (sym (length-drop used text)) ∙ take-length (drop used text)

-- ---- facts of each element

pub each_more : {X : Type 0} (P : X → Type 0) (xs : List X) (x : X) → AllByRecursion P xs → P x → AllByRecursion P (xs ++ x ∷ [])
each_more P [] x h k = (k, tt)
each_more P (y ∷ xs) x h k = (h.0, each_more P xs x h.1 k)

pub each_both : {X : Type 0} (P : X → Type 0) (xs ys : List X) → AllByRecursion P xs → AllByRecursion P ys → AllByRecursion P (xs ++ ys)
each_both P [] ys h k = k
each_both P (x ∷ xs) ys h k = (h.0, each_both P xs ys h.1 k)

-- a weaker fact, in the form that lists have elsewhere
pub each_weaker : {X : Type 0} (P Q : X → Type 0) → ((x : X) → P x → Q x) → (xs : List X) → AllByRecursion P xs → All Q xs
each_weaker P Q weaker [] h = All-nil Q
each_weaker P Q weaker (x ∷ xs) h = All-cons Q x xs (weaker x h.0) (each_weaker P Q weaker xs h.1)

-- ---- the frames that were read so far

pub record SoFar {X Y T : Type 0} (seen : X → Y) (meant : T → Y) (rest_text : T → List ℕ) (HasText : T → Type 0) (text : List ℕ) (before after : List X) (used : ℕ) : Type 0 where
  pub fits : used ≤ length text
  pub values : List X
  pub added : after ≡ before ++ values
  pub told : List T
  pub same : map seen values ≡ map meant told
  pub whole : text ≡ flat_map (encoded rest_text) told ++ drop used text
  pub each : AllByRecursion HasText told

pub at_start : {X Y T : Type 0} (seen : X → Y) (meant : T → Y) (rest_text : T → List ℕ) (HasText : T → Type 0) (text : List ℕ) (before : List X) → SoFar seen meant rest_text HasText text before before 0
at_start seen meant rest_text HasText text before = record { fits = omega arith; values = []; added = sym (append-nil before); told = []; same = refl; whole = refl; each = tt }

pub kept : {X Y T : Type 0} (seen : X → Y) (meant : T → Y) (rest_text : T → List ℕ) (HasText : T → Type 0) (text : List ℕ) (before after : List X) (used : ℕ) → SoFar seen meant rest_text HasText text before after used → take (length before) after ≡ before
kept {X = X} seen meant rest_text HasText text before after used s = ap (λ (t : List X). take (length before) t) s.added ∙ take-append_seam before s.values

-- one frame more
pub record OneMore {X Y T : Type 0} (seen : X → Y) (meant : T → Y) (rest_text : T → List ℕ) (HasText : T → Type 0) (text : List ℕ) (before after : List X) (used n : ℕ) : Type 0 where
  pub so_far : SoFar seen meant rest_text HasText text before after (used + n)
  pub least : 4 ≤ n

one_more_same : {X Y T : Type 0} (seen : X → Y) (meant : T → Y) (xs : List X) (ts : List T) (x : X) (t : T) → map seen xs ≡ map meant ts → seen x ≡ meant t → map seen (xs ++ x ∷ []) ≡ map meant (ts ++ t ∷ [])
one_more_same {Y = Y} seen meant xs ts x t e h =
    map-append seen xs (x ∷ []) ∙ ap (λ (l : List Y). l ++ seen x ∷ []) e ∙ ap (λ (y : Y). map meant ts ++ y ∷ []) h ∙ sym (map-append meant ts (t ∷ []))

module _ {X Y T : Type 0} (seen : X → Y) (meant : T → Y) (least most : ℕ) (read : List ℕ → Result T FormFault) (text_of : T → List ℕ) (IsT : T → Type 0) (format : IsFormat least most read text_of IsT) where
  pub one_more : (text : List ℕ) (before after : List X) (used : ℕ) (x : X) (n : ℕ) → IsBytes text → SoFar seen meant text_of IsT text before after used → framed least most (λ rest. mapped meant (read rest)) (drop used text) ≡ Ok (Some (seen x, n)) → OneMore seen meant text_of IsT text before (after ++ x ∷ []) used n
  unfolding encoded
  one_more text before after used x n bytes s e =
      let t = frame_is_told meant least most read (drop used text) (seen x) n e in
      let f = frame_takes least most read text_of IsT format (drop used text) t.0 n (IsBytes-drop used text bytes) t.1 in
      let fits : used + n ≤ length text = omega (arith, s.fits, f.fits, length-drop used text) in
      let added : after ++ x ∷ [] ≡ before ++ (s.values ++ x ∷ []) = ap (λ (t : List X). t ++ x ∷ []) s.added ∙ append_assoc before s.values (x ∷ []) in
      let rest : drop used text ≡ encoded text_of t.0 ++ drop (used + n) text = f.parts ∙ ap (λ (r : List ℕ). encoded text_of t.0 ++ r) (drop-drop n used text) in
      let one : flat_map (encoded text_of) (t.0 ∷ []) ≡ encoded text_of t.0 = flat_map-cons (encoded text_of) t.0 [] ∙ append-nil (encoded text_of t.0) in
      let texts : flat_map (encoded text_of) (s.told ++ t.0 ∷ []) ≡ flat_map (encoded text_of) s.told ++ encoded text_of t.0 = flat_map-append (encoded text_of) s.told (t.0 ∷ []) ∙ ap (λ (r : List ℕ). flat_map (encoded text_of) s.told ++ r) one in
      let whole : text ≡ flat_map (encoded text_of) (s.told ++ t.0 ∷ []) ++ drop (used + n) text =
      s.whole ∙ ap (λ (r : List ℕ). flat_map (encoded text_of) s.told ++ r) rest ∙ sym (append_assoc (flat_map (encoded text_of) s.told) (encoded text_of t.0) (drop (used + n) text)) ∙ ap (λ (r : List ℕ). r ++ drop (used + n) text) (sym texts) in
      record {
        so_far = record {
          fits = fits;
          values = s.values ++ x ∷ [];
          added = added;
          told = s.told ++ t.0 ∷ [];
          same = one_more_same seen meant s.values s.told x t.0 s.same t.2;
          whole = whole;
          each = each_more IsT s.told t.0 s.each f.value;
        };
        least = f.least;
      }

  pub stops : (text : List ℕ) (before after : List X) (used : ℕ) → SoFar seen meant text_of IsT text before after used → framed least most (λ rest. mapped meant (read rest)) (drop used text) ≡ Ok None → AddsValues seen meant least most read text_of IsT before after text (Ok (drop used text))
  stops text before after used s e = (s.values, s.added, (s.told, s.same, (s.whole, s.each, partial_is least most read (drop used text) (no_frame_is_told meant least most read (drop used text) e))))

  pub faults : (text : List ℕ) (before after : List X) (used : ℕ) (f : FormFault) → SoFar seen meant text_of IsT text before after used → framed least most (λ rest. mapped meant (read rest)) (drop used text) ≡ Err f → AddsValues seen meant least most read text_of IsT before after text (Err f)
  faults text before after used f s e = (s.values, s.added, (s.told, s.same, (drop used text, s.whole, s.each, frame_fault_is_told meant least most read (drop used text) f e)))

-- ---- one reading

abbrev next_of : {X : Type 0} → Result (List ℕ) FormFault → Result (Option (X × ℕ)) FormFault
next_of (Ok left) = Ok None
next_of (Err f) = Err f

pair_is : {A : Type 0} (p q : A) → maybe (Some p) ≡ maybe (Some q) → p ≡ q
pair_is p q e = cc

same_frame : {X : Type 0} (x y : X) (n m : ℕ) → maybe {A = X × ℕ} (Some (x, n)) ≡ maybe (Some (y, m)) → (x ≡ y) × (n ≡ m)
same_frame {X = X} x y n m e =
    let p = pair_is (x, n) (y, m) e in
    (ap (λ (z : X × ℕ). z.0) p, ap (λ (z : X × ℕ). z.1) p)

not_next : {X : Type 0} (x : X) (n : ℕ) (l : Result (List ℕ) FormFault) → maybe {A = X × ℕ} (Some (x, n)) ≡ next_of l → ⊥
not_next x n (Ok left) e = cc
not_next x n (Err f) e = cc

module _ {X : Type 0} (least most : ℕ) (read : List ℕ → Result X FormFault) (rest_text : X → List ℕ) (IsValue : X → Type 0) (format : IsFormat least most read rest_text IsValue) where
  nothing_first : (text : List ℕ) (l : Result (List ℕ) FormFault) → Begins least most read rest_text IsValue text [] l → framed least most read text ≡ next_of l
  nothing_first text (Ok left) h = ap (framed least most read) h.0 ∙ partial_again least most read left h.2
  nothing_first text (Err f) h = ap (framed least most read) h.1 ∙ h.3

  regroup : (x : X) (xs : List X) (left : List ℕ) → flat_map (encoded rest_text) (x ∷ xs) ++ left ≡ encoded rest_text x ++ (flat_map (encoded rest_text) xs ++ left)
  regroup x xs left = ap (λ (t : List ℕ). t ++ left) (flat_map-cons (encoded rest_text) x xs) ∙ append_assoc (encoded rest_text x) (flat_map (encoded rest_text) xs) left

  one_first : (text : List ℕ) (x : X) (xs : List X) (l : Result (List ℕ) FormFault) → Begins least most read rest_text IsValue text (x ∷ xs) l → (framed least most read text ≡ Ok (Some (x, length (encoded rest_text x)))) × Begins least most read rest_text IsValue (drop (length (encoded rest_text x)) text) xs l
  one_first text x xs (Ok left) h =
      let parts : text ≡ encoded rest_text x ++ (flat_map (encoded rest_text) xs ++ left) = h.0 ∙ regroup x xs left in
      (ap (framed least most read) parts ∙ frame_again least most read rest_text IsValue format x (flat_map (encoded rest_text) xs ++ left) h.1.0, (ap (drop (length (encoded rest_text x))) parts ∙ drop_at (encoded rest_text x) (flat_map (encoded rest_text) xs ++ left) (length (encoded rest_text x)) refl, h.1.1, h.2))
  one_first text x xs (Err f) h =
      let parts : text ≡ encoded rest_text x ++ (flat_map (encoded rest_text) xs ++ h.0) = h.1 ∙ regroup x xs h.0 in
      (ap (framed least most read) parts ∙ frame_again least most read rest_text IsValue format x (flat_map (encoded rest_text) xs ++ h.0) h.2.0, (h.0, ap (drop (length (encoded rest_text x))) parts ∙ drop_at (encoded rest_text x) (flat_map (encoded rest_text) xs ++ h.0) (length (encoded rest_text x)) refl, h.2.1, h.3))

  same_end : (text : List ℕ) (l r : Result (List ℕ) FormFault) → Begins least most read rest_text IsValue text [] l → Begins least most read rest_text IsValue text [] r → next_of {X = X} l ≡ next_of r → l ≡ r
  same_end text (Ok a) (Ok b) h k e = let x : a ≡ b = sym h.0 ∙ k.0 in ap (λ (t : List ℕ). Ok t) x
  same_end text (Ok a) (Err g) h k e = absurd cc
  same_end text (Err f) (Ok b) h k e = absurd cc
  same_end text (Err f) (Err g) h k e = cc

  pub one_reading_only : (text : List ℕ) (xs ys : List X) (l r : Result (List ℕ) FormFault) → Begins least most read rest_text IsValue text xs l → Begins least most read rest_text IsValue text ys r → (xs ≡ ys) × (l ≡ r)
  one_reading_only text [] [] l r h k = (refl, same_end text l r h k (sym (nothing_first text l h) ∙ nothing_first text r k))
  one_reading_only text [] (y ∷ ys) l r h k = absurd (not_next y (length (encoded rest_text y)) l (sym (one_first text y ys r k).0 ∙ nothing_first text l h))
  one_reading_only text (x ∷ xs) [] l r h k = absurd (not_next x (length (encoded rest_text x)) r (sym (one_first text x xs l h).0 ∙ nothing_first text r k))
  one_reading_only text (x ∷ xs) (y ∷ ys) l r h k =
      let a = one_first text x xs l h in
      let b = one_first text y ys r k in
      let s = same_frame x y (length (encoded rest_text x)) (length (encoded rest_text y)) (sym a.0 ∙ b.0) in
      let second : Begins least most read rest_text IsValue (drop (length (encoded rest_text x)) text) ys r = subst (λ (n : ℕ). Begins least most read rest_text IsValue (drop n text) ys r) (sym s.1) b.1 in
      let others = one_reading_only (drop (length (encoded rest_text x)) text) xs ys l r a.1 second in
      (cc (s.0, others.0), others.1)

  pub one_encoding_only : (x y : X) (a b : List ℕ) → IsValue x → IsValue y → encoded rest_text x ++ a ≡ encoded rest_text y ++ b → (x ≡ y) × (a ≡ b)
  one_encoding_only x y a b h k e =
      let s = same_frame x y (length (encoded rest_text x)) (length (encoded rest_text y)) (sym (frame_again least most read rest_text IsValue format x a h) ∙ ap (framed least most read) e ∙ frame_again least most read rest_text IsValue format y b k) in
      let p : drop (length (encoded rest_text x)) (encoded rest_text x ++ a) ≡ a = drop_at (encoded rest_text x) a (length (encoded rest_text x)) refl in
      let q : drop (length (encoded rest_text y)) (encoded rest_text y ++ b) ≡ b = drop_at (encoded rest_text y) b (length (encoded rest_text y)) refl in
      (s.0, sym p ∙ ap (drop (length (encoded rest_text x))) e ∙ ap (λ (n : ℕ). drop n (encoded rest_text y ++ b)) s.1 ∙ q)

-- ---- pieces

joined : {X : Type 0} (rest_text : X → List ℕ) (text more left after : List ℕ) (xs ys : List X) → text ≡ flat_map (encoded rest_text) xs ++ left → left ++ more ≡ flat_map (encoded rest_text) ys ++ after → text ++ more ≡ flat_map (encoded rest_text) (xs ++ ys) ++ after
joined rest_text text more left after xs ys e k =
    ap (λ (t : List ℕ). t ++ more) e ∙ append_assoc (flat_map (encoded rest_text) xs) left more ∙ ap (λ (t : List ℕ). flat_map (encoded rest_text) xs ++ t) k
    ∙ sym (append_assoc (flat_map (encoded rest_text) xs) (flat_map (encoded rest_text) ys) after) ∙ ap (λ (t : List ℕ). t ++ after) (sym (flat_map-append (encoded rest_text) xs ys))

pub pieces_join_up : {X : Type 0} (least most : ℕ) (read : List ℕ → Result X FormFault) (rest_text : X → List ℕ) (IsValue : X → Type 0) (text more left : List ℕ) (xs ys : List X) (r : Result (List ℕ) FormFault) → Begins least most read rest_text IsValue text xs (Ok left) → Begins least most read rest_text IsValue (left ++ more) ys r → Begins least most read rest_text IsValue (text ++ more) (xs ++ ys) r
pieces_join_up least most read rest_text IsValue text more left xs ys (Ok after) h k = (joined rest_text text more left after xs ys h.0 k.0, each_both IsValue xs ys h.1 k.1, k.2)
pieces_join_up least most read rest_text IsValue text more left xs ys (Err f) h k = (k.0, joined rest_text text more left k.0 xs ys h.0 k.1, each_both IsValue xs ys h.1 k.2, k.3)

pub both_same : {X Y T : Type 0} (seen : X → Y) (meant : T → Y) (xs ys : List X) (ts us : List T) → map seen xs ≡ map meant ts → map seen ys ≡ map meant us → map seen (xs ++ ys) ≡ map meant (ts ++ us)
both_same {Y = Y} seen meant xs ys ts us e h = map-append seen xs ys ∙ ap (λ (l : List Y). l ++ map seen ys) e ∙ ap (λ (l : List Y). map meant ts ++ l) h ∙ sym (map-append meant ts us)

pub pieces_join_as : {X Y T : Type 0} (seen : X → Y) (meant : T → Y) (least most : ℕ) (read : List ℕ → Result T FormFault) (rest_text : T → List ℕ) (IsT : T → Type 0) (text more left : List ℕ) (xs ys : List X) (r : Result (List ℕ) FormFault) → BeginsAs seen meant least most read rest_text IsT text xs (Ok left) → BeginsAs seen meant least most read rest_text IsT (left ++ more) ys r → BeginsAs seen meant least most read rest_text IsT (text ++ more) (xs ++ ys) r
pieces_join_as seen meant least most read rest_text IsT text more left xs ys r h k = (h.0 ++ k.0, both_same seen meant xs ys h.0 k.0 h.1 k.1, pieces_join_up least most read rest_text IsT text more left h.0 k.0 r h.2 k.2)

-- what is read up to a fault is read so, whatever follows
pub fault_behind : {X : Type 0} (least most : ℕ) (read : List ℕ → Result X FormFault) (rest_text : X → List ℕ) (IsValue : X → Type 0) (text more : List ℕ) (xs : List X) (f : FormFault) → Begins least most read rest_text IsValue text xs (Err f) → Begins least most read rest_text IsValue (text ++ more) xs (Err f)
fault_behind least most read rest_text IsValue text more xs f h = (h.0 ++ more, ap (λ (t : List ℕ). t ++ more) h.1 ∙ append_assoc (flat_map (encoded rest_text) xs) h.0 more, h.2, fault_stays least most read h.0 more f h.3)

module _ {X : Type 0} (least most : ℕ) (read : List ℕ → Result X FormFault) (rest_text : X → List ℕ) (IsValue : X → Type 0) (format : IsFormat least most read rest_text IsValue) where
  -- of one frame, as its length says, nothing is left
  pub whole_leaves_nothing : (text left : List ℕ) (xs : List X) → IsWhole text → Begins least most read rest_text IsValue text xs (Ok left) → left ≡ []
  unfolding encoded
  whole_leaves_nothing text left [] whole (is, each, inl few) = let same : length text ≡ length left = ap length is in absurd (omega (arith, same, few, whole.0))
  whole_leaves_nothing text left [] whole (is, each, inr p) =
      let same : length text ≡ length left = ap length is in
      let len : len_of text ≡ len_of left = ap len_of is in
      absurd (omega (arith, same, len, p.2, whole.1))
  whole_leaves_nothing text left (x ∷ xs) whole h =
      let parts : text ≡ encoded rest_text x ++ (flat_map (encoded rest_text) xs ++ left) = h.0 ∙ ap (λ (t : List ℕ). t ++ left) (flat_map-cons (encoded rest_text) x xs) ∙ append_assoc (encoded rest_text x) (flat_map (encoded rest_text) xs) left in
      let len = encoded_len least most read rest_text IsValue format x (flat_map (encoded rest_text) xs ++ left) h.1.0 in
      let all : length text ≡ length (encoded rest_text x) + length (flat_map (encoded rest_text) xs ++ left) = ap length parts ∙ length-append (encoded rest_text x) (flat_map (encoded rest_text) xs ++ left) in
      let own : len_of text ≡ len_of (encoded rest_text x ++ (flat_map (encoded rest_text) xs ++ left)) = ap len_of parts in
      nil_from_length left (omega (arith, len, all, own, whole.1, length-append (flat_map (encoded rest_text) xs) left))

module _ {X Y T : Type 0} (seen : X → Y) (meant : T → Y) (least most : ℕ) (read : List ℕ → Result T FormFault) (text_of : T → List ℕ) (IsT : T → Type 0) (format : IsFormat least most read text_of IsT) where
  -- behind one frame, the second part of a piece is read alone
  pub whole_first : (before middle after : List X) (rest piece first second text left : List ℕ) (fault : Option FormFault) (r : Result (List ℕ) FormFault) → first ++ second ≡ piece → text ≡ rest ++ first → is_some fault ≡ false → IsWhole text
      → AddsValues seen meant least most read text_of IsT before middle text (rest_of left fault) → AddsValues seen meant least most read text_of IsT middle after second r → AddsValues seen meant least most read text_of IsT before after (rest ++ piece) r
  whole_first before middle after rest piece first second text left (Some f) r whole is none one h k = absurd cc
  whole_first before middle after rest piece first second text left None r whole is none one h k =
      let text-is : text ++ second ≡ rest ++ piece = ap (λ (t : List ℕ). t ++ second) is ∙ append_assoc rest first second ∙ ap (λ (t : List ℕ). rest ++ t) whole in
      let told = h.2.0 in
      let nothing : left ≡ [] = whole_leaves_nothing least most read text_of IsT format text left told one h.2.2 in
      let front : Begins least most read text_of IsT text told (Ok []) = subst (λ (l : List ℕ). Begins least most read text_of IsT text told (Ok l)) nothing h.2.2 in
      let begins : BeginsAs seen meant least most read text_of IsT text h.0 (Ok []) = (told, h.2.1, front) in
      let added : after ≡ before ++ (h.0 ++ k.0) = k.1 ∙ ap (λ (t : List X). t ++ k.0) h.1 ∙ append_assoc before h.0 k.0 in
      (h.0 ++ k.0, added, subst (λ (t : List ℕ). BeginsAs seen meant least most read text_of IsT t (h.0 ++ k.0) r) text-is (pieces_join_as seen meant least most read text_of IsT text second [] h.0 k.0 r begins k.2))

-- up to a fault, the second part of a piece adds nothing
pub fault_first : {X Y T : Type 0} (seen : X → Y) (meant : T → Y) (least most : ℕ) (read : List ℕ → Result T FormFault) (rest_text : T → List ℕ) (IsT : T → Type 0) (before after : List X) (rest piece first second text left kept_ : List ℕ) (fault : Option FormFault) → first ++ second ≡ piece → text ≡ rest ++ first → is_some fault ≡ true
    → AddsValues seen meant least most read rest_text IsT before after text (rest_of left fault) → AddsValues seen meant least most read rest_text IsT before after (rest ++ piece) (rest_of kept_ fault)
fault_first seen meant least most read rest_text IsT before after rest piece first second text left kept_ None whole is some h = absurd cc
fault_first seen meant least most read rest_text IsT before after rest piece first second text left kept_ (Some f) whole is some h =
    let text-is : text ++ second ≡ rest ++ piece = ap (λ (t : List ℕ). t ++ second) is ∙ append_assoc rest first second ∙ ap (λ (t : List ℕ). rest ++ t) whole in
    (h.0, h.1, (h.2.0, h.2.1, subst (λ (t : List ℕ). Begins least most read rest_text IsT t h.2.0 (Err f)) text-is (fault_behind least most read rest_text IsT text second h.2.0 f h.2.2)))

-- where the whole piece was read behind what was held
pub piece_read : {X Y T : Type 0} (seen : X → Y) (meant : T → Y) (least most : ℕ) (read : List ℕ → Result T FormFault) (rest_text : T → List ℕ) (IsT : T → Type 0) (before after : List X) (rest piece first second text left kept_ : List ℕ) (fault : Option FormFault) → first ++ second ≡ piece → text ≡ rest ++ first → second ≡ [] → is_some fault ≡ false → kept_ ≡ left
    → AddsValues seen meant least most read rest_text IsT before after text (rest_of left fault) → AddsValues seen meant least most read rest_text IsT before after (rest ++ piece) (Ok kept_)
piece_read seen meant least most read rest_text IsT before after rest piece first second text left kept_ (Some f) whole is none no_fault same h = absurd cc
piece_read seen meant least most read rest_text IsT before after rest piece first second text left kept_ None whole is none no_fault same h =
    let all : first ≡ piece = sym (append-nil first) ∙ ap (λ (t : List ℕ). first ++ t) (sym none) ∙ whole in
    let text-is : text ≡ rest ++ piece = is ∙ ap (λ (t : List ℕ). rest ++ t) all in
    subst (λ (t : List ℕ). AddsValues seen meant least most read rest_text IsT before after t (Ok kept_)) text-is (subst (λ (l : List ℕ). AddsValues seen meant least most read rest_text IsT before after text (Ok l)) (sym same) h)

-- the bytes from a place on, as a slice has them
abbrev pub from_place : ℕ → List ℕ → List ℕ
from_place used text = take (length text - used) (drop used text)

module _ {X Y T : Type 0} (seen : X → Y) (meant : T → Y) (least most : ℕ) (read : List ℕ → Result T FormFault) (text_of : T → List ℕ) (IsT : T → Type 0) (format : IsFormat least most read text_of IsT) where
  pub value_more : (text : List ℕ) (before after : List X) (used : ℕ) (x : X) (n : ℕ) → IsBytes text → SoFar seen meant text_of IsT text before after used → framed least most (λ rest. mapped meant (read rest)) (from_place used text) ≡ Ok (Some (seen x, n)) → OneMore seen meant text_of IsT text before (after ++ x ∷ []) used n
  value_more text before after used x n bytes s e = one_more seen meant least most read text_of IsT format text before after used x n bytes s (ap (framed least most (λ rest. mapped meant (read rest))) (sym (tail_is used text)) ∙ e)

  pub values_stop : (text : List ℕ) (before after : List X) (used : ℕ) → SoFar seen meant text_of IsT text before after used → framed least most (λ rest. mapped meant (read rest)) (from_place used text) ≡ Ok None → AddsValues seen meant least most read text_of IsT before after text (Ok (drop used text))
  values_stop text before after used s e = stops seen meant least most read text_of IsT format text before after used s (ap (framed least most (λ rest. mapped meant (read rest))) (sym (tail_is used text)) ∙ e)

  pub values_fault : (text : List ℕ) (before after : List X) (used : ℕ) (f : FormFault) → SoFar seen meant text_of IsT text before after used → framed least most (λ rest. mapped meant (read rest)) (from_place used text) ≡ Err f → AddsValues seen meant least most read text_of IsT before after text (Err f)
  values_fault text before after used f s e = faults seen meant least most read text_of IsT format text before after used f s (ap (framed least most (λ rest. mapped meant (read rest))) (sym (tail_is used text)) ∙ e)

-- the encoding of one value is read as that value
pub one_value_begins : {X : Type 0} (least most : ℕ) (read : List ℕ → Result X FormFault) (rest_text : X → List ℕ) (IsValue : X → Type 0) (x : X) → IsValue x → Begins least most read rest_text IsValue (encoded rest_text x) (x ∷ []) (Ok [])
one_value_begins least most read rest_text IsValue x fits =
    (sym (append-nil (flat_map (encoded rest_text) (x ∷ [])) ∙ flat_map-cons (encoded rest_text) x [] ∙ append-nil (encoded rest_text x)), (fits, tt), inl (omega arith))

-- what is told in one way is seen in one way
pub one_reading_as : {X Y T : Type 0} (seen : X → Y) (meant : T → Y) (least most : ℕ) (read : List ℕ → Result T FormFault) (rest_text : T → List ℕ) (IsT : T → Type 0) (format : IsFormat least most read rest_text IsT) (text : List ℕ) (xs ys : List X) (l r : Result (List ℕ) FormFault) → BeginsAs seen meant least most read rest_text IsT text xs l → BeginsAs seen meant least most read rest_text IsT text ys r → (map seen xs ≡ map seen ys) × (l ≡ r)
one_reading_as seen meant least most read rest_text IsT format text xs ys l r h k =
    let one = one_reading_only least most read rest_text IsT format text h.0 k.0 l r h.2 k.2 in
    (h.1 ∙ ap (map meant) one.0 ∙ sym k.1, one.1)

-- ---- what a feeder promises, said otherwise

pub feeds_so : {X : Type 0} (adds said : List X → List X → List ℕ → Result (List ℕ) FormFault → Type 0) → ((before after : List X) (text : List ℕ) (left : Result (List ℕ) FormFault) → adds before after text left → said before after text left)
    → (old new : Result (List ℕ) FormFault) (before after : List X) (piece : List ℕ) (result : Result (Unit {0}) Refusal) → Feeds adds old new before after piece result → Feeds said old new before after piece result
feeds_so adds said so old new before after piece result h rest e =
    elim (h rest e) [
      | inl m ↦ inl m
      | inr k ↦ inr (k.0, so before after (rest ++ piece) new k.1)
    ]

-- Items of parts of a text, one part after the other.
use Rattle.std.proofs.Common.{◌≡◌, ℕ, zero, suc, List, [], ◌∷◌, All, IfSome, length, map, refl, arith}
use Rattle.std.specs.Global.{Vec}
use Rattle.std.specs.List.{AllZip, AllByRecursion, flat_map}
use Rattle.std.proofs.Common.{◌-◌, ◌≤◌, ◌+◌, ◌++◌, Option, Some, None, Result, Ok, Err, take, drop, sym, ap, subst, ◌∙◌, append_assoc}
use Rattle.std.proofs.lemmas.Grind.{flat_map-append}
use Rattle.std.proofs.lemmas.List.{map-append, take_rest, drop-drop, take-append-drop}
use Rattle.hk_types.specs.declared.faults.FormFault.{FormFault}
use Rattle.hk_log.specs.declared.item.Item.{Item}
use Rattle.hk_frames.specs.Framing.{Begins}
use Rattle.hk_codec.specs.Encoding.{WrittenItem, rest_text, IsWritten}
use Rattle.hk_codec.specs.Reading.{item_at}
use Rattle.hk_codec.specs.Frames.{frame_text, Adds, Decodes, rest_of}
use Rattle.hk_decode.specs.Parts.{HasRead, IsPart}

pub all_right : {A B : Type 0} (Q : B → Type 0) (xs : List A) (ys : List B) → AllZip (λ x y. Q y) xs ys → All Q ys
all_right Q [] [] h k d lt = absurd (omega arith)
all_right Q [] (y ∷ ys) h k d lt = absurd h
all_right Q (x ∷ xs) [] h k d lt = absurd h
all_right Q (x ∷ xs) (y ∷ ys) h zero d lt = h.0
all_right Q (x ∷ xs) (y ∷ ys) h (suc k) d lt = all_right Q xs ys h.1 k d (omega arith)

-- ---- what follows

abbrev items_of : List WrittenItem → List Item
items_of ws = map (λ w. w.item) ws

items_both : (ws vs : List WrittenItem) → items_of (ws ++ vs) ≡ items_of ws ++ items_of vs
items_both ws vs = map-append (λ w. w.item) ws vs

each_append : (xs ys : List WrittenItem) → AllByRecursion IsWritten xs → AllByRecursion IsWritten ys → AllByRecursion IsWritten (xs ++ ys)
each_append [] ys h k = k
each_append (x ∷ xs) ys h k = (h.0, each_append xs ys h.1 k)

text_after : (text : List ℕ) (before mid : List Item) (used : ℕ) (written : List WrittenItem) (left : List ℕ) (s : HasRead text before mid used) → drop used text ≡ flat_map frame_text written ++ left → text ≡ flat_map frame_text (s.written ++ written) ++ left
text_after text before mid used written left s e =
    s.whole ∙ ap (λ (t : List ℕ). flat_map frame_text s.written ++ t) e ∙ sym (append_assoc (flat_map frame_text s.written) (flat_map frame_text written) left) ∙ ap (λ (t : List ℕ). t ++ left) (sym (flat_map-append frame_text s.written written))

abbrev BeginsWritten : List ℕ → List WrittenItem → Result (List ℕ) FormFault → Type 0
BeginsWritten text written left = Begins 28 4233248 item_at rest_text IsWritten text written left

begins_after : (text : List ℕ) (before mid : List Item) (used : ℕ) (written : List WrittenItem) (left : Result (List ℕ) FormFault) (s : HasRead text before mid used) → BeginsWritten (drop used text) written left → BeginsWritten text (s.written ++ written) left
begins_after text before mid used written (Ok left) s r = (text_after text before mid used written left s r.0, each_append s.written written s.each r.1, r.2)
begins_after text before mid used written (Err fault) s r = (r.0, text_after text before mid used written r.0 s r.1, each_append s.written written s.each r.2, r.3)

added_after : (before mid after more : List Item) (ws vs : List WrittenItem) → mid ≡ before ++ items_of ws → after ≡ mid ++ more → more ≡ items_of vs → after ≡ before ++ items_of (ws ++ vs)
added_after before mid after more ws vs a b c =
    b ∙ ap (λ (t : List Item). t ++ more) a ∙ append_assoc before (items_of ws) more ∙ ap (λ (t : List Item). before ++ (items_of ws ++ t)) c ∙ ap (λ (t : List Item). before ++ t) (sym (items_both ws vs))

pub adds_after : (text : List ℕ) (before mid after : List Item) (used : ℕ) (left : Result (List ℕ) FormFault) → HasRead text before mid used → Adds mid after (drop used text) left → Adds before after text left
adds_after text before mid after used left s a =
    (items_of (s.written ++ a.2.0), added_after before mid after a.0 s.written a.2.0 s.added a.1 a.2.1, (s.written ++ a.2.0, refl, begins_after text before mid used a.2.0 left s a.2.2))

-- the same for a slice from a place on, and a place in it
pub tail_adds : (text : List ℕ) (before mid after : List Item) (used more : ℕ) (fault : Option FormFault) → HasRead text before mid used → Adds mid after (take (length text - used) (drop used text)) (rest_of (drop more (take (length text - used) (drop used text))) fault) → Adds before after text (rest_of (drop (used + more) text) fault)
tail_adds text before mid after used more fault s a =
    let rest : take (length text - used) (drop used text) ≡ drop used text = take_rest text used in
    let b : Adds mid after (drop used text) (rest_of (drop more (drop used text)) fault) = subst (λ (t : List ℕ). Adds mid after t (rest_of (drop more t) fault)) rest a in
    let place : drop more (drop used text) ≡ drop (used + more) text = drop-drop more used text in
    adds_after text before mid after used _ s (subst (λ (t : List ℕ). Adds mid after (drop used text) (rest_of t fault)) place b)

pub first_of_all : {A : Type 0} (P : A → Type 0) (xs ys : List A) (x : A) → xs ≡ x ∷ ys → All P xs → P x
first_of_all P xs ys x e all = (subst (All P) e all) 0 x (omega arith)

pub others_of_all : {A : Type 0} (P : A → Type 0) (xs ys : List A) (x : A) → xs ≡ x ∷ ys → All P xs → All P ys
others_of_all P xs ys x e all = λ k d lt. (subst (All P) e all) (suc k) d (omega arith)

-- ---- pieces

pub part_is : (text : List ℕ) (start end : ℕ) (items : List Item) (written : List WrittenItem) → start ≤ end → end ≤ length text → items ≡ map (λ w. w.item) written → take (end - start) (drop start text) ≡ flat_map frame_text written → AllByRecursion IsWritten written → IsPart text start end items
part_is text start end items written le fits same e each =
    let n : end - start + start ≡ end = omega arith in
    let after : drop (end - start) (drop start text) ≡ drop end text = drop-drop (end - start) start text ∙ ap (λ (k : ℕ). drop k text) (omega arith) in
    let whole : drop start text ≡ flat_map frame_text written ++ drop end text = sym (take-append-drop (end - start) (drop start text)) ∙ ap (λ (t : List ℕ). t ++ drop (end - start) (drop start text)) e ∙ ap (λ (t : List ℕ). flat_map frame_text written ++ t) after in
    record { fits = fits; written = written; same = same; whole = whole; each = each }

pub part_more : (text : List ℕ) (before mid : List Item) (used start end : ℕ) (items : List Item) → HasRead text before mid used → start ≡ used → IsPart text start end items → HasRead text before (mid ++ items) end
part_more text before mid used start end items s at p =
    let rest : drop used text ≡ flat_map frame_text p.written ++ drop end text = ap (λ (k : ℕ). drop k text) (sym at) ∙ p.whole in
    record {
      fits = p.fits;
      written = s.written ++ p.written;
      added = added_after before mid (mid ++ items) items s.written p.written s.added refl p.same;
      whole = text_after text before mid used p.written (drop end text) s rest;
      each = each_append s.written p.written s.each p.each;
    }

-- a slice of the text that is decoded is a part
pub part_read : (text : List ℕ) (start end : ℕ) (items : Option (Vec Item)) → start ≤ end → end ≤ length text → IfSome items (λ v. Decodes (take (end - start) (drop start text)) (Ok v)) → IfSome items (λ v. IsPart text start end v.items)
part_read text start end None le fits h = tt
part_read text start end (Some v) le fits h = part_is text start end v.items h.0 le fits h.1 h.2 h.3

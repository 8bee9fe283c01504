-- Items are a format: their frames are read and encoded in one way in each version.
use Rattle.std.proofs.Common.{◌≡◌, ℕ, ◌⊎◌, List, [], ◌∷◌, ◌++◌, map, Result, Ok, refl, sym, ap, ◌∙◌, arith}
use Rattle.std.proofs.lemmas.List.{map-append}
use Rattle.hk_types.specs.declared.faults.FormFault.{FormFault}
use Rattle.hk_log.specs.declared.item.Item.{Item}
use Rattle.hk_codec.specs.Encoding.{WrittenItem, rest_text, IsEncodableItem, IsWritten}
use Rattle.hk_codec.specs.Reading.{item_at}
use Rattle.hk_codec.specs.Frames.{frame_text, encoding_of, item_format, Reads, Adds}
use Rattle.hk_codec.proofs.ReadItems.{item_takes}
use Rattle.hk_codec.proofs.Lengths.{rest_least, rest_most}
use Rattle.hk_codec.proofs.ReadAgain.{item_again}
use Rattle.hk_frames.specs.Framing.{IsFormat, AddsBy}
use Rattle.hk_frames.proofs.FrameStream.{one_encoding_only, one_reading_only, pieces_join_up, one_value_begins}

pub items_are_sound : IsFormat 28 4233248 item_at rest_text IsWritten
items_are_sound = record { takes = λ bytes w fits most e. item_takes bytes w fits e; again = item_again; at_least = λ w h. rest_least w.version w.item; at_most = λ w h. rest_most w.version w.item h.0 h.1; in_width = omega arith }

pub items_encode : (i j : WrittenItem) (a b : List ℕ) → IsWritten i → IsWritten j → frame_text i ++ a ≡ frame_text j ++ b → (i ≡ j) × (a ≡ b)
items_encode = one_encoding_only 28 4233248 item_at rest_text IsWritten items_are_sound

abbrev items_of : List WrittenItem → List Item
items_of ws = map (λ w. w.item) ws

pub items_read : (text : List ℕ) (xs ys : List Item) (l r : Result (List ℕ) FormFault) → Reads text xs l → Reads text ys r → (xs ≡ ys) × (l ≡ r)
items_read text xs ys l r h k =
    let one = one_reading_only 28 4233248 item_at rest_text IsWritten items_are_sound text h.0 k.0 l r h.2 k.2 in
    (h.1 ∙ ap items_of one.0 ∙ sym k.1, one.1)

pub items_join : (text more left : List ℕ) (xs ys : List Item) (r : Result (List ℕ) FormFault) → Reads text xs (Ok left) → Reads (left ++ more) ys r → Reads (text ++ more) (xs ++ ys) r
items_join text more left xs ys r h k =
    let same : xs ++ ys ≡ items_of (h.0 ++ k.0) = ap (λ (l : List Item). l ++ ys) h.1 ∙ ap (λ (l : List Item). items_of h.0 ++ l) k.1 ∙ sym (map-append (λ w. w.item) h.0 k.0) in
    (h.0 ++ k.0, same, pieces_join_up 28 4233248 item_at rest_text IsWritten text more left h.0 k.0 r h.2 k.2)

-- an encoding is read as its item alone
pub item_reads : (version : ℕ) (i : Item) → (version ≡ 1) ⊎ (version ≡ 2) → IsEncodableItem i → Reads (encoding_of version i) (i ∷ []) (Ok [])
item_reads version i which fits =
    let w : WrittenItem = record { version = version; item = i } in
    (w ∷ [], refl, one_value_begins 28 4233248 item_at rest_text IsWritten w (which, fits))

-- items are seen as they are
same_items : (xs : List Item) → map (λ (i : Item). i) xs ≡ xs
same_items [] = refl
same_items (x ∷ xs) = ap (λ (l : List Item). x ∷ l) (same_items xs)

pub items_added : (before after : List Item) (text : List ℕ) (left : Result (List ℕ) FormFault) → AddsBy item_format before after text left → Adds before after text left
items_added before after text left h = (h.0, h.1, (h.2.0, sym (same_items h.0) ∙ h.2.1, h.2.2))

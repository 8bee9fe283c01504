-- Frames that are written anew as they are read.
use Rattle.std.proofs.Common.{◌≡◌, ℕ, ◌+◌, ◌≤◌, ◌<◌, List, [], ◌∷◌, ◌++◌, length, take, drop, Option, Some, None, Result, Ok, Err, refl, sym, ap, subst, ◌∙◌, append_assoc, append-nil, arith}
use Rattle.std.specs.List.{flat_map}
use Rattle.std.proofs.lemmas.Grind.{flat_map-append}
use Rattle.std.proofs.lemmas.List.{length-drop, nil_from_length}
use Rattle.std.proofs.lemmas.List.Concat.{flat_map-cons}
use Rattle.hk_types.specs.declared.faults.FormFault.{FormFault}
use Rattle.hk_types.specs.declared.faults.FormFault.TheVariants.{Truncated}
use Rattle.hk_types.specs.declared.faults.Refusal.TheVariants as refusals
use Rattle.hk_log.specs.declared.item.Item.{Item}
use Rattle.hk_frames.specs.Fields.{IsBytes, mapped}
use Rattle.hk_frames.specs.Framing.{framed, last_answer}
use Rattle.hk_frames.proofs.Prefix.{kept_before, kept_both}
use Rattle.hk_frames.proofs.FrameStream.{SoFar, OneMore, at_start, from_place, value_more, values_stop, values_fault}
use Rattle.hk_codec.specs.Encoding.{WrittenItem, rest_text, IsWritten}
use Rattle.hk_codec.specs.Reading.{item_at}
use Rattle.hk_codec.specs.Frames.{encoding_of, Reads, IsRefused}
use Rattle.hk_codec.proofs.ItemFrames.{items_are_sound, items_added}

abbrev plain : Item → Item
plain i = i

abbrev item_of : WrittenItem → Item
item_of w = w.item

-- the frames that were read so far, and what was written for them
pub record Rewritten (text old out : List ℕ) (used : ℕ) : Type 0 where
  pub items : List Item
  pub so_far : SoFar plain item_of rest_text IsWritten text [] items used
  pub out_is : out ≡ old ++ flat_map (encoding_of 2) items

pub nothing_yet : (text old : List ℕ) → Rewritten text old old 0
nothing_yet text old = record { items = []; so_far = at_start plain item_of rest_text IsWritten text []; out_is = sym (append-nil old) }

-- what is read of the bytes from a place on
abbrev pub next_at : List ℕ → ℕ → Result (Option (Item × ℕ)) FormFault
next_at text used = framed 28 4233248 (λ rest. mapped item_of (item_at rest)) (from_place used text)

module _ (text old out : List ℕ) (used : ℕ) (r : Rewritten text old out used) where
  pub used_fits : used ≤ length text
  used_fits = r.so_far.fits

  more_read : (i : Item) (n : ℕ) → IsBytes text → next_at text used ≡ Ok (Some (i, n)) → OneMore plain item_of rest_text IsWritten text [] (r.items ++ i ∷ []) used n
  more_read i n bytes e = value_more plain item_of 28 4233248 item_at rest_text IsWritten items_are_sound text [] r.items used i n bytes r.so_far e

  pub more_fits : (i : Item) (n : ℕ) → IsBytes text → next_at text used ≡ Ok (Some (i, n)) → (used + n ≤ length text) × (4 ≤ n)
  more_fits i n bytes e = let m = more_read i n bytes e in (m.so_far.fits, m.least)

  pub more_rewritten : (i : Item) (n : ℕ) (next : List ℕ) → IsBytes text → next_at text used ≡ Ok (Some (i, n)) → next ≡ out ++ encoding_of 2 i → Rewritten text old next (used + n)
  more_rewritten i n next bytes e is =
      let one : flat_map (encoding_of 2) (i ∷ []) ≡ encoding_of 2 i = flat_map-cons (encoding_of 2) i [] ∙ append-nil (encoding_of 2 i) in
      let all : flat_map (encoding_of 2) (r.items ++ i ∷ []) ≡ flat_map (encoding_of 2) r.items ++ encoding_of 2 i = flat_map-append (encoding_of 2) r.items (i ∷ []) ∙ ap (λ (t : List ℕ). flat_map (encoding_of 2) r.items ++ t) one in
      record {
        items = r.items ++ i ∷ [];
        so_far = (more_read i n bytes e).so_far;
        out_is = is ∙ ap (λ (t : List ℕ). t ++ encoding_of 2 i) r.out_is ∙ append_assoc old (flat_map (encoding_of 2) r.items) (encoding_of 2 i) ∙ ap (λ (t : List ℕ). old ++ t) (sym all);
      }

  pub out_kept : take (length old) out ≡ old
  out_kept = kept_before old (flat_map (encoding_of 2) r.items) out r.out_is

  pub stops_short : (next : List ℕ) → take (length out) next ≡ out → take (length old) next ≡ old
  stops_short next k = kept_both old (flat_map (encoding_of 2) r.items) out next r.out_is k

  reads_left : next_at text used ≡ Ok None → Reads text r.items (Ok (drop used text))
  reads_left e =
      let a = items_added [] r.items text (Ok (drop used text)) (values_stop plain item_of 28 4233248 item_at rest_text IsWritten items_are_sound text [] r.items used r.so_far e) in
      subst (λ (l : List Item). Reads text l (Ok (drop used text))) (sym a.1) a.2

  pub all_rewritten : next_at text used ≡ Ok None → length text ≤ used → (items : List Item) × Reads text items (Ok []) × (out ≡ old ++ flat_map (encoding_of 2) items)
  all_rewritten e end =
      let none : drop used text ≡ [] = nil_from_length (drop used text) (omega (arith, length-drop used text, end)) in
      (r.items, subst (λ (l : List ℕ). Reads text r.items (Ok l)) none (reads_left e), r.out_is)

  pub cut_off : next_at text used ≡ Ok None → used < length text → IsRefused text (refusals.Form Truncated)
  cut_off e short = (r.items, Ok (drop used text), reads_left e, some (drop used text) (omega (arith, length-drop used text, short)))
    where
      some : (l : List ℕ) → 1 ≤ length l → last_answer (Ok l) ≡ Err (refusals.Form Truncated)
      some [] h = absurd (omega arith)
      some (b ∷ l) h = refl

  pub faulty : (f : FormFault) → next_at text used ≡ Err f → IsRefused text (refusals.Form f)
  faulty f e =
      let a = items_added [] r.items text (Err f) (values_fault plain item_of 28 4233248 item_at rest_text IsWritten items_are_sound text [] r.items used f r.so_far e) in
      (r.items, Err f, subst (λ (l : List Item). Reads text l (Err f)) (sym a.1) a.2, refl)

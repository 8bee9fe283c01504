-- A list in pieces, each of which was gathered, and what was made of the first of them.
use Rattle.std.proofs.Common.{suc, ◌≡◌, refl, sym, ap, subst, ◌∙◌, ℕ, ◌+◌, ◌*◌, ◌/◌, ◌%◌, ◌<◌, ◌≤◌, min, List, [], ◌∷◌, ◌++◌, take, drop, length, get_or, Result, Ok, arith, append_assoc, IfOk}
use Rattle.std.proofs.lemmas.Grind.{div_ceil_times}
use Rattle.std.proofs.lemmas.List.{take-append-drop, drop-drop, drop_all}
use Rattle.std.proofs.lemmas.List.FromFn.{length-map-range_with_len}
use Rattle.std.specs.List.{remove}
use Rattle.hk_types.specs.Values.{ConfigValue}
use Rattle.hk_types.specs.declared.faults.Refusal.{Refusal}
use Rattle.hk_log.specs.declared.item.Item.{Item}
use Rattle.hk_model.specs.Replica.Fragments.{FragmentValue}
use Rattle.hk_model.specs.Replica.Streams.{stream_of}
use Rattle.hk_fragment.specs.Merging.{IsFromZero}
use Rattle.hk_delta.specs.Unions.{IsGathered}
use Rattle.hk_delta.proofs.UnionOfLists.{gave}

abbrev pub Part : Type 0
Part = Result FragmentValue Refusal

-- these parts are of the pieces of a list, the last of them of its end
abbrev pub ArePieces : ConfigValue → ℕ → List Part → List Item → Type 0
ArePieces config size [] items = items ≡ []
ArePieces config size (part ∷ parts) items = IfOk part (IsGathered config (take size items)) × ArePieces config size parts (drop size items)

-- what is gathered has base 0 and horizon 0, and is of the configuration's log
pub record IsOfConfig (config : ConfigValue) (f : FragmentValue) : Type 0 where
  pub zero : IsFromZero f
  pub log : f.content.log ≡ config.log
  pub streams : length f.content.streams ≡ config.streams

pub of_config : (config : ConfigValue) (items : List Item) (f : FragmentValue) → IsGathered config items f → IsOfConfig config f
of_config config items f g =
    let is = (gave config items f g.0).is in
    record {
      zero = (ap (λ (f : FragmentValue). f.base) is, ap (λ (f : FragmentValue). f.content.horizon) is);
      log = ap (λ (f : FragmentValue). f.content.log) is;
      streams = ap (λ (f : FragmentValue). length f.content.streams) is ∙ length-map-range_with_len (stream_of items) 1 config.streams;
    }

-- so far the fragment is of the list's beginning, and these parts are of the rest
pub record IsBuilding (config : ConfigValue) (size : ℕ) (items : List Item) (whole : FragmentValue) (parts : List Part) : Type 0 where
  pub done : List Item
  pub left : List Item
  pub split : items ≡ done ++ left
  pub gathered : IsGathered config done whole
  pub rest : ArePieces config size parts left

pub pieces_from : (config : ConfigValue) (size : ℕ) (items : List Item) (parts : List Part) (k : ℕ) → ((n : ℕ) (d : Part) → n < length parts → IfOk (get_or parts n d) (IsGathered config (take size (drop ((k + n) * size) items)))) → length items ≤ (k + length parts) * size
    → ArePieces config size parts (drop (k * size) items)
pieces_from config size items [] k each long = drop_all (k * size) items (omega (arith, long))
pieces_from config size items (part ∷ parts) k each long = (
  subst (λ (n : ℕ). IfOk part (IsGathered config (take size (drop (n * size) items)))) (omega arith) (each 0 part (omega arith)),
  subst (ArePieces config size parts) (sym (drop-drop size (k * size) items ∙ ap (λ (n : ℕ). drop n items) (omega arith)))
      (pieces_from config size items parts (k + 1) (λ n d l. subst (λ (m : ℕ). IfOk (get_or parts n d) (IsGathered config (take size (drop (m * size) items)))) (omega arith) (each (suc n) d (omega (arith, l)))) (omega (arith, long))),
)

-- the first piece is what was made at first
pub begun : (config : ConfigValue) (size : ℕ) (items : List Item) (part : Part) (parts : List Part) (f : FragmentValue) → ArePieces config size (part ∷ parts) items → part ≡ Ok f → IsBuilding config size items f parts
begun config size items part parts f p is = record {
  done = take size items;
  left = drop size items;
  split = sym (take-append-drop size items);
  gathered = subst (λ r. IfOk r (IsGathered config (take size items))) is p.0;
  rest = p.1;
}

pub next_is : (config : ConfigValue) (size : ℕ) (items : List Item) (whole f : FragmentValue) (part : Part) (parts : List Part) (b : IsBuilding config size items whole (part ∷ parts)) → part ≡ Ok f → IsGathered config (take size b.left) f
next_is config size items whole f part parts b is = subst (λ r. IfOk r (IsGathered config (take size b.left))) is b.rest.0

pub further : (config : ConfigValue) (size : ℕ) (items : List Item) (whole new : FragmentValue) (part : Part) (parts : List Part) (b : IsBuilding config size items whole (part ∷ parts)) → IsGathered config (b.done ++ take size b.left) new → IsBuilding config size items new parts
further config size items whole new part parts b g = record {
  done = b.done ++ take size b.left;
  left = drop size b.left;
  split = b.split ∙ ap (λ l. b.done ++ l) (sym (take-append-drop size b.left)) ∙ sym (append_assoc b.done (take size b.left) (drop size b.left));
  gathered = g;
  rest = b.rest.1;
}

nothing_more : (xs : List Item) → xs ++ [] ≡ xs
nothing_more [] = refl
nothing_more (x ∷ xs) = ap (λ l. x ∷ l) (nothing_more xs)

pub built : (config : ConfigValue) (size : ℕ) (items : List Item) (whole : FragmentValue) → IsBuilding config size items whole [] → IsGathered config items whole
built config size items whole b = subst (λ l. IsGathered config l whole) (sym (b.split ∙ ap (λ l. b.done ++ l) b.rest ∙ nothing_more b.done)) b.gathered

-- pieces of the size that the length divided by the workers gives, rounded up, are enough
pub enough : (items : List Item) (size workers : ℕ) → 0 < workers → size ≡ length items / workers + min 1 (length items % workers) → length items ≤ workers * size
enough items size workers some is = let t = div_ceil_times (length items) workers some in let long : length items ≤ size * workers = rw is t.0 in omega (arith, long)

-- the parts of all pieces, the first of them taken off
pub pieces_of : (config : ConfigValue) (size workers : ℕ) (items : List Item) (all parts : List Part) (first : Part) → 1 ≤ workers → size ≡ length items / workers + min 1 (length items % workers) → length all ≡ workers
    → ((n : ℕ) (d : Part) → n < workers → IfOk (get_or all n d) (IsGathered config (take size (drop (n * size) items)))) → first ≡ get_or all 0 first → parts ≡ remove all 0 → ArePieces config size (first ∷ parts) items
pieces_of config size workers items [] parts first some is many each f r = absurd (omega (arith, some, many))
pieces_of config size workers items (p ∷ ps) parts first some is many each f r =
    let zero : 0 * size ≡ 0 = omega arith in
    subst (λ l. ArePieces config size l items) (λ i. sym f i ∷ sym r i)
    (subst (λ (m : ℕ). ArePieces config size (p ∷ ps) (drop m items)) zero
    (pieces_from config size items (p ∷ ps) 0
    (λ n d l. subst (λ (m : ℕ). IfOk (get_or (p ∷ ps) n d) (IsGathered config (take size (drop (m * size) items)))) (omega arith) (each n d (omega (arith, l, many))))
    (subst (λ (m : ℕ). length items ≤ m * size) (omega (arith, many)) (enough items size workers (omega (arith, some)) is))))

pub none_left : (parts : List Part) → length parts ≡ 0 → parts ≡ []
none_left [] e = refl
none_left (p ∷ ps) e = absurd (omega arith)

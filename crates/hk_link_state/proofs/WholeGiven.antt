-- What a link tells from Whole to the last part makes the fragment that was cut.
use Rattle.std.proofs.Common.{◌≡◌, ℕ, zero, suc, ◌<◌, ◌-◌, Bool, true, false, cond, eqb, List, [], ◌∷◌, ◌++◌, length, map, Some, None, Ok, refl, sym, ap, ◌∙◌, arith}
use Rattle.std.proofs.lemmas.Bool.{eqb-true}
use Rattle.std.proofs.lemmas.List.{length-drop, nil_from_length, take-append-drop}
use Rattle.hk_model.specs.Replica.Fragments.{FragmentValue}
use Rattle.hk_fragment.specs.Parts.{Known}
use Rattle.hk_fragment.specs.Heads.{facts_of, head_of, of_facts}
use Rattle.hk_values.specs.Cutting.{count_within, fact_bytes, facts_of_parts, first_part, next_count, rest_after}
use Rattle.hk_fragment_bytes.specs.Parts.{wire_head_of}
use Rattle.hk_messages.specs.LaterReplies.{ReplyValue, Part, LastPart}
use Rattle.hk_link_state.specs.LinkStates.{OutgoingValue, begun}
use Rattle.hk_link_state.specs.GivenWhole.{IsGivenWhole, all_replies, facts_told, heads_told, replies_for}

-- replies tell these facts, and the head of this fragment
record Tells (replies : List ReplyValue) (left : List Known) (whole : FragmentValue) : Type 0 where
  has_facts : facts_of_parts (map facts_told replies) ≡ left
  has_head : heads_told replies ≡ wire_head_of (head_of whole) ∷ []

none_given : (n : ℕ) → replies_for n None ≡ []
none_given zero = refl
none_given (suc n) = refl

last_tells : (n : ℕ) (whole : FragmentValue) (part rest left : List Known) → rest ≡ [] → part ++ rest ≡ left
    → Tells (LastPart part (wire_head_of (head_of whole)) ∷ replies_for n None) left whole
last_tells n whole part rest left over joined =
    let facts : part ++ facts_of_parts (map facts_told (replies_for n None)) ≡ left =
    ap (λ (l : List ReplyValue). part ++ facts_of_parts (map facts_told l)) (none_given n) ∙ (ap (λ (l : List Known). part ++ l) (sym over) ∙ joined) in
    record { has_facts = facts; has_head = ap (λ (l : List ReplyValue). wire_head_of (head_of whole) ∷ heads_told l) (none_given n) }

next_tells : (replies : List ReplyValue) (whole : FragmentValue) (count : ℕ) (part rest left : List Known) → part ++ rest ≡ left → Tells replies rest whole → Tells (Part count part ∷ replies) left whole
next_tells replies whole count part rest left joined told = record { has_facts = ap (λ (l : List Known). part ++ l) told.has_facts ∙ joined; has_head = told.has_head }

-- a part is told, the last one or another
part_tells : (n : ℕ) (g : OutgoingValue) (part rest : List Known) (b : Bool) → eqb (length rest) 0 ≡ b → part ++ rest ≡ g.left → (b ≡ false → Tells (replies_for n (Some (record g { left = rest }))) rest g.whole)
    → Tells (cond b (LastPart part (wire_head_of (head_of g.whole))) (Part (length rest) part) ∷ replies_for n (cond b None (Some (record g { left = rest })))) g.left g.whole
part_tells n g part rest true last joined after = last_tells n g.whole part rest g.left (nil_from_length rest (eqb-true (length rest) 0 last)) joined
part_tells n g part rest false more joined after = next_tells _ g.whole (length rest) part rest g.left joined (after refl)

-- each part has a fact where one is left
is_shorter : (most : ℕ) (facts : List Known) → eqb (length (rest_after most facts)) 0 ≡ false → length (rest_after most facts) < length facts
is_shorter most [] more = absurd cc
is_shorter most (e ∷ facts) more = let l = length-drop (count_within (most - fact_bytes e) facts) facts in omega (arith, l)

goes_on : (n : ℕ) (g : OutgoingValue) → length g.left < n → Tells (replies_for n (Some g)) g.left g.whole
goes_on zero g short = absurd (omega (arith, short))
goes_on (suc n) g short =
    part_tells n g (first_part g.most g.left) (rest_after g.most g.left) (eqb (length (rest_after g.most g.left)) 0) refl (take-append-drop (next_count g.most g.left) g.left)
    (λ more. goes_on n (record g { left = rest_after g.most g.left }) (let s = is_shorter g.most g.left more in omega (arith, s, short)))

pub is_given_whole : (f : FragmentValue) (most : ℕ) → of_facts (head_of f) (facts_of f) ≡ Ok f → IsGivenWhole f most
is_given_whole f most made =
    let told : Tells (all_replies f most) (facts_of f) f = goes_on (suc (length (facts_of f))) (begun f most) (omega arith) in
    record { has_head = told.has_head; is_whole = ap (of_facts (head_of f)) told.has_facts ∙ made }

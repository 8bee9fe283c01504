-- How the facts of a fragment are cut into parts, and the fragment of its head and its parts.
use Rattle.std.specs.Prelude.{◌≡◌, ◌⊎◌, ℕ, zero, suc, ◌-◌, ◌<◌, ◌≤◌, nat_lt, if◌then◌else◌, List, [], ◌∷◌, ◌++◌, length, take, drop, All, Result, Ok, refl}
use Rattle.std.specs.Coded.{Coded, code_by, coded×, coded_list}
use Rattle.std.specs.List.{flat_map}
use Rattle.hk_types.specs.declared.faults.FormFault.{FormFault}
use Rattle.hk_model.specs.Replica.Fragments.{FragmentValue}
use Rattle.hk_model.specs.Replica.Codes.{fragment_code}
use Rattle.hk_fragment.specs.Parts.{Known}
use Rattle.hk_fragment.specs.Heads.{HeadValue, facts_of, head_of, of_facts}
use Rattle.hk_fragment.specs.Assemblies.{known_code}
use Rattle.hk_fragment_bytes.specs.Fragments.{fact_text}

-- how many bytes a fact has in a message, its version key with it
abbrev pub fact_bytes : Known → ℕ
fact_bytes e = length (fact_text e)

-- the same of facts, without their count
abbrev pub facts_bytes : List Known → ℕ
facts_bytes facts = length (flat_map fact_text facts)

-- how many facts the longest front has that is at most so many bytes
abbrev pub count_within : ℕ → List Known → ℕ
count_within room [] = 0
count_within room (e ∷ facts) = if nat_lt room (fact_bytes e) then 0 else suc (count_within (room - fact_bytes e) facts)

-- how many facts the first part has: the longest front that is at most so many bytes, and one fact at least
abbrev pub next_count : ℕ → List Known → ℕ
next_count most [] = 0
next_count most (e ∷ facts) = suc (count_within (most - fact_bytes e) facts)

abbrev pub first_part : ℕ → List Known → List Known
first_part most facts = take (next_count most facts) facts

abbrev pub rest_after : ℕ → List Known → List Known
rest_after most facts = drop (next_count most facts) facts

-- the first n parts, or all where there are no more
abbrev pub first_parts : ℕ → ℕ → List Known → List (List Known)
first_parts zero most facts = []
first_parts (suc n) most [] = []
first_parts (suc n) most (e ∷ facts) = first_part most (e ∷ facts) ∷ first_parts n most (rest_after most (e ∷ facts))

-- all parts: there are at most as many as facts
abbrev pub parts_of : ℕ → List Known → List (List Known)
parts_of most facts = first_parts (length facts) most facts

-- the facts of all parts, one after the other
abbrev pub facts_of_parts : List (List Known) → List Known
facts_of_parts [] = []
facts_of_parts (part ∷ parts) = part ++ facts_of_parts parts

-- a part has a fact, and is at most so many bytes unless it is one fact
pub record IsPart (most : ℕ) (part : List Known) : Type 0 where
  pub some : 0 < length part
  pub short : (facts_bytes part ≤ most) ⊎ (length part ≡ 1)

-- the facts were cut into these parts
pub record AreParts (most : ℕ) (facts : List Known) (parts : List (List Known)) : Type 0 where
  pub whole : facts_of_parts parts ≡ facts
  pub each : All (IsPart most) parts

-- the part is the first of all parts of these facts, and the others are those of what is left
abbrev pub IsNextPart : ℕ → List Known → List Known → List Known → Type 0
IsNextPart most facts part left = parts_of most facts ≡ part ∷ parts_of most left

-- the fragment of a head and of the facts of all parts, one after the other, or its first fault
abbrev pub of_parts : HeadValue → List (List Known) → Result FragmentValue FormFault
of_parts head parts = of_facts head (facts_of_parts parts)

-- the fragment is put together of its head and its parts, however long these are
abbrev pub IsOfItsParts : FragmentValue → Type 0
IsOfItsParts f = (most : ℕ) → of_parts (head_of f) (parts_of most (facts_of f)) ≡ Ok f

-- what is put together has this head, and the facts of all parts
pub record IsPutTogether (head : HeadValue) (parts : List (List Known)) (f : FragmentValue) : Type 0 where
  pub has_head : head_of f ≡ head
  pub has_facts : facts_of f ≡ facts_of_parts parts

-- the value of a `Split`: the fragment, the facts that were given, those of them that are the last part, and those left
pub record SplitValue : Type 0 where
  pub whole : FragmentValue
  pub given : List Known
  pub part : List Known
  pub left : List Known

abbrev pub split_code : Coded SplitValue
split_code =
    code_by (FragmentValue × (List Known × (List Known × List Known))) (coded× fragment_code (coded× (coded_list known_code) (coded× (coded_list known_code) (coded_list known_code))))
    (λ s. (s.whole, (s.given, (s.part, s.left)))) (λ p. record { whole = p.0; given = p.1.0; part = p.1.1.0; left = p.1.1.1 }) (λ _. refl)

-- a split whose last part goes from the one place to the other
abbrev pub split_seen : FragmentValue → ℕ → ℕ → SplitValue
split_seen whole from to =
    record { whole = whole; given = take to (facts_of whole); part = take (to - from) (drop from (facts_of whole)); left = drop to (facts_of whole) }

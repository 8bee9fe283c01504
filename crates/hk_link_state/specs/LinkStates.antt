-- The state of a link that speaks both versions: what it gives in parts, the parts that came, and its holds.
use Rattle.std.specs.Prelude.{◌≡◌, ℕ, ◌+◌, ◌-◌, ◌*◌, min, not, ◌==◌, Bool, nat_lt, if◌then◌else◌, List, [], ◌∷◌, ◌++◌, length, Option, Some, None, Result, Ok, Err, refl}
use Rattle.std.specs.Coded.{Coded, code_by, coded×, coded_ℕ, coded_list, coded_option}
use Rattle.hk_types.specs.declared.faults.FormFault.TheVariants.{TooLong}
use Rattle.hk_types.specs.declared.faults.Refusal.{Refusal}
use Rattle.hk_types.specs.declared.faults.Refusal.TheVariants as refusals
use Rattle.hk_model.specs.Replica.Codes.{fragment_code}
use Rattle.hk_model.specs.Replica.Fragments.{FragmentValue}
use Rattle.hk_fragment.specs.Parts.{Known}
use Rattle.hk_fragment.specs.Heads.{facts_of, head_of}
use Rattle.hk_fragment.specs.Assemblies.{known_code}
use Rattle.hk_values.specs.Cutting.{SplitValue, facts_bytes, first_part, rest_after}
use Rattle.hk_fragment_bytes.specs.Parts.{head_bytes, wire_head_of}
use Rattle.hk_messages.specs.LaterReplies.{ReplyValue, Part, LastPart, Refused}
use Rattle.hk_oplog.specs.declared.op.Hold.{Hold}

-- ---- what a link keeps

-- how many bytes count for facts: those that they have in a message, and 128 more for each
abbrev pub weight : List Known → ℕ
weight facts = facts_bytes facts + 128 * length facts

-- the same of facts that can be counted in a message
abbrev pub weight_counted : List Known → Option ℕ
weight_counted facts = if nat_lt 4294967295 (length facts) then None else Some (weight facts)

-- ---- what is given

-- how many bytes a message has at most behind its length, and the head of a fragment that is given
abbrev pub most_message : ℕ
most_message = 268435456

abbrev pub most_head : ℕ
most_head = 268431256

-- a fragment that is given: the facts of it that were not told yet, and how many bytes a part has at most
pub record OutgoingValue : Type 0 where
  pub whole : FragmentValue
  pub left : List Known
  pub most : ℕ

abbrev pub outgoing_code : Coded OutgoingValue
outgoing_code =
    code_by (FragmentValue × (List Known × ℕ)) (coded× fragment_code (coded× (coded_list known_code) coded_ℕ))
    (λ g. (g.whole, (g.left, g.most))) (λ p. record { whole = p.0; left = p.1.0; most = p.1.1 }) (λ _. refl)

-- a split that stands at the part that is told next
abbrev pub outgoing_seen : SplitValue → ℕ → OutgoingValue
outgoing_seen split most = record { whole = split.whole; left = split.part ++ split.left; most = most }

-- the part of the split is the first of the facts that were not told, and so much room is taken for the fragment
pub record IsAtNext (split : SplitValue) (most room : ℕ) : Type 0 where
  pub is_next : split.part ≡ first_part most (split.part ++ split.left)
  pub is_after : split.left ≡ rest_after most (split.part ++ split.left)
  pub has_room : room ≡ weight (facts_of split.whole)

-- a fragment of which nothing was told yet
abbrev pub begun : FragmentValue → ℕ → OutgoingValue
begun f most = record { whole = f; left = facts_of f; most = most }

-- how many bytes a part of a fragment has at most where so many were asked for: the head that comes with the last part has room beside it
-- in a message; none where it would have none
abbrev pub room_beside : Option ℕ → ℕ → Option ℕ
room_beside None most = None
room_beside (Some head) most = if nat_lt most_head head then None else Some (min most (most_message - 64 - head))

abbrev pub part_room : FragmentValue → ℕ → Option ℕ
part_room f most = room_beside (head_bytes f) most

-- the facts that are told next, and those after them
abbrev pub next_facts : OutgoingValue → List Known
next_facts g = first_part g.most g.left

abbrev pub later_facts : OutgoingValue → List Known
later_facts g = rest_after g.most g.left

-- the next part of what is given: with the head of the fragment where no fact comes after it
abbrev pub part_told : OutgoingValue → ReplyValue
part_told g = if length (later_facts g) == 0 then LastPart (next_facts g) (wire_head_of (head_of g.whole)) else Part (length (later_facts g)) (next_facts g)

-- what is given once this part is told
abbrev pub giving_after : OutgoingValue → Option OutgoingValue
giving_after g = if length (later_facts g) == 0 then None else Some (record g { left = later_facts g })

-- ---- the link

-- what a link keeps: how many bytes all links of the node may keep, what this one gives, the facts that came, its holds, and how many bytes
-- it reserved for what is between its socket and its session
pub record LinkStateValue : Type 0 where
  pub most : ℕ
  pub giving : Option OutgoingValue
  pub came : List Known
  pub holds : List Hold
  pub buffers : ℕ

abbrev pub link_state_code : Coded Hold → Coded LinkStateValue
link_state_code hold =
    code_by (ℕ × (Option OutgoingValue × (List Known × (List Hold × ℕ)))) (coded× coded_ℕ (coded× (coded_option outgoing_code) (coded× (coded_list known_code) (coded× (coded_list hold) coded_ℕ))))
    (λ l. (l.most, (l.giving, (l.came, (l.holds, l.buffers))))) (λ p. record { most = p.0; giving = p.1.0; came = p.1.1.0; holds = p.1.1.1.0; buffers = p.1.1.1.1 }) (λ _. refl)

-- the host for version 1, and what the link keeps
pub record LinkValue (S : Type 0) : Type 0 where
  pub inner : S
  pub most : ℕ
  pub giving : Option OutgoingValue
  pub came : List Known
  pub holds : List Hold
  pub buffers : ℕ

abbrev pub link_code : {S : Type 0} → Coded S → Coded Hold → Coded (LinkValue S)
link_code {S} inner hold =
    code_by (S × (ℕ × (Option OutgoingValue × (List Known × (List Hold × ℕ))))) (coded× inner (coded× coded_ℕ (coded× (coded_option outgoing_code) (coded× (coded_list known_code) (coded× (coded_list hold) coded_ℕ)))))
    (λ l. (l.inner, (l.most, (l.giving, (l.came, (l.holds, l.buffers)))))) (λ p. record { inner = p.0; most = p.1.0; giving = p.1.1.0; came = p.1.1.1.0; holds = p.1.1.1.1.0; buffers = p.1.1.1.1.1 }) (λ _. refl)

-- ---- what is given, step by step

-- the next part is told
abbrev pub more_step : Option OutgoingValue → ReplyValue × Option OutgoingValue
more_step None = (Refused refusals.NoPart, None)
more_step (Some g) = (part_told g, giving_after g)

-- what was cut is begun in place of what was given; where its head is too long for a message that is told, and what was given stays
abbrev pub begun_step : Option OutgoingValue → FragmentValue → Option ℕ → ReplyValue × Option OutgoingValue
begun_step giving f (Some room) = more_step (Some (begun f room))
begun_step giving f None = (Refused (refusals.Form TooLong), giving)

-- so it is where something was cut; else it is told why nothing was, and nothing is given any more
abbrev pub whole_step : Option OutgoingValue → Result FragmentValue Refusal → ℕ → ReplyValue × Option OutgoingValue
whole_step giving (Ok f) most = begun_step giving f (part_room f most)
whole_step giving (Err why) most = (Refused why, None)

-- ---- holds

-- the hold of this number, if the link has it
abbrev pub held_by : ℕ → List Hold → Option Hold
held_by number [] = None
held_by number (h ∷ holds) = if h.reader == number then Some h else held_by number holds

-- the other holds
abbrev pub is_other_hold : ℕ → Hold → Bool
is_other_hold number h = not (h.reader == number)

-- the same with a place behind the others, for a hold at this time
abbrev pub with_place : LinkStateValue → ℕ → LinkStateValue
with_place kept time = record kept { holds = kept.holds ++ (record { reader = 0; at = time }) ∷ [] }

-- the link of a host for version 1 that keeps this
abbrev pub link_of : {S : Type 0} → S → LinkStateValue → LinkValue S
link_of inner kept = record { inner = inner; most = kept.most; giving = kept.giving; came = kept.came; holds = kept.holds; buffers = kept.buffers }

-- what a link keeps that gives nothing, to which nothing came, that has these holds, and no bytes beside them
abbrev pub fresh_state : ℕ → List Hold → LinkStateValue
fresh_state most holds = record { most = most; giving = None; came = []; holds = holds; buffers = 0 }

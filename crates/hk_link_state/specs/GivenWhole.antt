-- What a link tells of a fragment, from Whole to the last part.
use Rattle.std.specs.Prelude.{◌≡◌, ℕ, zero, suc, List, [], ◌∷◌, length, map, Option, Some, None, Ok}
use Rattle.hk_model.specs.Replica.Fragments.{FragmentValue}
use Rattle.hk_fragment.specs.Parts.{Known}
use Rattle.hk_fragment.specs.Heads.{facts_of, head_of}
use Rattle.hk_values.specs.Cutting.{of_parts}
use Rattle.hk_fragment_bytes.specs.Parts.{WireHead, wire_head_of}
use Rattle.hk_messages.specs.LaterReplies.{ReplyValue, Part, LastPart}
use Rattle.hk_link_state.specs.LinkStates.{OutgoingValue, begun, giving_after, part_told}

-- the replies to so many requests for a next part, as long as there is one
abbrev pub replies_for : ℕ → Option OutgoingValue → List ReplyValue
replies_for zero giving = []
replies_for (suc n) None = []
replies_for (suc n) (Some g) = part_told g ∷ replies_for n (giving_after g)

-- those for a fragment that is begun: there is no more of them than facts and one
abbrev pub all_replies : FragmentValue → ℕ → List ReplyValue
all_replies f most = replies_for (suc (length (facts_of f))) (Some (begun f most))

-- the facts that a reply tells
abbrev pub facts_told : ReplyValue → List Known
facts_told (Part left facts) = facts
facts_told (LastPart facts head) = facts
facts_told other = []

-- the heads that replies tell
abbrev pub heads_told : List ReplyValue → List WireHead
heads_told [] = []
heads_told (LastPart facts head ∷ replies) = head ∷ heads_told replies
heads_told (reply ∷ replies) = heads_told replies

-- one head is told, that of the fragment, and the fragment is put together of it and the parts that are told
pub record IsGivenWhole (f : FragmentValue) (most : ℕ) : Type 0 where
  pub has_head : heads_told (all_replies f most) ≡ wire_head_of (head_of f) ∷ []
  pub is_whole : of_parts (head_of f) (map facts_told (all_replies f most)) ≡ Ok f

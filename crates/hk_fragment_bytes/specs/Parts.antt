-- Parts and heads of fragments: what their bytes tell, their encoding and their reading.
use Rattle.std.specs.Prelude.{◌≡◌, ℕ, ◌≤◌, ◌<◌, ◌^◌, Bool, true, not, ◌&&◌, ◌||◌, ◌==◌, nat_le, nat_lt, is_some, if◌then◌else◌, List, [], ◌++◌, length, map, Option, Some, None, refl}
use Rattle.std.specs.Coded.{Coded, code_by, coded×, coded_ℕ, coded_list}
use Rattle.std.specs.Int.{w16, w64}
use Rattle.std.specs.List.{flat_map}
use Rattle.hk_types.specs.Values.{ConfigValue}
use Rattle.hk_model.specs.Replica.Streams.{StreamContent}
use Rattle.hk_model.specs.Replica.Content.{least_closed}
use Rattle.hk_model.specs.Replica.Codes.{stream_code}
use Rattle.hk_fragment.specs.Parts.{Known, facts_fault}
use Rattle.hk_frames.specs.Fields.{number, number_at}
use Rattle.hk_model.specs.Replica.Fragments.{FragmentValue}
use Rattle.hk_fragment.specs.Heads.{HeadValue, head_of}
use Rattle.hk_answers.specs.Readers.{Reader, both, after, mapped_value, Chained, fault_where}
use Rattle.hk_fragment_bytes.specs.Fragments.{WireStream, WireFragment, wire_stream_of, stream_text, fragment_head_at, streams_at, facts_at, streams_are_counted, FactFits, FragmentFits}
use Rattle.hk_types.specs.declared.faults.FormFault.TheVariants.{BadNumber}

-- ---- heads

-- the code of the value of a `HeadValue`, by which proofs tell such values apart
abbrev pub head_code : Coded HeadValue
head_code =
    code_by (ℕ × (ℕ × (ℕ × (List StreamContent × ℕ)))) (coded× coded_ℕ (coded× coded_ℕ (coded× coded_ℕ (coded× (coded_list stream_code) coded_ℕ))))
    (λ h. (h.log, (h.base, (h.horizon, (h.streams, h.count))))) (λ p. record { log = p.0; base = p.1.0; horizon = p.1.1.0; streams = p.1.1.1.0; count = p.1.1.1.1 }) (λ _. refl)

-- whether the base of a head is 0 or at least the horizon
abbrev pub is_base : ℕ → ℕ → Bool
is_base base horizon = (base == 0) || nat_le horizon base

-- what holds of the parts of every head
pub record IsHead (config : ConfigValue) (base horizon : ℕ) (streams : List StreamContent) : Type 0 where
  pub as_many : length streams ≡ config.streams
  pub above : is_base base horizon ≡ true
  pub within : horizon ≤ least_closed streams

-- what is told of a head
pub record WireHead : Type 0 where
  pub log : ℕ
  pub base : ℕ
  pub horizon : ℕ
  pub streams : List WireStream
  pub count : ℕ

abbrev pub wire_head_of : HeadValue → WireHead
wire_head_of h = record { log = h.log; base = h.base; horizon = h.horizon; streams = map wire_stream_of h.streams; count = h.count }

-- a head as a fragment that has no facts
abbrev pub bare : WireHead → WireFragment
bare h = record { log = h.log; base = h.base; horizon = h.horizon; streams = h.streams; facts = [] }

-- the encoding of a head: that of a fragment up to its facts, and how many facts it has
unfoldable pub head_text : WireHead → List ℕ
head_text h = number w64 h.log ++ (number w16 (length h.streams) ++ (number w64 h.base ++ (number w64 h.horizon ++ (flat_map stream_text h.streams ++ number w64 h.count))))

-- a head whose parts fit their fields and keep the rules of fragments
abbrev pub HeadFits : WireHead → Type 0
HeadFits h = FragmentFits (bare h) × (h.count < 2 ^ 64)

-- whether the numbers and marks of a head can be counted
abbrev pub head_is_counted : WireHead → Bool
head_is_counted h = streams_are_counted h.streams

-- how many bytes the head of a fragment has, where it can be counted
abbrev pub head_bytes : FragmentValue → Option ℕ
head_bytes f = if head_is_counted (wire_head_of (head_of f)) then Some (length (head_text (wire_head_of (head_of f)))) else None

-- a head
unfoldable pub head_at : Reader WireHead
head_at bytes =
    mapped_value (λ p. record { log = p.0.0.0; base = p.0.0.1.1.0; horizon = p.0.0.1.1.1; streams = p.0.1; count = p.1 })
    (both (after fragment_head_at (λ h. streams_at h.1.1.1 h.1.0)) (number_at w64)) bytes

-- ---- parts

-- facts that keep the rules of a fragment of base 0 and horizon 0, each with numbers and a body that fit their fields
abbrev pub PartFits : List Known → Type 0
PartFits facts = Chained (λ e. e.0) (FactFits 0 0) None facts

-- whether facts can be counted and keep those rules
abbrev pub part_keeps_rules : List Known → Bool
part_keeps_rules facts = nat_lt (length facts) (2 ^ 32) && not (is_some (facts_fault 0 0 None facts))

-- the facts of a part behind their count
unfoldable pub part_at : Reader (List Known)
part_at bytes = facts_at 0 0 bytes

-- the head of a whole: its base is 0
unfoldable pub whole_head_at : Reader WireHead
whole_head_at bytes = fault_where head_at (λ head. not (head.base == 0)) BadNumber bytes

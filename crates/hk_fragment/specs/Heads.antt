-- The head of a fragment, and the fragment of a head and facts.
use Rattle.std.specs.Prelude.{◌≡◌, ℕ, ◌==◌, if◌then◌else◌, List, length, Result, Ok, Err}
use Rattle.hk_types.specs.Values.{ConfigValue}
use Rattle.hk_types.specs.declared.faults.FormFault.{FormFault}
use Rattle.hk_types.specs.declared.faults.FormFault.TheVariants.{BadCount}
use Rattle.hk_model.specs.Replica.Streams.{StreamContent}
use Rattle.hk_model.specs.Replica.Fragments.{FragmentValue}
use Rattle.hk_fragment.specs.Parts.{Known, checked_fragment, versions_listed}

-- what a fragment is without its facts: the log, the base, the horizon, the numbers and marks of each stream, and how
-- many facts it has
pub record HeadValue : Type 0 where
  pub log : ℕ
  pub base : ℕ
  pub horizon : ℕ
  pub streams : List StreamContent
  pub count : ℕ

-- the facts of a fragment, by rising version key
abbrev pub facts_of : FragmentValue → List Known
facts_of f = versions_listed f.content

abbrev pub head_of : FragmentValue → HeadValue
head_of f = record { log = f.content.log; base = f.base; horizon = f.content.horizon; streams = f.content.streams; count = length (facts_of f) }

-- the log of a head, with as many streams as the head has
abbrev pub config_of : HeadValue → ConfigValue
config_of head = record { log = head.log; streams = length head.streams }

abbrev pub head_with : ConfigValue → ℕ → ℕ → List StreamContent → ℕ → HeadValue
head_with config base horizon streams count = record { log = config.log; base = base; horizon = horizon; streams = streams; count = count }

-- the fragment of a head and facts, or its first fault: first of all there are as many facts as the head says
abbrev pub of_facts : HeadValue → List Known → Result FragmentValue FormFault
of_facts head facts = if length facts == head.count then checked_fragment (config_of head) head.base head.horizon head.streams facts else Err BadCount

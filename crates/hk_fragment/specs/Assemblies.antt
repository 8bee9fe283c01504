-- The order of the parts of a fragment, and what an assembly of them keeps.
use Rattle.std.specs.Prelude.{◌≡◌, Bool, true, ◌&&◌, if◌then◌else◌, List, [], ◌∷◌, ◌++◌, Option, Some, None, Result, Ok, Err}
use Rattle.std.specs.Coded.{Coded, coded×}
use Rattle.hk_types.specs.declared.version_key.VersionKey.{VersionKey}
use Rattle.hk_types.specs.declared.faults.FormFault.{FormFault}
use Rattle.hk_types.specs.declared.faults.FormFault.TheVariants.{BadOrder}
use Rattle.hk_types.specs.declared.faults.Refusal.{Refusal}
use Rattle.hk_types.specs.declared.faults.Refusal.TheVariants.{Form, Memory}
use Rattle.hk_log.specs.Versions.{version_code}
use Rattle.hk_model.specs.Replica.Codes.{version_key_code}
use Rattle.hk_fragment.specs.Parts.{Known, follows}

abbrev pub known_code : Coded Known
known_code = coded× version_key_code version_code

-- whether the version keys rise, the first of them after the one before it, where there is one
abbrev pub rise_after : Option VersionKey → List Known → Bool
rise_after before [] = true
rise_after before (e ∷ facts) = follows before e.0 && rise_after (Some e.0) facts

abbrev pub rises : List Known → Bool
rises facts = rise_after None facts

-- the version of the last fact, or else the one before
abbrev pub last_after : Option VersionKey → List Known → Option VersionKey
last_after before [] = before
last_after before (e ∷ facts) = last_after (Some e.0) facts

-- the same, where the facts rise
abbrev pub checked_last : Option VersionKey → List Known → Result (Option VersionKey) FormFault
checked_last before [] = Ok before
checked_last before (e ∷ facts) = if follows before e.0 then checked_last (Some e.0) facts else Err BadOrder

-- what holds of the facts of an assembly, and of its last version
pub record IsAssembly (facts : List Known) (last : Option VersionKey) : Type 0 where
  pub is_rising : rises facts ≡ true
  pub is_last : last ≡ last_after None facts

-- why a part is refused: it doesn't rise after the facts that were added before it, or else memory ran out
abbrev pub part_refusal : List Known → List Known → Refusal
part_refusal facts part = if rises (facts ++ part) then Memory else Form BadOrder

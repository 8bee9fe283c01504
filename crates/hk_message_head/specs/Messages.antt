-- Messages: a version, a kind, and a body, in a frame of their own. The kind tells the version.
use Rattle.std.specs.Prelude.{ℕ, ◌&&◌, Bool, not, ◌==◌, nat_lt, nat_le, if◌then◌else◌, List, ◌∷◌, length, Result, Ok}
use Rattle.hk_types.specs.declared.faults.FormFault.{FormFault}
use Rattle.hk_types.specs.declared.faults.FormFault.TheVariants.{BadKind, BadVersion, WrongLength}
use Rattle.hk_frames.specs.Fields.{◌>>=◌, check, byte_at}
use Rattle.hk_answers.specs.Readers.{Reader}

-- the version of the messages of a kind: from 48 on they are of version 2
abbrev pub version_of : ℕ → ℕ
version_of kind = if nat_lt kind 48 then 1 else 2

-- the rest of a message's frame: the version, the kind, the body
abbrev pub message_text : ℕ → List ℕ → List ℕ
message_text kind body = version_of kind ∷ kind ∷ body

-- whether messages of a version are read, where the latest that is read is this one
abbrev pub is_read : ℕ → ℕ → Bool
is_read latest version = nat_le 1 version && nat_le version latest

-- a version that is read, and then a kind of that version
unfoldable pub head_at : ℕ → Reader ℕ
head_at latest bytes = do
  version ← byte_at bytes
  _ ← check (not (is_read latest version.0)) BadVersion
  kind ← byte_at version.1
  _ ← check (not (version_of kind.0 == version.0)) BadKind
  Ok kind

-- the message of a version that is read which is all of the rest, where `body_at` reads the body of a kind
unfoldable pub message_at : {X : Type 0} → ℕ → (ℕ → Reader X) → List ℕ → Result X FormFault
message_at latest body_at bytes = do
  kind ← head_at latest bytes
  body ← body_at kind.0 kind.1
  _ ← check (nat_lt 0 (length body.1)) WrongLength
  Ok body.0

-- Checksums of frames.
use Rattle.std.specs.Prelude.{ℕ, List, [], ◌∷◌}
use Rattle.sha2.specs.Hashers.{Holds256}
use Rattle.hk_cli_input.specs.declared.checksum.Checksum.{Checksum}

-- these bytes were added to a checksum
abbrev pub Holds : Checksum → List ℕ → Type 0
Holds c bytes = Holds256 c.hasher bytes

-- what stands before the checksum in its frame: the length of the rest, version 2, kind 127, form 1
abbrev pub sum_head : List ℕ
sum_head = 0 ∷ 0 ∷ 0 ∷ 36 ∷ 2 ∷ 127 ∷ 0 ∷ 1 ∷ []

-- The line of a stream.
use Rattle.std.specs.Prelude.{ℕ, List, [], ◌∷◌, ◌++◌, codes}
use Rattle.hk_cli_json.specs.Fields.{joined, string, wide, small}
use Rattle.hk_cli_json.specs.declared.status.StreamLine.{StreamLine}

-- which entries it has
abbrev pub taken_part : ℕ → ℕ → ℕ → List ℕ
taken_part stream prefix extra =
    joined (codes "{" ∷ small (codes "stream") stream ++ codes "," ∷ wide (codes "prefix") prefix
    ++ codes "," ∷ wide (codes "extra") extra)

-- up to when it is closed, how many marks wait, and what it does to the resolved time
abbrev pub closed_part : ℕ → ℕ → List ℕ → List ℕ
closed_part closed waiting standing =
    joined (codes "," ∷ wide (codes "closed") closed ++ codes "," ∷ wide (codes "waiting") waiting
    ++ codes "," ∷ string (codes "standing") standing ++ codes "}\n" ∷ [])

-- the line of a stream
abbrev pub stream_line : ℕ → ℕ → ℕ → ℕ → ℕ → List ℕ → List ℕ
stream_line stream prefix extra closed waiting standing =
    taken_part stream prefix extra ++ closed_part closed waiting standing

-- the same of the fields of a `StreamLine`
abbrev pub taken_of : StreamLine → List ℕ
taken_of l = taken_part l.stream l.prefix l.extra

abbrev pub closed_of : StreamLine → List ℕ
closed_of l = closed_part l.closed l.waiting l.standing.now

abbrev pub line_of : StreamLine → List ℕ
line_of l = stream_line l.stream l.prefix l.extra l.closed l.waiting l.standing.now

-- Joins and prunes that touch the past: what they do up to the readable mark could change an answer that was given.
use Rattle.std.specs.Prelude.{ℕ, ◌-◌, max, Bool, not, ◌&&◌, ◌||◌, ◌==◌, nat_le, nat_lt, is_some, if◌then◌else◌}
use Rattle.std.specs.List.{list_any}
use Rattle.std.specs.FinMap as finmap
use Rattle.hk_types.specs.declared.version_key.VersionKey.{VersionKey}
use Rattle.hk_model.specs.History.Rows.{row_key_of}
use Rattle.hk_model.specs.Replica.Content.{Content, readable, at_most, ended_by}
use Rattle.hk_model.specs.Replica.Fragments.{FragmentValue}
use Rattle.hk_model.specs.Replica.Answers.{replaces, visible}

-- ---- a prune

-- whether w is the row of v's key that was born last before v
abbrev pub is_next_older : Content → VersionKey → VersionKey → Bool
is_next_older c v w = replaces v.born w v && not (list_any (replaces (v.born - 1) w) (finmap.keys c.rows))

-- whether the row that was born last before v stays in a prune to h
abbrev pub next_older_stays : Content → ℕ → VersionKey → Bool
next_older_stays c h v = list_any (λ w. is_next_older c v w && not (ended_by c.ends h w)) (finmap.keys c.rows)

-- whether a row that goes in a prune to h lets an older one show: that one stays, and at h nothing of the key shows
abbrev pub uncovers : Content → ℕ → VersionKey → Bool
uncovers c h v = ended_by c.ends h v && (not (is_some (finmap.get (visible c h) (row_key_of v))) && next_older_stays c h v)

-- whether a prune to h touches the past: some row that goes lets an older one show
abbrev pub prune_touches_past : Content → ℕ → Bool
prune_touches_past c h = list_any (uncovers c h) (finmap.keys c.rows)

-- ---- a join

-- the horizon that a join leaves
abbrev pub joined_horizon : Content → FragmentValue → ℕ
joined_horizon t f = max t.horizon f.content.horizon

-- whether a row comes in a join that the target lacks, born at its readable mark or before
abbrev pub row_is_late : Content → FragmentValue → VersionKey → Bool
row_is_late t f v =
    let h = joined_horizon t f in
    nat_le v.born (readable t) && (not (is_some (finmap.get t.rows v)) && (nat_lt h v.born || ((f.base == 0) && (f.content.horizon == h))))

-- whether an end comes in a join that the target lacks, at its readable mark or before
abbrev pub end_is_late : Content → FragmentValue → VersionKey → Bool
end_is_late t f v =
    let h = joined_horizon t f in
    at_most (readable t) (finmap.get f.content.ends v) && (not (is_some (finmap.get t.ends v)) && not (at_most h (finmap.get f.content.ends v)))

-- whether a whole that raises the horizon leaves a row of the target's own otherwise than a prune to there does: one that
-- ended by then comes again, or one that did not is not sent
abbrev pub is_stray : Content → FragmentValue → VersionKey → Bool
is_stray t f v =
    let h = f.content.horizon in
    nat_lt t.horizon h
    && ((f.base == 0)
    && (nat_le v.born h
    && (if ended_by t.ends h v then is_some (finmap.get f.content.rows v) else not (is_some (finmap.get f.content.rows v)))))

-- whether a join brings a row or an end late, or leaves a row astray
abbrev pub brings_late : Content → FragmentValue → Bool
brings_late t f = list_any (row_is_late t f) (finmap.keys f.content.rows) || list_any (end_is_late t f) (finmap.keys f.content.ends)

abbrev pub leaves_strays : Content → FragmentValue → Bool
leaves_strays t f = list_any (is_stray t f) (finmap.keys t.rows)

-- whether a join touches the past: where a time that could be asked stays readable, a fact comes late, a row goes astray, or
-- the prune to its horizon touches the past
abbrev pub join_touches_past : Content → FragmentValue → Bool
join_touches_past t f =
    nat_le (joined_horizon t f) (readable t)
    && (brings_late t f || (leaves_strays t f || prune_touches_past t (joined_horizon t f)))

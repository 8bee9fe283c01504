-- The rule of the published copy, and what lies under the writer's lock.
use Rattle.std.specs.Prelude.{◌≡◌, ℕ, ◌<◌, ◌≤◌, true, List, [], ◌∷◌, ◌++◌, length, map, drop, fold, Option, Some, None, Result, MatchResult}
use mathlib.Core.Option.{some}
use mathlib.Core.List.{IsPrefix}
use lib.ListN.{get_elem?}
use Rattle.left_right.specs.Sides.{view as known}
use Rattle.left_right.specs.declared.Absorb.{Ghosts}
use Rattle.left_right.specs.declared.writer.Writer.{Writer}
use Rattle.logbook.specs.Pages.{Book}
use Rattle.hk_oplog.specs.declared.op.NodeKind.{NodeKind}
use Rattle.hk_oplog.specs.declared.op.Op.{Op}
use Rattle.hk_node.specs.declared.replica.Replica.{Replica}
use Rattle.hk_node.specs.declared.replica.Logged.{Logged}
use Rattle.hk_node.specs.Book.{no_book}
use Rattle.hk_oplog.specs.Replay.{content_after_op, kind_of, replay, is_legal}

-- what a reader or the writer knows: of which node, and which operations
abbrev pub View : Type 0
View = Book × List Op

abbrev pub no_view : View
no_view = (no_book, [])

-- a copy after an operation
abbrev pub next : Replica → Logged → Replica
next x o = record { body = content_after_op x.body o.op; prefix = o.prefix }

-- a copy is the replay of its list, which is legal
abbrev pub IsReplay : Replica → Type 0
IsReplay x = (x.body ≡ replay x.prefix.1) × (is_legal x.prefix.1 ≡ true)

-- a view is a prefix of the published list, of the same node
abbrev pub Fits : View → View → Type 0
Fits x v = IsPrefix v.1 x.1 × (0 < length v.1 → v.0 ≡ x.0)

-- the rule: what is published is the replay of its list, and each view is a prefix of that list
abbrev pub Keeps : Replica → List View → Type 0
Keeps x views = IsReplay x × ((seat : ℕ) (v : View) → get_elem? views seat ≡ some v → Fits x.prefix v)

-- what entering and publishing tell
abbrev pub Sees : View → Replica → Replica → View → Type 0
Sees v x y w = Fits x.prefix v × (w ≡ y.prefix) × IsReplay y

-- what waits, in the log of `left_right` or beside it
abbrev pub queue : List Logged → Option Logged → List Logged
queue pending None = pending
queue pending (Some o) = pending ++ o ∷ []

abbrev pub ops_of : List Logged → List Op
ops_of waiting = map (λ o. o.op) waiting

module _ {T O V P A S : Type 0} {g : Ghosts T O S} where
  -- the copy that readers take
  abbrev pub shown : Writer T O V P A S g → T
  shown w = w.desk.shown.value

  -- the operations that it lacks
  abbrev pub pending : Writer T O V P A S g → List O
  pending w = drop w.behind w.log.items

  -- what is shown, what waits and what the writer knows are as before
  abbrev pub KeepsShown : Writer T O V P A S g → Writer T O V P A S g → Type 0
  KeepsShown old new = (new.desk.shown ≡ old.desk.shown) × (new.log ≡ old.log) × (new.behind ≡ old.behind) × (known new.desk.place ≡ known old.desk.place)

module _ {V P A S : Type 0} {g : Ghosts Replica Logged S} where
  -- what waits with the writer or beside it
  abbrev pub waiting : Writer Replica Logged V P A S g → Option Logged → List Logged
  waiting w late = queue (pending w) late

  -- all that waited is shown, and nothing waits; or what is shown and what waits are as before
  abbrev pub ShowsAll : {E : Type 0} → Writer Replica Logged V P A S g → Writer Replica Logged V P A S g → Result (Unit {0}) E → Type 0
  ShowsAll old new result =
      MatchResult result (λ _. (shown new ≡ fold next (shown old) (pending old)) × (pending new ≡ [])) (λ _. (shown new ≡ shown old) × (pending new ≡ pending old))

-- the copy that is shown is the one before with all that waited, or the one before
abbrev pub IsShown : {E : Type 0} → Replica → List Logged → Replica → Result (Unit {0}) E → Type 0
IsShown old queued new result = MatchResult result (λ _. new ≡ fold next old queued) (λ _. new ≡ old)

-- nothing waits, or what waited
abbrev pub IsEmptied : {E : Type 0} → List Logged → List Logged → Result (Unit {0}) E → Type 0
IsEmptied old new result = MatchResult result (λ _. new ≡ []) (λ _. new ≡ old)

-- the copy with what waits may be published next
pub record IsReady (shown : Replica) (waiting : List Logged) : Type 0 where
  pub replayed : IsReplay (fold next shown waiting)
  pub longer : IsPrefix shown.prefix.1 (fold next shown waiting).prefix.1
  pub same : shown.prefix.0 ≡ (fold next shown waiting).prefix.0

-- the published copy, and what waits
pub record IsPublisher (book : Book) (kind : NodeKind) (counter : Book) (shown : Replica) (waiting : List Logged) : Type 0 where
  pub name : shown.prefix.0 ≡ book
  pub kind_shown : kind_of shown.prefix.1 ≡ kind
  pub kind_all : kind_of (fold next shown waiting).prefix.1 ≡ kind
  pub counted : counter ≡ book
  pub published : IsReplay shown
  pub list : (fold next shown waiting).prefix ≡ (book, shown.prefix.1 ++ ops_of waiting)
  pub replayed : IsReplay (fold next shown waiting)
  pub few : length waiting ≤ 1

-- a view of this node that has seen something
abbrev pub IsOf : Book → View → Type 0
IsOf book v = (v.0 ≡ book) × (0 < length v.1)

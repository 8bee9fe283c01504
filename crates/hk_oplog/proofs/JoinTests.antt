-- What a join passes that is not refused, and what it leaves.
use Rattle.std.proofs.Common.{◌≡◌, ℕ, ◌≤◌, ◌==◌, Bool, true, false, not, ◌&&◌, ◌||◌, ◌+◌, inl, inr, if◌then◌else◌, cond, length, Option, Some, None, Ok, Err, refl, sym, ap, ◌∙◌, arith}
use Rattle.std.specs.Prelude.{nat_lt}
use Rattle.std.proofs.lemmas.Bool.Decides.{nat_tests}
use Rattle.hk_types.specs.declared.faults.Refusal.{Refusal}
use Rattle.hk_types.specs.declared.faults.Refusal.TheVariants.{ForeignLog, WrongStreams, Gap, Conflict, Damaged, Memory}
use Rattle.hk_types.specs.Values.{same_row}
use Rattle.hk_model.specs.Replica.Maps.{or_else, maps_conflict}
use Rattle.hk_model.specs.Replica.Content.{Content, readable}
use Rattle.hk_model.specs.Replica.Fragments.{FragmentValue, cut}
use Rattle.hk_model.specs.Replica.Lawful.{IsLawful}
use Rattle.hk_model.specs.Replica.Rules.{join_result, contents_conflict, content_after_join}
use Rattle.hk_model.specs.Replica.Touches.{join_touches_past}
use Rattle.hk_store.specs.Facts.{FactsValue}
use Rattle.hk_store.specs.Reads.{with_facts}
use Rattle.hk_merge.specs.Calls.{Joins}
use Rattle.hk_merge.proofs.JoinRefusals.{whole_is}
use Rattle.hk_oplog.specs.declared.op.Op.TheVariants.{Join}
use Rattle.hk_oplog.specs.NodeContent.{NodeContent}
use Rattle.hk_oplog.specs.Replay.{fit_refusal, fit_or_full, guard_refusal, held_refusal, past_refusal, full_refusal, join_refused, join_unfit, after_join, after_conflict, content_after_op, unless}

-- where no refusal came, its test was false
pub passed : (b : Bool) (e : Refusal) (o : Option Refusal) → (if b then Some e else o) ≡ None → (b ≡ false) × (o ≡ None)
passed true e o h = absurd (cc)
passed false e o h = (refl, h)

pub passed_or : (o p : Option Refusal) → or_else o p ≡ None → (o ≡ None) × (p ≡ None)
passed_or None p h = (refl, h)
passed_or (Some e) p h = absurd (cc)

pub not_below : (h n : ℕ) → nat_lt h n ≡ false → n ≤ h
not_below h n e = grind (arith, nat_tests)

-- what a fragment passes that fits: its join is refused by a conflict alone
pub record FitTests (c : NodeContent) (f : FragmentValue) : Type 0 where
  pub whole : c.damaged ≡ false
  pub no_gap : f.base ≤ readable c.content
  pub none_passed : held_refusal c f.content.horizon ≡ None
  pub gives : join_result c.content f ≡ (if contents_conflict c.content f.content then Err Conflict else Ok (content_after_join c.content f))

pub fit_tests : (c : NodeContent) (f : FragmentValue) → fit_refusal c f.content.log (length f.content.streams) f.base f.content.horizon ≡ None → FitTests c f
fit_tests c f e =
    let a = passed c.damaged Damaged _ e in
    let b = passed (not (f.content.log == c.content.log)) ForeignLog _ a.1 in
    let d = passed (not (length f.content.streams == length c.content.streams)) WrongStreams _ b.1 in
    let g = passed (nat_lt (readable c.content) f.base) (Gap f.base (readable c.content)) _ d.1 in
    record {
      whole = a.0;
      no_gap = not_below (readable c.content) f.base g.0;
      none_passed = g.1;
      gives = λ i. cond (b.0 i) (Err ForeignLog) (cond (d.0 i) (Err WrongStreams) (cond (g.0 i) (Err (Gap f.base (readable c.content))) (cond (contents_conflict c.content f.content) (Err Conflict) (Ok (content_after_join c.content f)))));
    }

-- what a join passes that is not refused
pub record JoinTests (c : NodeContent) (f : FragmentValue) : Type 0 where
  pub fits : FitTests c f
  pub agrees : c.guarded && contents_conflict c.content f.content ≡ false
  pub clear : c.guarded && join_touches_past c.content f ≡ false
  pub room : full_refusal c ≡ None

pub join_tests : (c : NodeContent) (f : FragmentValue) → join_refused c f ≡ None → JoinTests c f
join_tests c f e =
    let past = past_refusal c (join_touches_past c.content f) in
    let a = passed_or (fit_refusal c f.content.log (length f.content.streams) f.base f.content.horizon) (or_else (guard_refusal c f.content) (or_else past (full_refusal c))) e in
    let b = passed_or (guard_refusal c f.content) (or_else past (full_refusal c)) a.1 in
    let d = passed_or past (full_refusal c) b.1 in
    record {
      fits = fit_tests c f a.0;
      agrees = (passed (c.guarded && contents_conflict c.content f.content) Conflict None b.0).0;
      clear = (passed (c.guarded && join_touches_past c.content f) Conflict None d.0).0;
      room = d.1;
    }

-- ---- what a copy becomes

module _ (c : NodeContent) (f : FragmentValue) where
  -- a join that does not fit, or for which there is no room, changes nothing
  pub not_fitting : (why : Refusal) → fit_or_full c f ≡ Some why → content_after_op c (Join f) ≡ c
  not_fitting why = go (fit_refusal c f.content.log (length f.content.streams) f.base f.content.horizon) (guard_refusal c f.content) (full_refusal c)
    where
      go : (o g p : Option Refusal) → or_else o p ≡ Some why → unless (or_else o (or_else g p)) c (after_join c (join_result c.content f)) ≡ c
      go (Some w) g p e = refl
      go None (Some w) p e = refl
      go None None (Some w) e = refl
      go None None None e = absurd (cc)

  -- what is refused of one that fits is that it conflicts with what is guarded
  refused_is : fit_or_full c f ≡ None → join_unfit c f ≡ guard_refusal c f.content
  refused_is e =
      let a = passed_or (fit_refusal c f.content.log (length f.content.streams) f.base f.content.horizon) (full_refusal c) e in
      go (guard_refusal c f.content) (fit_refusal c f.content.log (length f.content.streams) f.base f.content.horizon) (full_refusal c) a.0 a.1
    where
      go : (g o p : Option Refusal) → o ≡ None → p ≡ None → or_else o (or_else g p) ≡ g
      go None None None x y = refl
      go (Some w) None None x y = refl
      go g (Some w) p x y = absurd (cc)
      go g None (Some w) x y = absurd (cc)

  after : (b : Bool) → fit_or_full c f ≡ None → c.guarded && contents_conflict c.content f.content ≡ b
      → content_after_op c (Join f) ≡ (if b then c else after_join c (join_result c.content f))
  after true e is = ap (λ o. unless o c (after_join c (join_result c.content f))) (refused_is e ∙ ap (λ (x : Bool). if x then Some Conflict else None) is)
  after false e is = ap (λ o. unless o c (after_join c (join_result c.content f))) (refused_is e ∙ ap (λ (x : Bool). if x then Some Conflict else None) is)

  fitted : fit_or_full c f ≡ None → FitTests c f
  fitted e = fit_tests c f (passed_or (fit_refusal c f.content.log (length f.content.streams) f.base f.content.horizon) (full_refusal c) e).0

  -- whether it conflicts is what its join tells
  gave_ok : (d : Content) → fit_or_full c f ≡ None → join_result c.content f ≡ Ok d → contents_conflict c.content f.content ≡ false
  gave_ok d e j = go (contents_conflict c.content f.content) (sym (fitted e).gives ∙ j)
    where
      go : (b : Bool) → (if b then Err Conflict else Ok (content_after_join c.content f)) ≡ Ok d → b ≡ false
      go true h = absurd (cc)
      go false h = refl

  gave_err : (why : Refusal) → fit_or_full c f ≡ None → join_result c.content f ≡ Err why → contents_conflict c.content f.content ≡ true
  gave_err why e j = go (contents_conflict c.content f.content) (sym (fitted e).gives ∙ j)
    where
      go : (b : Bool) → (if b then Err Conflict else Ok (content_after_join c.content f)) ≡ Err why → b ≡ true
      go true h = refl
      go false h = absurd (cc)

  and_false : (a b : Bool) → b ≡ false → a && b ≡ false
  and_false true b h = h
  and_false false b h = refl

  pub joined : (d : Content) → fit_or_full c f ≡ None → join_result c.content f ≡ Ok d → content_after_op c (Join f) ≡ after_join c (Ok d)
  joined d e j = after false e (and_false c.guarded (contents_conflict c.content f.content) (gave_ok d e j)) ∙ ap (after_join c) j

  kept : (why : Refusal) → fit_or_full c f ≡ None → join_result c.content f ≡ Err why → c.guarded ≡ true → content_after_op c (Join f) ≡ c
  kept why e j is = after true e (ap (λ (b : Bool). b && contents_conflict c.content f.content) is ∙ gave_err why e j)

  damages : (why : Refusal) → fit_or_full c f ≡ None → join_result c.content f ≡ Err why → c.guarded ≡ false → content_after_op c (Join f) ≡ after_join c (Err why)
  damages why e j is = after false e (ap (λ (b : Bool). b && contents_conflict c.content f.content) is) ∙ ap (after_join c) j

  pub conflicted : (why : Refusal) → fit_or_full c f ≡ None → join_result c.content f ≡ Err why → content_after_op c (Join f) ≡ after_conflict c
  conflicted why e j = go c.guarded refl
    where
      hurt : NodeContent
      hurt = record c { damaged = true; op_count = c.op_count + 1 }

      go : (b : Bool) → c.guarded ≡ b → content_after_op c (Join f) ≡ after_conflict c
      go true is = kept why e j is ∙ ap (λ (b : Bool). if b then c else hurt) (sym is)
      go false is = damages why e j is ∙ ap (λ (b : Bool). if b then c else hurt) (sym is)

-- ---- conflicts with a state, and such as a join met

-- two states conflict where the first conflicts with the whole of the other
pub state_conflicts : (c d : Content) (f g : FactsValue) → IsLawful d → f.rows ≡ c.rows → f.ends ≡ c.ends → g.rows ≡ d.rows → g.ends ≡ d.ends → contents_conflict (with_facts f) (with_facts g) ≡ contents_conflict c (cut d 0).content
state_conflicts c d f g lawful rows ends others ended =
    (λ i. maps_conflict same_row (rows i) (others i) || maps_conflict (λ x y. x == y) (ends i) (ended i))
    ∙ ap (λ (s : FragmentValue). contents_conflict c s.content) (whole_is d lawful)

-- a join that was refused for another reason than memory
pub refused_so : (c : NodeContent) (f : FragmentValue) (new : Content) (why : Refusal) → (why ≡ Memory → ⊥) → Joins c.content new f (Err why) → (new ≡ c.content) × (join_result c.content f ≡ Err why)
refused_so c f new why not_memory gave = (
  gave.0,
  elim gave.1 [
    | inl e ↦ e
    | inr m ↦ absurd (not_memory m.0)
  ],
)

-- Versions in turn: which changes leave them so, and which versions are over.
use Rattle.std.proofs.Common.{◌≡◌, refl, sym, ap, ◌∙◌, subst, ℕ, ◌<◌, ◌≤◌, Bool, true, false, true≢false, cond, not, nat_cmp, nat_lt, Option, Some, None, Result, Ok, Err, ◌⊎◌, inl, inr, arith}
use Rattle.std.proofs.lemmas.Bool.Decides.{nat_tests}
use Rattle.std.specs.Bool.{OnTrue}
use Rattle.std.specs.Option.{is_some, IfSome}
use Rattle.std.specs.Ordering.{eq_by_cmp}
use Rattle.std.specs.FinMap as finmap
use Rattle.hk_types.specs.Values.{RowValue}
use Rattle.hk_types.specs.declared.faults.Refusal.{Refusal}
use Rattle.hk_types.specs.declared.faults.Refusal.TheVariants.{Conflict}
use Rattle.hk_log.specs.Versions.{VersionValue}
use Rattle.hk_model.specs.Replica.Maps.{or_else}
use Rattle.hk_model.specs.Replica.Content.{at_most}
use Rattle.hk_facts.specs.declared.bounds.Bounds.{Bounds}
use Rattle.hk_facts.specs.declared.fact.Fact.{Fact}
use Rattle.hk_facts.specs.declared.fact.Fact.TheVariants.{Row, End}
use Rattle.hk_facts.specs.declared.fact.Part.{Part}
use Rattle.hk_facts.specs.declared.fact.Part.TheVariants.{Row as RowPart, End as EndPart, Whole}
use Rattle.hk_facts.specs.Facts.{died_of, fact_conflicts, put_result, row_of, with_fact, without}
use Rattle.hk_facts.specs.Chains.{ChainValue, IsLastBefore, LastBefore, chain_forget, chain_put, chain_until, is_after, set_at}
use Rattle.hk_facts.specs.Turns.{AreBounded, AreInTurn, AreOver, BeginFrom, EndBy, FitsTurn, IsKept, IsOver, MayBeBorn, end_in, is_above}
use Rattle.hk_facts.proofs.DroppedEnds.{until_at}
use Rattle.hk_facts.proofs.PartedChains.{Written, written}
use Rattle.hk_facts.proofs.StoredTrees.{get-set_at, tied_same}

abbrev Found : Type 0
Found = ℕ × VersionValue

abbrev tied : ℕ → ℕ → Bool
tied q k = eq_by_cmp nat_cmp q k

-- of what has an end something is known
with_end : (x : Option VersionValue) (died : ℕ) → died_of x ≡ Some died → is_some x ≡ true
with_end None died e = cc
with_end (Some v) died e = refl

one_end : (a b : ℕ) → ◌≡◌ {A = Option ℕ} (Some a) (Some b) → a ≡ b
one_end a b e = cc

is_less : (a b : ℕ) → nat_lt a b ≡ true → a < b
is_less a b e = grind (arith, nat_tests)

not_less : (a b : ℕ) → nat_lt a b ≡ false → b ≤ a
not_less a b e = grind (arith, nat_tests)

pub told : {P : Type 0} (b : Bool) → OnTrue b P → b ≡ true → P
told true p e = p
told false p e = absurd (true≢false (sym e))

-- ---- what a look says

module _ (c : ChainValue) (time : ℕ) where
  -- where one was born then, those before it end by then
  pub known_by : AreInTurn c → is_some (finmap.get c time) ≡ true → EndBy c time
  known_by turn known born died is lt = turn born time died is known lt

  pub none_by : LastBefore c time None → EndBy c time
  none_by none born died is lt = absurd (true≢false (sym (with_end (finmap.get c born) died is) ∙ ap is_some (none born lt)))

  -- where the last before ends by then, the others do
  pub last_by : (e : Found) → AreInTurn c → IsLastBefore c time e → is_above time e.1.died ≡ false → EndBy c time
  last_by e turn last ends born died is lt = by (nat_lt born e.0) refl
    where
      not_above : (d : Option ℕ) → is_above time d ≡ false → d ≡ Some died → died ≤ time
      not_above None f e = cc
      not_above (Some x) f e = let same = one_end x died e in let k = not_less time x f in omega arith

      by : (b : Bool) → nat_lt born e.0 ≡ b → died ≤ time
      by true less = let k = turn born e.0 died is (ap is_some last.known) (is_less born e.0 less) in let up = last.before in omega arith
      by false more =
          let low = not_less born e.0 more in
          let up = last.last born lt (with_end (finmap.get c born) died is) in
          let same : e.0 ≡ born = omega arith in
          not_above e.1.died ends (ap died_of (sym last.known) ∙ ap (λ n. died_of (finmap.get c n)) same ∙ is)

  -- up to what was born before the last one before a time, all are over before that time
  pub over_until : (last : Found) (until : Option ℕ) → AreInTurn c → IsLastBefore c time last → IfSome until (λ born. born < last.0) → AreOver c time until
  over_until last None turn is low born known after = absurd (true≢false after)
  over_until last (Some before) turn is low born known after =
      let k = not_less before born after in
      let up = is.before in
      let lt : born < last.0 = omega arith in
      record {
        before = omega arith;
        ended = λ died e. let m = turn born last.0 died e (ap is_some is.known) lt in omega arith;
      }

  -- and up to no time
  pub over_none : AreOver c time None
  over_none born known after = absurd (true≢false after)

-- ---- a fact that is put in

inside : (fact : Fact) (v : Option VersionValue) (w : VersionValue) → put_result fact v ≡ Ok w → with_fact fact v ≡ w
inside fact v w is = by (fact_conflicts fact v) is
  where
    by : (b : Bool) → ◌≡◌ {A = Result VersionValue Refusal} (cond b (Err Conflict) (Ok (with_fact fact v))) (Ok w) → with_fact fact v ≡ w
    by true e = cc
    by false e = cc

module _ (c : ChainValue) (born : ℕ) (w : VersionValue) (turn : AreInTurn c) (ends : EndBy c born) (begins : (died : ℕ) → w.died ≡ Some died → BeginFrom c born died) where
  set_in_turn : AreInTurn (set_at c born (Some w))
  set_in_turn a b died is known lt = by (tied a born) refl (tied b born) refl (sym (ap died_of (get-set_at c born (Some w) a)) ∙ is) (sym (ap is_some (get-set_at c born (Some w) b)) ∙ known)
    where
      by : (x : Bool) → tied a born ≡ x → (y : Bool) → tied b born ≡ y → died_of (cond x (Some w) (finmap.get c a)) ≡ Some died → is_some (cond y (Some w) (finmap.get c b)) ≡ true → died ≤ b
      by true e true f end there = let i = tied_same a born e in let j = tied_same b born f in absurd (omega (arith, i, j, lt))
      by true e false f end there = let i = tied_same a born e in begins died end b there (omega (arith, i, lt))
      by false e true f end there = let j = tied_same b born f in let k = ends a died end (omega (arith, j, lt)) in omega (arith, j, k)
      by false e false f end there = turn a b died end there lt

pub put_in_turn : (c new : ChainValue) (born : ℕ) (fact : Fact) → AreInTurn c → FitsTurn c born fact → chain_put c born fact ≡ Ok new → AreInTurn new
put_in_turn c new born (Row row) turn ends put =
    let w = written (Row row) born c new put in
    let same = inside (Row row) (finmap.get c born) w.version w.result in
    subst AreInTurn (sym w.is) (set_in_turn c born w.version turn ends (λ died is b known lt. turn born b died (ap (λ (v : VersionValue). v.died) same ∙ is) known lt))
put_in_turn c new born (End end) turn fits put =
    let w = written (End end) born c new put in
    let same = inside (End end) (finmap.get c born) w.version w.result in
    subst AreInTurn (sym w.is) (set_in_turn c born w.version turn fits.0 (λ died is. by died (died_of (finmap.get c born)) refl (ap (λ (v : VersionValue). v.died) same ∙ is)))
  where
    by : (died : ℕ) (o : Option ℕ) → died_of (finmap.get c born) ≡ o → or_else o (Some end) ≡ Some died → BeginFrom c born died
    by died None is e = subst (BeginFrom c born) (one_end end died e) fits.1
    by died (Some x) is e = λ b known lt. turn born b died (is ∙ e) known lt

-- an end that is there after a fact was put in was there before, or the fact says it
end_from : (fact : Fact) (v : Option VersionValue) (w : VersionValue) → put_result fact v ≡ Ok w → (died : ℕ) → w.died ≡ Some died → (died_of v ≡ Some died) ⊎ (end_in fact ≡ Some died)
end_from (Row row) v w is died e = inl (ap (λ (x : VersionValue). x.died) (inside (Row row) v w is) ∙ e)
end_from (End end) v w is died e = by (died_of v) (ap (λ (x : VersionValue). x.died) (inside (End end) v w is) ∙ e)
  where
    by : (o : Option ℕ) → or_else o (Some end) ≡ Some died → (o ≡ Some died) ⊎ (◌≡◌ {A = Option ℕ} (Some end) (Some died))
    by None f = inr f
    by (Some x) f = inl f

-- ---- bounds

pub bounded_end : (c : ChainValue) (bounds : Bounds) (time : ℕ) → AreBounded (finmap.get c) bounds → bounds.latest ≤ time → EndBy c time
bounded_end c bounds time are up born died is lt = let k = are.ends born died is in omega (arith, k, up)

pub bounded_begin : (c : ChainValue) (bounds : Bounds) (time from : ℕ) → AreBounded (finmap.get c) bounds → ((born : ℕ) → MayBeBorn bounds born → time < born → from ≤ born) → BeginFrom c time from
bounded_begin c bounds time from are free born known lt = free born (are.births born known) lt

pub put_bounded : (c new : ChainValue) (born : ℕ) (fact : Fact) (old next : Bounds) → ((time : ℕ) → MayBeBorn old time → MayBeBorn next time) → MayBeBorn next born → old.latest ≤ next.latest → IfSome (end_in fact) (λ died. died ≤ next.latest) → AreBounded (finmap.get c) old → chain_put c born fact ≡ Ok new → AreBounded (finmap.get new) next
put_bounded c new born fact old next births here rises ended are put = record {
  ends = λ q died is. by_end q died (tied q born) (sym (ap died_of (at q)) ∙ is);
  births = λ q known. by_birth q (tied q born) refl (sym (ap is_some (at q)) ∙ known);
}
  where
    put_in : Written fact born c new
    put_in = written fact born c new put

    at : (q : ℕ) → finmap.get new q ≡ cond (tied q born) (Some put_in.version) (finmap.get c q)
    at q = ap (λ m. finmap.get m q) put_in.is ∙ get-set_at c born (Some put_in.version) q

    said : (died : ℕ) → (died_of (finmap.get c born) ≡ Some died) ⊎ (end_in fact ≡ Some died) → died ≤ next.latest
    said died (inl e) = let k = are.ends born died e in omega (arith, k, rises)
    said died (inr e) = subst (λ (o : Option ℕ). IfSome o (λ d. d ≤ next.latest)) e ended

    by_end : (q died : ℕ) (b : Bool) → died_of (cond b (Some put_in.version) (finmap.get c q)) ≡ Some died → died ≤ next.latest
    by_end q died true e = said died (end_from fact (finmap.get c born) put_in.version put_in.result died e)
    by_end q died false e = let k = are.ends q died e in omega (arith, k, rises)

    by_birth : (q : ℕ) (b : Bool) → tied q born ≡ b → is_some (cond b (Some put_in.version) (finmap.get c q)) ≡ true → MayBeBorn next q
    by_birth q true t known = subst (MayBeBorn next) (sym (tied_same q born t)) here
    by_birth q false t known = births q (are.births q known)

-- ---- what is taken away

-- of the first no more is known than of the second
record IsLess (x y : Option VersionValue) : Type 0 where
  some : is_some x ≡ true → is_some y ≡ true
  died : (died : ℕ) → died_of x ≡ Some died → died_of y ≡ Some died

less_in_turn : (c new : ChainValue) → ((q : ℕ) → IsLess (finmap.get new q) (finmap.get c q)) → AreInTurn c → AreInTurn new
less_in_turn c new less turn a b died is known lt = turn a b died ((less a).died died is) ((less b).some known) lt

less_bounded : (c new : ChainValue) (bounds : Bounds) → ((q : ℕ) → IsLess (finmap.get new q) (finmap.get c q)) → AreBounded (finmap.get c) bounds → AreBounded (finmap.get new) bounds
less_bounded c new bounds less are = record { ends = λ q died is. are.ends q died ((less q).died died is); births = λ q known. are.births q ((less q).some known) }

less_kept : (c new : ChainValue) (in_turn : Bool) (bounds : Bounds) → ((q : ℕ) → IsLess (finmap.get new q) (finmap.get c q)) → IsKept c in_turn bounds → IsKept new in_turn bounds
less_kept c new in_turn bounds less is = record { turn = λ e. less_in_turn c new less (is.turn e); bounded = less_bounded c new bounds less is.bounded }

none_less : (y : Option VersionValue) → IsLess None y
none_less y = record { some = λ e. cc; died = λ died e. cc }

same_less : (x : Option VersionValue) → IsLess x x
same_less x = record { some = λ e. e; died = λ died e. e }

without_less : (part : Part) (x : Option VersionValue) → IsLess (without part x) x
without_less Whole x = none_less x
without_less RowPart None = none_less None
without_less EndPart None = none_less None
without_less RowPart (Some v) = by v.died refl
  where
    by : (d : Option ℕ) → v.died ≡ d → IsLess (cond (is_some d) (Some (record { row = None; died = d })) None) (Some v)
    by None is = none_less (Some v)
    by (Some x) is = record { some = λ e. refl; died = λ died e. is ∙ e }
without_less EndPart (Some v) = by v.row
  where
    by : (r : Option RowValue) → IsLess (without EndPart (Some (record { row = r; died = v.died }))) (Some v)
    by None = none_less (Some v)
    by (Some r) = record { some = λ e. refl; died = λ died e. cc }

forgotten : (c : ChainValue) (born : ℕ) (part : Part) (q : ℕ) → IsLess (finmap.get (chain_forget c born part) q) (finmap.get c q)
forgotten c born part q = subst (λ x. IsLess x (finmap.get c q)) (sym (get-set_at c born (without part (finmap.get c born)) q)) (by (tied q born) refl)
  where
    by : (b : Bool) → tied q born ≡ b → IsLess (cond b (without part (finmap.get c born)) (finmap.get c q)) (finmap.get c q)
    by true e = subst (λ n. IsLess (without part (finmap.get c born)) (finmap.get c n)) (sym (tied_same q born e)) (without_less part (finmap.get c born))
    by false e = same_less (finmap.get c q)

pub forget_kept : (c : ChainValue) (born : ℕ) (part : Part) (in_turn : Bool) (bounds : Bounds) → IsKept c in_turn bounds → IsKept (chain_forget c born part) in_turn bounds
forget_kept c born part in_turn bounds = less_kept c (chain_forget c born part) in_turn bounds (forgotten c born part)

left : (c : ChainValue) (h q : ℕ) → IsLess (finmap.get (chain_until c h) q) (finmap.get c q)
left c h q = subst (λ x. IsLess x (finmap.get c q)) (sym (until_at c h q)) (by (finmap.get c q) (not (at_most h (died_of (finmap.get c q)))))
  where
    by : (x : Option VersionValue) (b : Bool) → IsLess (cond b x None) x
    by x true = same_less x
    by x false = none_less x

pub until_kept : (c : ChainValue) (h : ℕ) (in_turn : Bool) (bounds : Bounds) → IsKept c in_turn bounds → IsKept (chain_until c h) in_turn bounds
until_kept c h in_turn bounds = less_kept c (chain_until c h) in_turn bounds (left c h)

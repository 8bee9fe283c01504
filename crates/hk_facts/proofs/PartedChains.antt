-- A chain whose versions with a row stand apart from the others is the chain of both.
use Rattle.std.proofs.Common.{◌≡◌, refl, sym, ap, ◌∙◌, subst, ℕ, ◌≤◌, Bool, true, false, cond, not, true≢false, ◌&&◌, ◌||◌, nat_le, nat_lt, nat_cmp, Option, Some, None, Result, Ok, Err, OnOk, OnErr, ◌⊎◌, inl, inr, arith}
use Rattle.std.proofs.lemmas.Bool.Decides.{nat_tests}
use Rattle.std.specs.Option.{is_some}
use Rattle.std.specs.Result.{is_ok}
use Rattle.std.specs.Cmp.{nat_cmp_total}
use Rattle.std.specs.Ordering.{eq_by_cmp}
use Rattle.std.specs.FinMap as finmap
use Rattle.hk_types.specs.Values.{RowValue}
use Rattle.hk_types.specs.declared.faults.Refusal.{Refusal}
use Rattle.hk_types.specs.declared.faults.Refusal.TheVariants.{Memory, Conflict}
use Rattle.hk_log.specs.Versions.{VersionValue}
use Rattle.hk_model.specs.Replica.Maps.{or_else}
use Rattle.hk_model.specs.Replica.Content.{at_most}
use Rattle.hk_model.proofs.Replica.Maps.{get-union}
use Rattle.hk_facts.specs.declared.fact.Fact.{Fact}
use Rattle.hk_facts.specs.declared.fact.Fact.TheVariants.{End as EndFact}
use Rattle.hk_facts.specs.declared.fact.Part.{Part}
use Rattle.hk_facts.specs.declared.fact.Part.TheVariants.{Row as RowPart, End as EndPart, Whole}
use Rattle.hk_facts.specs.Facts.{put_result, without, row_of, died_of, fact_conflicts, with_fact}
use Rattle.hk_facts.specs.Chains.{ChainValue, set_at, put_at, chain_put, chain_forget, chain_until, latest_at}
use Rattle.hk_facts.specs.Parted.{both, AreApart, NoRows, IsParted, lone_end, later_of, is_later}
use Rattle.hk_facts.proofs.StoredTrees.{tied_same, get-set_at, same_at_all}
use Rattle.hk_facts.proofs.DroppedEnds.{until_at}
use Rattle.hk_facts.proofs.LatestVersion.{IsLatest, is_latest, one_latest, wins}

abbrev tied : ℕ → ℕ → Bool
tied q k = eq_by_cmp nat_cmp q k

or_none : {X : Type 0} (x : Option X) → or_else x None ≡ x
or_none None = refl
or_none (Some x) = refl

-- ---- look-ups

module _ (rows ends : ChainValue) where
  pub get_both : (q : ℕ) → finmap.get (both rows ends) q ≡ or_else (finmap.get rows q) (finmap.get ends q)
  get_both q = get-union nat_cmp_total finmap.nat_cmp-IsAntisymmetric rows ends q

  pub get_row : (q : ℕ) → finmap.get ends q ≡ None → finmap.get (both rows ends) q ≡ finmap.get rows q
  get_row q none = get_both q ∙ ap (or_else (finmap.get rows q)) none ∙ or_none (finmap.get rows q)

  pub get_end : (q : ℕ) → finmap.get rows q ≡ None → finmap.get (both rows ends) q ≡ finmap.get ends q
  get_end q none = get_both q ∙ ap (λ x. or_else x (finmap.get ends q)) none

  pub get_there : (q : ℕ) (v : VersionValue) → Some v ≡ finmap.get rows q → Some v ≡ finmap.get (both rows ends) q
  get_there q v is = ap (λ x. or_else x (finmap.get ends q)) is ∙ sym (get_both q)

-- ---- a change at one key

module _ (rows ends : ChainValue) (born : ℕ) (w : Option VersionValue) where
  pub set_rows : finmap.get ends born ≡ None → set_at (both rows ends) born w ≡ both (set_at rows born w) ends
  set_rows none = same_at_all _ _ (λ q.
      get-set_at (both rows ends) born w q
      ∙ ap (cond (tied q born) w) (get_both rows ends q)
      ∙ by q (tied q born) refl
      ∙ ap (λ x. or_else x (finmap.get ends q)) (sym (get-set_at rows born w q))
      ∙ sym (get_both (set_at rows born w) ends q))
    where
      by : (q : ℕ) (b : Bool) → tied q born ≡ b → cond b w (or_else (finmap.get rows q) (finmap.get ends q)) ≡ or_else (cond b w (finmap.get rows q)) (finmap.get ends q)
      by q true e = sym (ap (or_else w) (ap (finmap.get ends) (tied_same q born e) ∙ none) ∙ or_none w)
      by q false e = refl

  pub set_ends : finmap.get rows born ≡ None → set_at (both rows ends) born w ≡ both rows (set_at ends born w)
  set_ends none = same_at_all _ _ (λ q.
      get-set_at (both rows ends) born w q
      ∙ ap (cond (tied q born) w) (get_both rows ends q)
      ∙ by q (tied q born) refl
      ∙ ap (or_else (finmap.get rows q)) (sym (get-set_at ends born w q))
      ∙ sym (get_both rows (set_at ends born w) q))
    where
      by : (q : ℕ) (b : Bool) → tied q born ≡ b → cond b w (or_else (finmap.get rows q) (finmap.get ends q)) ≡ or_else (finmap.get rows q) (cond b w (finmap.get ends q))
      by q true e = sym (ap (λ x. or_else x w) (ap (finmap.get rows) (tied_same q born e) ∙ none))
      by q false e = refl

  pub apart_rows : finmap.get ends born ≡ None → AreApart rows ends → AreApart (set_at rows born w) ends
  apart_rows none apart q some = by (tied q born) refl (sym (ap is_some (get-set_at rows born w q)) ∙ some)
    where
      by : (b : Bool) → tied q born ≡ b → is_some (cond b w (finmap.get rows q)) ≡ true → finmap.get ends q ≡ None
      by true e s = ap (finmap.get ends) (tied_same q born e) ∙ none
      by false e s = apart q s

  pub apart_ends : finmap.get rows born ≡ None → AreApart rows ends → AreApart rows (set_at ends born w)
  apart_ends none apart q some = get-set_at ends born w q ∙ by (tied q born) refl
    where
      by : (b : Bool) → tied q born ≡ b → cond b w (finmap.get ends q) ≡ None
      by true e = absurd (true≢false (sym some ∙ ap is_some (ap (finmap.get rows) (tied_same q born e) ∙ none)))
      by false e = apart q some

  pub no_rows_set : row_of w ≡ None → NoRows ends → NoRows (set_at ends born w)
  no_rows_set none bare q = ap row_of (get-set_at ends born w q) ∙ by (tied q born)
    where
      by : (b : Bool) → row_of (cond b w (finmap.get ends q)) ≡ None
      by true = none
      by false = bare q

-- a version that is in one map is not in the other
pub not_in_rows : (rows ends : ChainValue) (q : ℕ) → AreApart rows ends → (x : Option VersionValue) → finmap.get ends q ≡ x → is_some x ≡ true → finmap.get rows q ≡ None
not_in_rows rows ends q apart x is some = by (finmap.get rows q) refl
  where
    by : (o : Option VersionValue) → finmap.get rows q ≡ o → o ≡ None
    by None e = refl
    by (Some v) e = absurd (true≢false (sym some ∙ ap is_some (sym is ∙ apart q (ap is_some e))))

-- ---- a fact that is put in

module _ (fact : Fact) (born : ℕ) where
  -- what was put
  pub record Written (m new : ChainValue) : Type 0 where
    pub version : VersionValue
    pub result : put_result fact (finmap.get m born) ≡ Ok version
    pub is : new ≡ set_at m born (Some version)

  pub written : (m new : ChainValue) → chain_put m born fact ≡ Ok new → Written m new
  written m new put = by (put_result fact (finmap.get m born)) refl put
    where
      by : (r : Result VersionValue Refusal) → put_result fact (finmap.get m born) ≡ r → put_at m born r ≡ Ok new → Written m new
      by (Ok x) is same = record { version = x; result = is; is = sym (inside same) }
        where
          inside : ◌≡◌ {A = Result ChainValue Refusal} (Ok (finmap.insert m born x)) (Ok new) → finmap.insert m born x ≡ new
          inside same = cc
      by (Err why) is same = absurd (differ same)
        where
          differ : ◌≡◌ {A = Result ChainValue Refusal} (Err why) (Ok new) → ⊥
          differ same = cc

  -- the same is put into a chain that has the same there
  put_alike : (m n : ChainValue) (f : ChainValue → ChainValue) → finmap.get n born ≡ finmap.get m born → ((w : Option VersionValue) → set_at n born w ≡ f (set_at m born w)) → (new : ChainValue) → chain_put m born fact ≡ Ok new → chain_put n born fact ≡ Ok (f new)
  put_alike m n f same set new put =
      let w = written m new put in
      ap (λ x. put_at n born (put_result fact x)) same
      ∙ ap (put_at n born) w.result
      ∙ ap Ok (set (Some w.version) ∙ ap f (sym w.is))

  err_alike : (m n : ChainValue) → finmap.get n born ≡ finmap.get m born → (why : Refusal) → chain_put m born fact ≡ Err why → chain_put n born fact ≡ Err why
  err_alike m n same why put = by (put_result fact (finmap.get m born)) refl put
    where
      by : (r : Result VersionValue Refusal) → put_result fact (finmap.get m born) ≡ r → put_at m born r ≡ Err why → chain_put n born fact ≡ Err why
      by (Ok x) is e = absurd (differ e)
        where
          differ : ◌≡◌ {A = Result ChainValue Refusal} (Ok (finmap.insert m born x)) (Err why) → ⊥
          differ same = cc
      by (Err other) is e = ap (λ x. put_at n born (put_result fact x)) same ∙ ap (put_at n born) is ∙ inside e
        where
          inside : ◌≡◌ {A = Result ChainValue Refusal} (Err other) (Err why) → ◌≡◌ {A = Result ChainValue Refusal} (Err other) (Err why)
          inside e = e

  refused_alike : (m n : ChainValue) → finmap.get n born ≡ finmap.get m born → (why : Refusal) → (chain_put m born fact ≡ Err why) ⊎ ((why ≡ Memory) × (finmap.get m born ≡ None)) → (chain_put n born fact ≡ Err why) ⊎ ((why ≡ Memory) × (finmap.get n born ≡ None))
  refused_alike m n same why (inl e) = inl (err_alike m n same why e)
  refused_alike m n same why (inr e) = inr (e.0, same ∙ e.1)

  module _ (rows ends : ChainValue) where
    pub put_rows : finmap.get ends born ≡ None → (new : ChainValue) → chain_put rows born fact ≡ Ok new → chain_put (both rows ends) born fact ≡ Ok (both new ends)
    put_rows none new put = put_alike rows (both rows ends) (λ r. both r ends) (get_row rows ends born none) (λ w. set_rows rows ends born w none) new put

    pub put_ends : finmap.get rows born ≡ None → (new : ChainValue) → chain_put ends born fact ≡ Ok new → chain_put (both rows ends) born fact ≡ Ok (both rows new)
    put_ends none new put = put_alike ends (both rows ends) (λ e. both rows e) (get_end rows ends born none) (λ w. set_ends rows ends born w none) new put

    pub rows_refused : finmap.get ends born ≡ None → (why : Refusal) → (chain_put rows born fact ≡ Err why) ⊎ ((why ≡ Memory) × (finmap.get rows born ≡ None)) → (chain_put (both rows ends) born fact ≡ Err why) ⊎ ((why ≡ Memory) × (finmap.get (both rows ends) born ≡ None))
    rows_refused none why e = refused_alike rows (both rows ends) (get_row rows ends born none) why e

    pub ends_refused : finmap.get rows born ≡ None → (why : Refusal) → (chain_put ends born fact ≡ Err why) ⊎ ((why ≡ Memory) × (finmap.get ends born ≡ None)) → (chain_put (both rows ends) born fact ≡ Err why) ⊎ ((why ≡ Memory) × (finmap.get (both rows ends) born ≡ None))
    ends_refused none why e = refused_alike ends (both rows ends) (get_end rows ends born none) why e

    pub put_rows_apart : {A : Type 0} (r : Result A Refusal) (new : ChainValue) → finmap.get ends born ≡ None → OnOk r (chain_put rows born fact ≡ Ok new) → OnErr r (new ≡ rows) → AreApart rows ends → AreApart new ends
    put_rows_apart (Ok a) new none ok kept apart = let w = written rows new ok in subst (λ (m : ChainValue). AreApart m ends) (sym w.is) (apart_rows rows ends born (Some w.version) none apart)
    put_rows_apart (Err why) new none ok kept apart = subst (λ (m : ChainValue). AreApart m ends) (sym kept) apart

    pub put_ends_apart : {A : Type 0} (r : Result A Refusal) (new : ChainValue) → finmap.get rows born ≡ None → OnOk r (chain_put ends born fact ≡ Ok new) → OnErr r (new ≡ ends) → AreApart rows ends → AreApart rows new
    put_ends_apart (Ok a) new none ok kept apart = let w = written ends new ok in subst (λ (m : ChainValue). AreApart rows m) (sym w.is) (apart_ends rows ends born (Some w.version) none apart)
    put_ends_apart (Err why) new none ok kept apart = subst (λ (m : ChainValue). AreApart rows m) (sym kept) apart

-- an end gives no version a row
pub end_no_rows : {A : Type 0} (died born : ℕ) (ends new : ChainValue) (r : Result A Refusal) → OnOk r (chain_put ends born (EndFact died) ≡ Ok new) → OnErr r (new ≡ ends) → NoRows ends → NoRows new
end_no_rows died born ends new (Err why) ok kept bare = subst (λ (m : ChainValue). NoRows m) (sym kept) bare
end_no_rows died born ends new (Ok a) ok kept bare =
    let w = written (EndFact died) born ends new ok in
    subst (λ (m : ChainValue). NoRows m) (sym w.is) (no_rows_set ends ends born (Some w.version) (by (fact_conflicts (EndFact died) (finmap.get ends born)) w.version w.result) bare)
  where
    by : (b : Bool) (x : VersionValue) → cond b (Err Conflict) (Ok (with_fact (EndFact died) (finmap.get ends born))) ≡ Ok x → x.row ≡ None
    by true x e = absurd (differ e)
      where
        differ : ◌≡◌ {A = Result VersionValue Refusal} (Err Conflict) (Ok x) → ⊥
        differ e = cc
    by false x e = ap (λ (v : VersionValue). v.row) (sym (inside e)) ∙ bare born
      where
        inside : ◌≡◌ {A = Result VersionValue Refusal} (Ok (with_fact (EndFact died) (finmap.get ends born))) (Ok x) → with_fact (EndFact died) (finmap.get ends born) ≡ x
        inside e = cc

-- ---- a version of which only the end is known, moved

-- what has an end alone
pub only_end : (x : Option VersionValue) (died : ℕ) → Some died ≡ lone_end x → x ≡ Some (record { row = None; died = Some died })
only_end None died e = absurd (differ e)
  where
    differ : ◌≡◌ {A = Option ℕ} (Some died) None → ⊥
    differ e = cc
only_end (Some v) died e = by v.row v.died refl refl e
  where
    differ : ◌≡◌ {A = Option ℕ} (Some died) None → ⊥
    differ e = cc

    by : (r : Option RowValue) (d : Option ℕ) → v.row ≡ r → v.died ≡ d → Some died ≡ cond (is_some r) None d → Some v ≡ Some (record { row = None; died = Some died })
    by None d is same e = λ i. Some (record { row = is i; died = (same ∙ sym e) i })
    by (Some row) d is same e = absurd (differ e)

module _ (rows ends : ChainValue) (born died : ℕ) (alone : finmap.get ends born ≡ Some (record { row = None; died = Some died })) (apart : AreApart rows ends) where
  not_there : finmap.get rows born ≡ None
  not_there = not_in_rows rows ends born apart _ alone refl

  -- the version in its new place
  moved_is : (new : ChainValue) → chain_put rows born (EndFact died) ≡ Ok new → new ≡ set_at rows born (Some (record { row = None; died = Some died }))
  moved_is new put =
      let w = written (EndFact died) born rows new put in
      w.is ∙ ap (λ v. set_at rows born (Some v)) (inside (sym w.result ∙ ap (put_result (EndFact died)) not_there))
    where
      inside : {x : VersionValue} → ◌≡◌ {A = Result VersionValue Refusal} (Ok x) (Ok (record { row = None; died = Some died })) → x ≡ record { row = None; died = Some died }
      inside e = cc

  pub moved_same : (new : ChainValue) → chain_put rows born (EndFact died) ≡ Ok new → both new (chain_forget ends born Whole) ≡ both rows ends
  moved_same new put =
      ap (λ m. both m (chain_forget ends born Whole)) (moved_is new put)
      ∙ same_at_all _ _ (λ q.
      get_both (set_at rows born there) (set_at ends born None) q
      ∙ (λ i. or_else (get-set_at rows born there q i) (get-set_at ends born None q i))
      ∙ by q (tied q born) refl
      ∙ sym (get_both rows ends q))
    where
      there : Option VersionValue
      there = Some (record { row = None; died = Some died })

      by : (q : ℕ) (b : Bool) → tied q born ≡ b → or_else (cond b there (finmap.get rows q)) (cond b None (finmap.get ends q)) ≡ or_else (finmap.get rows q) (finmap.get ends q)
      by q true e = sym ((λ i. or_else ((ap (finmap.get rows) (tied_same q born e) ∙ not_there) i) ((ap (finmap.get ends) (tied_same q born e) ∙ alone) i)))
      by q false e = refl

  pub moved_apart : (new : ChainValue) → chain_put rows born (EndFact died) ≡ Ok new → AreApart new (chain_forget ends born Whole)
  moved_apart new put q some = get-set_at ends born None q ∙ by (tied q born) refl (sym (ap is_some (ap (λ m. finmap.get m q) (moved_is new put) ∙ get-set_at rows born _ q)) ∙ some)
    where
      by : (b : Bool) → tied q born ≡ b → is_some (cond b (Some (record { row = None; died = Some died })) (finmap.get rows q)) ≡ true → cond b None (finmap.get ends q) ≡ None
      by true e s = refl
      by false e s = apart q s

pub forgotten_no_rows : (ends : ChainValue) (born : ℕ) (part : Part) → NoRows ends → NoRows (chain_forget ends born part)
forgotten_no_rows ends born part bare = no_rows_set ends ends born (without part (finmap.get ends born)) (by part (finmap.get ends born) (bare born)) bare
  where
    by : (part : Part) (x : Option VersionValue) → row_of x ≡ None → row_of (without part x) ≡ None
    by RowPart x none = known (died_of x)
      where
        known : (d : Option ℕ) → row_of (cond (is_some d) (Some (record { row = None; died = d })) None) ≡ None
        known None = refl
        known (Some d) = refl
    by EndPart x none = lost (row_of x) none
      where
        lost : (r : Option RowValue) → r ≡ None → row_of (cond (is_some r || false) (Some (record { row = r; died = None })) None) ≡ None
        lost None e = refl
        lost (Some r) e = absurd (differ e)
          where
            differ : ◌≡◌ {A = Option RowValue} (Some r) None → ⊥
            differ e = cc
    by Whole x none = refl

-- ---- what is taken back

module _ (rows ends : ChainValue) (born : ℕ) (part : Part) where
  pub forget_rows : finmap.get ends born ≡ None → both (chain_forget rows born part) ends ≡ chain_forget (both rows ends) born part
  forget_rows none = sym (set_rows rows ends born (without part (finmap.get rows born)) none) ∙ ap (λ x. set_at (both rows ends) born (without part x)) (sym (get_row rows ends born none))

  pub forget_ends : finmap.get rows born ≡ None → both rows (chain_forget ends born part) ≡ chain_forget (both rows ends) born part
  forget_ends none = sym (set_ends rows ends born (without part (finmap.get ends born)) none) ∙ ap (λ x. set_at (both rows ends) born (without part x)) (sym (get_end rows ends born none))

-- ---- versions that ended

module _ (rows ends : ChainValue) (h : ℕ) (apart : AreApart rows ends) where
  pub until_both : both (chain_until rows h) (chain_until ends h) ≡ chain_until (both rows ends) h
  until_both = same_at_all _ _ (λ q.
      get_both (chain_until rows h) (chain_until ends h) q
      ∙ (λ i. or_else (until_at rows h q i) (until_at ends h q i))
      ∙ by (finmap.get rows q) (finmap.get ends q) (apart q)
      ∙ sym (until_at (both rows ends) h q ∙ ap (λ x. cond (not (at_most h (died_of x))) x None) (get_both rows ends q)))
    where
      by : (x y : Option VersionValue) → (is_some x ≡ true → y ≡ None) → or_else (cond (not (at_most h (died_of x))) x None) (cond (not (at_most h (died_of y))) y None) ≡ cond (not (at_most h (died_of (or_else x y)))) (or_else x y) None
      by None y only = ap (λ z. or_else z (cond (not (at_most h (died_of y))) y None)) (none (not (at_most h None)))
        where
          none : (b : Bool) → cond {A = Option VersionValue} b None None ≡ None
          none true = refl
          none false = refl
      by (Some v) y only = ap (λ z. or_else (cond (not (at_most h v.died)) (Some v) None) (cond (not (at_most h (died_of z))) z None)) (only refl) ∙ ended (not (at_most h v.died)) (not (at_most h None))
        where
          ended : (b d : Bool) → or_else (cond b (Some v) None) (cond d None None) ≡ cond b (Some v) None
          ended true d = refl
          ended false true = refl
          ended false false = refl

  pub until_apart : AreApart (chain_until rows h) (chain_until ends h)
  until_apart q some = until_at ends h q ∙ ap (λ x. cond (not (at_most h (died_of x))) x None) (apart q (before (not (at_most h (died_of (finmap.get rows q)))) (finmap.get rows q) (sym (ap is_some (until_at rows h q)) ∙ some))) ∙ none (not (at_most h None))
    where
      none : (b : Bool) → cond {A = Option VersionValue} b None None ≡ None
      none true = refl
      none false = refl

      before : (b : Bool) (x : Option VersionValue) → is_some (cond b x None) ≡ true → is_some x ≡ true
      before true x s = s
      before false x s = absurd (true≢false (sym s))

pub until_no_rows : (ends : ChainValue) (h : ℕ) → NoRows ends → NoRows (chain_until ends h)
until_no_rows ends h bare q = ap row_of (until_at ends h q) ∙ by (not (at_most h (died_of (finmap.get ends q)))) (finmap.get ends q) (bare q)
  where
    by : (b : Bool) (x : Option VersionValue) → row_of x ≡ None → row_of (cond b x None) ≡ None
    by true x none = none
    by false x none = refl

-- ---- none at all

pub both_empty : (rows ends : ChainValue) → rows ≡ finmap.empty → ends ≡ finmap.empty → both rows ends ≡ finmap.empty
both_empty rows ends none no_end = same_at_all _ _ (λ q.
    get_both rows ends q
    ∙ (λ i. or_else (finmap.get (none i) q) (finmap.get (no_end i) q))
    ∙ (λ i. or_else (finmap.get-empty {X = VersionValue} nat_cmp q i) (finmap.get-empty {X = VersionValue} nat_cmp q i))
    ∙ sym (finmap.get-empty nat_cmp q))

pub rows_empty : (rows ends : ChainValue) → both rows ends ≡ finmap.empty → rows ≡ finmap.empty
rows_empty rows ends none = same_at_all _ _ (λ q. by (finmap.get rows q) (finmap.get ends q) (sym (get_both rows ends q) ∙ ap (λ m. finmap.get m q) none ∙ finmap.get-empty nat_cmp q) ∙ sym (finmap.get-empty nat_cmp q))
  where
    by : (x y : Option VersionValue) → or_else x y ≡ None → x ≡ None
    by None y e = refl
    by (Some v) y e = absurd (differ e)
      where
        differ : ◌≡◌ {A = Option VersionValue} (Some v) None → ⊥
        differ e = cc

pub ends_empty : (rows ends : ChainValue) → both rows ends ≡ finmap.empty → ends ≡ finmap.empty
ends_empty rows ends none = same_at_all _ _ (λ q. by (finmap.get rows q) (finmap.get ends q) (sym (get_both rows ends q) ∙ ap (λ m. finmap.get m q) none ∙ finmap.get-empty nat_cmp q) ∙ sym (finmap.get-empty nat_cmp q))
  where
    by : (x y : Option VersionValue) → or_else x y ≡ None → y ≡ None
    by None y e = e
    by (Some v) y e = absurd (differ e)
      where
        differ : ◌≡◌ {A = Option VersionValue} (Some v) None → ⊥
        differ e = cc

-- ---- the latest at a time

module _ (t : ℕ) where
  abbrev shows : ℕ × VersionValue → Bool
  shows e = nat_le e.0 t && is_some e.1.row

  -- where no version has a row there is none
  pub none_latest : (ends : ChainValue) → NoRows ends → latest_at ends t ≡ None
  none_latest ends bare = one_latest t ends _ None (is_latest t ends) (λ b w g p. true≢false (sym p ∙ ap (λ r. nat_le b t && is_some r) (sym (ap row_of g) ∙ bare b) ∙ never (nat_le b t)))
    where
      never : (x : Bool) → (x && false) ≡ false
      never true = refl
      never false = refl

  module _ (rows ends : ChainValue) (apart : AreApart rows ends) where
    -- what is found is in one of the maps
    either : (P : Type 0) (b : ℕ) (w : VersionValue) → finmap.get (both rows ends) b ≡ Some w → (finmap.get rows b ≡ Some w → P) → (finmap.get ends b ≡ Some w → P) → P
    either P b w g one other = by (finmap.get rows b) refl (sym (get_both rows ends b) ∙ g)
      where
        by : (x : Option VersionValue) → finmap.get rows b ≡ x → or_else x (finmap.get ends b) ≡ Some w → P
        by None e f = other f
        by (Some v) e f = one (e ∙ f)

    in_rows : (e : ℕ × VersionValue) → finmap.get rows e.0 ≡ Some e.1 → finmap.get (both rows ends) e.0 ≡ Some e.1
    in_rows e g = sym (get_there rows ends e.0 e.1 (sym g))

    in_ends : (e : ℕ × VersionValue) → finmap.get ends e.0 ≡ Some e.1 → finmap.get (both rows ends) e.0 ≡ Some e.1
    in_ends e g = get_end rows ends e.0 (not_in_rows rows ends e.0 apart (Some e.1) g refl) ∙ g

    below : (a b : ℕ) → nat_lt a b ≡ true → a ≤ b
    below a b k = grind (arith, nat_tests)

    above : (a b : ℕ) → nat_lt a b ≡ false → b ≤ a
    above a b k = grind (arith, nat_tests)

    through : (a b d : ℕ) → a ≤ b → b ≤ d → a ≤ d
    through a b d p q = omega arith

    combined : (x y : Option (ℕ × VersionValue)) → IsLatest t rows x → IsLatest t ends y → IsLatest t (both rows ends) (later_of x y)
    combined None None l k = λ b w g p. either ⊥ b w g (λ f. l b w f p) (λ f. k b w f p)
    combined None (Some f) l k = (in_ends f k.0, (k.1.0, λ b w g p. either (b ≤ f.0) b w g (λ h. absurd (l b w h p)) (λ h. k.1.1 b w h p)))
    combined (Some e) None l k = (in_rows e l.0, (l.1.0, λ b w g p. either (b ≤ e.0) b w g (λ h. l.1.1 b w h p) (λ h. absurd (k b w h p))))
    combined (Some e) (Some f) l k = go (nat_lt e.0 f.0) refl
      where
        go : (c : Bool) → nat_lt e.0 f.0 ≡ c → IsLatest t (both rows ends) (cond c (Some f) (Some e))
        go true c = (in_ends f k.0, (k.1.0, λ b w g p. either (b ≤ f.0) b w g (λ h. through b e.0 f.0 (l.1.1 b w h p) (below e.0 f.0 c)) (λ h. k.1.1 b w h p)))
        go false c = (in_rows e l.0, (l.1.0, λ b w g p. either (b ≤ e.0) b w g (λ h. l.1.1 b w h p) (λ h. through b f.0 e.0 (k.1.1 b w h p) (above e.0 f.0 c))))

    pub latest_both : later_of (latest_at rows t) (latest_at ends t) ≡ latest_at (both rows ends) t
    latest_both = one_latest t (both rows ends) _ _ (combined (latest_at rows t) (latest_at ends t) (is_latest t rows) (is_latest t ends)) (is_latest t (both rows ends))

    pub rows_win : is_later (latest_at rows t) (latest_at ends t) ≡ true → latest_at rows t ≡ latest_at (both rows ends) t
    rows_win e = sym (wins t (latest_at rows t) (latest_at ends t) ∙ ap (λ b. cond b (latest_at rows t) (latest_at ends t)) e) ∙ latest_both

    pub ends_win : is_later (latest_at rows t) (latest_at ends t) ≡ false → latest_at ends t ≡ latest_at (both rows ends) t
    ends_win e = sym (wins t (latest_at rows t) (latest_at ends t) ∙ ap (λ b. cond b (latest_at rows t) (latest_at ends t)) e) ∙ latest_both

    -- where no version apart has a row, the latest is one of the others
    pub latest_rows : NoRows ends → latest_at rows t ≡ latest_at (both rows ends) t
    latest_rows bare = sym (ap (later_of (latest_at rows t)) (none_latest ends bare) ∙ alone (latest_at rows t)) ∙ latest_both
      where
        alone : (x : Option (ℕ × VersionValue)) → later_of x None ≡ x
        alone None = refl
        alone (Some e) = refl

-- ---- what the calls keep

pub parted_none : (rows ends : ChainValue) → ends ≡ finmap.empty → IsParted rows ends false
parted_none rows ends none =
    record {
      apart = λ q some. empty_at q;
      bare = λ is q. ap row_of (empty_at q);
    }
  where
    empty_at : (q : ℕ) → finmap.get ends q ≡ None
    empty_at q = ap (λ m. finmap.get m q) none ∙ finmap.get-empty nat_cmp q

module _ (rows ends : ChainValue) (mixed : Bool) (parted : IsParted rows ends mixed) where
  pub parted_until : (h : ℕ) → IsParted (chain_until rows h) (chain_until ends h) mixed
  parted_until h = record { apart = until_apart rows ends h parted.apart; bare = λ is. until_no_rows ends h (parted.bare is) }

  pub parted_rows_forgotten : (born : ℕ) (part : Part) → finmap.get ends born ≡ None → IsParted (chain_forget rows born part) ends mixed
  parted_rows_forgotten born part none = record { apart = apart_rows rows ends born (without part (finmap.get rows born)) none parted.apart; bare = parted.bare }

  pub parted_ends_forgotten : (born : ℕ) (part : Part) → finmap.get rows born ≡ None → IsParted rows (chain_forget ends born part) mixed
  parted_ends_forgotten born part none = record { apart = apart_ends rows ends born (without part (finmap.get ends born)) none parted.apart; bare = λ is. forgotten_no_rows ends born part (parted.bare is) }

  pub parted_rows_put : {A : Type 0} (fact : Fact) (born : ℕ) (r : Result A Refusal) (new : ChainValue) → finmap.get ends born ≡ None → OnOk r (chain_put rows born fact ≡ Ok new) → OnErr r (new ≡ rows) → IsParted new ends mixed
  parted_rows_put fact born r new none ok kept = record { apart = put_rows_apart fact born rows ends r new none ok kept parted.apart; bare = parted.bare }

  pub parted_end_put : {A : Type 0} (died born : ℕ) (r : Result A Refusal) (new : ChainValue) → finmap.get rows born ≡ None → OnOk r (chain_put ends born (EndFact died) ≡ Ok new) → OnErr r (new ≡ ends) → IsParted rows new mixed
  parted_end_put died born r new none ok kept = record { apart = put_ends_apart (EndFact died) born rows ends r new none ok kept parted.apart; bare = λ is. end_no_rows died born ends new r ok kept (parted.bare is) }

-- a row that is put beside ends alone
pub parted_mixed : {A : Type 0} (rows ends : ChainValue) (fact : Fact) (born : ℕ) (r : Result A Refusal) (new : ChainValue) → finmap.get rows born ≡ None → OnOk r (chain_put ends born fact ≡ Ok new) → OnErr r (new ≡ ends) → AreApart rows ends → IsParted rows new true
parted_mixed rows ends fact born r new none ok kept apart = record { apart = put_ends_apart fact born rows ends r new none ok kept apart; bare = λ is. absurd (true≢false is) }

pub was_ok : {A E P : Type 0} (r : Result A E) → is_ok r ≡ true → OnOk r P → P
was_ok (Ok a) e p = p
was_ok (Err why) e p = absurd (true≢false (sym e))

-- The version born next, or last before a time, of a chain that stands in two parts, or in a tree.
use Rattle.std.proofs.Common.{◌≡◌, refl, sym, ap, ◌∙◌, subst, ℕ, ◌<◌, ◌≤◌, Bool, true, false, cond, true≢false, nat_lt, nat_le, nat_cmp, Option, Some, None, List, [], ◌∷◌, ◌++◌, arith, Less, length, IsSome}
use Rattle.std.proofs.lemmas.Bool.Decides.{nat_tests}
use Rattle.std.specs.Option.{is_some}
use Rattle.std.specs.BTreeMap.{BTreeMap}
use Rattle.std.specs.BTreeMap as tree
use Rattle.std.specs.BTreeMap.Range.{IsRangeOf}
use Rattle.std.specs.declared.ops.Bound.TheVariants.{Excluded, Unbounded}
use Rattle.std.specs.Ordering.{is_gt, is_lt}
use Rattle.std.specs.FinMap as finmap
use Rattle.hk_log.specs.Versions.{VersionValue}
use Rattle.hk_model.specs.Replica.Maps.{or_else}
use Rattle.hk_facts.specs.Chains.{ChainValue, FirstBorn, IsEarliest, IsLastBefore, LastBefore, is_after}
use Rattle.hk_facts.specs.Parted.{both, is_earlier, is_later}
use Rattle.hk_facts.proofs.StoredTrees.{seen, get_seen, seen_none}
use Rattle.hk_facts.proofs.PartedChains.{get_both, get_end, get_there}

abbrev Found : Type 0
Found = ℕ × VersionValue

-- ---- the next of what is looked up in two parts, the first part first

record IsLeast (look : ℕ → Option VersionValue) (test : ℕ → Bool) (e : Found) : Type 0 where
  known : look e.0 ≡ Some e.1
  passes : test e.0 ≡ true
  least : (born : ℕ) → test born ≡ true → is_some (look born) ≡ true → e.0 ≤ born

abbrev IsNext : (ℕ → Option VersionValue) → (ℕ → Bool) → Option Found → Type 0
IsNext look test None = (born : ℕ) → test born ≡ true → look born ≡ None
IsNext look test (Some e) = IsLeast look test e

of_chain : (c : ChainValue) (test : ℕ → Bool) (o : Option Found) → FirstBorn c test o → IsNext (finmap.get c) test o
of_chain c test None is = is
of_chain c test (Some e) is = record { known = is.known; passes = is.passes; least = is.earliest }

to_chain : (c : ChainValue) (test : ℕ → Bool) (o : Option Found) → IsNext (finmap.get c) test o → FirstBorn c test o
to_chain c test None is = is
to_chain c test (Some e) is = record { known = is.known; passes = is.passes; earliest = is.least }

none_but : (v : VersionValue) → ◌≡◌ {A = Option VersionValue} None (Some v) → ⊥
none_but v e = cc

module _ (test : ℕ → Bool) (a b look : ℕ → Option VersionValue) (joined : (q : ℕ) → look q ≡ or_else (a q) (b q)) where
  in_b : (q : ℕ) → a q ≡ None → look q ≡ b q
  in_b q none = joined q ∙ ap (λ x. or_else x (b q)) none

  -- what is in the whole is in one of both
  either : (P : Type 0) (q : ℕ) → is_some (look q) ≡ true → (is_some (a q) ≡ true → P) → (is_some (b q) ≡ true → P) → P
  either P q there l r = by (a q) refl
    where
      by : (x : Option VersionValue) → a q ≡ x → P
      by None e = r (sym (ap is_some (in_b q e)) ∙ there)
      by (Some v) e = l (ap is_some e)

  no_a : (o : Option Found) → IsNext a test None → IsNext b test o → IsNext look test o
  no_a None l r = λ q t. in_b q (l q t) ∙ r q t
  no_a (Some f) l r = record {
    known = in_b f.0 (l f.0 r.passes) ∙ r.known;
    passes = r.passes;
    least = λ q t there. either (f.0 ≤ q) q there (λ s. absurd (true≢false (sym s ∙ ap is_some (l q t)))) (λ s. r.least q t s);
  }

  a_known : (e : Found) → IsLeast a test e → look e.0 ≡ Some e.1
  a_known e l = joined e.0 ∙ ap (λ x. or_else x (b e.0)) l.known

  no_b : (e : Found) → IsLeast a test e → IsNext b test None → IsLeast look test e
  no_b e l r = record {
    known = a_known e l;
    passes = l.passes;
    least = λ q t there. either (e.0 ≤ q) q there (λ s. l.least q t s) (λ s. absurd (true≢false (sym s ∙ ap is_some (r q t))));
  }

  a_first : (e f : Found) → IsLeast a test e → IsLeast b test f → e.0 ≤ f.0 → IsLeast look test e
  a_first e f l r below = record {
    known = a_known e l;
    passes = l.passes;
    least = λ q t there. either (e.0 ≤ q) q there (λ s. l.least q t s) (λ s. let up = r.least q t s in omega arith);
  }

  b_first : (e f : Found) → IsLeast a test e → IsLeast b test f → f.0 < e.0 → IsLeast look test f
  b_first e f l r below = record {
    known = in_b f.0 (by (a f.0) refl) ∙ r.known;
    passes = r.passes;
    least = λ q t there. either (f.0 ≤ q) q there (λ s. let up = l.least q t s in omega arith) (λ s. r.least q t s);
  }
    where
      by : (x : Option VersionValue) → a f.0 ≡ x → x ≡ None
      by None is = refl
      by (Some v) is = let up = l.least f.0 r.passes (ap is_some is) in absurd (omega arith)

  -- the next of the second part, where it is below that of the first
  b_wins : (e f : Found) (o : Option Found) → IsLeast a test e → IsLeast b test f → f.0 < e.0 → IsNext b test o → IsNext look test o
  b_wins e f None l r below n = absurd (none_but f.1 (sym (n f.0 r.passes) ∙ r.known))
  b_wins e f (Some g) l r below n = let up = n.least f.0 r.passes (ap is_some r.known) in b_first e g l n (omega arith)

  -- the next of the first part, where it is not above that of the second
  a_wins : (e f : Found) (o : Option Found) → IsLeast a test e → IsLeast b test f → e.0 ≤ f.0 → IsNext a test o → IsNext look test o
  a_wins e f None l r below n = absurd (none_but e.1 (sym (n e.0 l.passes) ∙ l.known))
  a_wins e f (Some g) l r below n = let up = n.least e.0 l.passes (ap is_some l.known) in a_first g f n r (omega arith)

  a_alone : (e : Found) (o : Option Found) → IsLeast a test e → IsNext b test None → IsNext a test o → IsNext look test o
  a_alone e None l r n = absurd (none_but e.1 (sym (n e.0 l.passes) ∙ l.known))
  a_alone e (Some g) l r n = no_b g n r

at_most : (a b : ℕ) → nat_le a b ≡ true → a ≤ b
at_most a b e = grind (arith, nat_tests)

under : (a b : ℕ) → nat_le a b ≡ false → b < a
under a b e = grind (arith, nat_tests)

-- ---- in a tree

no_length : (n : ℕ) → (0 < n → false ≡ true) → n ≡ 0
no_length n never = by (nat_lt 0 n) refl
  where
    some : nat_lt 0 n ≡ true → 0 < n
    some e = grind (arith, nat_tests)

    none : nat_lt 0 n ≡ false → n ≡ 0
    none e = grind (arith, nat_tests)

    by : (b : Bool) → nat_lt 0 n ≡ b → n ≡ 0
    by true e = absurd (true≢false (sym (never (some e))))
    by false e = none e

module _ (m : BTreeMap ℕ VersionValue) where
  there : (q : ℕ) → is_some (finmap.get (seen m) q) ≡ true → IsSome (tree.get nat_cmp m q)
  there q some = sym (ap is_some (get_seen m q)) ∙ some

  not_above : (a b : ℕ) → is_gt (nat_cmp a b) ≡ false → a ≤ b
  not_above a b e = grind (arith, nat_tests)

  pub first_none : (0 < length m.entries → false ≡ true) → FirstBorn (seen m) (is_after None) None
  first_none never = λ born t. ap (λ c. finmap.get c born) (seen_none m (no_length (length m.entries) never)) ∙ finmap.get-empty nat_cmp born

  pub first_some : (e : Found) → tree.get nat_cmp m e.0 ≡ Some e.1 → tree.IsLowerBound nat_cmp m e.0 → IsEarliest (seen m) (is_after None) e
  first_some e has least = record {
    known = get_seen m e.0 ∙ has;
    passes = refl;
    earliest = λ born t some. not_above e.0 born (least born (there born some));
  }

  module _ (time : ℕ) (range : List Found) (is : IsRangeOf nat_cmp (Excluded time) Unbounded m range) where
    later : (born : ℕ) → nat_lt time born ≡ true → nat_cmp time born ≡ Less
    later born e = grind (arith, nat_tests)

    sooner : (born : ℕ) → nat_cmp time born ≡ Less → nat_lt time born ≡ true
    sooner born e = grind (arith, nat_tests)

    pub after_none : range ≡ [] → FirstBorn (seen m) (is_after (Some time)) None
    after_none none = λ born t. get_seen m born ∙ is.5 none born (later born t, tt)

    pub after_some : (e : Found) (rest : List Found) → range ≡ e ∷ rest → IsEarliest (seen m) (is_after (Some time)) e
    after_some e rest same =
        let here = subst (λ r. IsRangeOf nat_cmp (Excluded time) Unbounded m r) same is in
        record {
          known = get_seen m e.0 ∙ here.1.1;
          passes = sooner e.0 here.1.0.0;
          earliest = λ born t some. not_above e.0 born (here.2 born (later born t, tt) (there born some));
        }

  module _ (time : ℕ) (range : List Found) (is : IsRangeOf nat_cmp Unbounded (Excluded time) m range) where
    below : (born : ℕ) → born < time → nat_cmp born time ≡ Less
    below born lt = grind (arith, nat_tests)

    before : (born : ℕ) → nat_cmp born time ≡ Less → born < time
    before born e = grind (arith, nat_tests)

    not_below : (a b : ℕ) → is_lt (nat_cmp a b) ≡ false → b ≤ a
    not_below a b e = grind (arith, nat_tests)

    pub before_none : range ≡ [] → LastBefore (seen m) time None
    before_none none = λ born t. get_seen m born ∙ is.5 none born (tt, below born t)

    pub before_some : (e : Found) (rest : List Found) → range ≡ rest ++ e ∷ [] → IsLastBefore (seen m) time e
    before_some e rest same =
        let here = is.3 e rest same in
        record {
          known = get_seen m e.0 ∙ here.1;
          before = before e.0 here.0.1;
          last = λ born t some. not_below e.0 born (is.4 e rest same born (tt, below born t) (there born some));
        }

-- ---- rows and ends apart

module _ (test : ℕ → Bool) (rows ends : ChainValue) where
  abbrev Whole : Option Found → Type 0
  Whole o = FirstBorn (both rows ends) test o

  ends_alone : FirstBorn rows test None → (o : Option Found) → FirstBorn ends test o → Whole o
  ends_alone l o n = to_chain _ test o (no_a test (finmap.get rows) (finmap.get ends) (finmap.get (both rows ends)) (get_both rows ends) o l (of_chain ends test o n))

  rows_alone : (e : Found) → IsEarliest rows test e → FirstBorn ends test None → (o : Option Found) → FirstBorn rows test o → Whole o
  rows_alone e l r o n = to_chain _ test o (a_alone test (finmap.get rows) (finmap.get ends) (finmap.get (both rows ends)) (get_both rows ends) e o (of_chain rows test (Some e) l) r (of_chain rows test o n))

  rows_before : (e f : Found) → IsEarliest rows test e → IsEarliest ends test f → nat_le e.0 f.0 ≡ true → (o : Option Found) → FirstBorn rows test o → Whole o
  rows_before e f l r below o n = to_chain _ test o (a_wins test (finmap.get rows) (finmap.get ends) (finmap.get (both rows ends)) (get_both rows ends) e f o (of_chain rows test (Some e) l) (of_chain ends test (Some f) r) (at_most e.0 f.0 below) (of_chain rows test o n))

  ends_before : (e f : Found) → IsEarliest rows test e → IsEarliest ends test f → nat_le e.0 f.0 ≡ false → (o : Option Found) → FirstBorn ends test o → Whole o
  ends_before e f l r below o n = to_chain _ test o (b_wins test (finmap.get rows) (finmap.get ends) (finmap.get (both rows ends)) (get_both rows ends) e f o (of_chain rows test (Some e) l) (of_chain ends test (Some f) r) (under e.0 f.0 below) (of_chain ends test o n))

  next_both : (x y : Option Found) → FirstBorn rows test x → FirstBorn ends test y → Whole (cond (is_earlier x y) x y)
  next_both None y l r = ends_alone l y r
  next_both (Some e) None l r = rows_alone e l r (Some e) l
  next_both (Some e) (Some f) l r = by (nat_le e.0 f.0) refl
    where
      by : (b : Bool) → nat_le e.0 f.0 ≡ b → Whole (cond b (Some e) (Some f))
      by true is = rows_before e f l r is (Some e) l
      by false is = ends_before e f l r is (Some f) r

  -- as it is chosen
  pub both_chosen : (x y : Option Found) → FirstBorn rows test x → FirstBorn ends test y → (chosen : Bool) → chosen ≡ is_earlier x y → (chosen ≡ true → Whole x) × (chosen ≡ false → Whole y)
  both_chosen x y l r chosen is = (λ e. subst (λ b. Whole (cond b x y)) (sym is ∙ e) (next_both x y l r), λ e. subst (λ b. Whole (cond b x y)) (sym is ∙ e) (next_both x y l r))

-- ---- the last before a time, of rows and ends apart

module _ (rows ends : ChainValue) (time : ℕ) where
  abbrev Last : Option Found → Type 0
  Last o = LastBefore (both rows ends) time o

  in_either : (P : Type 0) (q : ℕ) → is_some (finmap.get (both rows ends) q) ≡ true → (is_some (finmap.get rows q) ≡ true → P) → (is_some (finmap.get ends q) ≡ true → P) → P
  in_either = either (λ _. true) (finmap.get rows) (finmap.get ends) (finmap.get (both rows ends)) (get_both rows ends)

  never : (P : Type 0) (x : Option VersionValue) → x ≡ None → is_some x ≡ true → P
  never P x none some = absurd (true≢false (sym some ∙ ap is_some none))

  row_last : (e : Found) → IsLastBefore rows time e → ((q : ℕ) → q < time → is_some (finmap.get ends q) ≡ true → q ≤ e.0) → Last (Some e)
  row_last e l others = record {
    known = sym (get_there rows ends e.0 e.1 (sym l.known));
    before = l.before;
    last = λ q t some. in_either (q ≤ e.0) q some (λ s. l.last q t s) (λ s. others q t s);
  }

  end_last : (f : Found) → IsLastBefore ends time f → finmap.get rows f.0 ≡ None → ((q : ℕ) → q < time → is_some (finmap.get rows q) ≡ true → q ≤ f.0) → Last (Some f)
  end_last f r none others = record {
    known = get_end rows ends f.0 none ∙ r.known;
    before = r.before;
    last = λ q t some. in_either (q ≤ f.0) q some (λ s. others q t s) (λ s. r.last q t s);
  }

  both_last : (e f : Found) → IsLastBefore rows time e → IsLastBefore ends time f → (b : Bool) → nat_le f.0 e.0 ≡ b → Last (cond b (Some e) (Some f))
  both_last e f l r true is = row_last e l (λ q t s. let up = r.last q t s in let k = at_most f.0 e.0 is in omega arith)
  both_last e f l r false is = end_last f r (absent (finmap.get rows f.0) refl) (λ q t s. let up = l.last q t s in let k = under f.0 e.0 is in omega arith)
    where
      absent : (x : Option VersionValue) → finmap.get rows f.0 ≡ x → x ≡ None
      absent None g = refl
      absent (Some v) g = let up = l.last f.0 r.before (ap is_some g) in let k = under f.0 e.0 is in absurd (omega arith)

  last_both : (x y : Option Found) → LastBefore rows time x → LastBefore ends time y → Last (cond (is_later x y) x y)
  last_both None None l r = λ q t. get_end rows ends q (l q t) ∙ r q t
  last_both None (Some f) l r = end_last f r (l f.0 r.before) (λ q t s. never (q ≤ f.0) _ (l q t) s)
  last_both (Some e) None l r = row_last e l (λ q t s. never (q ≤ e.0) _ (r q t) s)
  last_both (Some e) (Some f) l r = both_last e f l r (nat_le f.0 e.0) refl

  -- as it is chosen
  pub last_chosen : (x y : Option Found) → LastBefore rows time x → LastBefore ends time y → (chosen : Bool) → chosen ≡ is_later x y → (chosen ≡ true → Last x) × (chosen ≡ false → Last y)
  last_chosen x y l r chosen is = (λ e. subst (λ b. Last (cond b x y)) (sym is ∙ e) (last_both x y l r), λ e. subst (λ b. Last (cond b x y)) (sym is ∙ e) (last_both x y l r))

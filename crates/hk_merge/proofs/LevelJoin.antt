-- A join at the horizon that stands: what is known stays, and what comes of what is sent is learnt.
use Rattle.std.proofs.Common.{◌≡◌, refl, sym, ap, ◌∙◌, ℕ, ◌<◌, max, Bool, true, false, cond, not, ◌&&◌, ◌||◌, ◌==◌, Option, Some, None, nat_lt, nat_le, arith}
use Rattle.std.proofs.lemmas.Bool.Decides.{nat_tests}
use Rattle.std.specs.FinMap as finmap
use Rattle.hk_types.specs.Values.{RowValue}
use Rattle.hk_types.specs.declared.version_key.VersionKey.{VersionKey}
use Rattle.hk_model.specs.Replica.Content.{Content, at_most, ended_by, without_ended}
use Rattle.hk_model.specs.Replica.Fragments.{FragmentValue}
use Rattle.hk_model.specs.Replica.Lawful.{IsLawful}
use Rattle.hk_model.specs.Replica.Maps.{or_else, union}
use Rattle.hk_model.specs.Replica.Rules.{content_after_join}
use Rattle.hk_model.specs.Replica.Streams.{all_together}
use Rattle.hk_model.proofs.Replica.Maps.{version_key_total, version_key_same, get-union, get-retain, get-without_ended}
use Rattle.hk_state.specs.Changes.{content_learnt}
use Rattle.hk_store.specs.Facts.{FactsValue}
use Rattle.hk_store.specs.Learning.{facts_told, with_told}
use Rattle.hk_store.specs.Reads.{facts_of_content}
use Rattle.hk_store.specs.declared.learn.LearnSource.{LearnSource}
use Rattle.hk_merge.specs.Plans.{rises}

highest : (a b : ℕ) → nat_lt a b ≡ false → max a b ≡ a
highest a b e = grind (arith, nat_tests)

itself : (n : ℕ) → (n == n) ≡ true
itself n = grind (arith, nat_tests)

-- an end above h is none at or below it
above : (h : ℕ) (e : Option ℕ) → ((d : ℕ) → e ≡ Some d → h < d) → at_most h e ≡ false
above h None later = refl
above h (Some d) later = let l = later d refl in under d l
  where
    under : (d : ℕ) → h < d → nat_le d h ≡ false
    under d l = grind (arith, nat_tests)

module _ (t : Content) (f : FragmentValue) (lawful : IsLawful t) (level : rises t f ≡ false) where
  abbrev h : ℕ
  h = max t.horizon f.content.horizon

  at : t.horizon ≡ max t.horizon f.content.horizon
  at = sym (highest t.horizon f.content.horizon level)

  -- no row goes
  row_stays : (q : VersionKey) → finmap.get t.rows q ≡ cond (nat_lt t.horizon q.born || (((t.horizon == t.horizon) || nat_lt 0 f.base) && not (at_most t.horizon (finmap.get t.ends q)))) (finmap.get t.rows q) None
  row_stays q =
      sym ((λ i. cond (nat_lt t.horizon q.born || ((itself t.horizon i || nat_lt 0 f.base) && not (above t.horizon (finmap.get t.ends q) (λ d e. lawful.end_above q d e) i))) (finmap.get t.rows q) None)
      ∙ ap (λ b. cond b (finmap.get t.rows q) None) (or_true (nat_lt t.horizon q.born)))
    where
      or_true : (b : Bool) → (b || true) ≡ true
      or_true true = refl
      or_true false = refl

  -- nor an end
  end_stays : (q : VersionKey) → finmap.get t.ends q ≡ cond (not (at_most t.horizon (finmap.get t.ends q))) (finmap.get t.ends q) None
  end_stays q = sym (ap (λ b. cond (not b) (finmap.get t.ends q) None) (above t.horizon (finmap.get t.ends q) (λ d e. lawful.end_above q d e)))

  pub level_join : (old : Bool) → old ≡ ((f.base == 0) && (f.content.horizon == t.horizon)) → (told : LearnSource) → facts_told told ≡ facts_of_content f.content → content_learnt t old told f.content.streams ≡ content_after_join t f
  level_join old is told tells = (λ i. learnt (is i) (tells i)) ∙ (λ i. record {
    log = t.log;
    horizon = at i;
    rows = finmap.same_map version_key_total version_key_same (union t.rows (finmap.retain_keys f.content.rows (λ v. nat_lt t.horizon v.born || ((f.base == 0) && (f.content.horizon == t.horizon))))) (content_after_join t f).rows row i;
    ends = finmap.same_map version_key_total version_key_same (union t.ends (without_ended f.content.ends t.horizon f.content.ends)) (content_after_join t f).ends end i;
    streams = all_together t.streams f.content.streams;
  })
    where
      learnt : Bool → FactsValue → Content
      learnt old g =
          let with = with_told old t.horizon (facts_of_content t) g in
          record { log = t.log; horizon = t.horizon; rows = with.rows; ends = with.ends; streams = all_together t.streams f.content.streams }

      row_at : ℕ → VersionKey → Option RowValue
      row_at g q = or_else (cond (nat_lt g q.born || (((t.horizon == g) || nat_lt 0 f.base) && not (at_most g (finmap.get t.ends q)))) (finmap.get t.rows q) None) (cond (nat_lt g q.born || ((f.base == 0) && (f.content.horizon == g))) (finmap.get f.content.rows q) None)

      end_at : ℕ → VersionKey → Option ℕ
      end_at g q = or_else (cond (not (at_most g (finmap.get t.ends q))) (finmap.get t.ends q) None) (cond (not (at_most g (finmap.get f.content.ends q))) (finmap.get f.content.ends q) None)

      row : (q : VersionKey) → finmap.get (union t.rows (finmap.retain_keys f.content.rows (λ v. nat_lt t.horizon v.born || ((f.base == 0) && (f.content.horizon == t.horizon))))) q ≡ finmap.get (content_after_join t f).rows q
      row q =
          get-union version_key_total version_key_same t.rows (finmap.retain_keys f.content.rows (λ v. nat_lt t.horizon v.born || ((f.base == 0) && (f.content.horizon == t.horizon)))) q
          ∙ (λ i. or_else (row_stays q i) (get-retain version_key_total version_key_same f.content.rows (λ v. nat_lt t.horizon v.born || ((f.base == 0) && (f.content.horizon == t.horizon))) q i))
          ∙ ap (λ g. row_at g q) at
          ∙ sym (get-union version_key_total version_key_same _ _ q ∙ (λ i. or_else (get-retain version_key_total version_key_same t.rows (λ v. nat_lt h v.born || (((t.horizon == h) || nat_lt 0 f.base) && not (ended_by t.ends h v))) q i) (get-retain version_key_total version_key_same f.content.rows (λ v. nat_lt h v.born || ((f.base == 0) && (f.content.horizon == h))) q i)))

      end : (q : VersionKey) → finmap.get (union t.ends (without_ended f.content.ends t.horizon f.content.ends)) q ≡ finmap.get (content_after_join t f).ends q
      end q =
          get-union version_key_total version_key_same t.ends (without_ended f.content.ends t.horizon f.content.ends) q
          ∙ (λ i. or_else (end_stays q i) (get-without_ended f.content.ends t.horizon f.content.ends q i))
          ∙ ap (λ g. end_at g q) at
          ∙ sym (get-union version_key_total version_key_same _ _ q ∙ (λ i. or_else (get-without_ended t.ends h t.ends q i) (get-without_ended f.content.ends h f.content.ends q i)))

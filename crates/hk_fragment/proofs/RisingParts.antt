-- What follows from the order of facts.
use Rattle.std.proofs.Common.{◌≡◌, refl, sym, ap, ◌∙◌, ℕ, Bool, true, false, cond, not, ◌&&◌, List, [], ◌∷◌, ◌++◌, Option, Some, None, Result, Ok, Err, is_ok, IfErr}
use Rattle.std.specs.Result.{IsErrAnd}
use Rattle.hk_types.specs.declared.version_key.VersionKey.{VersionKey}
use Rattle.hk_types.specs.declared.faults.FormFault.{FormFault}
use Rattle.hk_types.specs.declared.faults.FormFault.TheVariants.{BadNumber, BadOrder}
use Rattle.hk_types.specs.declared.faults.Refusal.{Refusal}
use Rattle.hk_types.specs.declared.faults.Refusal.TheVariants.{Form, Memory}
use Rattle.hk_fragment.specs.Parts.{Known, follows, is_valid_fact, facts_fault}
use Rattle.hk_fragment.specs.Assemblies.{rise_after, rises, last_after, checked_last, part_refusal, IsAssembly}

-- facts rise where the first ones do, and the others after the last of them
pub rise_both : (before : Option VersionKey) (xs ys : List Known) → rise_after before (xs ++ ys) ≡ (rise_after before xs && rise_after (last_after before xs) ys)
rise_both before [] ys = refl
rise_both before (e ∷ xs) ys = by (follows before e.0) (rise_both (Some e.0) xs ys)
  where
    by : (b : Bool) → rise_after (Some e.0) (xs ++ ys) ≡ (rise_after (Some e.0) xs && rise_after (last_after (Some e.0) xs) ys)
        → (b && rise_after (Some e.0) (xs ++ ys)) ≡ ((b && rise_after (Some e.0) xs) && rise_after (last_after (Some e.0) xs) ys)
    by true h = h
    by false h = refl

first : (a b : Bool) → (a && b) ≡ true → a ≡ true
first true b e = refl
first false b e = e

-- a front of facts that rise
pub front_rises : (xs ys : List Known) → rises (xs ++ ys) ≡ true → rises xs ≡ true
front_rises xs ys h = first (rises xs) (rise_after (last_after None xs) ys) (sym (rise_both None xs ys) ∙ h)

pub last_after_both : (before : Option VersionKey) (xs ys : List Known) → last_after before (xs ++ ys) ≡ last_after (last_after before xs) ys
last_after_both before [] ys = refl
last_after_both before (e ∷ xs) ys = last_after_both (Some e.0) xs ys

pub checked_is : (before : Option VersionKey) (facts : List Known) → checked_last before facts ≡ cond (rise_after before facts) (Ok (last_after before facts)) (Err BadOrder)
checked_is before [] = refl
checked_is before (e ∷ facts) = by (follows before e.0) (checked_is (Some e.0) facts)
  where
    by : (b : Bool) → checked_last (Some e.0) facts ≡ cond (rise_after (Some e.0) facts) (Ok (last_after (Some e.0) facts)) (Err BadOrder)
        → cond b (checked_last (Some e.0) facts) (Err BadOrder) ≡ cond (b && rise_after (Some e.0) facts) (Ok (last_after (Some e.0) facts)) (Err BadOrder)
    by true h = h
    by false h = refl

-- facts without a fault rise
pub faultless_rise : (base horizon : ℕ) (before : Option VersionKey) (facts : List Known) → facts_fault base horizon before facts ≡ None → rise_after before facts ≡ true
faultless_rise base horizon before [] h = refl
faultless_rise base horizon before (e ∷ facts) h = by (follows before e.0) (is_valid_fact base horizon e) (faultless_rise base horizon (Some e.0) facts) h
  where
    by : (a b : Bool) → (facts_fault base horizon (Some e.0) facts ≡ None → rise_after (Some e.0) facts ≡ true)
        → cond (not a) (Some BadOrder) (cond (not b) (Some BadNumber) (facts_fault base horizon (Some e.0) facts)) ≡ None → (a && rise_after (Some e.0) facts) ≡ true
    by true true more h = more h
    by true false more h = absurd cc
    by false b more h = absurd cc

-- ---- a part that is added

-- what a refusal is that is handed on
pub handed_on : {A : Type 0} (r : Result A Refusal) (why other : Refusal) → IsErrAnd r (λ e. e ≡ why) → why ≡ other → IfErr r (λ e. e ≡ other)
handed_on (Ok x) why other h is = absurd h
handed_on (Err e) why other h is = h ∙ is

module _ (facts part : List Known) (last : Option VersionKey) (before : IsAssembly facts last) where
  both : rises (facts ++ part) ≡ rise_after (last_after None facts) part
  both = rise_both None facts part ∙ ap (λ b. b && rise_after (last_after None facts) part) before.is_rising

  asked : checked_last last part ≡ cond (rises (facts ++ part)) (Ok (last_after None (facts ++ part))) (Err BadOrder)
  asked =
      ap (λ l. checked_last l part) before.is_last ∙ checked_is (last_after None facts) part
      ∙ (λ i. cond (sym both i) (Ok (sym (last_after_both None facts part) i)) (Err BadOrder))

  -- whether they rise together is whether the last version is found
  pub rises_so : is_ok (checked_last last part) ≡ rises (facts ++ part)
  rises_so = ap is_ok asked ∙ by (rises (facts ++ part))
    where
      by : (b : Bool) → is_ok (cond b (Ok (last_after None (facts ++ part))) (Err BadOrder)) ≡ b
      by true = refl
      by false = refl

  pub out_of_order : (fault : FormFault) → checked_last last part ≡ Err fault → Form BadOrder ≡ part_refusal facts part
  out_of_order fault e = by (rises (facts ++ part)) (sym asked ∙ e)
    where
      by : (b : Bool) → cond b (Ok (last_after None (facts ++ part))) (Err BadOrder) ≡ Err fault → Form BadOrder ≡ cond b Memory (Form BadOrder)
      by true e = absurd cc
      by false e = refl

  taken_part : (new : Option VersionKey) → checked_last last part ≡ Ok new → (rises (facts ++ part) ≡ true) × (new ≡ last_after None (facts ++ part))
  taken_part new e = by (rises (facts ++ part)) (sym asked ∙ e)
    where
      by : (b : Bool) → cond b (Ok (last_after None (facts ++ part))) (Err BadOrder) ≡ Ok new → (b ≡ true) × (new ≡ last_after None (facts ++ part))
      by true e = (refl, cc)
      by false e = absurd cc

  pub in_order : (new : Option VersionKey) → checked_last last part ≡ Ok new → rises (facts ++ part) ≡ true
  in_order new e = (taken_part new e).0

  pub out_of_memory : (new : Option VersionKey) → checked_last last part ≡ Ok new → Memory ≡ part_refusal facts part
  out_of_memory new e = ap (λ b. cond b Memory (Form BadOrder)) (sym (taken_part new e).0)

  pub with_part : (new : Option VersionKey) → checked_last last part ≡ Ok new → IsAssembly (facts ++ part) new
  with_part new e = let taken = taken_part new e in record { is_rising = taken.0; is_last = taken.1 }

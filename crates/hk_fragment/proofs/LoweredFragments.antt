-- A fragment that states a lower oldest readable time is one.
use Rattle.std.proofs.Common.{◌≡◌, refl, ℕ, ◌≤◌, Bool, true, false, cond, not, ◌||◌, ◌&&◌, ◌==◌, eqb, ltb, nat_le, Option, Some, None, List, [], ◌∷◌, arith}
use Rattle.std.proofs.lemmas.Bool.{ltb-true, lt-ltb, leb-true, le-leb, le-ltb, ltb-false, and_parts, and_from}
use Rattle.std.proofs.lemmas.Bool.Decides.{nat_tests}
use Rattle.hk_types.specs.Values.{ConfigValue}
use Rattle.hk_types.specs.declared.version_key.VersionKey.{VersionKey}
use Rattle.hk_types.specs.declared.faults.FormFault.{FormFault}
use Rattle.hk_types.specs.declared.faults.FormFault.TheVariants.{BadNumber, BadOrder}
use Rattle.hk_log.specs.Versions.{is_known}
use Rattle.hk_model.specs.Replica.Streams.{StreamContent}
use Rattle.hk_model.specs.Replica.Content.{least_closed}
use Rattle.hk_fragment.specs.Parts.{Known, follows, is_valid_row, is_valid_end, is_valid_fact, facts_fault, fragment_fault, IsFragment}
use Rattle.hk_fragment.proofs.FragmentRules.{EndIs, end_is, passed}

-- a test that passes shows no fault
pass : (b : Bool) (f : FormFault) (rest : Option FormFault) → b ≡ true → rest ≡ None → cond (not b) (Some f) rest ≡ None
pass true f rest t e = e
pass false f rest t e = absurd cc

end_stays : (base h k born : ℕ) (died : Option ℕ) → k ≤ h → is_valid_end base h born died ≡ true → is_valid_end base k born died ≡ true
end_stays base h k born None l e = refl
end_stays base h k born (Some died) l e =
    let i : EndIs base h born died = end_is base h born died e in
    let under = i.over in
    and_from (ltb base died && ltb k died) (ltb born died)
    (and_from (ltb base died) (ltb k died) (lt-ltb _ _ i.above) (lt-ltb _ _ (omega arith)))
    (lt-ltb _ _ i.later)

fact_stays : (base h k : ℕ) (x : Known) → k ≤ h → is_valid_fact base h x ≡ true → is_valid_fact base k x ≡ true
fact_stays base h k x l e =
    let a = and_parts (ltb 0 x.0.born && is_known x.1 && is_valid_row base x.0.born x.1.row) (is_valid_end base h x.0.born x.1.died) e in
    and_from (ltb 0 x.0.born && is_known x.1 && is_valid_row base x.0.born x.1.row) (is_valid_end base k x.0.born x.1.died)
    a.0 (end_stays base h k x.0.born x.1.died l a.1)

facts_stay : (base h k : ℕ) (before : Option VersionKey) (facts : List Known) → k ≤ h → facts_fault base h before facts ≡ None → facts_fault base k before facts ≡ None
facts_stay base h k before [] l e = refl
facts_stay base h k before (x ∷ facts) l e =
    let a = passed (follows before x.0) BadOrder _ e in
    let b = passed (is_valid_fact base h x) BadNumber (facts_fault base h (Some x.0) facts) a.1 in
    pass (follows before x.0) BadOrder _ a.0
    (pass (is_valid_fact base k x) BadNumber (facts_fault base k (Some x.0) facts) (fact_stays base h k x l b.0) (facts_stay base h k (Some x.0) facts l b.1))

base_stays : (base h k : ℕ) → k ≤ h → ((base == 0) || nat_le h base) ≡ true → ((base == 0) || nat_le k base) ≡ true
base_stays base h k l e = by (eqb base 0) refl e
  where
    by : (b : Bool) → eqb base 0 ≡ b → (b || nat_le h base) ≡ true → (b || nat_le k base) ≡ true
    by true t e = refl
    by false t e =
        let under = leb-true h base e in
        le-leb k base (omega arith)

fault_stays : (base h k : ℕ) (streams : List StreamContent) (facts : List Known) → k ≤ h → fragment_fault base h streams facts ≡ None → fragment_fault base k streams facts ≡ None
fault_stays base h k streams facts l e =
    let a = passed ((base == 0) || nat_le h base) BadNumber _ e in
    pass ((base == 0) || nat_le k base) BadNumber _ (base_stays base h k l a.0) (by (ltb (least_closed streams) h) refl a.1)
  where
    within : (b : Bool) → b ≡ false → facts_fault base k None facts ≡ None → cond b (Some BadNumber) (facts_fault base k None facts) ≡ None
    within true t e = absurd cc
    within false t e = e

    by : (b : Bool) → ltb (least_closed streams) h ≡ b → cond b (Some BadNumber) (facts_fault base h None facts) ≡ None → cond (ltb (least_closed streams) k) (Some BadNumber) (facts_fault base k None facts) ≡ None
    by true t e = absurd cc
    by false t e =
        let reach = ltb-false _ _ t in
        within (ltb (least_closed streams) k) (le-ltb _ _ (omega arith)) (facts_stay base h k None facts l e)

pub lowered_is_fragment : (config : ConfigValue) (base h k : ℕ) (streams : List StreamContent) (facts : List Known) → k ≤ h → IsFragment config base h streams facts → IsFragment config base k streams facts
lowered_is_fragment config base h k streams facts l p =
    record {
      as_many = p.as_many;
      lawful_streams = p.lawful_streams;
      numbered_streams = p.numbered_streams;
      faultless = fault_stays base h k streams facts l p.faultless;
    }

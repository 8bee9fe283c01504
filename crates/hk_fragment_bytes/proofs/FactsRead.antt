-- Facts that were read may stand in a fragment.
use Rattle.std.proofs.Common.{◌≡◌, refl, sym, ap, subst, ◌∙◌, ℕ, zero, suc, ◌^◌, ◌<◌, ◌≤◌, Bool, true, false, cond, not, ◌||◌, ltb, leb, eqb, List, [], ◌∷◌, map, Option, Some, None, Result, Ok, Err}
use Rattle.std.specs.Int.{w16, w32, w64}
use Rattle.std.proofs.lemmas.Bool.{leb-false, lt-ltb, ltb-false, le-ltb, not-false}
use Rattle.hk_types.specs.Values.{RowValue, ConfigValue}
use Rattle.hk_types.specs.declared.version_key.VersionKey.{VersionKey}
use Rattle.hk_types.specs.declared.faults.FormFault.{FormFault}
use Rattle.hk_types.specs.declared.faults.FormFault.TheVariants.{BadNumber, BadOrder}
use Rattle.hk_log.specs.Versions.{VersionValue}
use Rattle.hk_model.specs.Replica.Streams.{StreamContent}
use Rattle.hk_model.specs.Replica.Content.{least_closed}
use Rattle.hk_model.specs.Replica.Fragments.{FragmentValue}
use Rattle.hk_fragment.specs.Parts.{Known, follows, is_valid_fact, is_valid_end, facts_fault, fragment_fault, checked_fragment, unless}
use Rattle.hk_fragment.specs.Parts as parts
use Rattle.hk_fragment.proofs.FragmentRules.{listed}
use Rattle.hk_frames.specs.Fields.{◌>>=◌, check, byte_at, number_at, list_at}
use Rattle.hk_frames.proofs.ReadingSteps.{bind_ok, check_ok, ok_is, neither}
use Rattle.hk_answers.specs.Readers.{Reader, both, fault_where, mapped_value, by_kind, time_at}
use Rattle.hk_answers.specs.Answers.{row_at}
use Rattle.hk_fragment_bytes.specs.Fragments.{version_at, died_at, known_of, fact_at, streams_at, fragment_head_at, fragment_at, wire_fragment_of, wire_stream_of, least_closed_of}
use Rattle.hk_fragment_bytes.specs.FragmentSteps.{fact_list_at, streams_at as several_at}
use Rattle.hk_answers.proofs.ReadersAndEncodings.{this_or}
use Rattle.hk_fragment_bytes.proofs.StreamsRead.{least_seen}

-- a value that was read is not barred
unbarred : {A : Type 0} (a : Reader A) (bad : A → Bool) (fault : FormFault) (bytes : List ℕ) (x : A × List ℕ) → fault_where a bad fault bytes ≡ Ok x → (a bytes ≡ Ok x) × (bad x.0 ≡ false)
unbarred {A = A} a bad fault bytes x e =
    let y = bind_ok (a bytes) (λ (p : A × List ℕ). check (bad p.0) fault >>= λ _. Ok p) x e in
    let z = check_ok (bad y.0.0) fault (λ _. Ok y.0) x y.2 in
    let same = ok_is y.0 x z.1 in
    (y.1 ∙ ap (λ (p : A × List ℕ). Ok p) same, sym (ap (λ (p : A × List ℕ). bad p.0) same) ∙ z.0)

-- a value that was made is made of what was read
made_of : {A B : Type 0} (f : A → B) (r : Reader A) (bytes : List ℕ) (x : B × List ℕ) → mapped_value f r bytes ≡ Ok x → (a : A × List ℕ) × (r bytes ≡ Ok a) × (f a.0 ≡ x.0)
made_of {A = A} {B = B} f r bytes x e =
    let y = bind_ok (r bytes) (λ (a : A × List ℕ). Ok (f a.0, a.1)) x e in
    (y.0, y.1, ap (λ (p : B × List ℕ). p.0) (ok_is (f y.0.0, y.0.1) x y.2))

-- ---- facts

abbrev version_of : ℕ × (ℕ × ℕ) → VersionKey
version_of p = record { table = p.0; key = p.1.0; born = p.1.1 }

abbrev name_at : Reader VersionKey
name_at bytes = mapped_value version_of (both (number_at w16) (both (number_at w64) (number_at w64))) bytes

version_stands : (before : Option VersionKey) (bytes : List ℕ) (x : VersionKey × List ℕ) → version_at before bytes ≡ Ok x → (follows before x.0 ≡ true) × (ltb 0 x.0.born ≡ true)
unfolding version_at
version_stands before bytes x e =
    let a = unbarred (fault_where name_at (λ v. not (follows before v)) BadOrder) (λ v. ltb v.born 1 || ltb (2 ^ 62) v.born) BadNumber bytes x e in
    let b = unbarred name_at (λ v. not (follows before v)) BadOrder bytes x a.0 in
    let c = neither (ltb x.0.born 1) (ltb (2 ^ 62) x.0.born) a.1 in
    (not-false (follows before x.0) b.1, lt-ltb 0 x.0.born (ltb-false x.0.born 1 c.0))

end_there : (base horizon born : ℕ) (bytes : List ℕ) (x : ℕ × List ℕ) → died_at base horizon born bytes ≡ Ok x → is_valid_end base horizon born (Some x.0) ≡ true
end_there base horizon born bytes x e =
    let a = unbarred time_at (λ died. not (is_valid_end base horizon born (Some died))) BadNumber bytes x e in
    not-false (is_valid_end base horizon born (Some x.0)) a.1

passed : {A : Type 0} (b : Bool) (r : Result A FormFault) (z : A) → cond b (Err BadNumber) r ≡ Ok z → (b ≡ false) × (r ≡ Ok z)
passed true r z e = absurd cc
passed false r z e = (refl, e)

abbrev Represents : ℕ → ℕ → VersionKey → VersionValue → Type 0
Represents base horizon v x = is_valid_fact base horizon (v, x) ≡ true

end_only : (base horizon died : ℕ) (v : VersionKey) → ltb 0 v.born ≡ true → is_valid_end base horizon v.born (Some died) ≡ true → Represents base horizon v (record { row = None; died = Some died })
end_only base horizon died v born e = rw (born, e) refl

row_only : (base horizon : ℕ) (row : RowValue) (v : VersionKey) → ltb 0 v.born ≡ true → ltb base v.born ≡ true → Represents base horizon v (record { row = Some row; died = None })
row_only base horizon row v born above = rw (born, above) refl

row_and_end : (base horizon died : ℕ) (row : RowValue) (v : VersionKey) → ltb 0 v.born ≡ true → ltb base v.born ≡ true → is_valid_end base horizon v.born (Some died) ≡ true → Represents base horizon v (record { row = Some row; died = Some died })
row_and_end base horizon died row v born above e = rw (born, above, e) refl

known_stands : (base horizon : ℕ) (v : VersionKey) (k : ℕ) (bytes : List ℕ) (x : VersionValue × List ℕ) → ltb 0 v.born ≡ true → known_of base horizon v.born k bytes ≡ Ok x → Represents base horizon v x.0
unfolding known_of
known_stands base horizon v k bytes x born e =
    this_or k 2 _ _ x (Represents base horizon v x.0) e
    (λ is f.
    let a = made_of (λ (died : ℕ). record { row = None; died = Some died }) (died_at base horizon v.born) bytes x f in
    subst (Represents base horizon v) a.2 (end_only base horizon a.0.0 v born (end_there base horizon v.born bytes a.0 a.1)))
    (λ e2. let p = passed (leb v.born base) _ x e2 in
    let above : ltb base v.born ≡ true = lt-ltb base v.born (leb-false v.born base p.0) in
    this_or k 1 _ _ x (Represents base horizon v x.0) p.1
    (λ is f.
    let a = made_of (λ (row : RowValue). record { row = Some row; died = None }) row_at bytes x f in
    subst (Represents base horizon v) a.2 (row_only base horizon a.0.0 v born above))
    (λ e3. this_or k 3 _ _ x (Represents base horizon v x.0) e3
    (λ is f.
    let a = made_of (λ (q : RowValue × ℕ). record { row = Some q.0; died = Some q.1 }) (both row_at (died_at base horizon v.born)) bytes x f in
    let r = bind_ok (row_at bytes) (λ q. died_at base horizon v.born q.1 >>= λ d. Ok ((q.0, d.0), d.1)) a.0 a.1 in
    let d = bind_ok (died_at base horizon v.born r.0.1) (λ d. Ok ((r.0.0, d.0), d.1)) a.0 r.2 in
    let same : (r.0.0, d.0.0) ≡ a.0.0 = ap (λ (q : (RowValue × ℕ) × List ℕ). q.0) (ok_is ((r.0.0, d.0.0), d.0.1) a.0 d.2) in
    subst (Represents base horizon v) (ap (λ (q : RowValue × ℕ). record { row = Some q.0; died = Some q.1 }) same ∙ a.2) (row_and_end base horizon d.0.0 r.0.0 v born above (end_there base horizon v.born r.0.1 d.0 d.1)))
    (λ e4. absurd cc)))

fact_stands : (base horizon : ℕ) (before : Option VersionKey) (bytes : List ℕ) (x : Known × List ℕ) → fact_at base horizon before bytes ≡ Ok x → (follows before x.0.0 ≡ true) × (is_valid_fact base horizon x.0 ≡ true)
unfolding fact_at
fact_stands base horizon before bytes x e =
    let a = bind_ok (version_at before bytes) (λ v. by_kind (known_of base horizon v.0.born) v.1 >>= λ k. Ok ((v.0, k.0), k.1)) x e in
    let b = bind_ok (by_kind (known_of base horizon a.0.0.born) a.0.1) (λ k. Ok ((a.0.0, k.0), k.1)) x a.2 in
    let c = bind_ok (byte_at a.0.1) (λ k. known_of base horizon a.0.0.born k.0 k.1) b.0 b.1 in
    let v = version_stands before bytes a.0 a.1 in
    let s = known_stands base horizon a.0.0 c.0.0 c.0.1 b.0 v.1 c.2 in
    let same : (a.0.0, b.0.0) ≡ x.0 = ap (λ (q : Known × List ℕ). q.0) (ok_is ((a.0.0, b.0.0), b.0.1) x b.2) in
    (subst (λ (q : Known). follows before q.0 ≡ true) same v.0, subst (λ (q : Known). is_valid_fact base horizon q ≡ true) same s)

-- facts that were read have no fault
pub facts_stand : (base horizon n : ℕ) (before : Option VersionKey) (bytes : List ℕ) (x : List Known × List ℕ) → fact_list_at base horizon n before bytes ≡ Ok x → facts_fault base horizon before x.0 ≡ None
unfolding list_at
facts_stand base horizon zero before bytes x e = ap (λ (q : List Known × List ℕ). facts_fault base horizon before q.0) (sym (ok_is ([], bytes) x e))
facts_stand base horizon (suc n) before bytes x e =
    let a = bind_ok (fact_at base horizon before bytes) (λ first. list_at (λ k. k.0) (fact_at base horizon) n (Some first.0.0) first.1 >>= λ others. Ok (first.0 ∷ others.0, others.1)) x e in
    let b = bind_ok (list_at (λ k. k.0) (fact_at base horizon) n (Some a.0.0.0) a.0.1) (λ others. Ok (a.0.0 ∷ others.0, others.1)) x a.2 in
    let f = fact_stands base horizon before bytes a.0 a.1 in
    let rest = facts_stand base horizon n (Some a.0.0.0) a.0.1 b.0 b.1 in
    let whole : facts_fault base horizon before (a.0.0 ∷ b.0.0) ≡ None = rw (f.0, f.1, rest) refl in
    subst (λ (q : List Known × List ℕ). facts_fault base horizon before q.0 ≡ None) {x = (a.0.0 ∷ b.0.0, b.0.1)} (ok_is (a.0.0 ∷ b.0.0, b.0.1) x b.2) whole

-- ---- streams

pub got_read : (horizon count : ℕ) (bytes rest : List ℕ) (got : List StreamContent) → several_at count None bytes ≡ Ok (map wire_stream_of got, rest) → horizon ≤ least_closed got → streams_at horizon count bytes ≡ Ok (map wire_stream_of got, rest)
unfolding streams_at
got_read horizon count bytes rest got e le =
    let t : ltb (least_closed_of (map wire_stream_of got)) horizon ≡ false = ap (λ (n : ℕ). ltb n horizon) (least_seen got) ∙ le-ltb (least_closed got) horizon le in
    rw (e, t) refl

pub got_short : (horizon count : ℕ) (bytes rest : List ℕ) (got : List StreamContent) → several_at count None bytes ≡ Ok (map wire_stream_of got, rest) → least_closed got < horizon → streams_at horizon count bytes ≡ Err BadNumber
unfolding streams_at
got_short horizon count bytes rest got e lt =
    let t : ltb (least_closed_of (map wire_stream_of got)) horizon ≡ true = ap (λ (n : ℕ). ltb n horizon) (least_seen got) ∙ lt-ltb (least_closed got) horizon lt in
    rw (e, t) refl

-- ---- fragments

-- the parts that were read have no fault
pub parts_stand : (base horizon : ℕ) (got : List StreamContent) (n : ℕ) (bytes rest : List ℕ) (facts : List Known) → (eqb base 0 || leb horizon base) ≡ true → horizon ≤ least_closed got → fact_list_at base horizon n None bytes ≡ Ok (facts, rest) → fragment_fault base horizon got facts ≡ None
parts_stand base horizon got n bytes rest facts above reach e =
    let t : ltb (least_closed got) horizon ≡ false = le-ltb (least_closed got) horizon reach in
    rw (above, t) (facts_stand base horizon n None bytes (facts, rest) e)

same_fragment : (f g : FragmentValue) → ◌≡◌ {A = Result FragmentValue FormFault} (Ok f) (Ok g) → f ≡ g
same_fragment f g e = cc

pub no_fragment_fault : (config : ConfigValue) (base horizon : ℕ) (got : List StreamContent) (facts : List Known) (fault : FormFault) → fragment_fault base horizon got facts ≡ None → Err fault ≡ checked_fragment config base horizon got facts → ⊥
no_fragment_fault config base horizon got facts fault none e = values_conflict (e ∙ ap (λ (o : Option FormFault). unless o (parts.fragment_seen config base horizon got facts)) none)
  where
    values_conflict : ◌≡◌ {A = Result FragmentValue FormFault} (Err fault) (Ok (parts.fragment_seen config base horizon got facts)) → ⊥
    values_conflict h = cc

-- the fragment that was read
pub fragment_read : (config : ConfigValue) (base horizon : ℕ) (got : List StreamContent) (count : ℕ) (facts : List Known) (fragment : FragmentValue) (b0 b1 b2 b3 b4 : List ℕ) → fragment_head_at b0 ≡ Ok ((config.log, (config.streams, (base, horizon))), b1) → streams_at horizon config.streams b1 ≡ Ok (map wire_stream_of got, b2)
    → number_at w32 b2 ≡ Ok (count, b3) → fact_list_at base horizon count None b3 ≡ Ok (facts, b4) → fragment_fault base horizon got facts ≡ None → Ok fragment ≡ checked_fragment config base horizon got facts → fragment_at b0 ≡ Ok (wire_fragment_of fragment, b4)
unfolding fragment_at
fragment_read config base horizon got count facts fragment b0 b1 b2 b3 b4 head streams counts known none e =
    let same : fragment ≡ parts.fragment_seen config base horizon got facts =
    same_fragment _ _ (e ∙ ap (λ (o : Option FormFault). unless o (parts.fragment_seen config base horizon got facts)) none) in
    let told : wire_fragment_of (parts.fragment_seen config base horizon got facts) ≡ record { log = config.log; base = base; horizon = horizon; streams = map wire_stream_of got; facts = facts } =
    ap (λ (fs : List Known). record { log = config.log; base = base; horizon = horizon; streams = map wire_stream_of got; facts = fs }) (listed config base horizon got facts (facts_stand base horizon count None b3 (facts, b4) known)) in
    rw (same, told, head, streams, counts, known) refl

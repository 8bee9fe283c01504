-- Fragments: what is read is encoded so, and what is encoded so is read again.
use Rattle.std.proofs.Common.{◌≡◌, ℕ, ◌+◌, ◌^◌, ◌<◌, ◌≤◌, Bool, true, false, cond, not, ◌||◌, ◌⊎◌, inl, inr, ltb, leb, eqb, List, [], ◌∷◌, ◌++◌, length, Option, Some, None, Result, Ok, Err, refl, sym, ap, subst, ◌∙◌, append_assoc, arith, ◌&&◌}
use Rattle.std.specs.Int.{w16, w32, w64}
use Rattle.std.specs.List.{flat_map, AllByRecursion}
use Rattle.std.proofs.lemmas.Bool.{ltb-true, lt-ltb, ltb-false, le-ltb, leb-true, leb-false, le-leb, lt-leb, eqb-true, and_from, not-false, not_from_true}
use Rattle.hk_types.specs.Values.{RowValue}
use Rattle.hk_types.specs.declared.version_key.VersionKey.{VersionKey}
use Rattle.hk_types.specs.declared.faults.FormFault.{FormFault}
use Rattle.hk_types.specs.declared.faults.FormFault.TheVariants.{BadNumber, BadOrder}
use Rattle.hk_log.specs.Versions.{VersionValue}
use Rattle.hk_fragment.specs.Parts.{Known, follows, is_valid_end}
use Rattle.hk_frames.specs.Fields.{IsBytes, ◌>>=◌, number, number_at, list_at}
use Rattle.hk_frames.proofs.ReadingSteps.{bind_ok, ok_is, neither, both as both_true, Takes, Takes-then}
use Rattle.hk_answers.specs.Readers.{Reader, both, after, fault_where, mapped_value, by_kind, list_by_count, time_at, Chained, stream_count_at}
use Rattle.hk_answers.specs.Answers.{row_text, row_at, RowFits}
use Rattle.hk_fragment_bytes.specs.Fragments.{WireStream, WireFragment, mark_text, extras_text, waits_text, stream_text, known_flags, known_parts, version_text, fact_text, fragment_text, number_follows, extra_at, waiting_count_at, waiting_at, stream_of, stream_at, version_at, died_at, known_of, fact_at, least_closed_of, no_stream, bounds_at, streams_at, fragment_head_at, facts_at, fragment_at, ExtraFits, WaitingFits, StreamFits, VersionFits, EndFits, PartsFit, FactFits, FragmentFits, stream_is_counted, streams_are_counted, is_counted, whole_at}
use Rattle.hk_answers.proofs.ReadersAndEncodings.{IsField, field16, field64, time_field, both_field, barred_field, same_field, made_field, kinded_field, counted_field, many_field, this_or, made_takes, made_again, or_false, StreamCount, stream_count_field}
use Rattle.hk_answers.proofs.AnswersReadAgain.{row_field}

-- one after the other, where how the second is read depends on the first
pub after_field : {A B : Type 0} (a : Reader A) (b : A → Reader B) (s : A → List ℕ) (t : B → List ℕ) (P : A → Type 0) (Q : A → B → Type 0) → IsField a s P → ((x : A) → IsField (b x) t (Q x)) → IsField (after a b) (λ p. s p.0 ++ t p.1) (λ p. P p.0 × Q p.0 p.1)
after_field {A = A} {B = B} a b s t P Q f g =
    record {
      takes = λ bytes x fits e.
          let y = bind_ok (a bytes) (λ p. b p.0 p.1 >>= λ q. Ok ((p.0, q.0), q.1)) x e in
          let z = bind_ok (b y.0.0 y.0.1) (λ q. Ok ((y.0.0, q.0), q.1)) x y.2 in
          let u = f.takes bytes y.0 fits y.1 in
          let v = (g y.0.0).takes y.0.1 z.0 u.0.rest_fits z.1 in
          subst (λ (p : (A × B) × List ℕ). Takes bytes (s p.0.0 ++ t p.0.1) p.1 × (P p.0.0 × Q p.0.0 p.0.1)) {x = ((y.0.0, z.0.0), z.0.1)} (ok_is ((y.0.0, z.0.0), z.0.1) x z.2)
          (Takes-then bytes (s y.0.0) y.0.1 (t z.0.0) z.0.1 u.0 v.0, (u.1, v.1));
      again = λ p rest h.
          ap (after a b) (append_assoc (s p.0) (t p.1) rest)
          ∙ ap (λ (r : Result (A × List ℕ) FormFault). r >>= λ x. b x.0 x.1 >>= λ y. Ok ((x.0, y.0), y.1)) (f.again p.0 (t p.1 ++ rest) h.0)
          ∙ ap (λ (r : Result (B × List ℕ) FormFault). r >>= λ y. Ok ((p.0, y.0), y.1)) ((g p.0).again p.1 rest h.1);
    }

-- ---- streams

above : (a b : ℕ) → leb b a ≡ false → a < b
above a b e = leb-false b a e

extra_there : (prefix : ℕ) (before : Option ℕ) (n : ℕ) → ((n < 2 ^ 64) × (not (number_follows before n) ≡ false)) × ((leb n (prefix + 1) || ltb (2 ^ 62) n) ≡ false) → ExtraFits prefix before n
extra_there prefix before n h =
    let s = neither (leb n (prefix + 1)) (ltb (2 ^ 62) n) h.1 in
    (not-false (number_follows before n) h.0.1, (above (prefix + 1) n s.0, ltb-false (2 ^ 62) n s.1))

extra_back : (prefix : ℕ) (before : Option ℕ) (n : ℕ) → ExtraFits prefix before n → ((n < 2 ^ 64) × (not (number_follows before n) ≡ false)) × ((leb n (prefix + 1) || ltb (2 ^ 62) n) ≡ false)
extra_back prefix before n h = ((omega (arith, h.1.1), not_from_true (number_follows before n) h.0), or_false (leb n (prefix + 1)) (ltb (2 ^ 62) n) (lt-leb n (prefix + 1) h.1.0) (le-ltb (2 ^ 62) n h.1.1))

extra_field : (prefix : ℕ) (before : Option ℕ) → IsField (extra_at prefix before) (number w64) (ExtraFits prefix before)
unfolding extra_at
extra_field prefix before =
    same_field (fault_where (fault_where (number_at w64) (λ n. not (number_follows before n)) BadOrder) (λ n. leb n (prefix + 1) || ltb (2 ^ 62) n) BadNumber) (number w64) _ (ExtraFits prefix before) (extra_there prefix before) (extra_back prefix before)
    (barred_field (fault_where (number_at w64) (λ n. not (number_follows before n)) BadOrder) (λ n. leb n (prefix + 1) || ltb (2 ^ 62) n) BadNumber (number w64) (λ n. (n < 2 ^ 64) × (not (number_follows before n) ≡ false))
    (barred_field (number_at w64) (λ n. not (number_follows before n)) BadOrder (number w64) (λ n. n < 2 ^ 64) field64))

abbrev IsCount : ℕ → Option ℕ → ℕ → Type 0
IsCount prefix before n = ((n < 2 ^ 64) × (not (number_follows before n) ≡ false)) × (leb n prefix ≡ false)

count_field : (prefix : ℕ) (before : Option ℕ) → IsField (waiting_count_at prefix before) (number w64) (IsCount prefix before)
count_field prefix before =
    barred_field (fault_where (number_at w64) (λ n. not (number_follows before n)) BadOrder) (λ n. leb n prefix) BadNumber (number w64) (λ n. (n < 2 ^ 64) × (not (number_follows before n) ≡ false))
    (barred_field (number_at w64) (λ n. not (number_follows before n)) BadOrder (number w64) (λ n. n < 2 ^ 64) field64)

waiting_there : (prefix : ℕ) (before : Option ℕ) (m : ℕ × ℕ) → (IsCount prefix before m.0 × (m.1 ≤ 2 ^ 62)) × (ltb m.1 m.0 ≡ false) → WaitingFits prefix before m
waiting_there prefix before m h = (not-false (number_follows before m.0) h.0.0.0.1, (above prefix m.0 h.0.0.1, (ltb-false m.1 m.0 h.1, h.0.1)))

waiting_back : (prefix : ℕ) (before : Option ℕ) (m : ℕ × ℕ) → WaitingFits prefix before m → (IsCount prefix before m.0 × (m.1 ≤ 2 ^ 62)) × (ltb m.1 m.0 ≡ false)
waiting_back prefix before m h =
    ((((omega (arith, h.1.1.0, h.1.1.1), not_from_true (number_follows before m.0) h.0), lt-leb m.0 prefix h.1.0), h.1.1.1), le-ltb m.1 m.0 h.1.1.0)

waiting_field : (prefix : ℕ) (before : Option ℕ) → IsField (waiting_at prefix before) mark_text (WaitingFits prefix before)
unfolding waiting_at
waiting_field prefix before =
    same_field (fault_where (both (waiting_count_at prefix before) time_at) (λ m. ltb m.1 m.0) BadNumber) mark_text _ (WaitingFits prefix before) (waiting_there prefix before) (waiting_back prefix before)
    (barred_field (both (waiting_count_at prefix before) time_at) (λ m. ltb m.1 m.0) BadNumber mark_text (λ m. IsCount prefix before m.0 × (m.1 ≤ 2 ^ 62))
    (both_field (waiting_count_at prefix before) time_at (number w64) (number w64) (IsCount prefix before) (λ n. n ≤ 2 ^ 62) (count_field prefix before) time_field))

abbrev pub AreExtras : ℕ → List ℕ → Type 0
AreExtras prefix extra = (length extra < 2 ^ 32) × Chained (λ (n : ℕ). n) (ExtraFits prefix) None extra

abbrev pub AreWaiting : ℕ → List (ℕ × ℕ) → Type 0
AreWaiting prefix waiting = (length waiting < 2 ^ 32) × Chained (λ (m : ℕ × ℕ). m.0) (WaitingFits prefix) None waiting

-- what can be told of a stream and counted
pub record StreamIs (s : WireStream) : Type 0 where
  pub prefix : s.prefix ≤ 2 ^ 62
  pub closed : s.closed ≤ 2 ^ 62
  pub extra : AreExtras s.prefix s.extra
  pub waiting : AreWaiting s.prefix s.waiting

abbrev BehindFits : ℕ → ℕ × (List ℕ × List (ℕ × ℕ)) → Type 0
BehindFits prefix p = (p.0 ≤ 2 ^ 62) × (AreExtras prefix p.1.0 × AreWaiting prefix p.1.1)

abbrev behind_text : ℕ × (List ℕ × List (ℕ × ℕ)) → List ℕ
behind_text p = number w64 p.0 ++ (extras_text p.1.0 ++ waits_text p.1.1)

behind_field : (prefix : ℕ) → IsField (stream_of prefix) behind_text (BehindFits prefix)
behind_field prefix =
    both_field time_at (both (list_by_count (λ n. n) (extra_at prefix)) (list_by_count (λ m. m.0) (waiting_at prefix))) (number w64) (λ p. extras_text p.0 ++ waits_text p.1) (λ n. n ≤ 2 ^ 62) (λ p. AreExtras prefix p.0 × AreWaiting prefix p.1) time_field
    (both_field (list_by_count (λ n. n) (extra_at prefix)) (list_by_count (λ m. m.0) (waiting_at prefix)) extras_text waits_text (AreExtras prefix) (AreWaiting prefix)
    (counted_field (λ (n : ℕ). n) (extra_at prefix) (number w64) (ExtraFits prefix) (extra_field prefix))
    (counted_field (λ (m : ℕ × ℕ). m.0) (waiting_at prefix) mark_text (WaitingFits prefix) (waiting_field prefix)))

abbrev stream_told : ℕ × (ℕ × (List ℕ × List (ℕ × ℕ))) → WireStream
stream_told p = record { prefix = p.0; closed = p.1.0; extra = p.1.1.0; waiting = p.1.1.1 }

pub stream_field : IsField stream_at stream_text StreamIs
unfolding stream_at stream_text
stream_field =
    made_field stream_told (λ s. (s.prefix, (s.closed, (s.extra, s.waiting)))) (after time_at stream_of) (λ p. number w64 p.0 ++ behind_text p.1) _ (λ p. (p.0 ≤ 2 ^ 62) × BehindFits p.0 p.1) StreamIs
    (after_field time_at stream_of (number w64) behind_text (λ n. n ≤ 2 ^ 62) BehindFits time_field behind_field)
    (λ p h. (refl, record { prefix = h.0; closed = h.1.0; extra = h.1.1.0; waiting = h.1.1.1 }))
    (λ s h. (refl, (refl, (h.prefix, (h.closed, (h.extra, h.waiting))))))

-- ---- facts

abbrev version_of : ℕ × (ℕ × ℕ) → VersionKey
version_of p = record { table = p.0; key = p.1.0; born = p.1.1 }

abbrev IsNamed : VersionKey → Type 0
IsNamed v = (v.table < 2 ^ 16) × ((v.key < 2 ^ 64) × (v.born < 2 ^ 64))

name_field : IsField (mapped_value version_of (both (number_at w16) (both (number_at w64) (number_at w64)))) version_text IsNamed
name_field =
    made_field version_of (λ v. (v.table, (v.key, v.born))) (both (number_at w16) (both (number_at w64) (number_at w64))) (λ p. number w16 p.0 ++ (number w64 p.1.0 ++ number w64 p.1.1)) version_text (λ p. (p.0 < 2 ^ 16) × ((p.1.0 < 2 ^ 64) × (p.1.1 < 2 ^ 64))) IsNamed
    (both_field (number_at w16) (both (number_at w64) (number_at w64)) (number w16) (λ p. number w64 p.0 ++ number w64 p.1) (λ n. n < 2 ^ 16) (λ p. (p.0 < 2 ^ 64) × (p.1 < 2 ^ 64)) field16
    (both_field (number_at w64) (number_at w64) (number w64) (number w64) (λ n. n < 2 ^ 64) (λ n. n < 2 ^ 64) field64 field64))
    (λ p h. (refl, h)) (λ v h. (refl, (refl, h)))

version_there : (before : Option VersionKey) (v : VersionKey) → (IsNamed v × (not (follows before v) ≡ false)) × ((ltb v.born 1 || ltb (2 ^ 62) v.born) ≡ false) → VersionFits before v
version_there before v h =
    let s = neither (ltb v.born 1) (ltb (2 ^ 62) v.born) h.1 in
    (not-false (follows before v) h.0.1, (h.0.0.0, (h.0.0.1.0, (ltb-false v.born 1 s.0, ltb-false (2 ^ 62) v.born s.1))))

version_back : (before : Option VersionKey) (v : VersionKey) → VersionFits before v → (IsNamed v × (not (follows before v) ≡ false)) × ((ltb v.born 1 || ltb (2 ^ 62) v.born) ≡ false)
version_back before v h =
    (((h.1.0, (h.1.1.0, omega (arith, h.1.1.1.1))), not_from_true (follows before v) h.0), or_false (ltb v.born 1) (ltb (2 ^ 62) v.born) (le-ltb v.born 1 h.1.1.1.0) (le-ltb (2 ^ 62) v.born h.1.1.1.1))

version_field : (before : Option VersionKey) → IsField (version_at before) version_text (VersionFits before)
unfolding version_at
version_field before =
    same_field (fault_where (fault_where (mapped_value version_of (both (number_at w16) (both (number_at w64) (number_at w64)))) (λ v. not (follows before v)) BadOrder) (λ v. ltb v.born 1 || ltb (2 ^ 62) v.born) BadNumber) version_text _ (VersionFits before) (version_there before) (version_back before)
    (barred_field (fault_where (mapped_value version_of (both (number_at w16) (both (number_at w64) (number_at w64)))) (λ v. not (follows before v)) BadOrder) (λ v. ltb v.born 1 || ltb (2 ^ 62) v.born) BadNumber version_text (λ v. IsNamed v × (not (follows before v) ≡ false))
    (barred_field (mapped_value version_of (both (number_at w16) (both (number_at w64) (number_at w64)))) (λ v. not (follows before v)) BadOrder version_text IsNamed name_field))

died_field : (base horizon born : ℕ) → IsField (died_at base horizon born) (number w64) (EndFits base horizon born)
died_field base horizon born =
    same_field (fault_where time_at (λ died. not (is_valid_end base horizon born (Some died))) BadNumber) (number w64) (λ died. (died ≤ 2 ^ 62) × (not (is_valid_end base horizon born (Some died)) ≡ false)) (EndFits base horizon born)
    (λ died h. (h.0, not-false (is_valid_end base horizon born (Some died)) h.1)) (λ died h. (h.0, not_from_true (is_valid_end base horizon born (Some died)) h.1))
    (barred_field time_at (λ died. not (is_valid_end base horizon born (Some died))) BadNumber (number w64) (λ n. n ≤ 2 ^ 62) time_field)

abbrev pub KnownFits : ℕ → ℕ → ℕ → VersionValue → Type 0
KnownFits base horizon born x = PartsFit base horizon born x.row x.died

abbrev end_only : ℕ → VersionValue
end_only died = record { row = None; died = Some died }

abbrev row_only : RowValue → VersionValue
row_only row = record { row = Some row; died = None }

abbrev row_and_end : RowValue × ℕ → VersionValue
row_and_end p = record { row = Some p.0; died = Some p.1 }

abbrev IsKnownOf : ℕ → ℕ → ℕ → ℕ → List ℕ → VersionValue × List ℕ → Type 0
IsKnownOf base horizon born k bytes x = (known_flags x.0 ≡ k) × (Takes bytes (known_parts x.0) x.1 × KnownFits base horizon born x.0)

both_parts : (base horizon born : ℕ) → IsField (both row_at (died_at base horizon born)) (λ p. row_text p.0 ++ number w64 p.1) (λ p. RowFits p.0 × EndFits base horizon born p.1)
both_parts base horizon born = both_field row_at (died_at base horizon born) row_text (number w64) RowFits (EndFits base horizon born) row_field (died_field base horizon born)

-- a test that a reading passed
passed : {A : Type 0} (b : Bool) (r : Result A FormFault) (z : A) → cond b (Err BadNumber) r ≡ Ok z → (b ≡ false) × (r ≡ Ok z)
passed true r z e = absurd cc
passed false r z e = (refl, e)

known_takes : (base horizon born k : ℕ) (bytes : List ℕ) (x : VersionValue × List ℕ) → IsBytes bytes → known_of base horizon born k bytes ≡ Ok x → IsKnownOf base horizon born k bytes x
unfolding known_of
known_takes base horizon born k bytes x fits e =
    this_or k 2 _ _ x (IsKnownOf base horizon born k bytes x) e
    (λ is f. made_takes end_only (died_at base horizon born) _ _ (died_field base horizon born) known_flags known_parts (KnownFits base horizon born) k (λ a. sym is) (λ a. refl) (λ a h. h) bytes x fits f)
    (λ e2. let p = passed (leb born base) _ x e2 in
    this_or k 1 _ _ x (IsKnownOf base horizon born k bytes x) p.1
    (λ is f. made_takes row_only row_at _ _ row_field known_flags known_parts (KnownFits base horizon born) k (λ a. sym is) (λ a. refl) (λ a h. (leb-false born base p.0, h)) bytes x fits f)
    (λ e3. this_or k 3 _ _ x (IsKnownOf base horizon born k bytes x) e3
    (λ is f. made_takes row_and_end (both row_at (died_at base horizon born)) _ _ (both_parts base horizon born) known_flags known_parts (KnownFits base horizon born) k (λ a. sym is) (λ a. refl) (λ a h. (leb-false born base p.0, h)) bytes x fits f)
    (λ e4. absurd cc)))

known_again : (base horizon born : ℕ) (row : Option RowValue) (died : Option ℕ) (rest : List ℕ) → PartsFit base horizon born row died → known_of base horizon born (known_flags (record { row = row; died = died })) (known_parts (record { row = row; died = died }) ++ rest) ≡ Ok (record { row = row; died = died }, rest)
unfolding known_of
known_again base horizon born None None rest h = absurd h
known_again base horizon born None (Some died) rest h = made_again end_only (died_at base horizon born) _ _ (died_field base horizon born) died rest h
known_again base horizon born (Some row) None rest h = rw (lt-leb born base h.0) (made_again row_only row_at _ _ row_field row rest h.1)
known_again base horizon born (Some row) (Some died) rest h = rw (lt-leb born base h.0) (made_again row_and_end (both row_at (died_at base horizon born)) _ _ (both_parts base horizon born) (row, died) rest h.1)

known_field : (base horizon born : ℕ) → IsField (by_kind (known_of base horizon born)) (λ x. known_flags x ∷ known_parts x) (KnownFits base horizon born)
known_field base horizon born = kinded_field (known_of base horizon born) known_flags known_parts (KnownFits base horizon born) (record { takes = known_takes base horizon born; again = λ x rest h. known_again base horizon born x.row x.died rest h })

fact_field : (base horizon : ℕ) (before : Option VersionKey) → IsField (fact_at base horizon before) fact_text (FactFits base horizon before)
unfolding fact_at fact_text
fact_field base horizon before =
    after_field (version_at before) (λ v. by_kind (known_of base horizon v.born)) version_text (λ x. known_flags x ∷ known_parts x) (VersionFits before) (λ v x. KnownFits base horizon v.born x) (version_field before) (λ v. known_field base horizon v.born)

abbrev pub AreFacts : ℕ → ℕ → List Known → Type 0
AreFacts base horizon facts = (length facts < 2 ^ 32) × Chained (λ (e : Known). e.0) (FactFits base horizon) None facts

abbrev pub facts_text : List Known → List ℕ
facts_text facts = number w32 (length facts) ++ flat_map fact_text facts

pub facts_field : (base horizon : ℕ) → IsField (facts_at base horizon) facts_text (AreFacts base horizon)
facts_field base horizon = counted_field (λ (e : Known). e.0) (fact_at base horizon) fact_text (FactFits base horizon) (fact_field base horizon)

-- ---- fragments

abbrev pub BoundsFit : ℕ × ℕ → Type 0
BoundsFit p = ((p.0 ≤ 2 ^ 62) × (p.1 ≤ 2 ^ 62)) × (not (eqb p.0 0 || leb p.1 p.0) ≡ false)

abbrev pub bounds_text : ℕ × ℕ → List ℕ
bounds_text p = number w64 p.0 ++ number w64 p.1

bounds_field : IsField bounds_at bounds_text BoundsFit
unfolding bounds_at
bounds_field =
    barred_field (both time_at time_at) (λ p. not (eqb p.0 0 || leb p.1 p.0)) BadNumber bounds_text (λ p. (p.0 ≤ 2 ^ 62) × (p.1 ≤ 2 ^ 62))
    (both_field time_at time_at (number w64) (number w64) (λ n. n ≤ 2 ^ 62) (λ n. n ≤ 2 ^ 62) time_field time_field)

abbrev pub HeadFits : ℕ × (ℕ × (ℕ × ℕ)) → Type 0
HeadFits h = (h.0 < 2 ^ 64) × (StreamCount h.1.0 × BoundsFit h.1.1)

abbrev pub head_text : ℕ × (ℕ × (ℕ × ℕ)) → List ℕ
head_text h = number w64 h.0 ++ (number w16 h.1.0 ++ bounds_text h.1.1)

pub head_field : IsField fragment_head_at head_text HeadFits
head_field =
    both_field (number_at w64) (both stream_count_at bounds_at) (number w64) (λ p. number w16 p.0 ++ bounds_text p.1) (λ n. n < 2 ^ 64) (λ p. StreamCount p.0 × BoundsFit p.1) field64
    (both_field stream_count_at bounds_at (number w16) bounds_text StreamCount BoundsFit stream_count_field bounds_field)

abbrev pub AreStreams : ℕ → ℕ → List WireStream → Type 0
AreStreams horizon n streams = ((length streams ≡ n) × Chained no_stream (λ _. StreamIs) None streams) × (ltb (least_closed_of streams) horizon ≡ false)

pub streams_field : (horizon n : ℕ) → IsField (streams_at horizon n) (flat_map stream_text) (AreStreams horizon n)
unfolding streams_at
streams_field horizon n =
    barred_field (list_at no_stream (λ _. stream_at) n None) (λ streams. ltb (least_closed_of streams) horizon) BadNumber (flat_map stream_text) (λ streams. (length streams ≡ n) × Chained no_stream (λ _. StreamIs) None streams)
    (many_field no_stream (λ _. stream_at) stream_text (λ _. StreamIs) (λ _. stream_field) n)

-- what can be told of a fragment and counted
pub record FragmentIs (f : WireFragment) : Type 0 where
  pub head : HeadFits (f.log, (length f.streams, (f.base, f.horizon)))
  pub streams : AreStreams f.horizon (length f.streams) f.streams
  pub facts : AreFacts f.base f.horizon f.facts

abbrev Read : Type 0
Read = ((ℕ × (ℕ × (ℕ × ℕ))) × List WireStream) × List Known

abbrev outcome_of : Read → WireFragment
outcome_of p = record { log = p.0.0.0; base = p.0.0.1.1.0; horizon = p.0.0.1.1.1; streams = p.0.1; facts = p.1 }

abbrev read_of : WireFragment → Read
read_of f = (((f.log, (length f.streams, (f.base, f.horizon))), f.streams), f.facts)

abbrev read_text : Read → List ℕ
read_text p = (head_text p.0.0 ++ flat_map stream_text p.0.1) ++ facts_text p.1

abbrev ReadFits : Read → Type 0
ReadFits p = (HeadFits p.0.0 × AreStreams p.0.0.1.1.1 p.0.0.1.0 p.0.1) × AreFacts p.0.0.1.1.0 p.0.0.1.1.1 p.1

read_field : IsField (after (after fragment_head_at (λ h. streams_at h.1.1.1 h.1.0)) (λ p. facts_at p.0.1.1.0 p.0.1.1.1)) read_text ReadFits
read_field =
    after_field (after fragment_head_at (λ h. streams_at h.1.1.1 h.1.0)) (λ p. facts_at p.0.1.1.0 p.0.1.1.1) (λ p. head_text p.0 ++ flat_map stream_text p.1) facts_text (λ p. HeadFits p.0 × AreStreams p.0.1.1.1 p.0.1.0 p.1) (λ p. AreFacts p.0.1.1.0 p.0.1.1.1)
    (after_field fragment_head_at (λ h. streams_at h.1.1.1 h.1.0) head_text (flat_map stream_text) HeadFits (λ h. AreStreams h.1.1.1 h.1.0) head_field (λ h. streams_field h.1.1.1 h.1.0))
    (λ p. facts_field p.0.1.1.0 p.0.1.1.1)

same_text : (f : WireFragment) → read_text (read_of f) ≡ fragment_text f
unfolding fragment_text
same_text f = simp append_assoc

told_field : IsField fragment_at fragment_text FragmentIs
unfolding fragment_at
told_field =
    made_field outcome_of read_of (after (after fragment_head_at (λ h. streams_at h.1.1.1 h.1.0)) (λ p. facts_at p.0.1.1.0 p.0.1.1.1)) read_text fragment_text ReadFits FragmentIs read_field
    (λ p h.
    let len : length p.0.1 ≡ p.0.0.1.0 = h.0.1.0.0 in
    let same : read_text p ≡ read_text (read_of (outcome_of p)) = ap (λ (n : ℕ). (head_text (p.0.0.0, (n, p.0.0.1.1)) ++ flat_map stream_text p.0.1) ++ facts_text p.1) (sym len) in (
      same ∙ same_text (outcome_of p),
      record {
        head = subst (λ (n : ℕ). HeadFits (p.0.0.0, (n, p.0.0.1.1))) (sym len) h.0.0;
        streams = subst (λ (n : ℕ). AreStreams p.0.0.1.1.1 n p.0.1) (sym len) h.0.1;
        facts = h.1;
      },
    ))
    (λ f h. (refl, (sym (same_text f), ((h.head, h.streams), h.facts))))

-- ---- counts apart

counted_there : (s : WireStream) → StreamIs s → StreamFits s × (stream_is_counted s ≡ true)
counted_there s h =
    (record { prefix = h.prefix; closed = h.closed; extra = h.extra.1; waiting = h.waiting.1 }, and_from (ltb (length s.extra) (2 ^ 32)) (ltb (length s.waiting) (2 ^ 32)) (lt-ltb _ _ h.extra.0) (lt-ltb _ _ h.waiting.0))

counted_back : (s : WireStream) → StreamFits s → stream_is_counted s ≡ true → StreamIs s
counted_back s h c =
    let b = both_true (ltb (length s.extra) (2 ^ 32)) (ltb (length s.waiting) (2 ^ 32)) c in
    record { prefix = h.prefix; closed = h.closed; extra = (ltb-true _ _ b.0, h.extra); waiting = (ltb-true _ _ b.1, h.waiting) }

streams_there : (before : Option (Unit {0})) (streams : List WireStream) → Chained no_stream (λ _. StreamIs) before streams → AllByRecursion StreamFits streams × (streams_are_counted streams ≡ true)
streams_there before [] h = (tt, refl)
streams_there before (s ∷ streams) h =
    let first = counted_there s h.0 in
    let others = streams_there (Some tt) streams h.1 in
    ((first.0, others.0), and_from (stream_is_counted s) (streams_are_counted streams) first.1 others.1)

streams_back : (before : Option (Unit {0})) (streams : List WireStream) → AllByRecursion StreamFits streams → streams_are_counted streams ≡ true → Chained no_stream (λ _. StreamIs) before streams
streams_back before [] h c = tt
streams_back before (s ∷ streams) h c =
    let b = both_true (stream_is_counted s) (streams_are_counted streams) c in
    (counted_back s h.0 b.0, streams_back (Some tt) streams h.1 b.1)

pub base_there : (base horizon : ℕ) → not (eqb base 0 || leb horizon base) ≡ false → (base ≡ 0) ⊎ (horizon ≤ base)
base_there base horizon e = by (eqb base 0) refl (not-false (eqb base 0 || leb horizon base) e)
  where
    by : (b : Bool) → eqb base 0 ≡ b → (b || leb horizon base) ≡ true → (base ≡ 0) ⊎ (horizon ≤ base)
    by true t f = inl (eqb-true base 0 t)
    by false t f = inr (leb-true horizon base f)

base_back : (base horizon : ℕ) → (base ≡ 0) ⊎ (horizon ≤ base) → not (eqb base 0 || leb horizon base) ≡ false
base_back base horizon (inl is) = ap (λ (b : ℕ). not (eqb b 0 || leb horizon b)) is
base_back base horizon (inr le) = not_from_true (eqb base 0 || leb horizon base) (or_true (eqb base 0) (leb horizon base) (le-leb horizon base le))
  where
    or_true : (a b : Bool) → b ≡ true → (a || b) ≡ true
    or_true true b e = refl
    or_true false b e = e

pub fragment_there : (f : WireFragment) → FragmentIs f → FragmentFits f × (is_counted f ≡ true)
fragment_there f h =
    let s = streams_there None f.streams h.streams.0.1 in
    let n = neither (ltb (length f.streams) 1) (ltb 64 (length f.streams)) h.head.1.0.1 in (
      record {
        log = h.head.0;
        least = ltb-false _ _ n.0;
        most = ltb-false _ _ n.1;
        base = h.head.1.1.0.0;
        horizon = h.head.1.1.0.1;
        base_above = base_there f.base f.horizon h.head.1.1.1;
        within = ltb-false _ _ h.streams.1;
        streams = s.0;
        facts = h.facts.1;
      },
      and_from (streams_are_counted f.streams) (ltb (length f.facts) (2 ^ 32)) s.1 (lt-ltb _ _ h.facts.0),
    )

pub fragment_back : (f : WireFragment) → FragmentFits f × (is_counted f ≡ true) → FragmentIs f
fragment_back f h =
    let k : FragmentFits f = h.0 in
    let b = both_true (streams_are_counted f.streams) (ltb (length f.facts) (2 ^ 32)) h.1 in
    let few : length f.streams < 2 ^ 16 = omega (arith, k.most) in
    record {
      head = (k.log, ((few, or_false (ltb (length f.streams) 1) (ltb 64 (length f.streams)) (le-ltb _ _ k.least) (le-ltb _ _ k.most)), ((k.base, k.horizon), base_back f.base f.horizon k.base_above)));
      streams = ((refl, streams_back None f.streams k.streams b.0), le-ltb _ _ k.within);
      facts = (ltb-true _ _ b.1, k.facts);
    }

pub fragment_field : IsField fragment_at fragment_text (λ f. FragmentFits f × (is_counted f ≡ true))
fragment_field = same_field fragment_at fragment_text FragmentIs (λ f. FragmentFits f × (is_counted f ≡ true)) fragment_there fragment_back told_field

-- fragments of base 0
abbrev pub IsWhole : WireFragment → Type 0
IsWhole f = FragmentFits f × ((eqb f.base 0 && is_counted f) ≡ true)

pub whole_field : IsField whole_at fragment_text IsWhole
unfolding whole_at
whole_field =
    same_field (fault_where fragment_at (λ f. not (eqb f.base 0)) BadNumber) fragment_text (λ f. (FragmentFits f × (is_counted f ≡ true)) × (not (eqb f.base 0) ≡ false)) IsWhole
    (λ f h. (h.0.0, and_from (eqb f.base 0) (is_counted f) (not-false (eqb f.base 0) h.1) h.0.1))
    (λ f h. let b = both_true (eqb f.base 0) (is_counted f) h.1 in ((h.0, b.1), not_from_true (eqb f.base 0) b.0))
    (barred_field fragment_at (λ f. not (eqb f.base 0)) BadNumber fragment_text (λ f. FragmentFits f × (is_counted f ≡ true)) fragment_field)

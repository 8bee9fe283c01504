-- Refusals: what is read is encoded so, and what is encoded so is read again.
use Rattle.std.proofs.Common.{◌≡◌, ℕ, ◌^◌, ◌<◌, ◌≤◌, Bool, true, false, cond, not, eqb, List, [], ◌∷◌, ◌++◌, Option, Some, None, Ok, refl, sym, ap, subst, ◌∙◌, arith, ◌||◌}
use Rattle.std.specs.Int.{w64}
use Rattle.std.specs.List.{AllByRecursion}
use Rattle.std.proofs.lemmas.Bool.{eqb-true}
use Rattle.hk_types.specs.FaultNumbers.{refusal_number}
use Rattle.hk_types.specs.declared.faults.FormFault.TheVariants.{Truncated, TooLong, BadVersion, BadKind, BadStream, BadNumber, BadOrder, BadCount, BadBody, WrongLength}
use Rattle.hk_types.specs.declared.faults.Refusal.{Refusal}
use Rattle.hk_types.specs.declared.faults.Refusal.TheVariants.{Form, ForeignLog, WrongStreams, Gap, Conflict, AheadOfMark, TooOld, NotYet, WriteConflict, NoRow, TwiceWritten, TooManyWrites, NoStream, ClockFull, Retired, Held, Damaged, Unpublished, NodeFull, NoHold, NoSuch, LinkFull, NoPart, Memory}
use Rattle.hk_frames.specs.Fields.{IsBytes, number, number_at}
use Rattle.hk_frames.proofs.ReadingSteps.{Takes}
use Rattle.hk_answers.specs.Readers.{both, fault_where, time_at}
use Rattle.hk_answers.specs.Refusals.{refusal_fields, refusal_text, is_sent, RefusalFits, zero_at, plain_refusals, first_with, plain, plain_of, refusal_of, refusal_at, is_of_parts, is_told, later_refusal_of, later_refusal_at}
use Rattle.hk_answers.proofs.ReadersAndEncodings.{IsField, field64, time_field, both_field, barred_field, made_field, this_or, made_takes, made_again, kinded_field}

abbrev pub IsSent : Refusal → Type 0
IsSent r = RefusalFits r × (is_sent r ≡ true)

abbrev pub Always : Unit {0} → Type 0
Always u = Unit {0}

abbrev zero_text : Unit {0} → List ℕ
zero_text u = number w64 0

zero_is : (n : ℕ) → not (eqb n 0) ≡ false → n ≡ 0
zero_is n e = by (eqb n 0) refl e
  where
    by : (b : Bool) → eqb n 0 ≡ b → not b ≡ false → n ≡ 0
    by true t f = eqb-true n 0 t
    by false t f = absurd cc

zero_field : IsField zero_at zero_text Always
unfolding zero_at
zero_field =
    made_field (λ (n : ℕ). tt) (λ (u : Unit {0}). 0) (fault_where (number_at w64) (λ n. not (eqb n 0)) BadNumber) (number w64) zero_text (λ n. (n < 2 ^ 64) × (not (eqb n 0) ≡ false)) Always
    (barred_field (number_at w64) (λ n. not (eqb n 0)) BadNumber (number w64) (λ n. n < 2 ^ 64) field64)
    (λ n h. (ap (number w64) (zero_is n h.1), tt)) (λ u h. (refl, (refl, (omega arith, refl))))

abbrev pair_text : ℕ × ℕ → List ℕ
pair_text p = number w64 p.0 ++ number w64 p.1

abbrev pub first_text : ℕ × Unit {0} → List ℕ
first_text p = number w64 p.0 ++ number w64 0

times_field : IsField (both time_at time_at) pair_text (λ p. (p.0 ≤ 2 ^ 62) × (p.1 ≤ 2 ^ 62))
times_field = both_field time_at time_at (number w64) (number w64) (λ n. n ≤ 2 ^ 62) (λ n. n ≤ 2 ^ 62) time_field time_field

one_time_field : IsField (both time_at zero_at) first_text (λ p. (p.0 ≤ 2 ^ 62) × Always p.1)
one_time_field = both_field time_at zero_at (number w64) zero_text (λ n. n ≤ 2 ^ 62) Always time_field zero_field

held_field : IsField (both (number_at w64) time_at) pair_text (λ p. (p.0 < 2 ^ 64) × (p.1 ≤ 2 ^ 62))
held_field = both_field (number_at w64) time_at (number w64) (number w64) (λ n. n < 2 ^ 64) (λ n. n ≤ 2 ^ 62) field64 time_field

pub ops_zero_field : IsField (both (number_at w64) zero_at) first_text (λ p. (p.0 < 2 ^ 64) × Always p.1)
ops_zero_field = both_field (number_at w64) zero_at (number w64) zero_text (λ n. n < 2 ^ 64) Always field64 zero_field

abbrev pub zeros_text : Unit {0} × Unit {0} → List ℕ
zeros_text p = number w64 0 ++ number w64 0

pub zeros_field : IsField (both zero_at zero_at) zeros_text (λ p. Always p.0 × Always p.1)
zeros_field = both_field zero_at zero_at zero_text zero_text Always Always zero_field zero_field

-- ---- refusals that name no number

record IsPlain (r : Refusal) : Type 0 where
  pub fields : refusal_fields r ≡ number w64 0 ++ number w64 0
  pub sent : IsSent r

all_plain : AllByRecursion IsPlain plain_refusals
all_plain = (record { fields = refl; sent = (tt, refl) }, (record { fields = refl; sent = (tt, refl) }, (record { fields = refl; sent = (tt, refl) }, (record { fields = refl; sent = (tt, refl) }, (record { fields = refl; sent = (tt, refl) }, (record { fields = refl; sent = (tt, refl) }, (record { fields = refl; sent = (tt, refl) }, (record { fields = refl; sent = (tt, refl) }, (record { fields = refl; sent = (tt, refl) }, (record { fields = refl; sent = (tt, refl) }, (record { fields = refl; sent = (tt, refl) }, (record { fields = refl; sent = (tt, refl) }, (record { fields = refl; sent = (tt, refl) }, (record { fields = refl; sent = (tt, refl) }, (record { fields = refl; sent = (tt, refl) }, (record { fields = refl; sent = (tt, refl) }, (record { fields = refl; sent = (tt, refl) }, (record { fields = refl; sent = (tt, refl) }, tt))))))))))))))))))

some_refusal : (q r : Refusal) → Some q ≡ Some r → q ≡ r
some_refusal q r e = cc

first_is : (n : ℕ) (rs : List Refusal) (r : Refusal) → AllByRecursion IsPlain rs → first_with n rs ≡ Some r → (refusal_number r ≡ n) × IsPlain r
first_is n [] r h e = absurd cc
first_is n (q ∷ rs) r h e = by (eqb n (refusal_number q)) refl e (λ f. first_is n rs r h.1 f)
  where
    by : (b : Bool) → eqb n (refusal_number q) ≡ b → cond b (Some q) (first_with n rs) ≡ Some r → (first_with n rs ≡ Some r → (refusal_number r ≡ n) × IsPlain r) → (refusal_number r ≡ n) × IsPlain r
    by true t f rest =
        let same : q ≡ r = some_refusal q r f in
        (ap refusal_number (sym same) ∙ sym (eqb-true n (refusal_number q) t), subst IsPlain same h.0)
    by false t f rest = rest f

abbrev gap_of : ℕ × ℕ → Refusal
gap_of p = Gap p.0 p.1

abbrev ahead_of : ℕ × Unit {0} → Refusal
ahead_of p = AheadOfMark p.0

abbrev old_of : ℕ × Unit {0} → Refusal
old_of p = TooOld p.0

abbrev not_yet_of : ℕ × Unit {0} → Refusal
not_yet_of p = NotYet p.0

abbrev held_of : ℕ × ℕ → Refusal
held_of p = Held p.0 p.1

abbrev unpublished_of : ℕ × Unit {0} → Refusal
unpublished_of p = Unpublished p.0

abbrev plainly : Refusal → Unit {0} × Unit {0} → Refusal
plainly r p = r

abbrev pub IsRefusalOf : ℕ → List ℕ → Refusal × List ℕ → Type 0
IsRefusalOf k bytes x = (refusal_number x.0 ≡ k) × (Takes bytes (refusal_fields x.0) x.1 × IsSent x.0)

plain_takes : (k : ℕ) (bytes : List ℕ) (x : Refusal × List ℕ) (o : Option Refusal) → plain k ≡ o → IsBytes bytes → plain_of o bytes ≡ Ok x → IsRefusalOf k bytes x
unfolding plain
plain_takes k bytes x None is fits e = absurd cc
plain_takes k bytes x (Some r) is fits e =
    let p = first_is k plain_refusals r all_plain is in
    made_takes (plainly r) (both zero_at zero_at) zeros_text _ zeros_field refusal_number refusal_fields IsSent k (λ a. p.0) (λ a. p.1.fields) (λ a h. p.1.sent) bytes x fits e

pub refusal_takes : (k : ℕ) (bytes : List ℕ) (x : Refusal × List ℕ) → IsBytes bytes → refusal_of k bytes ≡ Ok x → IsRefusalOf k bytes x
unfolding refusal_of
refusal_takes k bytes x fits e =
    this_or k 22 _ _ x (IsRefusalOf k bytes x) e
    (λ is f. made_takes gap_of (both time_at time_at) _ _ times_field refusal_number refusal_fields IsSent k (λ a. sym is) (λ a. refl) (λ a h. (h, refl)) bytes x fits f)
    (λ e2. this_or k 24 _ _ x (IsRefusalOf k bytes x) e2
    (λ is f. made_takes ahead_of (both time_at zero_at) _ _ one_time_field refusal_number refusal_fields IsSent k (λ a. sym is) (λ a. refl) (λ a h. (h.0, refl)) bytes x fits f)
    (λ e3. this_or k 25 _ _ x (IsRefusalOf k bytes x) e3
    (λ is f. made_takes old_of (both time_at zero_at) _ _ one_time_field refusal_number refusal_fields IsSent k (λ a. sym is) (λ a. refl) (λ a h. (h.0, refl)) bytes x fits f)
    (λ e4. this_or k 26 _ _ x (IsRefusalOf k bytes x) e4
    (λ is f. made_takes not_yet_of (both time_at zero_at) _ _ one_time_field refusal_number refusal_fields IsSent k (λ a. sym is) (λ a. refl) (λ a h. (h.0, refl)) bytes x fits f)
    (λ e5. this_or k 40 _ _ x (IsRefusalOf k bytes x) e5
    (λ is f. made_takes held_of (both (number_at w64) time_at) _ _ held_field refusal_number refusal_fields IsSent k (λ a. sym is) (λ a. refl) (λ a h. (h, refl)) bytes x fits f)
    (λ e6. this_or k 42 _ _ x (IsRefusalOf k bytes x) e6
    (λ is f. made_takes unpublished_of (both (number_at w64) zero_at) _ _ ops_zero_field refusal_number refusal_fields IsSent k (λ a. sym is) (λ a. refl) (λ a h. (h.0, refl)) bytes x fits f)
    (λ e7. plain_takes k bytes x (plain k) refl fits e7))))))

pub refusal_again : (r : Refusal) (rest : List ℕ) → IsSent r → refusal_of (refusal_number r) (refusal_fields r ++ rest) ≡ Ok (r, rest)
unfolding refusal_of plain
refusal_again (Gap base readable) rest h = made_again gap_of (both time_at time_at) _ _ times_field (base, readable) rest h.0
refusal_again (AheadOfMark readable) rest h = made_again ahead_of (both time_at zero_at) _ _ one_time_field (readable, tt) rest (h.0, tt)
refusal_again (TooOld horizon) rest h = made_again old_of (both time_at zero_at) _ _ one_time_field (horizon, tt) rest (h.0, tt)
refusal_again (NotYet readable) rest h = made_again not_yet_of (both time_at zero_at) _ _ one_time_field (readable, tt) rest (h.0, tt)
refusal_again (Held reader at) rest h = made_again held_of (both (number_at w64) time_at) _ _ held_field (reader, at) rest h.0
refusal_again (Unpublished ops) rest h = made_again unpublished_of (both (number_at w64) zero_at) _ _ ops_zero_field (ops, tt) rest (h.0, tt)
refusal_again (Form Truncated) rest h = made_again (plainly (Form Truncated)) (both zero_at zero_at) _ _ zeros_field (tt, tt) rest (tt, tt)
refusal_again (Form TooLong) rest h = made_again (plainly (Form TooLong)) (both zero_at zero_at) _ _ zeros_field (tt, tt) rest (tt, tt)
refusal_again (Form BadVersion) rest h = made_again (plainly (Form BadVersion)) (both zero_at zero_at) _ _ zeros_field (tt, tt) rest (tt, tt)
refusal_again (Form BadKind) rest h = made_again (plainly (Form BadKind)) (both zero_at zero_at) _ _ zeros_field (tt, tt) rest (tt, tt)
refusal_again (Form BadStream) rest h = made_again (plainly (Form BadStream)) (both zero_at zero_at) _ _ zeros_field (tt, tt) rest (tt, tt)
refusal_again (Form BadNumber) rest h = made_again (plainly (Form BadNumber)) (both zero_at zero_at) _ _ zeros_field (tt, tt) rest (tt, tt)
refusal_again (Form BadOrder) rest h = made_again (plainly (Form BadOrder)) (both zero_at zero_at) _ _ zeros_field (tt, tt) rest (tt, tt)
refusal_again (Form BadCount) rest h = made_again (plainly (Form BadCount)) (both zero_at zero_at) _ _ zeros_field (tt, tt) rest (tt, tt)
refusal_again (Form BadBody) rest h = made_again (plainly (Form BadBody)) (both zero_at zero_at) _ _ zeros_field (tt, tt) rest (tt, tt)
refusal_again (Form WrongLength) rest h = made_again (plainly (Form WrongLength)) (both zero_at zero_at) _ _ zeros_field (tt, tt) rest (tt, tt)
refusal_again ForeignLog rest h = made_again (plainly ForeignLog) (both zero_at zero_at) _ _ zeros_field (tt, tt) rest (tt, tt)
refusal_again WrongStreams rest h = made_again (plainly WrongStreams) (both zero_at zero_at) _ _ zeros_field (tt, tt) rest (tt, tt)
refusal_again Conflict rest h = made_again (plainly Conflict) (both zero_at zero_at) _ _ zeros_field (tt, tt) rest (tt, tt)
refusal_again Damaged rest h = made_again (plainly Damaged) (both zero_at zero_at) _ _ zeros_field (tt, tt) rest (tt, tt)
refusal_again NodeFull rest h = made_again (plainly NodeFull) (both zero_at zero_at) _ _ zeros_field (tt, tt) rest (tt, tt)
refusal_again NoHold rest h = made_again (plainly NoHold) (both zero_at zero_at) _ _ zeros_field (tt, tt) rest (tt, tt)
refusal_again NoSuch rest h = made_again (plainly NoSuch) (both zero_at zero_at) _ _ zeros_field (tt, tt) rest (tt, tt)
refusal_again Memory rest h = made_again (plainly Memory) (both zero_at zero_at) _ _ zeros_field (tt, tt) rest (tt, tt)
refusal_again (WriteConflict table key at) rest h = absurd cc
refusal_again (NoRow table key) rest h = absurd cc
refusal_again TwiceWritten rest h = absurd cc
refusal_again TooManyWrites rest h = absurd cc
refusal_again NoStream rest h = absurd cc
refusal_again ClockFull rest h = absurd cc
refusal_again (Retired stream) rest h = absurd cc
refusal_again (LinkFull most) rest h = absurd cc
refusal_again NoPart rest h = absurd cc

pub refusal_field : IsField refusal_at refusal_text IsSent
unfolding refusal_at refusal_text
refusal_field = kinded_field refusal_of refusal_number refusal_fields IsSent (record { takes = refusal_takes; again = refusal_again })

-- ---- those of version 2

abbrev pub IsTold : Refusal → Type 0
IsTold why = RefusalFits why × (is_told why ≡ true)

abbrev full_of : ℕ × Unit {0} → Refusal
full_of p = LinkFull p.0

abbrev none_of : Unit {0} × Unit {0} → Refusal
none_of p = NoPart

abbrev IsLaterRefusalOf : ℕ → List ℕ → Refusal × List ℕ → Type 0
IsLaterRefusalOf k bytes x = (refusal_number x.0 ≡ k) × (Takes bytes (refusal_fields x.0) x.1 × IsTold x.0)

told_if_sent : (a b : Bool) → b ≡ true → (a || b) ≡ true
told_if_sent true b e = refl
told_if_sent false b e = e

refusals_taken : (k : ℕ) (bytes : List ℕ) (x : Refusal × List ℕ) → IsBytes bytes → later_refusal_of k bytes ≡ Ok x → IsLaterRefusalOf k bytes x
unfolding later_refusal_of
refusals_taken k bytes x fits e =
    this_or k 46 _ _ x (IsLaterRefusalOf k bytes x) e
    (λ is f. made_takes full_of (both (number_at w64) zero_at) _ _ ops_zero_field refusal_number refusal_fields IsTold k (λ a. sym is) (λ a. refl) (λ a h. (h.0, refl)) bytes x fits f)
    (λ e2. this_or k 47 _ _ x (IsLaterRefusalOf k bytes x) e2
    (λ is f. made_takes none_of (both zero_at zero_at) _ _ zeros_field refusal_number refusal_fields IsTold k (λ a. sym is) (λ a. refl) (λ a h. (tt, refl)) bytes x fits f)
    (λ e3. let u = refusal_takes k bytes x fits e3 in (u.0, (u.1.0, (u.1.1.0, told_if_sent (is_of_parts x.0) (is_sent x.0) u.1.1.1)))))

refusals_again : (why : Refusal) (rest : List ℕ) → IsTold why → later_refusal_of (refusal_number why) (refusal_fields why ++ rest) ≡ Ok (why, rest)
unfolding later_refusal_of
refusals_again (LinkFull most) rest h = made_again full_of (both (number_at w64) zero_at) _ _ ops_zero_field (most, tt) rest (h.0, tt)
refusals_again NoPart rest h = made_again none_of (both zero_at zero_at) _ _ zeros_field (tt, tt) rest (tt, tt)
refusals_again (Form Truncated) rest h = refusal_again (Form Truncated) rest h
refusals_again (Form TooLong) rest h = refusal_again (Form TooLong) rest h
refusals_again (Form BadVersion) rest h = refusal_again (Form BadVersion) rest h
refusals_again (Form BadKind) rest h = refusal_again (Form BadKind) rest h
refusals_again (Form BadStream) rest h = refusal_again (Form BadStream) rest h
refusals_again (Form BadNumber) rest h = refusal_again (Form BadNumber) rest h
refusals_again (Form BadOrder) rest h = refusal_again (Form BadOrder) rest h
refusals_again (Form BadCount) rest h = refusal_again (Form BadCount) rest h
refusals_again (Form BadBody) rest h = refusal_again (Form BadBody) rest h
refusals_again (Form WrongLength) rest h = refusal_again (Form WrongLength) rest h
refusals_again ForeignLog rest h = refusal_again ForeignLog rest h
refusals_again WrongStreams rest h = refusal_again WrongStreams rest h
refusals_again (Gap base readable) rest h = refusal_again (Gap base readable) rest h
refusals_again Conflict rest h = refusal_again Conflict rest h
refusals_again (AheadOfMark readable) rest h = refusal_again (AheadOfMark readable) rest h
refusals_again (TooOld horizon) rest h = refusal_again (TooOld horizon) rest h
refusals_again (NotYet readable) rest h = refusal_again (NotYet readable) rest h
refusals_again (Held reader at) rest h = refusal_again (Held reader at) rest h
refusals_again Damaged rest h = refusal_again Damaged rest h
refusals_again (Unpublished ops) rest h = refusal_again (Unpublished ops) rest h
refusals_again NodeFull rest h = refusal_again NodeFull rest h
refusals_again NoHold rest h = refusal_again NoHold rest h
refusals_again NoSuch rest h = refusal_again NoSuch rest h
refusals_again Memory rest h = refusal_again Memory rest h
refusals_again (WriteConflict table key at) rest h = absurd cc
refusals_again (NoRow table key) rest h = absurd cc
refusals_again TwiceWritten rest h = absurd cc
refusals_again TooManyWrites rest h = absurd cc
refusals_again NoStream rest h = absurd cc
refusals_again ClockFull rest h = absurd cc
refusals_again (Retired stream) rest h = absurd cc

pub later_refusal_field : IsField later_refusal_at refusal_text IsTold
unfolding later_refusal_at refusal_text
later_refusal_field = kinded_field later_refusal_of refusal_number refusal_fields IsTold (record { takes = refusals_taken; again = refusals_again })

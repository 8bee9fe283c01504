-- What loops over the steps of a reading know.
use Rattle.std.proofs.Common.{◌≡◌, ℕ, suc, ◌-◌, ◌+◌, ◌≤◌, ◌<◌, List, Result, Ok, Err, refl, sym, ◌∙◌, arith}
use Rattle.hk_types.specs.declared.faults.FormFault.{FormFault}
use Rattle.hk_frames.specs.declared.cursor.ReadError.{ReadError}
use Rattle.hk_frames.specs.declared.cursor.ReadError.TheVariants.{Memory, Fault}
use Rattle.hk_frames.specs.Fields.{Fails}
use Rattle.hk_codec.specs.Kept.{steps_at}

module _ {S : Type 0} (one : S → List ℕ → Result (S × List ℕ) FormFault) where
  pub steps_go_on : (count i : ℕ) (s : S) (bytes : List ℕ) (next : S) (after : List ℕ) (total : Result (S × List ℕ) FormFault) → i < count → one s bytes ≡ Ok (next, after) → steps_at one (count - i) s bytes ≡ total → steps_at one (count - (i + 1)) next after ≡ total
  unfolding steps_at
  steps_go_on count i s bytes next after total lt h so_far =
      let k : count - i ≡ suc (count - (i + 1)) = omega arith in
      let step : steps_at one (count - i) s bytes ≡ steps_at one (count - (i + 1)) next after = rw (k, h) refl in
      sym step ∙ so_far

  pub steps_end : (e : ReadError) (count i : ℕ) (s : S) (bytes : List ℕ) (total : Result (S × List ℕ) FormFault) → i < count → Fails e (one s bytes) → steps_at one (count - i) s bytes ≡ total → Fails e total
  unfolding steps_at
  steps_end Memory count i s bytes total lt h so_far = tt
  steps_end (Fault f) count i s bytes total lt h so_far =
      let k : count - i ≡ suc (count - (i + 1)) = omega arith in
      let step : steps_at one (count - i) s bytes ≡ Err f = rw (k, h) refl in
      sym so_far ∙ step

  pub steps_done : (count i : ℕ) (s : S) (bytes : List ℕ) (total : Result (S × List ℕ) FormFault) → count ≤ i → steps_at one (count - i) s bytes ≡ total → total ≡ Ok (s, bytes)
  unfolding steps_at
  steps_done count i s bytes total le so_far =
      let k : count - i ≡ 0 = omega arith in
      let step : steps_at one (count - i) s bytes ≡ Ok (s, bytes) = rw k refl in
      sym so_far ∙ step

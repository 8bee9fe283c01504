-- Marks, heads, ends and rows: what is read is encoded so.
use Rattle.std.proofs.Common.{◌≡◌, ℕ, ◌^◌, ◌<◌, ◌≤◌, Bool, true, false, cond, eqb, ltb, ◌||◌, ◌&&◌, ◌⊎◌, List, [], ◌∷◌, ◌++◌, length, take, drop, Option, Result, Ok, refl, sym, subst, arith, inl, inr}
use Rattle.std.specs.Int.{w16, w32, w64}
use Rattle.std.proofs.lemmas.Bool.{ltb-false, eqb-true}
use Rattle.std.proofs.lemmas.List.{take-append-drop, length-take}
use Rattle.hk_types.specs.Values.{RowValue}
use Rattle.hk_types.specs.declared.version_key.VersionKey.{VersionKey}
use Rattle.hk_types.specs.declared.faults.FormFault.{FormFault}
use Rattle.hk_types.specs.declared.faults.FormFault.TheVariants.{BadVersion, BadKind, BadStream, BadNumber, BadOrder, BadBody, WrongLength}
use Rattle.hk_log.specs.Items.{MarkValue, IsMark, end_place, row_place, is_after, was_born}
use Rattle.hk_frames.specs.Fields.{IsBytes, ◌>>=◌, check, number, byte_at, number_at, bytes_at, body_at}
use Rattle.hk_codec.specs.Encoding.{keyed_end_text, keyed_row_text, head_text, mark_text, EndFits, RowFits}
use Rattle.hk_codec.specs.Lists.{tabled_text}
use Rattle.hk_codec.specs.Reading.{HeadValue, keyed_end_at, keyed_row_at, end_at, row_at, head_at, mark_at}
use Rattle.hk_frames.proofs.ReadingSteps.{IsBytes-drop, IsBytes-rest, bind_ok, check_ok, ok_is, passes, neither, either, Takes, Takes-then}
use Rattle.hk_frames.proofs.Numbers.{guard_ok, wide16, wide32, wide64, number_takes}

pub byte_takes : (bytes : List ℕ) (x : ℕ × List ℕ) → IsBytes bytes → byte_at bytes ≡ Ok x → Takes bytes (x.0 ∷ []) x.1
unfolding byte_at
byte_takes [] x fits e = absurd cc
byte_takes (b ∷ bytes) x fits e = subst (λ (y : ℕ × List ℕ). Takes (b ∷ bytes) (y.0 ∷ []) y.1) {x = (b, bytes)} (ok_is (b, bytes) x e) (record { parts = refl; rest_fits = IsBytes-rest b bytes fits })

-- ---- marks

abbrev mark_end : ℕ → ℕ → ℕ × List ℕ → ℕ × List ℕ → Result (MarkValue × List ℕ) FormFault
mark_end log stream n m = Ok (record { log = log; stream = stream; count = n.0; upto = m.0 }, m.1)

pub mark_takes : (log stream : ℕ) (bytes : List ℕ) (x : MarkValue × List ℕ) → log < 2 ^ 64 → 1 ≤ stream → stream ≤ 64 → IsBytes bytes → mark_at log stream bytes ≡ Ok x → Takes bytes (mark_text x.0) x.1 × IsMark x.0 × (x.0.log ≡ log) × (x.0.stream ≡ stream)
unfolding mark_at mark_text
mark_takes log stream bytes x log_fits least most fits e =
    let a = bind_ok (number_at w64 bytes) (λ n. number_at w64 n.1 >>= λ m. check (ltb m.0 n.0 || ltb (2 ^ 62) m.0) BadNumber >>= λ _. mark_end log stream n m) x e in
    let b = bind_ok (number_at w64 a.0.1) (λ m. check (ltb m.0 a.0.0 || ltb (2 ^ 62) m.0) BadNumber >>= λ _. mark_end log stream a.0 m) x a.2 in
    let c = check_ok (ltb b.0.0 a.0.0 || ltb (2 ^ 62) b.0.0) BadNumber (λ _. mark_end log stream a.0 b.0) x b.2 in
    let t0 = number_takes w64 (2 ^ 64) wide64 bytes a.0 fits a.1 in
    let t1 = number_takes w64 (2 ^ 64) wide64 a.0.1 b.0 t0.0.rest_fits b.1 in
    let s = neither (ltb b.0.0 a.0.0) (ltb (2 ^ 62) b.0.0) c.0 in
    let n_m : a.0.0 ≤ b.0.0 = ltb-false b.0.0 a.0.0 s.0 in
    let m_last : b.0.0 ≤ 2 ^ 62 = ltb-false (2 ^ 62) b.0.0 s.1 in
    let made : MarkValue × List ℕ = (record { log = log; stream = stream; count = a.0.0; upto = b.0.0 }, b.0.1) in
    subst (λ (y : MarkValue × List ℕ). Takes bytes (number w64 y.0.count ++ number w64 y.0.upto) y.1 × IsMark y.0 × (y.0.log ≡ log) × (y.0.stream ≡ stream)) {x = made} (ok_is made x c.1)
    (Takes-then bytes (number w64 a.0.0) a.0.1 (number w64 b.0.0) b.0.1 t0.0 t1.0, record { log = log_fits; stream_least = least; stream_most = most; count = n_m; upto = m_last }, refl, refl)

-- ---- heads

abbrev head_end : ℕ × List ℕ → ℕ × List ℕ → ℕ × List ℕ → ℕ × List ℕ → Result (HeadValue × List ℕ) FormFault
head_end version kind log stream = Ok (record { version = version.0; kind = kind.0; log = log.0; stream = stream.0 }, stream.1)

-- 1 or 2, as versions and kinds are
abbrev is_either : ℕ → Bool
is_either k = eqb k 1 || eqb k 2

pub record HeadFits (h : HeadValue) : Type 0 where
  pub version : (h.version ≡ 1) ⊎ (h.version ≡ 2)
  pub kind : (h.kind ≡ 1) ⊎ (h.kind ≡ 2)
  pub log : h.log < 2 ^ 64
  pub stream_least : 1 ≤ h.stream
  pub stream_most : h.stream ≤ 64

one_of : (k : ℕ) → is_either k ≡ true → (k ≡ 1) ⊎ (k ≡ 2)
one_of k e =
    elim (either (eqb k 1) (eqb k 2) e) [
      | inl p ↦ inl (eqb-true _ _ p)
      | inr q ↦ inr (eqb-true _ _ q)
    ]

pub head_takes : (bytes : List ℕ) (x : HeadValue × List ℕ) → IsBytes bytes → head_at bytes ≡ Ok x → Takes bytes (head_text x.0.version x.0.kind x.0.log x.0.stream) x.1 × HeadFits x.0
unfolding head_at head_text
head_takes bytes x fits e =
    let a = bind_ok (byte_at bytes) (λ version. check (cond (is_either version.0) false true) BadVersion >>= λ _. byte_at version.1 >>= λ kind. check (cond (is_either kind.0) false true) BadKind >>= λ _. number_at w64 kind.1 >>= λ log. number_at w16 log.1 >>= λ stream. check (ltb stream.0 1 || ltb 64 stream.0) BadStream >>= λ _. head_end version kind log stream) x e in
    let a2 = check_ok (cond (is_either a.0.0) false true) BadVersion (λ _. byte_at a.0.1 >>= λ kind. check (cond (is_either kind.0) false true) BadKind >>= λ _. number_at w64 kind.1 >>= λ log. number_at w16 log.1 >>= λ stream. check (ltb stream.0 1 || ltb 64 stream.0) BadStream >>= λ _. head_end a.0 kind log stream) x a.2 in
    let b = bind_ok (byte_at a.0.1) (λ kind. check (cond (is_either kind.0) false true) BadKind >>= λ _. number_at w64 kind.1 >>= λ log. number_at w16 log.1 >>= λ stream. check (ltb stream.0 1 || ltb 64 stream.0) BadStream >>= λ _. head_end a.0 kind log stream) x a2.1 in
    let b2 = check_ok (cond (is_either b.0.0) false true) BadKind (λ _. number_at w64 b.0.1 >>= λ log. number_at w16 log.1 >>= λ stream. check (ltb stream.0 1 || ltb 64 stream.0) BadStream >>= λ _. head_end a.0 b.0 log stream) x b.2 in
    let c = bind_ok (number_at w64 b.0.1) (λ log. number_at w16 log.1 >>= λ stream. check (ltb stream.0 1 || ltb 64 stream.0) BadStream >>= λ _. head_end a.0 b.0 log stream) x b2.1 in
    let d = bind_ok (number_at w16 c.0.1) (λ stream. check (ltb stream.0 1 || ltb 64 stream.0) BadStream >>= λ _. head_end a.0 b.0 c.0 stream) x c.2 in
    let d2 = check_ok (ltb d.0.0 1 || ltb 64 d.0.0) BadStream (λ _. head_end a.0 b.0 c.0 d.0) x d.2 in
    let t0 = byte_takes bytes a.0 fits a.1 in
    let t1 = byte_takes a.0.1 b.0 t0.rest_fits b.1 in
    let t2 = number_takes w64 (2 ^ 64) wide64 b.0.1 c.0 t1.rest_fits c.1 in
    let t3 = number_takes w16 (2 ^ 16) wide16 c.0.1 d.0 t2.0.rest_fits d.1 in
    let s = neither (ltb d.0.0 1) (ltb 64 d.0.0) d2.0 in
    let least : 1 ≤ d.0.0 = ltb-false d.0.0 1 s.0 in
    let most : d.0.0 ≤ 64 = ltb-false 64 d.0.0 s.1 in
    let e23 = Takes-then b.0.1 (number w64 c.0.0) c.0.1 (number w16 d.0.0) d.0.1 t2.0 t3.0 in
    let e13 = Takes-then a.0.1 (b.0.0 ∷ []) b.0.1 (number w64 c.0.0 ++ number w16 d.0.0) d.0.1 t1 e23 in
    let whole : Takes bytes (a.0.0 ∷ b.0.0 ∷ (number w64 c.0.0 ++ number w16 d.0.0)) d.0.1 = Takes-then bytes (a.0.0 ∷ []) a.0.1 (b.0.0 ∷ (number w64 c.0.0 ++ number w16 d.0.0)) d.0.1 t0 e13 in
    let made : HeadValue × List ℕ = (record { version = a.0.0; kind = b.0.0; log = c.0.0; stream = d.0.0 }, d.0.1) in
    subst (λ (y : HeadValue × List ℕ). Takes bytes (y.0.version ∷ y.0.kind ∷ (number w64 y.0.log ++ number w16 y.0.stream)) y.1 × HeadFits y.0) {x = made} (ok_is made x d2.1)
    (whole, record { version = one_of a.0.0 (passes (is_either a.0.0) a2.0); kind = one_of b.0.0 (passes (is_either b.0.0) b2.0); log = t2.1; stream_least = least; stream_most = most })

-- ---- ends

abbrev end_made : ℕ → ℕ × List ℕ → ℕ × List ℕ → VersionKey × List ℕ
end_made table key born = (record { table = table; key = key.0; born = born.0 }, born.1)

abbrev end_last : ℕ → ℕ → Option (ℕ × ℕ) → ℕ × List ℕ → ℕ × List ℕ → Result (VersionKey × List ℕ) FormFault
end_last time table before key born =
    check (cond (is_after before (table, key.0)) false true) BadOrder >>= λ _. check (cond (ltb 0 born.0 && ltb born.0 time) false true) BadNumber >>= λ _. Ok (end_made table key born)

-- an end that was read in its place
pub record EndIs (time : ℕ) (v : VersionKey) : Type 0 where
  pub fits : EndFits v
  pub born : was_born time v ≡ true

pub keyed_end_takes : (time table : ℕ) (before : Option (ℕ × ℕ)) (bytes : List ℕ) (x : VersionKey × List ℕ) → table < 2 ^ 16 → IsBytes bytes → keyed_end_at time table before bytes ≡ Ok x → Takes bytes (keyed_end_text x.0) x.1 × (EndIs time x.0 × ((end_place x.0).0 ≡ table)) × (is_after before (end_place x.0) ≡ true)
unfolding keyed_end_at keyed_end_text
keyed_end_takes time table before bytes x wide fits e =
    let b = bind_ok (number_at w64 bytes) (λ key. number_at w64 key.1 >>= λ born. end_last time table before key born) x e in
    let c = bind_ok (number_at w64 b.0.1) (λ born. end_last time table before b.0 born) x b.2 in
    let d = check_ok (cond (is_after before (table, b.0.0)) false true) BadOrder (λ _. check (cond (ltb 0 c.0.0 && ltb c.0.0 time) false true) BadNumber >>= λ _. Ok (end_made table b.0 c.0)) x c.2 in
    let g = check_ok (cond (ltb 0 c.0.0 && ltb c.0.0 time) false true) BadNumber (λ _. Ok (end_made table b.0 c.0)) x d.1 in
    let t1 = number_takes w64 (2 ^ 64) wide64 bytes b.0 fits b.1 in
    let t2 = number_takes w64 (2 ^ 64) wide64 b.0.1 c.0 t1.0.rest_fits c.1 in
    let e12 = Takes-then bytes (number w64 b.0.0) b.0.1 (number w64 c.0.0) c.0.1 t1.0 t2.0 in
    subst (λ (y : VersionKey × List ℕ). Takes bytes (number w64 y.0.key ++ number w64 y.0.born) y.1 × (EndIs time y.0 × ((end_place y.0).0 ≡ table)) × (is_after before (end_place y.0) ≡ true)) {x = (end_made table b.0 c.0)} (ok_is (end_made table b.0 c.0) x g.1)
    (e12, (record { fits = record { table = wide; key = t1.1 }; born = passes (ltb 0 c.0.0 && ltb c.0.0 time) g.0 }, refl), passes (is_after before (table, b.0.0)) d.0)

pub end_takes : (time : ℕ) (before : Option (ℕ × ℕ)) (bytes : List ℕ) (x : VersionKey × List ℕ) → IsBytes bytes → end_at time before bytes ≡ Ok x → Takes bytes (tabled_text end_place keyed_end_text x.0) x.1 × EndIs time x.0 × (is_after before (end_place x.0) ≡ true)
unfolding end_at tabled_text
end_takes time before bytes x fits e =
    let a = bind_ok (number_at w16 bytes) (λ table. keyed_end_at time table.0 before table.1) x e in
    let t = number_takes w16 (2 ^ 16) wide16 bytes a.0 fits a.1 in
    let k = keyed_end_takes time a.0.0 before a.0.1 x t.1 t.0.rest_fits a.2 in
    let whole = Takes-then bytes (number w16 a.0.0) a.0.1 (keyed_end_text x.0) x.1 t.0 k.0 in
    (subst (λ (n : ℕ). Takes bytes (number w16 n ++ keyed_end_text x.0) x.1) (sym k.1.1) whole, k.1.0, k.2)

-- ---- rows

pub bytes_take : (n : ℕ) (bytes : List ℕ) (x : List ℕ × List ℕ) → IsBytes bytes → bytes_at n bytes ≡ Ok x → Takes bytes x.0 x.1 × (length x.0 ≡ n)
unfolding bytes_at
bytes_take n bytes x fits e =
    let g = guard_ok (ltb (length bytes) n) WrongLength (take n bytes, drop n bytes) x e in
    let long : n ≤ length bytes = ltb-false (length bytes) n g.0 in
    let len : length (take n bytes) ≡ n = omega (arith, length-take n bytes) in
    let both : Takes bytes (take n bytes) (drop n bytes) = record { parts = sym (take-append-drop n bytes); rest_fits = IsBytes-drop n bytes fits } in
    subst (λ (p : List ℕ × List ℕ). Takes bytes p.0 p.1 × (length p.0 ≡ n)) g.1 (both, len)

pub body_takes : (bytes : List ℕ) (x : List ℕ × List ℕ) → IsBytes bytes → body_at bytes ≡ Ok x → Takes bytes (number w16 (length x.0) ++ x.0) x.1 × (length x.0 ≤ 4096)
unfolding body_at
body_takes bytes x fits e =
    let a = bind_ok (number_at w16 bytes) (λ len. check (ltb 4096 len.0) BadBody >>= λ _. bytes_at len.0 len.1) x e in
    let b = check_ok (ltb 4096 a.0.0) BadBody (λ _. bytes_at a.0.0 a.0.1) x a.2 in
    let t = number_takes w16 (2 ^ 16) wide16 bytes a.0 fits a.1 in
    let most : a.0.0 ≤ 4096 = ltb-false 4096 a.0.0 b.0 in
    let u = bytes_take a.0.0 a.0.1 x t.0.rest_fits b.1 in
    let both = Takes-then bytes (number w16 a.0.0) a.0.1 x.0 x.1 t.0 u.0 in
    (subst (λ (k : ℕ). Takes bytes (number w16 k ++ x.0) x.1) (sym u.1) both, omega (arith, u.1))

abbrev row_made : ℕ → ℕ × List ℕ → ℕ × List ℕ → List ℕ × List ℕ → (ℕ × ℕ × RowValue) × List ℕ
row_made table key tag body = ((table, key.0, record { tag = tag.0; body = body.0 }), body.1)

pub keyed_row_takes : (table : ℕ) (before : Option (ℕ × ℕ)) (bytes : List ℕ) (x : (ℕ × ℕ × RowValue) × List ℕ) → table < 2 ^ 16 → IsBytes bytes → keyed_row_at table before bytes ≡ Ok x → Takes bytes (keyed_row_text x.0) x.1 × (RowFits x.0 × ((row_place x.0).0 ≡ table)) × (is_after before (row_place x.0) ≡ true)
unfolding keyed_row_at keyed_row_text
keyed_row_takes table before bytes x wide fits e =
    let b = bind_ok (number_at w64 bytes) (λ key. check (cond (is_after before (table, key.0)) false true) BadOrder >>= λ _. number_at w32 key.1 >>= λ tag. body_at tag.1 >>= λ body. Ok (row_made table key tag body)) x e in
    let g = check_ok (cond (is_after before (table, b.0.0)) false true) BadOrder (λ _. number_at w32 b.0.1 >>= λ tag. body_at tag.1 >>= λ body. Ok (row_made table b.0 tag body)) x b.2 in
    let c = bind_ok (number_at w32 b.0.1) (λ tag. body_at tag.1 >>= λ body. Ok (row_made table b.0 tag body)) x g.1 in
    let d = bind_ok (body_at c.0.1) (λ body. Ok (row_made table b.0 c.0 body)) x c.2 in
    let t1 = number_takes w64 (2 ^ 64) wide64 bytes b.0 fits b.1 in
    let t2 = number_takes w32 (2 ^ 32) wide32 b.0.1 c.0 t1.0.rest_fits c.1 in
    let t3 = body_takes c.0.1 d.0 t2.0.rest_fits d.1 in
    let e23 = Takes-then b.0.1 (number w32 c.0.0) c.0.1 (number w16 (length d.0.0) ++ d.0.0) d.0.1 t2.0 t3.0 in
    let e13 = Takes-then bytes (number w64 b.0.0) b.0.1 (number w32 c.0.0 ++ (number w16 (length d.0.0) ++ d.0.0)) d.0.1 t1.0 e23 in
    subst (λ (y : (ℕ × ℕ × RowValue) × List ℕ). Takes bytes (number w64 y.0.1 ++ (number w32 y.0.2.tag ++ (number w16 (length y.0.2.body) ++ y.0.2.body))) y.1 × (RowFits y.0 × ((row_place y.0).0 ≡ table)) × (is_after before (row_place y.0) ≡ true)) {x = (row_made table b.0 c.0 d.0)} (ok_is (row_made table b.0 c.0 d.0) x d.2)
    (e13, (record { table = wide; key = t1.1; tag = t2.1; body = t3.1 }, refl), passes (is_after before (table, b.0.0)) g.0)

pub row_takes : (before : Option (ℕ × ℕ)) (bytes : List ℕ) (x : (ℕ × ℕ × RowValue) × List ℕ) → IsBytes bytes → row_at before bytes ≡ Ok x → Takes bytes (tabled_text row_place keyed_row_text x.0) x.1 × RowFits x.0 × (is_after before (row_place x.0) ≡ true)
unfolding row_at tabled_text
row_takes before bytes x fits e =
    let a = bind_ok (number_at w16 bytes) (λ table. keyed_row_at table.0 before table.1) x e in
    let t = number_takes w16 (2 ^ 16) wide16 bytes a.0 fits a.1 in
    let k = keyed_row_takes a.0.0 before a.0.1 x t.1 t.0.rest_fits a.2 in
    let whole = Takes-then bytes (number w16 a.0.0) a.0.1 (keyed_row_text x.0) x.1 t.0 k.0 in
    (subst (λ (n : ℕ). Takes bytes (number w16 n ++ keyed_row_text x.0) x.1) (sym k.1.1) whole, k.1.0, k.2)

-- Which prunes touch the past, and that those that do not keep it.
use Rattle.std.proofs.Common.{◌≡◌, ◌↔◌, refl, sym, ap, ◌∙◌, subst, ℕ, zero, suc, ◌-◌, ◌+◌, Bool, true, false, cond, not, Option, Some, None, inl, inr, ◌&&◌, ◌<◌, ◌≤◌, Ok, Err, Result, nat_le, nat_lt, is_some, leb-true, ltb-false, true≢false, arith}
use Rattle.std.proofs.lemmas.Bool.{and_parts, cases_lt, cases_Bool}
use Rattle.std.proofs.lemmas.Bool.Decides.{nat_tests}
use Rattle.std.specs.List.{list_any}
use Rattle.std.specs.FinMap as finmap
use Rattle.hk_model.proofs.Replica.Maps.{get-without_ended}
use Rattle.hk_model.proofs.Replica.Lawful.{same_Ok}
use Rattle.hk_model.proofs.Replica.Standing.{represents_lawful}
use Rattle.hk_model.proofs.Replica.Shown.{any_In, get-key, Shows, shows_parts, shows_from, replaces_from, visible_row, visible_version}
use Rattle.hk_model.proofs.Replica.Visible.{not_from, any_where}
use Rattle.hk_model.proofs.Replica.Same.{same_option}
use Rattle.hk_model.proofs.Replica.Chains.{replaced_by, key_row}
use Rattle.hk_model.proofs.Replica.Past.{past_itself, pruned_past}
use Rattle.hk_types.specs.Values.{RowValue}
use Rattle.hk_types.specs.declared.version_key.VersionKey.{VersionKey}
use Rattle.hk_types.specs.declared.faults.Refusal.{Refusal}
use Rattle.hk_types.specs.declared.faults.Refusal.TheVariants.{AheadOfMark}
use Rattle.hk_model.specs.History.Rows.{RowKey, row_key_of}
use Rattle.hk_model.specs.Replica.Content.{Content, readable, ended_by, at_most, without_ended}
use Rattle.hk_model.specs.Replica.Answers.{replaces, visible}
use Rattle.hk_model.specs.Replica.Past.{KeepsPast}
use Rattle.hk_model.specs.Replica.Touches.{is_next_older, uncovers, prune_touches_past}
use Rattle.hk_model.specs.Replica.Lawful.{IsLawful}
use Rattle.hk_model.specs.Laws.{PruneUntouched, HonestPrune}

-- ---- what a prune leaves

unfoldable pub pruned : Content → ℕ → Content
pruned c h = record c { horizon = h; rows = without_ended c.ends h c.rows; ends = without_ended c.ends h c.ends }

pub row_left : (c : Content) (h : ℕ) (v : VersionKey) (r : RowValue) → finmap.get (pruned c h).rows v ≡ Some r → (finmap.get c.rows v ≡ Some r) × (ended_by c.ends h v ≡ false)
unfolding pruned
row_left c h v r e = by (ended_by c.ends h v) refl (sym (get-without_ended c.ends h c.rows v) ∙ e)
  where
    by : (b : Bool) → ended_by c.ends h v ≡ b → cond (not b) (finmap.get c.rows v) None ≡ Some r → (finmap.get c.rows v ≡ Some r) × (ended_by c.ends h v ≡ false)
    by true k f = absurd cc
    by false k f = (f, k)

pub left_row : (c : Content) (h : ℕ) (v : VersionKey) (r : RowValue) → finmap.get c.rows v ≡ Some r → ended_by c.ends h v ≡ false → finmap.get (pruned c h).rows v ≡ Some r
unfolding pruned
left_row c h v r e k = get-without_ended c.ends h c.rows v ∙ (λ i. cond (not (k i)) (finmap.get c.rows v) None) ∙ e

pub end_left : (c : Content) (h : ℕ) (v : VersionKey) → ended_by c.ends h v ≡ false → finmap.get (pruned c h).ends v ≡ finmap.get c.ends v
unfolding pruned
end_left c h v k = get-without_ended c.ends h c.ends v ∙ (λ i. cond (not (k i)) (finmap.get c.ends v) None)

sooner : (h t : ℕ) (x : Option ℕ) → h ≤ t → at_most t x ≡ false → at_most h x ≡ false
sooner h t x l e = grind (arith, nat_tests)

-- a later version of the row that has a row
none_later : (c : Content) (t : ℕ) (v w : VersionKey) (r : RowValue) → Shows c t v → finmap.get c.rows w ≡ Some r → row_key_of v ≡ row_key_of w → v.born < w.born → w.born ≤ t → ⊥
none_later c t v w r s e same later born = true≢false (sym (any_In (replaces t v) w (finmap.keys c.rows) (get-key c.rows w r e) (replaces_from t v w same later born)) ∙ s.latest)

still_shown : (c : Content) (h t : ℕ) (k : RowKey) (r : RowValue) → h ≤ t → finmap.get (visible c t) k ≡ Some r → finmap.get (visible (pruned c h) t) k ≡ Some r
still_shown c h t k r l e =
    let i = visible_version c t k r e in
    let s = shows_parts c t i.version i.shown in
    let open_at_h = sooner h t (finmap.get c.ends i.version) l s.unended in
    let latest : list_any (replaces t i.version) (finmap.keys (pruned c h).rows) ≡ false = not_from _ (λ y.
    let w = any_where (replaces t i.version) (finmap.keys (pruned c h).rows) y in
    let x = key_row (pruned c h).rows w.0 w.1 in
    let q = replaced_by t i.version w.0 w.2 in
    none_later c t i.version w.0 x.0 s (row_left c h w.0 x.0 x.1).0 q.same q.later q.born)
    in
    ap (finmap.get (visible (pruned c h) t)) i.of_key
    ∙ visible_row (pruned c h) t i.version r (left_row c h i.version r i.row open_at_h) (shows_from (pruned c h) t i.version (record { born = s.born; latest = latest; unended = ap (at_most t) (end_left c h i.version open_at_h) ∙ s.unended }))

at_most_is : (t : ℕ) (x : Option ℕ) → at_most t x ≡ true → (d : ℕ) × (x ≡ Some d) × (d ≤ t)
at_most_is t None e = absurd (true≢false (sym e))
at_most_is t (Some d) e = (d, refl, leb-true d t e)

no_more_shown : (c : Content) (h t : ℕ) (k : RowKey) (r : RowValue) → IsLawful c → h ≤ t → finmap.get (visible (pruned c h) h) k ≡ finmap.get (visible c h) k → finmap.get (visible (pruned c h) t) k ≡ Some r → finmap.get (visible c t) k ≡ Some r
no_more_shown c h t k r lawful l same e =
    let d = pruned c h in
    let i = visible_version d t k r e in
    let s = shows_parts d t i.version i.shown in
    let own = row_left c h i.version r i.row in
    let unended : ended_by c.ends t i.version ≡ false = ap (at_most t) (sym (end_left c h i.version own.1)) ∙ s.unended in
    let latest : list_any (replaces t i.version) (finmap.keys c.rows) ≡ false = not_from _ (λ y.
    let w = any_where (replaces t i.version) (finmap.keys c.rows) y in
    let x = key_row c.rows w.0 w.1 in
    let q = replaced_by t i.version w.0 w.2 in
    let q_later = q.later in
    elim (cases_Bool (ended_by c.ends h w.0)) [
      | inr stays ↦ none_later d t i.version w.0 x.0 s (left_row c h w.0 x.0 x.1 stays) q.same q.later q.born
      | inl goes ↦
          let g = at_most_is h (finmap.get c.ends w.0) goes in
          let dead = lawful.end_later w.0 g.0 g.1 in
          let by_h = g.2 in
          let old : i.version.born ≤ h = omega arith in
          let latest_at_h : list_any (replaces h i.version) (finmap.keys d.rows) ≡ false = not_from _ (λ z.
          let u = any_where (replaces h i.version) (finmap.keys d.rows) z in
          let o = key_row d.rows u.0 u.1 in
          let p = replaced_by h i.version u.0 u.2 in
          let p_born = p.born in
          none_later d t i.version u.0 o.0 s o.1 p.same p.later (omega arith))
          in
          let at_h : finmap.get (visible d h) k ≡ Some r = ap (finmap.get (visible d h)) i.of_key ∙ visible_row d h i.version r i.row (shows_from d h i.version (record { born = old; latest = latest_at_h; unended = sooner h t (finmap.get d.ends i.version) l s.unended })) in
          let j = visible_version c h k r (sym same ∙ at_h) in
          let z = shows_parts c h j.version j.shown in
          let z_born = z.born in
          elim (cases_lt j.version.born w.0.born) [
            | inl less ↦ none_later c h j.version w.0 x.0 z x.1 (sym j.of_key ∙ i.of_key ∙ q.same) less (omega arith)
            | inr more ↦ none_later d t i.version j.version r s (left_row c h j.version r j.row z.unended) (sym i.of_key ∙ j.of_key) (omega arith) (omega arith)
          ]
    ])
    in
    ap (finmap.get (visible c t)) i.of_key ∙ visible_row c t i.version r own.0 (shows_from c t i.version (record { born = s.born; latest = latest; unended = unended }))

-- ---- a prune that touches the past

-- a row that goes, and the row born last before it, which stays
record IsUncovered (c : Content) (h : ℕ) (k : RowKey) : Type 0 where
  version : VersionKey
  row : RowValue
  of_key : k ≡ row_key_of version
  here : finmap.get c.rows version ≡ Some row
  goes : ended_by c.ends h version ≡ true
  older : list_any (λ w. is_next_older c version w && not (ended_by c.ends h w)) (finmap.keys c.rows) ≡ true

-- between a row that stays and a later one of its key that goes
step_down : (c : Content) (h : ℕ) (k : RowKey) (n : ℕ) (v w : VersionKey) (r s : RowValue) → k ≡ row_key_of v → finmap.get c.rows v ≡ Some r → finmap.get c.rows w ≡ Some s → row_key_of w ≡ row_key_of v → w.born < v.born → v.born ≤ w.born + n → ended_by c.ends h v ≡ true → ended_by c.ends h w ≡ false → IsUncovered c h k
step_down c h k zero v w r s of e f same less near goes stays = absurd (omega arith)
step_down c h k (suc n) v w r s of e f same less near goes stays =
    elim (cases_Bool (list_any (replaces (v.born - 1) w) (finmap.keys c.rows))) [
      | inl y ↦
          let u = any_where (replaces (v.born - 1) w) (finmap.keys c.rows) y in
          let x = key_row c.rows u.0 u.1 in
          let q = replaced_by (v.born - 1) w u.0 u.2 in
          let later = q.later in
          let born = q.born in
          elim (cases_Bool (ended_by c.ends h u.0)) [
            | inl ended ↦ step_down c h k n u.0 w x.0 s (of ∙ sym same ∙ q.same) x.1 f q.same later (omega arith) ended stays
            | inr kept ↦ step_down c h k n v u.0 r x.0 of e x.1 (sym q.same ∙ same) (omega arith) (omega arith) goes kept
          ]
      | inr none ↦ record {
        version = v;
        row = r;
        of_key = of;
        here = e;
        goes = goes;
        older = any_In (λ w. is_next_older c v w && not (ended_by c.ends h w)) w (finmap.keys c.rows) (get-key c.rows w s f)
            (λ i. (replaces_from v.born w v same less (omega arith) i && not (none i)) && not (stays i));
      }
    ]

touches_from : (c : Content) (h : ℕ) (k : RowKey) → finmap.get (visible c h) k ≡ None → IsUncovered c h k → prune_touches_past c h ≡ true
touches_from c h k none u =
    let bare : finmap.get (visible c h) (row_key_of u.version) ≡ None = ap (finmap.get (visible c h)) (sym u.of_key) ∙ none in
    any_In (uncovers c h) u.version (finmap.keys c.rows) (get-key c.rows u.version u.row u.here) (λ i. u.goes i && (not (is_some (bare i)) && u.older i))

-- at the new horizon every key shows what it showed
module _ (c : Content) (h : ℕ) (clear : prune_touches_past c h ≡ false) where
  only_shown : (k : RowKey) (r : RowValue) → finmap.get (visible (pruned c h) h) k ≡ Some r → (x : Option RowValue) → finmap.get (visible c h) k ≡ x → finmap.get (visible c h) k ≡ Some r
  only_shown k r g (Some s) e = e ∙ sym (still_shown c h h k s (omega arith) e) ∙ g
  only_shown k r g None e =
      let i = visible_version (pruned c h) h k r g in
      let s = shows_parts (pruned c h) h i.version i.shown in
      let own = row_left c h i.version r i.row in
      elim (cases_Bool (list_any (replaces h i.version) (finmap.keys c.rows))) [
        | inr none ↦ ap (finmap.get (visible c h)) i.of_key ∙ visible_row c h i.version r own.0 (shows_from c h i.version (record { born = s.born; latest = none; unended = own.1 }))
        | inl y ↦
            let w = any_where (replaces h i.version) (finmap.keys c.rows) y in
            let x = key_row c.rows w.0 w.1 in
            let q = replaced_by h i.version w.0 w.2 in
            let later = q.later in
            elim (cases_Bool (ended_by c.ends h w.0)) [
              | inr stays ↦ absurd (none_later (pruned c h) h i.version w.0 x.0 s (left_row c h w.0 x.0 x.1 stays) q.same q.later q.born)
              | inl goes ↦ absurd (true≢false (sym (touches_from c h k e (step_down c h k w.0.born w.0 i.version x.0 r (i.of_key ∙ q.same) x.1 own.0 q.same q.later (omega arith) goes own.1)) ∙ clear))
            ]
      ]

  same_at_horizon : (k : RowKey) → finmap.get (visible (pruned c h) h) k ≡ finmap.get (visible c h) k
  same_at_horizon k = same_option _ _ (λ r g. only_shown k r g (finmap.get (visible c h) k) refl) (λ r g. still_shown c h h k r (omega arith) g)

  pub untouched_prune : IsLawful c → KeepsPast c (pruned c h)
  unfolding pruned
  untouched_prune lawful k t old soon = same_option _ _ (λ r g. no_more_shown c h t k r lawful old (same_at_horizon k) g) (λ r g. still_shown c h t k r old g)

-- a key shows some row, where one is born by then and none of its rows has ended
some_shown : (d : Content) (t n : ℕ) (w : VersionKey) (s : RowValue) → ((x : VersionKey) (r : RowValue) → finmap.get d.rows x ≡ Some r → ended_by d.ends t x ≡ false) → finmap.get d.rows w ≡ Some s → w.born ≤ t → t ≤ w.born + n → (r : RowValue) × (finmap.get (visible d t) (row_key_of w) ≡ Some r)
some_shown d t zero w s unended here born near = (s, visible_row d t w s here (shows_from d t w (record { born = born; latest = latest; unended = unended w s here })))
  where
    latest : list_any (replaces t w) (finmap.keys d.rows) ≡ false
    latest = not_from _ (λ y. let q = replaced_by t w (any_where (replaces t w) (finmap.keys d.rows) y).0 (any_where (replaces t w) (finmap.keys d.rows) y).2 in let later = q.later in let soon = q.born in omega arith)
some_shown d t (suc n) w s unended here born near =
    elim (cases_Bool (list_any (replaces t w) (finmap.keys d.rows))) [
      | inr none ↦ (s, visible_row d t w s here (shows_from d t w (record { born = born; latest = none; unended = unended w s here })))
      | inl y ↦
          let u = any_where (replaces t w) (finmap.keys d.rows) y in
          let x = key_row d.rows u.0 u.1 in
          let q = replaced_by t w u.0 u.2 in
          let later = q.later in
          let found = some_shown d t n u.0 x.0 unended x.1 q.born (omega arith) in
          (found.0, ap (finmap.get (visible d t)) q.same ∙ found.1)
    ]

is_not : (b : Bool) → not b ≡ true → b ≡ false
is_not true e = sym e
is_not false e = refl

-- a row that is shown, where there was none, changes the past
touched_shows : (c : Content) (h : ℕ) → IsLawful c → prune_touches_past c h ≡ true → ((k : RowKey) → finmap.get (visible (pruned c h) h) k ≡ finmap.get (visible c h) k) → ⊥
touched_shows c h lawful touched same =
    let v = any_where (uncovers c h) (finmap.keys c.rows) touched in
    let a = and_parts (ended_by c.ends h v.0) _ v.2 in
    let b = and_parts (not (is_some (finmap.get (visible c h) (row_key_of v.0)))) _ a.1 in
    let w = any_where (λ w. is_next_older c v.0 w && not (ended_by c.ends h w)) (finmap.keys c.rows) b.1 in
    let g = and_parts (is_next_older c v.0 w.0) (not (ended_by c.ends h w.0)) w.2 in
    let q = replaced_by v.0.born w.0 v.0 (and_parts (replaces v.0.born w.0 v.0) _ g.0).0 in
    let later = q.later in
    let x = key_row c.rows w.0 w.1 in
    let dead = at_most_is h (finmap.get c.ends v.0) a.0 in
    let end = lawful.end_later v.0 dead.0 dead.1 in
    let by_h = dead.2 in
    let shown = some_shown (pruned c h) h h w.0 x.0 (λ y r e. let own = row_left c h y r e in ap (at_most h) (end_left c h y own.1) ∙ own.1) (left_row c h w.0 x.0 x.1 (is_not _ g.1)) (omega arith) (omega arith) in
    true≢false (sym (ap is_some (sym (same (row_key_of v.0)) ∙ ap (finmap.get (visible (pruned c h) h)) (sym q.same) ∙ shown.1)) ∙ is_not _ b.0)

-- nothing has ended by the horizon of what is lawful
pub none_ended : (c : Content) (h : ℕ) → IsLawful c → h ≤ c.horizon → (v : VersionKey) → ended_by c.ends h v ≡ false
none_ended c h lawful low v = not_from _ (λ y.
    let dead = at_most_is h (finmap.get c.ends v) y in
    let above = lawful.end_above v dead.0 dead.1 in
    let by_h = dead.2 in
    omega arith)

untouched_below : (c : Content) (h : ℕ) → IsLawful c → h ≤ c.horizon → prune_touches_past c h ≡ false
untouched_below c h lawful low = not_from _ (λ y.
    let v = any_where (uncovers c h) (finmap.keys c.rows) y in
    true≢false (sym (and_parts (ended_by c.ends h v.0) _ v.2).0 ∙ none_ended c h lawful low v.0))

above_case : (c : Content) (h : ℕ) → IsLawful c → h ≤ readable c → (prune_touches_past c h ≡ false) ↔ KeepsPast c (pruned c h)
unfolding pruned
above_case c h lawful within = (
  λ clear. untouched_prune c h clear lawful,
  λ keeps. not_from (prune_touches_past c h) (λ y. touched_shows c h lawful y (λ k. keeps k h (omega arith) within)),
)

pub prune_untouched : PruneUntouched
unfolding pruned
prune_untouched c h d lawful e =
    elim (nat_lt (readable c) h) as (λ b. nat_lt (readable c) h ≡ b → ◌≡◌ {A = Result Content Refusal} (cond b (Err (AheadOfMark (readable c))) (cond (nat_le h c.horizon) (Ok c) (Ok (pruned c h)))) (Ok d) → (prune_touches_past c h ≡ false) ↔ KeepsPast c d) [
      | true ↦ λ t f. absurd cc
      | false ↦ λ t f. elim (nat_le h c.horizon) as (λ b. nat_le h c.horizon ≡ b → ◌≡◌ {A = Result Content Refusal} (cond b (Ok c) (Ok (pruned c h))) (Ok d) → (prune_touches_past c h ≡ false) ↔ KeepsPast c d) [
        | true ↦ λ l g. let s = same_Ok c d g in subst (λ (x : Content). (prune_touches_past c h ≡ false) ↔ KeepsPast c x) s (λ n. past_itself c, λ keeps. untouched_below c h lawful (leb-true h c.horizon l))
        | false ↦ λ l g. let s = same_Ok (pruned c h) d g in subst (λ (x : Content). (prune_touches_past c h ≡ false) ↔ KeepsPast c x) s (above_case c h lawful (ltb-false (readable c) h t))
      ] refl f
    ] refl e

pub honest_prune : HonestPrune
honest_prune config h is p g k a sa within =
    let j = pruned_past config h is p g k a sa within in
    (prune_untouched a k j.0 (represents_lawful config h is p g a sa) j.1).1 j.3

-- A lawful content that is merged into itself stays as it is.
use Rattle.std.proofs.Common.{◌≡◌, refl, sym, ap, ◌∙◌, ℕ, ◌<◌, Bool, true, false, cond, not, ◌&&◌, ◌||◌, ◌==◌, nat_lt, nat_le, nat_cmp, max, Option, Some, None, List, [], ◌∷◌, ◌++◌, length, All, Ok, Err, arith, eq-eqb}
use Rattle.std.proofs.lemmas.Bool.Decides.{nat_tests}
use Rattle.std.proofs.lemmas.List.Elements.{All-head, All-tail}
use Rattle.std.specs.Cmp.{nat_cmp_total}
use Rattle.std.specs.FinMap as finmap
use Rattle.std.specs.FinSet as set
use Rattle.hk_types.specs.declared.faults.Refusal.TheVariants.{ForeignLog, WrongStreams, Gap, Conflict}
use Rattle.hk_types.specs.declared.version_key.VersionKey.{VersionKey}
use Rattle.hk_types.specs.Values.{same_row}
use Rattle.hk_model.specs.Replica.Maps.{or_else, maps_conflict, values_conflict}
use Rattle.hk_model.specs.Replica.Content.{Content, readable, at_most, ended_by, without_ended}
use Rattle.hk_model.specs.Replica.Fragments.{cut}
use Rattle.hk_model.specs.Replica.Lawful.{IsLawful, IsLawfulStream}
use Rattle.hk_model.specs.Replica.Rules.{contents_conflict, content_after_join, merge_result}
use Rattle.hk_model.specs.Replica.Streams.{StreamContent, covers, greatest_covered, by_count, stream_with, together, all_together}
use Rattle.hk_model.proofs.Replica.Joins.{alike_differ, same_row_if}
use Rattle.hk_model.proofs.Replica.Maps.{version_key_total, version_key_same, get-union, get-retain, get-without_ended, no_entry_conflict}
use Rattle.hk_model.proofs.Replica.Repeats.{settled_itself}
use Rattle.hk_model.proofs.Replica.Streams.{later, latest, latest-append, get-by_count, together-settled}
use Rattle.hk_model.proofs.Replica.Streams.{no_gap_at_0}

-- ---- streams

union_itself : (s : set.FinSet nat_cmp) → set.union s s ≡ s
union_itself s = set.same_set nat_cmp_total finmap.nat_cmp-IsAntisymmetric _ _ (λ q. set.contains-union nat_cmp_total s s q ∙ twice (set.contains s q))
  where
    twice : (b : Bool) → (b || b) ≡ b
    twice true = refl
    twice false = refl

later_itself : (x : Option ℕ) → later x x ≡ x
later_itself None = refl
later_itself (Some a) = let e : max a a ≡ a = omega arith in ap Some e

greatest_both : (t : set.FinSet nat_cmp) (ms ns : List (ℕ × ℕ)) → greatest_covered t (ms ++ ns) ≡ max (greatest_covered t ms) (greatest_covered t ns)
greatest_both t [] ns = omega arith
greatest_both t (m ∷ ms) ns =
    ap (λ g. cond (covers t m.0) (max m.1 g) g) (greatest_both t ms ns) ∙ by (covers t m.0) m.1 (greatest_covered t ms) (greatest_covered t ns)
  where
    by : (b : Bool) (k x y : ℕ) → cond b (max k (max x y)) (max x y) ≡ max (cond b (max k x) x) y
    by true k x y = omega arith
    by false k x y = refl

settled_twice : (t : set.FinSet nat_cmp) (c : ℕ) (ms : List (ℕ × ℕ)) → stream_with t c (ms ++ ms) ≡ stream_with t c ms
settled_twice t c ms = λ i. record {
  taken = t;
  closed = max c ((greatest_both t ms ms ∙ same (greatest_covered t ms)) i);
  waiting = finmap.retain_keys (counted i) (λ q. not (covers t q));
}
  where
    same : (g : ℕ) → max g g ≡ g
    same g = omega arith

    counted : by_count (ms ++ ms) ≡ by_count ms
    counted = finmap.same_map nat_cmp_total finmap.nat_cmp-IsAntisymmetric _ _ (λ q. get-by_count (ms ++ ms) q ∙ latest-append ms ms q ∙ later_itself (latest ms q) ∙ sym (get-by_count ms q))

together_itself : (s : StreamContent) → IsLawfulStream s → together s s ≡ s
together_itself s l =
    (λ i. together (sym (settled_itself s l) i) (sym (settled_itself s l) i))
    ∙ together-settled s.taken s.taken s.closed s.closed (finmap.entries s.waiting) (finmap.entries s.waiting)
    ∙ (λ i. stream_with (union_itself s.taken i) (same s.closed i) (finmap.entries s.waiting ++ finmap.entries s.waiting))
    ∙ settled_twice s.taken s.closed (finmap.entries s.waiting)
    ∙ settled_itself s l
  where
    same : (g : ℕ) → max g g ≡ g
    same g = omega arith

all_itself : (ss : List StreamContent) → All IsLawfulStream ss → all_together ss ss ≡ ss
all_itself [] all = refl
all_itself (s ∷ ss) all = λ i. together_itself s (All-head IsLawfulStream s ss all) i ∷ all_itself ss (All-tail IsLawfulStream s ss all) i

-- ---- facts

-- a fact that stays is not changed by what is left of it
stays : {X : Type 0} (p q r : Bool) (x : Option X) → ((a : X) → x ≡ Some a → p ≡ true) → or_else (cond p x None) (cond q (cond r x None) None) ≡ x
stays p q r None h = nothing p q r
  where
    nothing : {X : Type 0} (p q r : Bool) → or_else {X = X} (cond p None None) (cond q (cond r None None) None) ≡ None
    nothing true true true = refl
    nothing true true false = refl
    nothing true false r = refl
    nothing false true true = refl
    nothing false true false = refl
    nothing false false r = refl
stays p q r (Some a) h = ap (λ b. or_else (cond b (Some a) None) (cond q (cond r (Some a) None) None)) (h a refl)

left_of : {X : Type 0} (r : Bool) (x : Option X) (b : X) → cond r x None ≡ Some b → x ≡ Some b
left_of true x b e = e
left_of false x b e = cc

one_of : {X : Type 0} (a b : X) (x : Option X) → x ≡ Some a → x ≡ Some b → a ≡ b
one_of a b x e f = cc

module _ (c : Content) (l : IsLawful c) where
  alive : (v : VersionKey) (x : Option ℕ) → finmap.get c.ends v ≡ x → at_most (max c.horizon c.horizon) x ≡ false
  alive v None e = refl
  alive v (Some d) e = let above = l.end_above v d e in not_yet d above
    where
      not_yet : (d : ℕ) → c.horizon < d → nat_le d (max c.horizon c.horizon) ≡ false
      not_yet d above = grind (arith, nat_tests)

  same_horizon : (c.horizon == max c.horizon c.horizon) ≡ true
  same_horizon = let e : c.horizon ≡ max c.horizon c.horizon = omega arith in eq-eqb c.horizon (max c.horizon c.horizon) e

  kept : (v : VersionKey) → (nat_lt (max c.horizon c.horizon) v.born || (((c.horizon == max c.horizon c.horizon) || nat_lt 0 0) && not (ended_by c.ends (max c.horizon c.horizon) v))) ≡ true
  kept v = (λ i. nat_lt (max c.horizon c.horizon) v.born || ((same_horizon i || nat_lt 0 0) && not (alive v (finmap.get c.ends v) refl i))) ∙ either (nat_lt (max c.horizon c.horizon) v.born)
    where
      either : (b : Bool) → (b || true) ≡ true
      either true = refl
      either false = refl

  abbrev own : VersionKey → Bool
  own v = nat_lt (max c.horizon c.horizon) v.born || (((c.horizon == max c.horizon c.horizon) || nat_lt 0 0) && not (ended_by c.ends (max c.horizon c.horizon) v))

  abbrev sent : VersionKey → Bool
  sent v = nat_lt (max c.horizon c.horizon) v.born || ((0 == 0) && (c.horizon == max c.horizon c.horizon))

  sent_row : (v : VersionKey) → finmap.get (finmap.retain_keys (cut c 0).content.rows sent) v ≡ cond (sent v) (cond (nat_lt 0 v.born) (finmap.get c.rows v) None) None
  sent_row v = get-retain version_key_total version_key_same (cut c 0).content.rows sent v ∙ ap (λ x. cond (sent v) x None) (get-retain version_key_total version_key_same c.rows (λ w. nat_lt 0 w.born) v)

  same_rows : (content_after_join c (cut c 0)).rows ≡ c.rows
  same_rows = finmap.same_map version_key_total version_key_same _ _ (λ v.
      get-union version_key_total version_key_same (finmap.retain_keys c.rows own) (finmap.retain_keys (cut c 0).content.rows sent) v
      ∙ (λ i. or_else (get-retain version_key_total version_key_same c.rows own v i) (sent_row v i))
      ∙ stays (own v) (sent v) (nat_lt 0 v.born) (finmap.get c.rows v) (λ a e. kept v))

  abbrev old : ℕ → Option ℕ → Option ℕ
  old t x = cond (not (at_most t x)) x None

  sent_end : (v : VersionKey) → finmap.get (without_ended (cut c 0).content.ends (max c.horizon c.horizon) (cut c 0).content.ends) v ≡ old (max c.horizon c.horizon) (old 0 (finmap.get c.ends v))
  sent_end v = get-without_ended (cut c 0).content.ends (max c.horizon c.horizon) (cut c 0).content.ends v ∙ ap (old (max c.horizon c.horizon)) (get-without_ended c.ends 0 c.ends v)

  same_ends : (content_after_join c (cut c 0)).ends ≡ c.ends
  same_ends = finmap.same_map version_key_total version_key_same _ _ (λ v.
      get-union version_key_total version_key_same (without_ended c.ends (max c.horizon c.horizon) c.ends) (without_ended (cut c 0).content.ends (max c.horizon c.horizon) (cut c 0).content.ends) v
      ∙ (λ i. or_else (get-without_ended c.ends (max c.horizon c.horizon) c.ends v i) (sent_end v i))
      ∙ stays (not (at_most (max c.horizon c.horizon) (finmap.get c.ends v))) (not (at_most (max c.horizon c.horizon) (old 0 (finmap.get c.ends v)))) (not (at_most 0 (finmap.get c.ends v))) (finmap.get c.ends v) (λ d e. ap not (alive v (finmap.get c.ends v) refl)))

  same_content : content_after_join c (cut c 0) ≡ c
  same_content = let e : max c.horizon c.horizon ≡ c.horizon = omega arith in
      λ i. record { log = c.log; horizon = e i; rows = same_rows i; ends = same_ends i; streams = all_itself c.streams l.streams i }

  rows_agree : maps_conflict same_row c.rows (cut c 0).content.rows ≡ false
  rows_agree = no_entry_conflict version_key_total version_key_same same_row c.rows (cut c 0).content.rows (λ v.
      ap (λ x. values_conflict same_row (finmap.get c.rows v) x) (get-retain version_key_total version_key_same c.rows (λ w. nat_lt 0 w.born) v)
      ∙ alike_differ same_row (finmap.get c.rows v) _ (λ a b e f. same_row_if a b (one_of a b (finmap.get c.rows v) e (left_of (nat_lt 0 v.born) (finmap.get c.rows v) b f))))

  ends_agree : maps_conflict (λ a b. a == b) c.ends (cut c 0).content.ends ≡ false
  ends_agree = no_entry_conflict version_key_total version_key_same (λ a b. a == b) c.ends (cut c 0).content.ends (λ v.
      ap (λ x. values_conflict (λ a b. a == b) (finmap.get c.ends v) x) (get-without_ended c.ends 0 c.ends v)
      ∙ alike_differ (λ a b. a == b) (finmap.get c.ends v) _ (λ a b e f. eq-eqb a b (one_of a b (finmap.get c.ends v) e (left_of _ (finmap.get c.ends v) b f))))

  pub merged_itself : merge_result c c ≡ Ok c
  merged_itself =
      let log : (c.log == c.log) ≡ true = eq-eqb c.log c.log refl in
      let many : (length c.streams == length c.streams) ≡ true = eq-eqb (length c.streams) (length c.streams) refl in
      let agree : contents_conflict c (cut c 0).content ≡ false = (λ i. rows_agree i || ends_agree i) in
      (λ i. cond (not (log i)) (Err ForeignLog) (cond (not (many i)) (Err WrongStreams) (cond (no_gap_at_0 (readable c) i) (Err (Gap 0 (readable c))) (cond (agree i) (Err Conflict) (Ok (content_after_join c (cut c 0)))))))
      ∙ ap (λ d. Ok d) same_content

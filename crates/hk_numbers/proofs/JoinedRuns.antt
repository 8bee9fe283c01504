-- Runs that are joined one by one.
use Rattle.std.proofs.Common.{◌≡◌, refl, sym, ap, ◌∙◌, subst, ℕ, ◌<◌, ◌≤◌, Bool, true, false, true≢false, cond, nat_cmp, Some, arith, List, [], ◌∷◌, length, ◌⊎◌, inl, inr, ◌||◌, Result, Ok, Err, OnErr, IsOk}
use Rattle.std.specs.Ordering.{is_eq}
use Rattle.std.specs.Cmp.{nat_cmp_total}
use Rattle.std.specs.FinMap as finmap
use Rattle.std.specs.FinSet as set
use Rattle.std.specs.BTreeMap as tree
use Rattle.std.specs.BTreeMap.{BTreeMap}
use Rattle.hk_numbers.specs.Runs.{end_of, AreKept, AreRuns, Holds, HasRoomAt, HasRoomFor, HasSome, KeepsRoom, SameNumbers, AddsSpan, Unites, numbers_in, numbers_seen, span}
use Rattle.hk_numbers.proofs.SeenRuns.{Decides-seen, Decides-or, Decides-same, Decides-span, or_is, none_some, end_in, tied, empty_seen}

abbrev pub Listed : List (ℕ × ℕ) → ℕ → Type 0
Listed es q = set.contains (numbers_in es) q ≡ true

pub all_listed : (others : BTreeMap ℕ ℕ) → AreRuns others → (es : List (ℕ × ℕ)) → es ≡ others.entries → (q : ℕ) → Holds others q → Listed es q
unfolding numbers_seen
all_listed others runs es is q h = ap (λ (l : List (ℕ × ℕ)). set.contains (numbers_in l) q) is ∙ (Decides-seen others runs.ordered q).1 h

pub none_listed : (es : List (ℕ × ℕ)) → es ≡ [] → (q : ℕ) → Listed es q → ⊥
none_listed es is q l = true≢false (sym l ∙ ap (λ (l : List (ℕ × ℕ)). set.contains (numbers_in l) q) is ∙ set.contains-empty nat_cmp q)

one_listed : (first end : ℕ) (es rest : List (ℕ × ℕ)) → es ≡ (first, end) ∷ rest → (q : ℕ) → Listed es q → ((first ≤ q) × (q < end)) ⊎ Listed rest q
one_listed first end es rest is q l =
    or_is _ _ _ (sym (set.contains-union nat_cmp_total (span first end) (numbers_in rest) q) ∙ sym (ap (λ (l : List (ℕ × ℕ)). set.contains (numbers_in l) q) is) ∙ l)
    (λ here. inl ((Decides-span first end q).0 here))
    (λ later. inr later)

pub record Joins (old others now : BTreeMap ℕ ℕ) (left : List (ℕ × ℕ)) : Type 0 where
  pub only : (q : ℕ) → Holds now q → Holds old q ⊎ Holds others q
  pub kept : (q : ℕ) → Holds old q → Holds now q
  pub added : (q : ℕ) → Holds others q → Holds now q ⊎ Listed left q

pub joins_more : (old others m n : BTreeMap ℕ ℕ) (first end : ℕ) (es rest : List (ℕ × ℕ)) → es ≡ (first, end) ∷ rest → end_of others first ≡ Some end → AddsSpan m n first end
    → ((q : ℕ) → Holds m q → Holds old q ⊎ Holds others q) → ((q : ℕ) → Holds old q → Holds m q) → ((q : ℕ) → Holds others q → Holds m q ⊎ Listed es q)
    → Joins old others n rest
joins_more old others m n first end es rest is there adds only kept added = record {
  only = λ q h. elim (adds.only q h) [ inl before ↦ only q before | inr p ↦ inr (record { first = first; end = end; there = there; from = p.0; below = p.1 }) ];
  kept = λ q h. adds.kept q (kept q h);
  added = λ q h. elim (added q h) [
    | inl before ↦ inl (adds.kept q before)
    | inr l ↦ elim (one_listed first end es rest is q l) [ inl p ↦ inl (adds.added q p.0 p.1) | inr later ↦ inr later ]
  ];
}

pub all_joined : (old others now : BTreeMap ℕ ℕ) (es : List (ℕ × ℕ)) → es ≡ []
    → ((q : ℕ) → Holds now q → Holds old q ⊎ Holds others q) → ((q : ℕ) → Holds old q → Holds now q) → ((q : ℕ) → Holds others q → Holds now q ⊎ Listed es q)
    → Unites old others now
all_joined old others now es none only kept added = record {
  only = only;
  kept = kept;
  added = λ q h. elim (added q h) [ inl there ↦ there | inr l ↦ absurd (none_listed es none q l) ];
}

-- ---- where the runs of a list begin

abbrev pub begins : List (ℕ × ℕ) → ℕ → Bool
begins [] a = false
begins (e ∷ es) a = is_eq (nat_cmp a e.0) || begins es a

found_begins : (es : List (ℕ × ℕ)) (a e : ℕ) → end_in es a ≡ Some e → begins es a ≡ true
found_begins [] a e is = cc
found_begins (x ∷ xs) a e is = by (found_begins xs a e) (is_eq (nat_cmp a x.0)) is
  where
    by : (end_in xs a ≡ Some e → begins xs a ≡ true) → (t : Bool) → cond t (Some x.1) (end_in xs a) ≡ Some e → (t || begins xs a) ≡ true
    by rest true f = refl
    by rest false f = rest f

pub all_begin : (others : BTreeMap ℕ ℕ) (es : List (ℕ × ℕ)) → es ≡ others.entries → (a e : ℕ) → end_of others a ≡ Some e → begins es a ≡ true
all_begin others es is a e there = found_begins es a e (ap (λ (l : List (ℕ × ℕ)). end_in l a) is ∙ there)

pub none_begins : (es : List (ℕ × ℕ)) → es ≡ [] → (a : ℕ) → begins es a ≡ true → ⊥
none_begins es is a b = true≢false (sym b ∙ ap (λ (l : List (ℕ × ℕ)). begins l a) is)

pub one_begins : (first end : ℕ) (es rest : List (ℕ × ℕ)) → es ≡ (first, end) ∷ rest → (a : ℕ) → begins es a ≡ true → (a ≡ first) ⊎ (begins rest a ≡ true)
one_begins first end es rest is a b =
    or_is _ _ _ (sym (ap (λ (l : List (ℕ × ℕ)). begins l a) is) ∙ b) (λ here. inl (tied a first here)) (λ later. inr later)

same_end : (e f : ℕ) → Some e ≡ Some f → e ≡ f
same_end e f is = cc

pub room_more : (others m n : BTreeMap ℕ ℕ) (first end : ℕ) (es rest : List (ℕ × ℕ)) → es ≡ (first, end) ∷ rest → end_of others first ≡ Some end → (first < end → HasRoomAt n first) → KeepsRoom m n
    → ((a e : ℕ) → end_of others a ≡ Some e → a < e → HasRoomAt m a ⊎ (begins es a ≡ true))
    → (a e : ℕ) → end_of others a ≡ Some e → a < e → HasRoomAt n a ⊎ (begins rest a ≡ true)
room_more others m n first end es rest is ends here keeps room a e there some =
    elim (room a e there some) [
      | inl before ↦ inl (keeps a before)
      | inr b ↦ elim (one_begins first end es rest is a b) [
        | inl s ↦ inl (let P : ℕ → Type 0 = λ q. HasRoomAt n q in
            subst P (sym s) (here (let same : e ≡ end = same_end e end (sym there ∙ ap (end_of others) s ∙ ends) in omega (arith, some))))
        | inr later ↦ inr later
      ]
    ]

pub room_all : (others now : BTreeMap ℕ ℕ) (es : List (ℕ × ℕ)) → es ≡ []
    → ((a e : ℕ) → end_of others a ≡ Some e → a < e → HasRoomAt now a ⊎ (begins es a ≡ true)) → HasRoomFor others now
room_all others now es none room a e there some = elim (room a e there some) [ inl h ↦ h | inr b ↦ absurd (none_begins es none a b) ]

-- ---- where nothing is refused

pub on_error : {A E P : Type 0} (r : Result A E) → P → OnErr r P
on_error (Ok a) p = tt
on_error (Err e) p = p

pub some_there : (others : BTreeMap ℕ ℕ) (first end : ℕ) → end_of others first ≡ Some end → first < end → HasSome others
some_there others first end there more = record { number = first; held = record { first = first; end = end; there = there; from = omega arith; below = more } }

pub none_refused : {A E : Type 0} (others : BTreeMap ℕ ℕ) → AreRuns others → (r : Result A E) → OnErr r (HasSome others) → numbers_seen others ≡ set.empty → IsOk r
none_refused others runs (Ok a) some none = refl
none_refused others runs (Err e) some none =
    absurd (true≢false (sym ((Decides-seen others runs.ordered some.number).1 some.held) ∙ ap (λ (s : set.FinSet nat_cmp). set.contains s some.number) none ∙ set.contains-empty nat_cmp some.number))

pub seen_same : (old new : BTreeMap ℕ ℕ) → AreRuns old → AreRuns new → SameNumbers old new → numbers_seen new ≡ numbers_seen old
seen_same old new r t same = set.same_set nat_cmp_total finmap.nat_cmp-IsAntisymmetric _ _ (λ q.
    Decides-same _ _ (Holds new q) (Holds old q) (same.only q) (same.kept q) (Decides-seen new t.ordered q) (Decides-seen old r.ordered q))

either : (old others new : BTreeMap ℕ ℕ) → Unites old others new → (q : ℕ) → (Holds old q ⊎ Holds others q) → Holds new q
either old others new u q (inl h) = u.kept q h
either old others new u q (inr h) = u.added q h

pub seen_union : (old others new : BTreeMap ℕ ℕ) → AreRuns old → AreRuns others → AreRuns new → Unites old others new → numbers_seen new ≡ set.union (numbers_seen old) (numbers_seen others)
seen_union old others new r s t u = set.same_set nat_cmp_total finmap.nat_cmp-IsAntisymmetric _ _ (λ q.
    Decides-same _ _ (Holds new q) (Holds old q ⊎ Holds others q) (u.only q) (either old others new u q)
    (Decides-seen new t.ordered q)
    (Decides-or _ _ _ _ (Decides-seen old r.ordered q) (Decides-seen others s.ordered q))
    ∙ sym (set.contains-union nat_cmp_total (numbers_seen old) (numbers_seen others) q))

holds_none : (none : BTreeMap ℕ ℕ) → tree.IsEmpty none → (q : ℕ) → Holds none q → ⊥
holds_none none is q h = none_some ⊥ h.end (end_of none h.first) (ap (λ (es : List (ℕ × ℕ)). end_in es h.first) is) h.there

pub seen_copied : (none room others new : BTreeMap ℕ ℕ) → tree.IsEmpty none → AreKept others → SameNumbers none room → AreRuns new → Unites room others new → numbers_seen new ≡ numbers_seen others
seen_copied none room others new is kept same t u = set.same_set nat_cmp_total finmap.nat_cmp-IsAntisymmetric _ _ (λ q.
    Decides-same _ _ (Holds new q) (Holds others q)
    (λ h. elim (u.only q h) [ inl x ↦ absurd (holds_none none is q (same.only q x)) | inr y ↦ y ])
    (u.added q)
    (Decides-seen new t.ordered q) (Decides-seen others kept.proper.ordered q))

-- ---- where a tree is empty

pub no_entries : (es : List (ℕ × ℕ)) → length es ≡ 0 → es ≡ []
no_entries [] none = refl
no_entries (x ∷ xs) none = absurd (omega arith)

-- runs without any have no number
pub none_seen : (none : BTreeMap ℕ ℕ) (q : ℕ) → length none.entries ≡ 0 → false ≡ set.contains (numbers_seen none) q
none_seen none q is = sym (ap (λ (s : set.FinSet nat_cmp). set.contains s q) (empty_seen none (no_entries none.entries is)) ∙ set.contains-empty nat_cmp q)

-- with those of none they are as they were
pub seen_with_none : (runs none : BTreeMap ℕ ℕ) → AreRuns runs → AreRuns none → length none.entries ≡ 0 → numbers_seen runs ≡ set.union (numbers_seen runs) (numbers_seen none)
seen_with_none runs none r s is = seen_union runs none runs r s r (record {
  only = λ q h. inl h;
  kept = λ q h. h;
  added = λ q h. absurd (holds_none none (no_entries none.entries is) q h);
})

-- both without any have the same numbers
pub seen_both_none : (one none : BTreeMap ℕ ℕ) → tree.IsEmpty one → length none.entries ≡ 0 → numbers_seen one ≡ numbers_seen none
seen_both_none one none e is = empty_seen one e ∙ sym (empty_seen none (no_entries none.entries is))

-- What a content shows of one key at a time rests on the facts of that key up to the time.
use Rattle.std.proofs.Common.{◌≡◌, sym, ap, ◌∙◌, ℕ, true, false, Some, ◌==◌, ◌&&◌, ◌<◌, ◌≤◌, nat_le, nat_lt, leb-true, eqb-true, true≢false, ltb-true}
use Rattle.std.proofs.lemmas.Bool.{and_parts}
use Rattle.std.specs.List.{list_any}
use Rattle.std.specs.FinMap as finmap
use Rattle.hk_model.proofs.Replica.Maps.{version_key_total}
use Rattle.hk_model.proofs.Replica.Members.{In, In-map}
use Rattle.hk_model.proofs.Replica.Visible.{get_entry, any_where, not_from}
use Rattle.hk_model.proofs.Replica.Same.{same_option}
use Rattle.hk_model.proofs.Replica.Shown.{any_In, get-key, shows_parts, shows_from, replaces_from, visible_row, visible_version}
use Rattle.hk_types.specs.Values.{RowValue}
use Rattle.hk_types.specs.declared.version_key.VersionKey.{VersionKey}
use Rattle.hk_model.specs.History.Rows.{RowKey, version_key_cmp, row_key_of}
use Rattle.hk_model.specs.Replica.Content.{Content, at_most}
use Rattle.hk_model.specs.Replica.Answers.{replaces, visible}

-- a later version of the row that is born by t
pub record IsReplacedBy (t : ℕ) (v w : VersionKey) : Type 0 where
  pub same : row_key_of v ≡ row_key_of w
  pub later : v.born < w.born
  pub born : w.born ≤ t

pub replaced_by : (t : ℕ) (v w : VersionKey) → replaces t v w ≡ true → IsReplacedBy t v w
replaced_by t v w e =
    let a = and_parts (((v.table == w.table) && (v.key == w.key)) && nat_lt v.born w.born) (nat_le w.born t) e in
    let b = and_parts ((v.table == w.table) && (v.key == w.key)) (nat_lt v.born w.born) a.0 in
    let c = and_parts (v.table == w.table) (v.key == w.key) b.0 in
    record {
      same = λ i. record { table = eqb-true v.table w.table c.0 i; key = eqb-true v.key w.key c.1 i };
      later = ltb-true v.born w.born b.1;
      born = leb-true w.born t a.1;
    }

pub key_row : {X : Type 0} (m : finmap.FinMap version_key_cmp X) (v : VersionKey) → In v (finmap.keys m) → (x : X) × (finmap.get m v ≡ Some x)
key_row m v i =
    let e = In-map (λ (z : VersionKey × _). z.0) v (finmap.entries m) i in
    (e.0.1, ap (finmap.get m) e.2 ∙ get_entry version_key_cmp version_key_total m e.0.0 e.0.1 e.1)

-- of one key: c's rows born by s are d's born by t and the other way round, and of these versions c ends by s those that d ends by t
pub record IsAlike (c : Content) (s : ℕ) (d : Content) (t : ℕ) (k : RowKey) : Type 0 where
  pub rows_to : (v : VersionKey) (r : RowValue) → k ≡ row_key_of v → finmap.get c.rows v ≡ Some r → v.born ≤ s → (finmap.get d.rows v ≡ Some r) × (v.born ≤ t)
  pub rows_from : (v : VersionKey) (r : RowValue) → k ≡ row_key_of v → finmap.get d.rows v ≡ Some r → v.born ≤ t → (finmap.get c.rows v ≡ Some r) × (v.born ≤ s)
  pub ends : (v : VersionKey) (r : RowValue) → k ≡ row_key_of v → finmap.get c.rows v ≡ Some r → v.born ≤ s → at_most t (finmap.get d.ends v) ≡ at_most s (finmap.get c.ends v)

pub alike_back : (c : Content) (s : ℕ) (d : Content) (t : ℕ) (k : RowKey) → IsAlike c s d t k → IsAlike d t c s k
alike_back c s d t k a = record {
  rows_to = a.rows_from;
  rows_from = a.rows_to;
  ends = λ v r of e l. let there = a.rows_from v r of e l in sym (a.ends v r of there.0 there.1);
}

shown_too : (c : Content) (s : ℕ) (d : Content) (t : ℕ) (k : RowKey) → IsAlike c s d t k → (r : RowValue) → finmap.get (visible c s) k ≡ Some r → finmap.get (visible d t) k ≡ Some r
shown_too c s d t k a r e =
    let l = visible_version c s k r e in
    let p = shows_parts c s l.version l.shown in
    let there = a.rows_to l.version r l.of_key l.row p.born in
    let latest : list_any (replaces t l.version) (finmap.keys d.rows) ≡ false = not_from _ (λ y.
    let w = any_where (replaces t l.version) (finmap.keys d.rows) y in
    let x = key_row d.rows w.0 w.1 in
    let q = replaced_by t l.version w.0 w.2 in
    let old = a.rows_from w.0 x.0 (l.of_key ∙ q.same) x.1 q.born in
    true≢false (sym (any_In (replaces s l.version) w.0 (finmap.keys c.rows) (get-key c.rows w.0 x.0 old.0) (replaces_from s l.version w.0 q.same q.later old.1)) ∙ p.latest))
    in
    let shown = shows_from d t l.version (record { born = there.1; latest = latest; unended = a.ends l.version r l.of_key l.row p.born ∙ p.unended }) in
    ap (finmap.get (visible d t)) l.of_key ∙ visible_row d t l.version r there.0 shown

-- so the key shows the same row
pub alike_shows : (c : Content) (s : ℕ) (d : Content) (t : ℕ) (k : RowKey) → IsAlike c s d t k → finmap.get (visible d t) k ≡ finmap.get (visible c s) k
alike_shows c s d t k a = same_option (finmap.get (visible d t) k) (finmap.get (visible c s) k) (shown_too d t c s k (alike_back c s d t k a)) (shown_too c s d t k a)

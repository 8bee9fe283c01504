-- What a loop that reads numbers or marks into a stream has done so far.
use Rattle.std.proofs.Common.{◌≡◌, refl, sym, ap, subst, ◌∙◌, ℕ, ◌+◌, ◌-◌, ◌<◌, ◌≤◌, List, [], ◌∷◌, ◌++◌, length, set as set_at, Option, Some, None, Result, Ok, Err, OnOk, IfErr, false, arith}
use Rattle.std.specs.Result.{is_err}
use Rattle.std.specs.FinMap as finmap
use Rattle.std.proofs.lemmas.List.{get_or-set_same, set-set, set-get_or}
use Rattle.hk_model.specs.Replica.Streams.{StreamContent, stream_at, unknown}
use Rattle.hk_marks.specs.Steps.{with_number, with_mark}
use Rattle.hk_frames.specs.declared.cursor.ReadError.{ReadError}
use Rattle.hk_frames.specs.Fields.{Fails}
use Rattle.hk_frames.proofs.ReadingLoop.{with_front, goes_on, ends, is_done}
use Rattle.hk_types.specs.declared.faults.FormFault.{FormFault}
use Rattle.hk_answers.specs.Readers.{Chained}
use Rattle.hk_fragment_bytes.specs.Fragments.{extra_at, waiting_at, ExtraFits, WaitingFits}
use Rattle.hk_fragment_bytes.specs.FragmentSteps.{stream_made, extras_at, waits_at, TakesExtra, TakesWaits, IsReady}
use Rattle.hk_fragment_bytes.proofs.ListsInOrder.{last_of, last_more, chained_more}
use Rattle.hk_fragment_bytes.proofs.StreamRead.{extra_more, waits_more}

-- a stream set in its place
pub at_its_place : (got : List StreamContent) (s : ℕ) (x : StreamContent) → 1 ≤ s → s ≤ length got → stream_at (set_at got (s - 1) x) s ≡ x
at_its_place got s x least most = get_or-set_same got (s - 1) x unknown (omega arith)

-- the numbers that were read so far, in the stream and in the bytes
pub record ExtraSoFar (prefix closed s count i : ℕ) (old got : List StreamContent) (before : Option ℕ) (bytes rest : List ℕ) : Type 0 where
  pub extra : List ℕ
  pub state : got ≡ set_at old (s - 1) (stream_made (record { prefix = prefix; closed = closed; extra = extra; waiting = [] }))
  pub fit : Chained (λ n. n) (ExtraFits prefix) None extra
  pub last : before ≡ last_of (λ n. n) None extra
  pub read : with_front extra (extras_at prefix (count - i) before rest) ≡ extras_at prefix count None bytes

-- what a result that is no error says
pub unless_err : {A E : Type 0} {P : Type 0} (r : Result A E) → is_err r ≡ false → OnOk r P → P
unless_err (Ok a) e p = p
unless_err (Err f) e p = absurd cc

pub less_none : (count : ℕ) → count - 0 ≡ count
less_none count = omega arith

pub front_none : {X : Type 0} (r : Result (List X × List ℕ) FormFault) → with_front [] r ≡ r
front_none (Ok x) = refl
front_none (Err f) = refl

unmoved : (got : List StreamContent) (s : ℕ) (x : StreamContent) → stream_at got s ≡ x → got ≡ set_at got (s - 1) x
unmoved got s x is = sym (set-get_or got (s - 1) unknown) ∙ ap (λ (y : StreamContent). set_at got (s - 1) y) is

-- a stream that was set is set again
again : (old got next : List StreamContent) (s : ℕ) (x y : StreamContent) (step : StreamContent → StreamContent) → 1 ≤ s → s ≤ length old → got ≡ set_at old (s - 1) x → next ≡ set_at got (s - 1) (step (stream_at got s)) → step x ≡ y → next ≡ set_at old (s - 1) y
again old got next s x y step least most state is same =
    let here : stream_at got s ≡ x = ap (λ (g : List StreamContent). stream_at g s) state ∙ at_its_place old s x least most in
    is ∙ (λ i. set_at (state i) (s - 1) (step (here i))) ∙ set-set old (s - 1) x (step x) ∙ ap (λ (z : StreamContent). set_at old (s - 1) z) same

-- ---- extra numbers

pub extra_begins : (prefix s count : ℕ) (got : List StreamContent) (bytes : List ℕ) → stream_at got s ≡ stream_made (record { prefix = prefix; closed = (stream_at got s).closed; extra = []; waiting = [] }) → ExtraSoFar prefix (stream_at got s).closed s count 0 got got None bytes bytes
extra_begins prefix s count got bytes is =
    record { extra = []; state = unmoved got s _ is; fit = tt; last = refl; read = front_none (extras_at prefix (count - 0) None bytes) ∙ ap (λ (k : ℕ). extras_at prefix k None bytes) (less_none count) }

module _ (prefix closed s count i : ℕ) (old got : List StreamContent) (before : Option ℕ) (bytes rest : List ℕ) (h : ExtraSoFar prefix closed s count i old got before bytes rest) where
  pub extra_goes : (n : ℕ) (after : List ℕ) (next : List StreamContent) → 1 ≤ s → s ≤ length old → i < count → extra_at prefix before rest ≡ Ok (n, after) → ExtraFits prefix before n → next ≡ set_at got (s - 1) (with_number (stream_at got s) n) → ExtraSoFar prefix closed s count (i + 1) old next (Some n) bytes after
  extra_goes n after next least most lt e fit is =
      record {
        extra = h.extra ++ n ∷ [];
        state = again old got next s _ _ (λ x. with_number x n) least most h.state is (extra_more prefix closed h.extra n);
        fit = chained_more (λ n. n) (ExtraFits prefix) None h.extra n h.fit (subst (λ (b : Option ℕ). ExtraFits prefix b n) h.last fit);
        last = last_more (λ n. n) None h.extra n;
        read = goes_on (λ n. n) (extra_at prefix) h.extra count i before rest n after (extras_at prefix count None bytes) lt e h.read;
      }

  pub extra_ends : (e : ReadError) → i < count → Fails e (extra_at prefix before rest) → Fails e (extras_at prefix count None bytes)
  extra_ends e lt f = ends (λ n. n) (extra_at prefix) e h.extra count i before rest (extras_at prefix count None bytes) lt f h.read

  pub extra_done : 1 ≤ s → s ≤ length old → count ≤ i → TakesExtra prefix count closed bytes rest (stream_at got s)
  extra_done least most le =
      record {
        extra = h.extra;
        read = is_done (λ n. n) (extra_at prefix) h.extra count i before rest (extras_at prefix count None bytes) le h.read;
        fit = h.fit;
        made = ap (λ (g : List StreamContent). stream_at g s) h.state ∙ at_its_place old s _ least most;
      }

  pub extra_only : 1 ≤ s → s ≤ length old → got ≡ set_at old (s - 1) (stream_at got s)
  extra_only least most = h.state ∙ ap (λ (x : StreamContent). set_at old (s - 1) x) (sym (ap (λ (g : List StreamContent). stream_at g s) h.state ∙ at_its_place old s _ least most))

-- the marks that were read so far, in the stream and in the bytes
pub record WaitsSoFar (prefix s count i : ℕ) (old got : List StreamContent) (before : Option ℕ) (bytes rest : List ℕ) : Type 0 where
  pub waiting : List (ℕ × ℕ)
  pub state : got ≡ set_at old (s - 1) (record (stream_at old s) { waiting = finmap.from_entries waiting })
  pub fit : Chained (λ m. m.0) (WaitingFits prefix) None waiting
  pub last : before ≡ last_of (λ m. m.0) None waiting
  pub read : with_front waiting (waits_at prefix (count - i) before rest) ≡ waits_at prefix count None bytes

-- ---- waiting marks

pub waits_begin : (prefix s count : ℕ) (got : List StreamContent) (bytes : List ℕ) → IsReady prefix (stream_at got s) → WaitsSoFar prefix s count 0 got got None bytes bytes
waits_begin prefix s count got bytes has =
    record { waiting = []; state = unmoved got s _ has.none; fit = tt; last = refl; read = front_none (waits_at prefix (count - 0) None bytes) ∙ ap (λ (k : ℕ). waits_at prefix k None bytes) (less_none count) }

module _ (prefix s count i : ℕ) (old got : List StreamContent) (before : Option ℕ) (bytes rest : List ℕ) (h : WaitsSoFar prefix s count i old got before bytes rest) where
  pub waits_go : (k m : ℕ) (after : List ℕ) (next : List StreamContent) → IsReady prefix (stream_at old s) → 1 ≤ s → s ≤ length old → i < count → waiting_at prefix before rest ≡ Ok ((k, m), after) → WaitingFits prefix before (k, m) → next ≡ set_at got (s - 1) (with_mark (stream_at got s) k m) → WaitsSoFar prefix s count (i + 1) old next (Some k) bytes after
  waits_go k m after next has least most lt e fit is =
      let fits = subst (λ (b : Option ℕ). WaitingFits prefix b (k, m)) h.last fit in
      record {
        waiting = h.waiting ++ (k, m) ∷ [];
        state = again old got next s _ _ (λ x. with_mark x k m) least most h.state is (waits_more prefix (stream_at old s).taken (stream_at old s).closed h.waiting k m has.covers_all h.fit fits);
        fit = chained_more (λ m. m.0) (WaitingFits prefix) None h.waiting (k, m) h.fit fits;
        last = last_more (λ (m : ℕ × ℕ). m.0) None h.waiting (k, m);
        read = goes_on (λ m. m.0) (waiting_at prefix) h.waiting count i before rest (k, m) after (waits_at prefix count None bytes) lt e h.read;
      }

  pub waits_end : (e : ReadError) → i < count → Fails e (waiting_at prefix before rest) → Fails e (waits_at prefix count None bytes)
  waits_end e lt f = ends (λ m. m.0) (waiting_at prefix) e h.waiting count i before rest (waits_at prefix count None bytes) lt f h.read

  pub waits_done : 1 ≤ s → s ≤ length old → count ≤ i → TakesWaits prefix count (stream_at old s) bytes rest (stream_at got s)
  waits_done least most le =
      record {
        waiting = h.waiting;
        read = is_done (λ m. m.0) (waiting_at prefix) h.waiting count i before rest (waits_at prefix count None bytes) le h.read;
        fit = h.fit;
        made = ap (λ (g : List StreamContent). stream_at g s) h.state ∙ at_its_place old s _ least most;
      }

  pub waits_only : 1 ≤ s → s ≤ length old → got ≡ set_at old (s - 1) (stream_at got s)
  waits_only least most = h.state ∙ ap (λ (x : StreamContent). set_at old (s - 1) x) (sym (ap (λ (g : List StreamContent). stream_at g s) h.state ∙ at_its_place old s _ least most))

-- ---- what is known of results

pub map_ok : {A E P Q : Type 0} (r : Result A E) → (P → Q) → OnOk r P → OnOk r Q
map_ok (Ok a) f p = f p
map_ok (Err e) f p = p

pub map_err : {A E : Type 0} {P Q : E → Type 0} (r : Result A E) → ((e : E) → P e → Q e) → IfErr r P → IfErr r Q
map_err (Ok a) f p = p
map_err (Err e) f p = f e p

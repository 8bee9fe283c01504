-- Streams, read one after the other.
use Rattle.std.proofs.Common.{◌≡◌, refl, sym, ap, ◌∙◌, ℕ, zero, suc, ◌+◌, ◌-◌, ◌<◌, ◌≤◌, min, List, [], ◌∷◌, ◌++◌, length, map, take, replicate, get_or, set as set_at, Some, None, Result, Ok, Err, arith}
use Rattle.std.specs.Int.{w32}
use Rattle.std.proofs.lemmas.List.{get_or-set_other, set-set, length-set, take_all, map-append}
use Rattle.std.proofs.lemmas.Grind.{take-set_at}
use Rattle.std.proofs.lemmas.Bool.{le-ltb}
use Rattle.hk_types.specs.Numbers.{checked_stream}
use Rattle.hk_types.specs.declared.faults.FormFault.{FormFault}
use Rattle.hk_model.specs.Replica.Streams.{StreamContent, stream_at as content_at, unknown, covers}
use Rattle.hk_model.specs.Replica.Content.{least_closed}
use Rattle.hk_marks.specs.Steps.{with_prefix}
use Rattle.hk_frames.specs.declared.cursor.ReadError.{ReadError}
use Rattle.hk_frames.specs.declared.cursor.ReadError.TheVariants.{Memory, Fault}
use Rattle.hk_frames.specs.Fields.{Fails, number_at, list_at}
use Rattle.hk_frames.proofs.ReadingLoop.{with_front, goes_on, ends, is_done}
use Rattle.hk_answers.specs.Readers.{time_at}
use Rattle.hk_fragment_bytes.specs.Fragments.{wire_stream_of, stream_at, no_stream, least_closed_of}
use Rattle.hk_fragment_bytes.specs.FragmentSteps.{stream_without_marks, extras_at, waits_at, streams_at, TakesExtra, TakesWaits, IsReady}
use Rattle.hk_fragment_bytes.proofs.StreamRead.{raised_unknown, covers_taken, told_back}
use Rattle.hk_fragment_bytes.proofs.ReadingLoops.{at_its_place, front_none, less_none}

-- ---- one stream

-- a stream of which the prefix and the closed time were just told
pub just_begun : (old got : List StreamContent) (s prefix closed : ℕ) → 1 ≤ s → s ≤ length old → content_at old s ≡ unknown → got ≡ set_at old (s - 1) (with_prefix (content_at old s) prefix closed) → content_at got s ≡ stream_without_marks prefix closed
just_begun old got s prefix closed least most is step =
    ap (λ (g : List StreamContent). content_at g s) step
    ∙ at_its_place old s _ least most
    ∙ ap (λ (x : StreamContent). with_prefix x prefix closed) is
    ∙ raised_unknown prefix closed

pub begun_itself : (x : StreamContent) (prefix closed : ℕ) → x ≡ stream_without_marks prefix closed → x ≡ stream_without_marks prefix x.closed
begun_itself x prefix closed is = is ∙ ap (λ (c : ℕ). stream_without_marks prefix c) (sym (ap (λ (y : StreamContent). y.closed) is))

-- after its numbers no mark waits yet
pub is_ready : (prefix count closed : ℕ) (bytes rest : List ℕ) (x : StreamContent) → TakesExtra prefix count closed bytes rest x → IsReady prefix x
is_ready prefix count closed bytes rest x h =
    record {
      covers_all = λ n. ap (λ (y : StreamContent). covers y.taken n) h.made ∙ covers_taken prefix h.extra h.fit n;
      none = λ i. record { taken = x.taken; closed = x.closed; waiting = (ap (λ (y : StreamContent). y.waiting) h.made) i };
    }

-- what was read of a stream
pub stream_read : (prefix closed count many : ℕ) (b0 b1 b2 b3 b4 b5 b6 : List ℕ) (x y z : StreamContent) → x ≡ stream_without_marks prefix closed → time_at b0 ≡ Ok (prefix, b1) → time_at b1 ≡ Ok (closed, b2) → number_at w32 b2 ≡ Ok (count, b3) → TakesExtra prefix count x.closed b3 b4 y → number_at w32 b4 ≡ Ok (many, b5) → TakesWaits prefix many y b5 b6 z
    → stream_at b0 ≡ Ok (wire_stream_of z, b6)
unfolding stream_at
stream_read prefix closed count many b0 b1 b2 b3 b4 b5 b6 x y z is first second third h fourth k =
    let time : z.closed ≡ closed = ap (λ (u : StreamContent). u.closed) k.made ∙ ap (λ (u : StreamContent). u.closed) h.made ∙ ap (λ (u : StreamContent). u.closed) is in
    let told : wire_stream_of z ≡ record { prefix = prefix; closed = closed; extra = h.extra; waiting = k.waiting } =
    told_back z prefix h.extra k.waiting (ap (λ (u : StreamContent). u.taken) k.made ∙ ap (λ (u : StreamContent). u.taken) h.made) (ap (λ (u : StreamContent). u.waiting) k.made) h.fit k.fit
    ∙ ap (λ (c : ℕ). record { prefix = prefix; closed = c; extra = h.extra; waiting = k.waiting }) time in
    rw (told, first, second, third, h.read, fourth, k.read) refl

-- where its bytes have a fault
pub fails_in_extras : (prefix closed count : ℕ) (b0 b1 b2 b3 : List ℕ) (e : ReadError) → time_at b0 ≡ Ok (prefix, b1) → time_at b1 ≡ Ok (closed, b2) → number_at w32 b2 ≡ Ok (count, b3) → Fails e (extras_at prefix count None b3) → Fails e (stream_at b0)
unfolding stream_at
fails_in_extras prefix closed count b0 b1 b2 b3 Memory first second third f = tt
fails_in_extras prefix closed count b0 b1 b2 b3 (Fault fault) first second third f = rw (first, second, third, f) refl

pub fails_at_count : (prefix closed count : ℕ) (b0 b1 b2 b3 b4 : List ℕ) (c : ℕ) (y : StreamContent) (f : FormFault) → time_at b0 ≡ Ok (prefix, b1) → time_at b1 ≡ Ok (closed, b2) → number_at w32 b2 ≡ Ok (count, b3) → TakesExtra prefix count c b3 b4 y → number_at w32 b4 ≡ Err f → stream_at b0 ≡ Err f
unfolding stream_at
fails_at_count prefix closed count b0 b1 b2 b3 b4 c y f first second third h e = rw (first, second, third, h.read, e) refl

pub fails_in_waits : (prefix closed count many : ℕ) (b0 b1 b2 b3 b4 b5 : List ℕ) (c : ℕ) (y : StreamContent) (e : ReadError) → time_at b0 ≡ Ok (prefix, b1) → time_at b1 ≡ Ok (closed, b2) → number_at w32 b2 ≡ Ok (count, b3) → TakesExtra prefix count c b3 b4 y → number_at w32 b4 ≡ Ok (many, b5) → Fails e (waits_at prefix many None b5) → Fails e (stream_at b0)
unfolding stream_at
fails_in_waits prefix closed count many b0 b1 b2 b3 b4 b5 c y Memory first second third h fourth f = tt
fails_in_waits prefix closed count many b0 b1 b2 b3 b4 b5 c y (Fault fault) first second third h fourth f = rw (first, second, third, h.read, fourth, f) refl

-- what was set once more
pub set_again : (old got next : List StreamContent) (i : ℕ) (x y : StreamContent) → got ≡ set_at old i x → next ≡ set_at got i y → next ≡ set_at old i y
set_again old got next i x y first second = second ∙ ap (λ (g : List StreamContent). set_at g i y) first ∙ set-set old i x y

-- ---- all streams

unknown_all : (n j : ℕ) → get_or (replicate n unknown) j unknown ≡ unknown
unknown_all zero j = refl
unknown_all (suc n) zero = refl
unknown_all (suc n) (suc j) = unknown_all n j

pub record StreamsSoFar (count i : ℕ) (got : List StreamContent) (bytes rest : List ℕ) : Type 0 where
  pub len : length got ≡ count
  pub others : (j : ℕ) → i ≤ j → get_or got j unknown ≡ unknown
  pub read : with_front (map wire_stream_of (take i got)) (streams_at (count - i) None rest) ≡ streams_at count None bytes

pub streams_begin : (count : ℕ) (got : List StreamContent) (bytes : List ℕ) → count ≡ length got → got ≡ replicate (length got) unknown → StreamsSoFar count 0 got bytes bytes
streams_begin count got bytes len is =
    record {
      len = sym len;
      others = λ j le. ap (λ (g : List StreamContent). get_or g j unknown) is ∙ unknown_all (length got) j;
      read = front_none (streams_at (count - 0) None bytes) ∙ ap (λ (k : ℕ). streams_at k None bytes) (less_none count);
    }

-- streams don't depend on what stands before them
any_before : (n : ℕ) (bytes : List ℕ) → streams_at n None bytes ≡ streams_at n (Some tt) bytes
unfolding list_at
any_before zero bytes = refl
any_before (suc n) bytes = refl

apart : (i j : ℕ) → i + 1 ≤ j → j ≡ i → ⊥
apart i j le is = omega (arith, le, is)

module _ (count i : ℕ) (got : List StreamContent) (bytes rest : List ℕ) (h : StreamsSoFar count i got bytes rest) where
  pub streams_go : (x : StreamContent) (after : List ℕ) (next : List StreamContent) → i < count → stream_at rest ≡ Ok (wire_stream_of x, after) → next ≡ set_at got i x → StreamsSoFar count (i + 1) next bytes after
  streams_go x after next lt e is =
      let within : i < length got = omega (arith, h.len) in
      let front : map wire_stream_of (take (i + 1) next) ≡ map wire_stream_of (take i got) ++ wire_stream_of x ∷ [] =
      ap (λ (g : List StreamContent). map wire_stream_of (take (i + 1) g)) is ∙ ap (map wire_stream_of) (take-set_at got i (i + 1) x refl within) ∙ map-append wire_stream_of (take i got) (x ∷ []) in
      record {
        len = ap length is ∙ length-set got i x ∙ h.len;
        others = λ j le. ap (λ (g : List StreamContent). get_or g j unknown) is ∙ get_or-set_other got i j x unknown (apart i j le) ∙ h.others j (omega (arith, le));
        read =
            (λ k. with_front (front k) (any_before (count - (i + 1)) after k))
            ∙ goes_on no_stream (λ _. stream_at) (map wire_stream_of (take i got)) count i None rest (wire_stream_of x) after (streams_at count None bytes) lt e h.read;
      }

  pub streams_end : (e : ReadError) → i < count → Fails e (stream_at rest) → Fails e (streams_at count None bytes)
  streams_end e lt f = ends no_stream (λ _. stream_at) e (map wire_stream_of (take i got)) count i None rest (streams_at count None bytes) lt f h.read

  pub streams_done : count ≤ i → streams_at count None bytes ≡ Ok (map wire_stream_of got, rest)
  streams_done le =
      is_done no_stream (λ _. stream_at) (map wire_stream_of (take i got)) count i None rest (streams_at count None bytes) le h.read
      ∙ ap (λ (g : List StreamContent). Ok (map wire_stream_of g, rest)) (take_all i got (omega (arith, h.len)))

-- streams have numbers from 1
pub stream_there : (n : ℕ) → 1 ≤ n → n ≤ 64 → checked_stream n ≡ Ok n
stream_there n least most = rw (le-ltb n 1 least, le-ltb 64 n most) refl

pub is_stream : (n s : ℕ) → 1 ≤ n → n ≤ 64 → Ok s ≡ checked_stream n → s ≡ n
is_stream n s least most e = same (e ∙ stream_there n least most)
  where
    same : ◌≡◌ {A = Result ℕ FormFault} (Ok s) (Ok n) → s ≡ n
    same h = cc

pub no_fault : (n : ℕ) (f : FormFault) → 1 ≤ n → n ≤ 64 → Err f ≡ checked_stream n → ⊥
no_fault n f least most e = values_conflict (e ∙ stream_there n least most)
  where
    values_conflict : ◌≡◌ {A = Result ℕ FormFault} (Err f) (Ok n) → ⊥
    values_conflict h = cc

-- the least closed time is told
pub least_seen : (streams : List StreamContent) → least_closed_of (map wire_stream_of streams) ≡ least_closed streams
least_seen [] = refl
least_seen (s ∷ []) = refl
least_seen (s ∷ t ∷ more) = ap (min s.closed) (least_seen (t ∷ more))

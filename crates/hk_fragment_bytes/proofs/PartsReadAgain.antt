-- Parts and heads: what is read is encoded so, and what is encoded so is read again.
use Rattle.std.proofs.Common.{◌≡◌, ℕ, ◌^◌, ◌<◌, ◌≤◌, true, not, ltb, is_some, List, ◌++◌, length, Option, Some, None, refl, sym, ap, subst, ◌∙◌, append_assoc, arith, All, eqb, ◌&&◌}
use Rattle.std.specs.Int.{w32, w64}
use Rattle.std.specs.List.{flat_map, AllByRecursion}
use Rattle.std.proofs.lemmas.Bool.{and_from, lt-ltb, ltb-true}
use Rattle.hk_types.specs.Values.{ConfigValue}
use Rattle.hk_types.specs.declared.faults.FormFault.{FormFault}
use Rattle.hk_model.specs.Replica.Streams.{StreamContent}
use Rattle.hk_model.specs.Replica.Lawful.{IsLawfulStream}
use Rattle.hk_marks.specs.Seen.{IsNumbered}
use Rattle.hk_fragment.specs.Parts.{Known, facts_fault}
use Rattle.hk_frames.specs.Fields.{number, number_at}
use Rattle.hk_frames.proofs.ReadingSteps.{bind_ok, both as both_true}
use Rattle.hk_answers.specs.Readers.{Reader, both, after}
use Rattle.hk_fragment_bytes.specs.FragmentSteps.{fact_list_at}
use Rattle.hk_fragment_bytes.specs.Fragments.{WireStream, stream_text, facts_text, fragment_head_at, streams_at, streams_are_counted, is_counted, KnownFits}
use Rattle.hk_answers.proofs.ReadersAndEncodings.{IsField, field64, both_field, same_field, made_field, kept_field}
use Rattle.hk_fragment_bytes.proofs.FragmentsReadAgain.{after_field, FragmentIs, fragment_there, fragment_back, HeadFits as StartFits, AreStreams, head_text as start_text, head_field as start_field, streams_field, facts_field, base_there}
use Rattle.hk_fragment_bytes.proofs.FragmentFits.{streams_fit, facts_chained, least_same, count_same}
use Rattle.hk_fragment_bytes.proofs.FactsRead.{facts_stand}
use Rattle.hk_fragment.specs.Heads.{head_with}
use Rattle.hk_fragment_bytes.specs.Parts.{IsHead, WireHead, wire_head_of, bare, head_text, head_at, HeadFits, head_is_counted, part_at, PartFits, part_keeps_rules, whole_head_at}
use Rattle.hk_types.specs.declared.faults.FormFault.TheVariants.{BadNumber}

-- ---- heads

-- a head up to its streams, and with them
abbrev Start : Type 0
Start = (ℕ × (ℕ × (ℕ × ℕ))) × List WireStream

abbrev start_at : Reader Start
start_at bytes = after fragment_head_at (λ h. streams_at h.1.1.1 h.1.0) bytes

abbrev start_fits : Start → Type 0
start_fits p = StartFits p.0 × AreStreams p.0.1.1.1 p.0.1.0 p.1

abbrev streams_behind : Start → List ℕ
streams_behind p = start_text p.0 ++ flat_map stream_text p.1

streamed_field : IsField start_at streams_behind start_fits
streamed_field = after_field fragment_head_at (λ h. streams_at h.1.1.1 h.1.0) start_text (flat_map stream_text) StartFits (λ h. AreStreams h.1.1.1 h.1.0) start_field (λ h. streams_field h.1.1.1 h.1.0)

abbrev head_made : Start × ℕ → WireHead
head_made p = record { log = p.0.0.0; base = p.0.0.1.1.0; horizon = p.0.0.1.1.1; streams = p.0.1; count = p.1 }

abbrev parts_of : WireHead → Start × ℕ
parts_of h = (((h.log, (length h.streams, (h.base, h.horizon))), h.streams), h.count)

abbrev whole_text : Start × ℕ → List ℕ
whole_text p = streams_behind p.0 ++ number w64 p.1

same_text : (h : WireHead) → whole_text (parts_of h) ≡ head_text h
unfolding head_text
same_text h = simp append_assoc

abbrev IsCount : ℕ → Type 0
IsCount n = n < 2 ^ 64

abbrev HeadIs : WireHead → Type 0
HeadIs h = FragmentIs (bare h) × IsCount h.count

told_field : IsField head_at head_text HeadIs
unfolding head_at
told_field =
    made_field head_made parts_of (both start_at (number_at w64)) whole_text head_text (λ p. start_fits p.0 × IsCount p.1) HeadIs
    (both_field start_at (number_at w64) streams_behind (number w64) start_fits IsCount streamed_field field64)
    (λ p h.
    let start = p.0.0 in
    let streams = p.0.1 in
    let len : length streams ≡ start.1.0 = h.0.1.0.0 in
    let same : whole_text p ≡ whole_text (parts_of (head_made p)) = ap (λ (n : ℕ). whole_text (((start.0, (n, start.1.1)), streams), p.1)) (sym len) in (
      same ∙ same_text (head_made p),
      (
        record {
          head = subst (λ (n : ℕ). StartFits (start.0, (n, start.1.1))) (sym len) h.0.0;
          streams = subst (λ (n : ℕ). AreStreams start.1.1.1 n streams) (sym len) h.0.1;
          facts = (omega arith, tt);
        },
        h.1,
      ),
    ))
    (λ h k. (refl, (sym (same_text h), ((k.0.head, k.0.streams), k.1))))

counted_bare : (h : WireHead) → head_is_counted h ≡ true → is_counted (bare h) ≡ true
counted_bare h c = and_from (streams_are_counted h.streams) (ltb 0 (2 ^ 32)) c (lt-ltb 0 (2 ^ 32) (omega arith))

pub head_field : IsField head_at head_text (λ h. HeadFits h × (head_is_counted h ≡ true))
head_field =
    same_field head_at head_text HeadIs (λ h. HeadFits h × (head_is_counted h ≡ true))
    (λ h k. let f = fragment_there (bare h) k.0 in ((f.0, k.1), (both_true (streams_are_counted h.streams) (ltb 0 (2 ^ 32)) f.1).0))
    (λ h k. (fragment_back (bare h) (k.0.0, counted_bare h k.1), k.0.1))
    told_field

-- ---- parts

faultless_there : (o : Option FormFault) → o ≡ None → not (is_some o) ≡ true
faultless_there o e = ap (λ (x : Option FormFault). not (is_some x)) e

pub part_field : IsField part_at facts_text (λ facts. PartFits facts × (part_keeps_rules facts ≡ true))
unfolding part_at
part_field =
    record {
      takes = λ bytes x fits e.
          let u = (facts_field 0 0).takes bytes x fits e in
          let a = bind_ok (number_at w32 bytes) (λ count. fact_list_at 0 0 count.0 None count.1) x e in
          let faultless = facts_stand 0 0 a.0.0 None a.0.1 x a.2 in
          (u.0, (u.1.1, and_from (ltb (length x.0) (2 ^ 32)) (not (is_some (facts_fault 0 0 None x.0))) (lt-ltb _ _ u.1.0) (faultless_there (facts_fault 0 0 None x.0) faultless)));
      again = λ facts rest h. (facts_field 0 0).again facts rest (ltb-true _ _ (both_true (ltb (length facts) (2 ^ 32)) (not (is_some (facts_fault 0 0 None facts))) h.1).0, h.0);
    }

-- ---- what can be told

none_there : (o : Option FormFault) → not (is_some o) ≡ true → o ≡ None
none_there None e = refl
none_there (Some f) e = absurd cc

pub part_fits : (facts : List Known) → part_keeps_rules facts ≡ true → AllByRecursion KnownFits facts → PartFits facts
part_fits facts keeps fit =
    let b = both_true (ltb (length facts) (2 ^ 32)) (not (is_some (facts_fault 0 0 None facts))) keeps in
    facts_chained 0 0 None facts (none_there (facts_fault 0 0 None facts) b.1) fit

pub head_fits : (config : ConfigValue) (base horizon : ℕ) (streams : List StreamContent) (facts : ℕ) → config.log < 2 ^ 64 → 1 ≤ config.streams → config.streams ≤ 64 → base ≤ 2 ^ 62 → horizon ≤ 2 ^ 62 → facts < 2 ^ 64
    → IsHead config base horizon streams → All IsLawfulStream streams → All IsNumbered streams → HeadFits (wire_head_of (head_with config base horizon streams facts))
head_fits config base horizon streams facts log least most base_fits horizon_fits facts_fit is lawful numbered =
    let count = count_same streams in
    let many = is.as_many in
    let reach = is.within in
    let same = least_same streams in (
      record {
        log = log;
        least = omega arith;
        most = omega arith;
        base = base_fits;
        horizon = horizon_fits;
        base_above = base_there base horizon (ap not is.above);
        within = omega arith;
        streams = streams_fit streams lawful numbered;
        facts = tt;
      },
      facts_fit,
    )

abbrev pub HeadKeeps : WireHead → Type 0
HeadKeeps h = HeadFits h × (head_is_counted h ≡ true)

pub whole_head_field : IsField whole_head_at head_text (λ h. HeadFits h × (((eqb h.base 0) && head_is_counted h) ≡ true))
unfolding whole_head_at
whole_head_field =
    same_field _ head_text (λ h. HeadKeeps h × (eqb h.base 0 ≡ true)) _
    (λ h k. (k.0.0, and_from (eqb h.base 0) (head_is_counted h) k.1 k.0.1))
    (λ h k. let b = both_true (eqb h.base 0) (head_is_counted h) k.1 in ((k.0, b.1), b.0))
    (kept_field head_at (λ h. eqb h.base 0) BadNumber head_text HeadKeeps head_field)

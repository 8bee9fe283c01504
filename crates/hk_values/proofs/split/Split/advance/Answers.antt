use Rattle.std.proofs.Common.{◌≡◌, ◌∙◌, ◌+◌, true, ap, List, None, subst, take, drop}
use Rattle.std.proofs.lemmas.List.{take-append-drop}
use Rattle.hk_fragment.specs.Parts.{Known, facts_fault}
use Rattle.hk_fragment.specs.Assemblies.{rises}
use Rattle.hk_fragment.specs.Heads.{facts_of}
use Rattle.hk_fragment.proofs.RisingParts.{faultless_rise, front_rises}
use Rattle.hk_values.proofs.CutParts.{counted, counted_part, counted_bounds, counted_next, moved_given, moved_left}
use Rattle.hk_values.proofs.split.Split.advance.Goals as goal

pub returns-clause-part : goal.returns-clause-part
returns-clause-part c =
    let p = c.self.inside in
    let n = c.next_count-count.result in
    let count = counted n c.args.most_bytes p.to c.facts-facts.result.now (facts_of p.whole) c.next_count-count.ensures.value c.facts-facts.ensures.value in
    rw (← c.self.view_is) (counted_part n c.args.most_bytes p.to (facts_of p.whole) count)

pub returns-clause-bounds : goal.returns-clause-bounds
returns-clause-bounds c =
    let p = c.self.inside in
    let n = c.next_count-count.result in
    let count = counted n c.args.most_bytes p.to c.facts-facts.result.now (facts_of p.whole) c.next_count-count.ensures.value c.facts-facts.ensures.value in
    rw (← c.self.view_is) (counted_bounds n c.args.most_bytes p.to (facts_of p.whole) count)

pub returns-clause-next : goal.returns-clause-next
returns-clause-next c =
    let p = c.self.inside in
    let n = c.next_count-count.result in
    let count = counted n c.args.most_bytes p.to c.facts-facts.result.now (facts_of p.whole) c.next_count-count.ensures.value c.facts-facts.ensures.value in
    rw (← c.self.view_is) (counted_next n c.args.most_bytes p.to (facts_of p.whole) count)

pub returns-clause-given : goal.returns-clause-given
returns-clause-given c = let p = c.self.inside in rw (← c.self.view_is) (moved_given p.to c.next_count-count.result (facts_of p.whole))

pub returns-clause-left : goal.returns-clause-left
returns-clause-left c = let p = c.self.inside in rw (← c.self.view_is) (moved_left p.to c.next_count-count.result (facts_of p.whole))

pub returns-clause-rises : goal.returns-clause-rises
returns-clause-rises c =
    let f = c.self.inside.whole in
    let n = c.self.inside.to + c.next_count-count.result in
    let all : rises (facts_of f) ≡ true = faultless_rise f.base f.content.horizon None (facts_of f)
    (subst (λ (facts : List Known). facts_fault f.base f.content.horizon None facts ≡ None) c.facts-facts.ensures.value c.facts-facts.ensures.faultless) in
    front_rises (take n (facts_of f)) (drop n (facts_of f)) (ap rises (take-append-drop n (facts_of f)) ∙ all)

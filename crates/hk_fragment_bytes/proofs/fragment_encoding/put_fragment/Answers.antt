use Rattle.std.proofs.Common.{◌++◌, List, ℕ, ap, ◌∙◌, append_assoc}
use Rattle.std.specs.List.{flat_map}
use Rattle.hk_fragment.specs.Parts.{Known}
use Rattle.hk_fragment_bytes.specs.Fragments.{fact_text, wire_fragment_of, fragment_front}
use Rattle.hk_fragment_bytes.proofs.WrittenFragments.{fragment_parts}
use Rattle.hk_fragment_bytes.proofs.ReadingLoops.{map_ok}
use Rattle.hk_fragment_bytes.proofs.fragment_encoding.put_fragment.Goals as goal

pub returns-clause-ok : goal.returns-clause-ok
returns-clause-ok c =
    let f = wire_fragment_of c.args.fragment.now in
    let facts = flat_map fact_text f.facts in
    map_ok c.put_all_facts.result
    (λ e. e ∙ ap (λ (fs : List Known). c.put_fragment_front.new.out.items ++ flat_map fact_text fs) c.facts.ensures.value
    ∙ ap (λ (t : List ℕ). t ++ facts) c.in_ok-put_fragment_front.ensures.ok
    ∙ append_assoc c.args.out.now.items (fragment_front f) facts
    ∙ ap (λ (t : List ℕ). c.args.out.now.items ++ t) (fragment_parts f)) c.put_all_facts.ensures.ok

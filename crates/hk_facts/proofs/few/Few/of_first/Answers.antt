use Rattle.std.proofs.Common.{◌∙◌, ap, ◌++◌, ◌∷◌, [], arith}
use Rattle.hk_facts.proofs.ListedVersions.{short, sorted_as, sorted_none, sorted_one}
use Rattle.hk_facts.proofs.few.Few.of_first.Goals as goal
use Rattle.hk_facts.proofs.few.Few.of_first.Goals.{in-Some+in_default-push, in_default}

pub invariant_of-result : goal.invariant_of-result
invariant_of-result c = elim c.match-take.branch [
  | in-Some+in_default-push w ↦
      let is = ap (λ v. v.items) w.versions-is ∙ w.in_default-push.ensures.items ∙ ap (λ es. es ++ w.in-Some.entry ∷ []) c.in_ok-versions.ensures.items in
      (sorted_as c.match-take.versions.items _ is (sorted_one w.in-Some.entry), short _ _ _ c.match-take.versions.ok.0 is (omega arith))
  | in_default w ↦
      let is = ap (λ v. v.items) w.versions-is ∙ c.in_ok-versions.ensures.items in
      (sorted_as c.match-take.versions.items _ is sorted_none, short _ _ _ c.match-take.versions.ok.0 is (omega arith))
]

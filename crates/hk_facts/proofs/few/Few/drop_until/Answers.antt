use Rattle.std.proofs.Common.{◌∙◌, ap, length, arith, rules}
use Rattle.std.proofs.lemmas.List.Sums.{count_by-le-length, length-filter}
use Rattle.std.proofs.lemmas.Fn.{filter_same}
use Rattle.hk_facts.proofs.DroppedEnds.{stays, until_entries}
use Rattle.hk_facts.proofs.ListedVersions.{sorted_filtered, sorted_as}
use Rattle.hk_facts.proofs.few.Few.drop_until.Goals as goal

pub invariant_of-self : goal.invariant_of-self
invariant_of-self c =
    let kept = filter_same _ (stays c.args.until) _ (λ x b f t. search rules) _ _ c.retain.ensures.filtered in
    (sorted_as _ _ kept (sorted_filtered (stays c.args.until) c.self.inside.versions.items c.self.invariant.0), omega (arith, c.retain.new.self.ok.0 ∙ ap length kept ∙ length-filter (stays c.args.until) c.self.inside.versions.items, count_by-le-length (stays c.args.until) c.self.inside.versions.items, c.self.inside.versions.ok.0, c.self.invariant.1))

pub returns : goal.returns
returns c = rw (← c.self.view_is) (until_entries c.self.inside.versions.items c.retain.new.self.items c.args.until c.self.invariant.0 (filter_same _ (stays c.args.until) _ (λ x b f t. search rules) _ _ c.retain.ensures.filtered))

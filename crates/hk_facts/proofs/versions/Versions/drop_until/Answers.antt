use Rattle.std.proofs.Common.{rules}
use Rattle.std.proofs.lemmas.Map.Made.{filter_same_pairs}
use Rattle.hk_facts.proofs.DroppedEnds.{stays, until_entries}
use Rattle.hk_facts.proofs.versions.Versions.drop_until.Goals as goal

pub returns : goal.returns
returns c = rw (← c.self.view_is) (until_entries c.self.inside.versions.entries c.retain.new.self.entries c.args.until c.retain.ensures.was_ordered (filter_same_pairs _ (stays c.args.until) _ (λ k v b w f' t. search rules) _ _ c.retain.ensures.filtered))

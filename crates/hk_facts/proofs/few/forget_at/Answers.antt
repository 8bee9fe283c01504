use Rattle.std.proofs.Common.{◌∙◌, ap}
use Rattle.hk_facts.specs.Listed.{listed}
use Rattle.hk_facts.proofs.ListedVersions.{left_over, taken_out, sorted_left, sorted_removed, sorted_as}
use Rattle.hk_facts.proofs.few.forget_at.Goals as goal

pub returns-then-take_back-clause-same : goal.returns-then-take_back-clause-same
returns-then-take_back-clause-same c = left_over c.args.versions.now.items c.args.place c.args.born c.index_mut.result.now c.requires.sorted c.requires.there c.index_mut.ensures.value c.args.part c.take_back.new.version c.if-take_back.ensures.left

pub returns-then-take_back-clause-sorted : goal.returns-then-take_back-clause-sorted
returns-then-take_back-clause-sorted c = sorted_left c.args.versions.now.items c.args.place c.args.born c.index_mut.result.now c.requires.sorted c.requires.there c.index_mut.ensures.value c.take_back.new.version

pub returns-clause-same : goal.returns-clause-same
returns-clause-same c = ap listed c.remove.ensures.items ∙ taken_out c.args.versions.now.items c.args.place c.args.born c.index_mut.result.now c.requires.sorted c.requires.there c.index_mut.ensures.value c.args.part c.take_back.new.version c.if-take_back.ensures.gone

pub returns-clause-sorted : goal.returns-clause-sorted
returns-clause-sorted c = sorted_as _ _ c.remove.ensures.items (sorted_removed _ c.args.place (sorted_left c.args.versions.now.items c.args.place c.args.born c.index_mut.result.now c.requires.sorted c.requires.there c.index_mut.ensures.value c.take_back.new.version))

use Rattle.std.proofs.Common.{ap, ◌∙◌}
use Rattle.hk_index.specs.Tags.{is_listed}
use Rattle.hk_index.proofs.TagsListed.{key_listed, still_listed}
use Rattle.hk_index.proofs.tag_keys.TagKeys.add.Goals as goal

pub returns-clause-ok : goal.returns-clause-ok
returns-clause-ok c =
    let put = c.self.view_is ∙ c.in_ok-put.ensures.ok in
    ap (λ m. is_listed m c.args.table c.args.tag c.args.key) put ∙ key_listed c.args.self.now (record { table = c.args.table; tag = c.args.tag }) c.args.key

pub returns-clause-kept : goal.returns-clause-kept
returns-clause-kept c table tag key was =
    let put = c.self.view_is ∙ c.in_ok-put.ensures.ok in
    ap (λ m. is_listed m table tag key) put ∙ still_listed c.args.self.now (record { table = c.args.table; tag = c.args.tag }) c.args.key table tag key was

use Rattle.std.proofs.lemmas.Result.{on_err_weaker}
use Rattle.hk_index.proofs.TagsListed.{same_put}
use Rattle.hk_index.proofs.tag_keys.TagKeys.put.Goals as goal

pub returns-in-Some-clause-kept : goal.returns-in-Some-clause-kept
returns-in-Some-clause-kept c =
    rw (← c.self.view_is) (on_err_weaker c.push.result (same_put c.self.inside.lists (c.get_mut.follows.lender c.push.new.self) c.new-at.result c.in-Some.list.now c.push.new.self c.in-Some.ensures.value (c.get_mut.follows.holds c.push.new.self)) c.push.ensures.kept)

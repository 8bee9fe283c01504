use Rattle.std.proofs.Common.{ap, ◌∙◌, subst, List, ℕ}
use Rattle.std.specs.FinSet as set
use Rattle.hk_index.specs.Listed.{Lists}
use Rattle.hk_chains.specs.Indexed.{AreTaggedOf, RowsValue, with_tag}
use Rattle.hk_chains.proofs.TaggedVersions.{all_tagged}
use Rattle.hk_chains.proofs.tag_index.TagIndex.list.Goals as goal

pub returns-clause-ok : goal.returns-clause-ok
returns-clause-ok c =
    let f = c.self.inside.chains.now in
    let keys = c.in_ok-keys.keys.items in
    let tagged = subst (λ (ks : List ℕ). AreTaggedOf f c.args.table c.args.tag ks c.in_ok-found.found.items) c.deref.ensures.value c.in_ok-found.ensures.ok in
    let all = all_tagged f c.args.table c.args.tag c.self.inside.keys.now keys c.in_ok-found.found.items c.self.invariant c.in_ok-keys.ensures.ok tagged in
    let same = c.in_ok-versions.ensures.ok ∙ ap (λ vs. set.from_list vs) c.deref-2.ensures.value ∙ all ∙ ap (λ (rows : RowsValue). with_tag rows c.args.table c.args.tag) c.self.view_is in
    subst (Lists c.in_ok-versions-2.versions.items) same c.in_ok-versions-2.ensures

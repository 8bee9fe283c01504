use Rattle.std.proofs.Common.{sym, ap, ◌∙◌, ◌++◌, ◌∷◌, [], ◌+◌, filter, take, subst, arith}
use Rattle.std.proofs.lemmas.List.{take_more}
use Rattle.std.specs.FinSet as set
use Rattle.hk_model.specs.History.Rows.{version_key_cmp}
use Rattle.hk_index.specs.Listed.{Lists, with_keys}
use Rattle.hk_chains.specs.Indexed.{has_tag}
use Rattle.hk_chains.proofs.TaggedVersions.{more_tagged}
use Rattle.hk_chains.proofs.tag_index.tagged_versions.Goals as goal

pub loop-key-preserved : goal.loop-key-preserved
loop-key-preserved c =
    let f = c.args.chains.now in
    let l = c.loop-key in
    let i = l.key-index in
    let ks = c.args.keys.now in
    let key = c.key-item.result in
    let lists = subst (λ (s : set.FinSet version_key_cmp). Lists c.in_ok-versions.versions.items (with_keys s c.args.table key key)) c.of.ensures c.in_ok-versions.ensures.ok in
    more_tagged f c.args.table c.args.tag l.found.items c.push_tagged.new.found.items c.in_ok-versions.versions.items (take i ks) (take (i + 1) ks) key
    (take_more ks i key (omega arith) ∙ ap (λ y. take i ks ++ y ∷ []) (sym c.key-item.is))
    (c.in_ok-push_tagged.ensures ∙ ap (λ vs. l.found.items ++ filter (has_tag f c.args.tag) vs) c.deref.ensures.value)
    lists l.invariant

use Rattle.std.proofs.Common.{sym, ap, ◌∙◌, subst, ◌==◌, ◌&&◌, not, cond, nat_le, nat_lt, is_some}
use Rattle.std.proofs.lemmas.Bool.{and_parts}
use Rattle.std.specs.List.{list_any}
use Rattle.hk_types.specs.declared.version_key.VersionKey.{VersionKey}
use Rattle.hk_log.specs.Versions.{VersionValue}
use Rattle.hk_model.specs.Replica.Content.{at_most}
use Rattle.hk_store.specs.Facts.{FactsValue}
use Rattle.hk_store.specs.Versions.{AreVersions}
use Rattle.hk_merge.specs.Plans.{is_sent}
use Rattle.hk_merge.specs.Sent.{fragment_sent}
use Rattle.hk_merge.proofs.LateFacts.{none_stray, strays_listed}
use Rattle.hk_merge.proofs.past.leaves_strays.Goals as goal

pub returns-then-not-is_raising_whole : goal.returns-then-not-is_raising_whole
returns-then-not-is_raising_whole c = sym (none_stray c.args.target.now (fragment_sent c.args.sent.now) (sym c.is_raising_whole.ensures ∙ c.if-not-is_raising_whole.true))

pub returns : goal.returns
returns c =
    let t = c.args.target.now in
    let f = fragment_sent c.args.sent.now in
    let own = c.facts.ensures in
    let found = c.some_stray.ensures in
    let tests = and_parts (nat_lt t.horizon f.content.horizon) (f.base == 0) (sym c.is_raising_whole.ensures ∙ c.if-not-is_raising_whole.false) in
    found.2
    ∙ ap (λ h. list_any (λ (e : VersionKey × VersionValue). nat_le e.0.born h && (is_some e.1.row && cond (at_most h e.1.died) (is_sent t f e.0) (not (is_sent t f e.0)))) found.0) c.horizon-horizon.ensures.value
    ∙ strays_listed t f tests.0 tests.1 found.0 (subst (λ (g : FactsValue). AreVersions g found.0) (λ i. record { rows = own.rows i; ends = own.ends i }) found.1)

use Rattle.std.proofs.Common.{refl, true, ap, ◌∙◌, map, List, nat_le, Some}
use Rattle.std.specs.FinSet as set
use Rattle.hk_types.specs.declared.version_key.VersionKey.{VersionKey}
use Rattle.hk_model.proofs.Replica.Maps.{version_key_total}
use Rattle.hk_index.specs.Timed.{is_in_span}
use Rattle.hk_chains.specs.declared.stated.Sought.{Sought}
use Rattle.hk_chains.specs.Drops.{is_among}
use Rattle.hk_chains.proofs.SoughtVersions.{among_sought, from_zero, in_set, stated_alike, stated_sought}
use Rattle.hk_store.proofs.facts.Facts.stated_until.Goals as goal

pub returns-clause-ok : goal.returns-clause-ok
returns-clause-ok c =
    let names = c.in_ok-versions.versions.items in
    let found = c.in_ok-found.found.items in
    let sought : Sought = record { span = record { from = 0; until = Some c.number.result }; births = true } in
    in_set c.deref-2.result.now c.of.result c.of.ensures.ok (λ q.
    set.contains-from_list version_key_total c.deref-2.result.now q
    ∙ ap (λ (l : List VersionKey). is_among l q) c.deref-2.ensures.value
    ∙ among_sought c.args.self.now sought found names c.in_ok-found.ensures.ok (c.in_ok-versions.ensures ∙ ap (λ l. map (λ e. e.0) l) c.deref.ensures.value) q
    ∙ stated_sought c.args.self.now sought q refl
    ∙ stated_alike c.args.self.now (is_in_span sought.span) (λ t. nat_le t c.args.until) (λ t. from_zero c.args.until c.number.result t c.number.ensures.value) q)

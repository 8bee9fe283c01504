use Rattle.std.proofs.Common.{refl, sym, ap, ◌∙◌, subst, map, All, List}
use Rattle.std.proofs.lemmas.List.Elements.{All-nil}
use Rattle.std.proofs.lemmas.Map.Iter.{iter_end}
use Rattle.std.specs.List.{filter}
use Rattle.std.specs.Borrow.{Bor}
use Rattle.std.specs.Map.Iter.{deref}
use Rattle.hk_types.specs.declared.version_key.VersionKey.{VersionKey}
use Rattle.hk_log.specs.Versions.{VersionValue}
use Rattle.hk_chains.specs.Versions.{borrowed}
use Rattle.hk_store.proofs.ListedVersions.{IsKnown, knows, known_more, kept_more, kept_none, walked}
use Rattle.hk_store.proofs.facts.Facts.versions_of.Goals as goal

pub loop-version-init : goal.loop-version-init
loop-version-init c = record {
  known = subst (λ (l : List (VersionKey × Bor VersionValue)). All (IsKnown c.args.self.now) (map borrowed l)) (sym c.new-found.ensures.items) (All-nil (IsKnown c.args.self.now));
  kept = ap (λ (l : List (VersionKey × Bor VersionValue)). map (λ (e : VersionKey × VersionValue). e.0) (map borrowed l)) c.new-found.ensures.items;
}

pub loop-version-preserved : goal.loop-version-preserved
loop-version-preserved c = record {
  known = c.loop-version.invariant.known;
  kept = kept_none c.args.self.now deref (map borrowed c.loop-version.found.items) c.in-Some.version.now c.loop-version.yielded c.in-Some.version refl c.in_default.ensures c.loop-version.invariant.kept;
}

pub loop-version-preserved-in-Continue-1 : goal.loop-version-preserved-in-Continue-1
loop-version-preserved-in-Continue-1 c = record {
  known = known_more c.args.self.now (map borrowed c.loop-version.found.items) (map borrowed c.push_borrowed.new.found.items) c.in-Some.version.now c.in-Some-version.known.now c.in_ok-push_borrowed.ensures (sym c.in-Some-version.ensures) c.loop-version.invariant.known;
  kept = kept_more c.args.self.now deref (map borrowed c.loop-version.found.items) (map borrowed c.push_borrowed.new.found.items) c.in-Some.version.now c.in-Some-version.known.now c.loop-version.yielded c.in-Some.version c.in_ok-push_borrowed.ensures refl (sym c.in-Some-version.ensures) c.loop-version.invariant.kept;
}

pub returns : goal.returns
returns c =
    let all = iter_end deref c.iter-version-items.result c.loop-version.yielded c.into_iter-version-iterator.result c.loop-version.version-iterator c.next.new.self c.next.result c.into_iter-version-iterator.ensures.into_iter_gives c.loop-version.yielded_by c.in-None.is c.next.ensures.steps in
    walked c.args.self.now c.args.some.now c.iter-version-items.result (map borrowed c.loop-version.found.items) c.iter-version-items.ensures.lists c.loop-version.invariant.known
    (c.loop-version.invariant.kept ∙ ap (filter (knows c.args.self.now)) all.0)

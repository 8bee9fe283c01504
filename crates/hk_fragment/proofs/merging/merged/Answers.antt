use Rattle.std.proofs.Common.{◌≡◌, sym, ap, subst, ◌∙◌, arith, length, reverse, List, [], ◌∷◌, None}
use Rattle.std.proofs.lemmas.List.{reverse-append}
use Rattle.hk_fragment.specs.Parts.{Known, facts_fault}
use Rattle.hk_fragment.proofs.MergedLists.{Halfway, begun, further, ended_faultless, fewer}
use Rattle.hk_fragment.proofs.merging.merged.Goals as goal

pub loop-known-init : goal.loop-known-init
loop-known-init c = record {
  merged = subst (Halfway c.args.own.items c.args.coming.items c.args.own.items c.args.coming.items) (sym (ap reverse c.requires.empty)) (begun c.args.own.items c.args.coming.items c.requires.own c.requires.coming);
  room = omega (arith, c.requires.room, ap length c.requires.empty, c.args.room.ok);
}

pub loop-known-preserved : goal.loop-known-preserved
loop-known-preserved c =
    let e = c.in-Some.known in
    let out : e ∷ reverse c.loop-known.found.items ≡ reverse c.push_known.new.list.items = sym (ap reverse c.push_known.ensures.items ∙ reverse-append c.loop-known.found.items (e ∷ [])) in
    let less = fewer c.loop-known.own.items c.take_greatest.new.own.items c.loop-known.coming.items c.take_greatest.new.coming.items e c.in-Some.ensures in
    record {
      merged = subst (Halfway c.args.own.items c.args.coming.items c.take_greatest.new.own.items c.take_greatest.new.coming.items) out
          (further c.args.own.items c.args.coming.items c.loop-known.own.items c.loop-known.coming.items (reverse c.loop-known.found.items) c.take_greatest.new.own.items c.take_greatest.new.coming.items e c.loop-known.invariant.merged c.in-Some.ensures);
      room = omega (arith, less, c.loop-known.invariant.room, c.push_known.ensures.len, c.push_known.ensures.room, c.loop-known.own.ok.0, c.loop-known.coming.ok.0, c.take_greatest.new.own.ok.0, c.take_greatest.new.coming.ok.0);
    }

pub returns-clause-faultless : goal.returns-clause-faultless
returns-clause-faultless c =
    subst (λ (l : List Known). facts_fault 0 0 None l ≡ None) (sym c.reverse.ensures.items)
    (ended_faultless c.args.own.items c.args.coming.items c.loop-known.own.items c.loop-known.coming.items (reverse c.loop-known.found.items) c.loop-known.invariant.merged c.in_default.ensures)

use Rattle.std.proofs.Common.{◌∙◌, sym, ap, List}
use Rattle.hk_fragment.specs.Parts.{Known}
use Rattle.hk_types.specs.declared.faults.Refusal.TheVariants.{Memory}
use Rattle.hk_fragment.specs.Assemblies.{checked_last, part_refusal}
use Rattle.hk_fragment.proofs.RisingParts.{handed_on, out_of_order, in_order, out_of_memory, with_part}
use Rattle.hk_fragment.proofs.assembly.Assembly.add.Goals as goal

pub returns-in_default-clause-err : goal.returns-in_default-clause-err
returns-in_default-clause-err c =
    let p = c.self.inside in
    let asked = ap (checked_last p.last) (sym c.deref.ensures.value) ∙ sym c.last_if_rising.ensures ∙ c.in_default.is in
    out_of_order p.facts.items c.args.part.items p.last c.self.invariant c.in_default.field-0 asked ∙ ap (λ (facts : List Known). part_refusal facts c.args.part.items) c.self.view_is

pub returns-in_err-append-clause-err : goal.returns-in_err-append-clause-err
returns-in_err-append-clause-err c =
    let p = c.self.inside in
    let asked = ap (checked_last p.last) (sym c.deref.ensures.value) ∙ sym c.last_if_rising.ensures ∙ c.in-Ok.is in
    handed_on c.from_residual.result Memory (part_refusal c.args.self.now c.args.part.items) c.from_residual.ensures.1
    (out_of_memory p.facts.items c.args.part.items p.last c.self.invariant c.in-Ok.last asked ∙ ap (λ (facts : List Known). part_refusal facts c.args.part.items) c.self.view_is)

pub invariant_of-self-2 : goal.invariant_of-self-2
invariant_of-self-2 c =
    let p = c.self.inside in
    let asked = ap (checked_last p.last) (sym c.deref.ensures.value) ∙ sym c.last_if_rising.ensures ∙ c.in-Ok.is in
    rw c.in_ok-append.ensures.items (with_part p.facts.items c.args.part.items p.last c.self.invariant c.in-Ok.last asked)

pub returns-clause-rises : goal.returns-clause-rises
returns-clause-rises c =
    let p = c.self.inside in
    let asked = ap (checked_last p.last) (sym c.deref.ensures.value) ∙ sym c.last_if_rising.ensures ∙ c.in-Ok.is in
    rw c.in_ok-append.ensures.items (in_order p.facts.items c.args.part.items p.last c.self.invariant c.in-Ok.last asked)

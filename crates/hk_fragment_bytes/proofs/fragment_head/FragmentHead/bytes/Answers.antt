use Rattle.std.proofs.Common.{arith, subst}
use Rattle.hk_fragment.specs.Heads.{HeadValue, head_with}
use Rattle.hk_fragment_bytes.specs.Parts.{wire_head_of, HeadFits}
use Rattle.hk_fragment_bytes.proofs.Lengths.{head_text_len}
use Rattle.hk_fragment_bytes.proofs.PartsReadAgain.{head_fits}
use Rattle.hk_fragment_bytes.proofs.fragment_head.FragmentHead.bytes.Goals as goal

pub returns-clause-len : goal.returns-clause-len
returns-clause-len c =
    let all = head_text_len (wire_head_of (head_with c.self.inside.config c.self.inside.base c.self.inside.horizon c.self.inside.got c.self.inside.count)) in
    rw (← c.self.view_is) (omega (arith, all, c.head_len-start.ensures.len, c.streams_len.ensures.len, c.number_len.ensures.len))

pub returns-clause-fits : goal.returns-clause-fits
returns-clause-fits c =
    subst (λ (h : HeadValue). HeadFits (wire_head_of h)) c.self.view_is
    (head_fits c.self.inside.config c.self.inside.base c.self.inside.horizon c.self.inside.got c.self.inside.count c.head_len-start.ensures.log c.head_len-start.ensures.streams.0 c.head_len-start.ensures.streams.1
    c.head_len-start.ensures.base c.head_len-start.ensures.horizon c.number_len.ensures.fits c.self.invariant c.streams-lawful.ensures.lawful c.streams-lawful.ensures.numbered)

use Rattle.std.proofs.Common.{◌≡◌, ◌∙◌, sym, ap, subst, length, List}
use Rattle.hk_model.specs.Replica.Streams.{StreamContent, all_together}
use Rattle.hk_marks.specs.Seen.{AreStreams}
use Rattle.hk_marks.proofs.JoinedStreams.{joined_kept}
use Rattle.hk_marks.proofs.got.Got.join.Goals as goal

pub invariant_of-self-2 : goal.invariant_of-self-2
invariant_of-self-2 c =
    let same : c.deref_mut.result.now ≡ c.self.inside.streams.items = c.deref_mut.ensures.value in
    let lengths : length c.self.inside.streams.items ≡ length c.deref.result.now = ap length c.self.view_is ∙ c.requires ∙ sym (ap length (c.deref.ensures.value ∙ c.other.view_is)) in
    joined_kept _ _ c.deref.result.now _ c.self.invariant (subst AreStreams (sym c.deref.ensures.value) c.other.invariant) lengths
    (c.in_ok-join_streams.ensures.ok ∙ ap (λ (xs : List StreamContent). all_together xs c.deref.result.now) same)
    (sym c.deref_mut.ensures.len ∙ ap length same)

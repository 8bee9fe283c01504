use Rattle.std.proofs.Common.{◌≡◌, ap, ◌∙◌, Bool}
use Rattle.std.proofs.lemmas.List.Folds.{list_all-map}
use Rattle.std.specs.List.{list_all, range_with_len}
use Rattle.hk_model.specs.History.Histories.{is_retired}
use Rattle.hk_primary.specs.Log.{history_of}
use Rattle.hk_primary.proofs.primary.Primary.is_over.Goals as goal

pub returns : goal.returns
returns c =
    let a = c.self.inside in
    rw (← c.self.view_is) (c.all_true.ensures ∙ ap (list_all (λ (flag : Bool). flag)) (c.deref.ensures.value ∙ c.self.invariant.retired_are) ∙ list_all-map (λ (flag : Bool). flag) (is_retired (history_of a.log.items)) (range_with_len 1 a.config.streams))

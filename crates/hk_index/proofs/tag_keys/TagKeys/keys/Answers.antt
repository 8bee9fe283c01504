use Rattle.std.proofs.Common.{ap, ◌∙◌, ℕ, nat_cmp}
use Rattle.hk_index.specs.declared.tag_key.TagKey.{TagKey}
use Rattle.hk_index.specs.Tags.{TagKeysValue, or_nil, keys_at, is_one_of, tag_key_cmp}
use Rattle.hk_index.proofs.TagsListed.{none_rise}
use Rattle.hk_slots.specs.SlotMaps.{map_of}
use Rattle.hk_index.proofs.tag_keys.TagKeys.keys.Goals as goal
use Rattle.hk_index.proofs.tag_keys.TagKeys.keys.Goals.{in-Some+in_ok-keys-in-Some, in-None}

pub returns-clause-ok : goal.returns-clause-ok
returns-clause-ok c =
    let m : TagKeysValue = map_of tag_key_cmp c.self.inside.lists in
    let here = λ (key : ℕ). ap (λ (at : TagKey). is_one_of (keys_at m at) key) c.new.ensures in
    elim c.match-get.branch [
      | in-Some+in_ok-keys-in-Some w ↦ rw (w.keys-is, ← c.self.view_is) (record { rising = w.in_ok-keys-in-Some.ensures.rising; same = λ key. w.in_ok-keys-in-Some.ensures.same key ∙ ap (λ o. is_one_of (or_nil o) key) w.in-Some.ensures ∙ here key })
      | in-None w ↦ rw (w.keys-is, ← c.self.view_is, w.new-keys.ensures.items) (record { rising = none_rise nat_cmp; same = λ key. ap (λ o. is_one_of (or_nil o) key) w.in-None.ensures ∙ here key })
    ]

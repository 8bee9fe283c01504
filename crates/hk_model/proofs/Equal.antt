-- The laws for users: one replica end to end, joins, and replicas of the same set of items.
use Rattle.std.proofs.Common.{◌≡◌, refl, zero, suc, ◌<◌, length, Contains, sym, ap, ◌∙◌, subst, ℕ, true, false, cond, List, [], ◌∷◌, ◌++◌, inl, inr, ◌≤◌, max, arith, nat_lt, ltb-false}
use Rattle.hk_types.specs.Values.{ConfigValue}
use Rattle.hk_log.specs.declared.item.Item.{Item}
use Rattle.hk_model.proofs.Replica.Members.{In}
use Rattle.hk_model.proofs.History.Honest.{Contains_In}
use Rattle.hk_model.proofs.Replica.Same.{same_streams}
use Rattle.hk_model.proofs.Replica.Same.{SameItems as SameIn}
use Rattle.hk_model.proofs.Laws.{readable_more, same, represents_both, join_law_proof, reply_law_proof, deliver_law_proof}
use Rattle.hk_model.specs.Replica.Streams.{streams_of}
use Rattle.hk_model.specs.Replica.Content.{Content, readable, least_closed}
use Rattle.hk_model.specs.Replica.ContentOf.{content_of}
use Rattle.hk_model.specs.Replica.Replicas.{Delivery, content_after_deliveries, delivered_items, accepted_horizon, empty_content}
use Rattle.hk_model.specs.Replica.Replicas.Delivery.{Bring, PruneTo}
use Rattle.hk_model.specs.Laws.{DeliverRepresents, DeliverReplies, JoinLaw, SameItems, SameContents, SameReadable, WorldLaw}

-- ---- one replica, end to end

-- an accepted horizon is at most the readable mark
accepted_within : (config : ConfigValue) (items : List Item) (g : ℕ) (ds : List Delivery) → g ≤ least_closed (streams_of config.streams items) → accepted_horizon config items g ds ≤ least_closed (streams_of config.streams (delivered_items items ds))
accepted_within config items g [] within = within
accepted_within config items g (Bring i ∷ ds) within =
    let more = readable_more config.streams items (i ∷ items) (λ j k. inr k) in
    accepted_within config (i ∷ items) g ds (omega arith)
accepted_within config items g (PruneTo k ∷ ds) within =
    accepted_within config items (cond (nat_lt (least_closed (streams_of config.streams items)) k) g (max g k)) ds
    (elim (nat_lt (least_closed (streams_of config.streams items)) k) as (λ b. nat_lt (least_closed (streams_of config.streams items)) k ≡ b → cond b g (max g k) ≤ least_closed (streams_of config.streams items)) [
      | true ↦ λ t. within
      | false ↦ λ t. let l = ltb-false (least_closed (streams_of config.streams items)) k t in omega arith
    ] refl)

pub deliver_represents_proof : DeliverRepresents
deliver_represents_proof config h is ds all =
    let law = deliver_law_proof config h is ds all in
    record {
      of_history = all;
      within = subst (λ (c : Content). accepted_horizon config [] 0 ds ≤ readable c) (sym law) (accepted_within config [] 0 ds (omega arith));
      is_content_of = law;
    }

pub deliver_replies_proof : DeliverReplies
deliver_replies_proof config h is ds all t old soon q =
    reply_law_proof config h is (delivered_items [] ds) (accepted_horizon config [] 0 ds) (content_after_deliveries (empty_content config) ds) (deliver_represents_proof config h is ds all) t old soon q

-- ---- joins

pub joins_law_proof : JoinLaw
joins_law_proof config h is p q g k r a b sa sb ra base =
    (content_of config (p ++ q) (max g k), join_law_proof config h is p q g k r a b sa sb ra base, represents_both config h is p q g k a b sa sb)

-- ---- the same set of items

In_Contains : {X : Type 0} (xs : List X) (x : X) → In x xs → Contains xs x
In_Contains [] x h = elim h [ ]
In_Contains (y ∷ ys) x (inl e) = (zero, omega arith, sym e)
In_Contains (y ∷ ys) x (inr h) = let rest = In_Contains ys x h in (suc rest.0, above rest.0 (length ys) rest.1, rest.2)
  where
    above : (k n : ℕ) → k < n → suc k < suc n
    above k n l = omega arith

same_in : (p q : List Item) → SameItems p q → SameIn p q
same_in p q s i = (
  λ h. Contains_In q i ((s i).0 (In_Contains p i h)),
  λ h. Contains_In p i ((s i).1 (In_Contains q i h)),
)

pub same_contents_proof : SameContents
same_contents_proof config h is p q g a b sa sb s =
    sa.is_content_of ∙ same config h is p q sa.of_history sb.of_history (same_in p q s) g ∙ sym sb.is_content_of

pub same_readable_proof : SameReadable
same_readable_proof config h is p q g k a b sa sb s =
    ap readable sa.is_content_of ∙ ap least_closed (same_streams config.streams p q (same_in p q s)) ∙ sym (ap readable sb.is_content_of)

pub world_law_proof : WorldLaw
world_law_proof config h is p q g k a b sa sb s t old soon query =
    reply_law_proof config h is p g a sa t (omega arith) soon query
    ∙ sym (reply_law_proof config h is q k b sb t (omega arith) (subst (λ (n : ℕ). t ≤ n) (same_readable_proof config h is p q g k a b sa sb s) soon) query)

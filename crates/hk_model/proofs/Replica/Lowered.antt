-- A part since a time at another horizon.
use Rattle.std.proofs.Common.{◌≡◌, refl, sym, subst, ◌∙◌, ℕ, cond, not, Option, Some, None, List, ◌++◌, inr, ◌<◌, ◌≤◌, max, arith, Ok, nat_lt}
use Rattle.std.proofs.lemmas.Bool.Decides.{nat_tests}
use Rattle.std.specs.FinMap as finmap
use Rattle.hk_model.proofs.Replica.Maps.{version_key_total, version_key_same}
use Rattle.hk_model.proofs.Replica.Joins.{part_row, part_end}
use Rattle.hk_model.proofs.History.Logs.{IsOneLog, IsPart, fact_end, end_found}
use Rattle.hk_model.proofs.History.Honest.{history_log, items_part}
use Rattle.hk_types.specs.Values.{ConfigValue}
use Rattle.hk_types.specs.declared.version_key.VersionKey.{VersionKey}
use Rattle.hk_log.specs.declared.item.Item.{Item}
use Rattle.hk_model.specs.History.Histories.{History, IsHistory, AreItemsOf}
use Rattle.hk_model.specs.History.Facts.{rows_of, ends_of}
use Rattle.hk_model.specs.Replica.Content.{at_most}
use Rattle.hk_model.specs.Replica.Streams.{streams_of}
use Rattle.hk_model.specs.Replica.Fragments.{part}
use Rattle.hk_model.proofs.Laws.{content_of_within, represents_both, join_law_proof}
use Rattle.hk_model.specs.Replica.Content.{Content, readable}
use Rattle.hk_model.specs.Replica.ContentOf.{content_of}
use Rattle.hk_model.specs.Replica.Fragments.{FragmentValue, cut}
use Rattle.hk_model.specs.Replica.Replicas.{Represents}
use Rattle.hk_model.specs.Replica.Rules.{join_result}
use Rattle.hk_model.specs.Laws.{LoweredLaw, LoweredJoin}

-- at one version key: x the row and a the end
row_at : {X : Type 0} (born k h r : ℕ) (x : Option X) (a : Option ℕ) → ((d : ℕ) → a ≡ Some d → born < d) → k ≤ h → h ≤ r →
    cond (nat_lt r born) (cond (not (at_most h a)) x None) None ≡ cond (nat_lt r born) (cond (not (at_most k a)) x None) None
row_at born k h r x a after kh hr = grind (arith, nat_tests)

end_at : (k h r : ℕ) (a : Option ℕ) → k ≤ h → h ≤ r →
    cond (not (at_most r (cond (not (at_most h a)) a None))) (cond (not (at_most h a)) a None) None
    ≡ cond (not (at_most r (cond (not (at_most k a)) a None))) (cond (not (at_most k a)) a None) None
end_at k h r a kh hr = grind (arith, nat_tests)

pub lowered : LoweredLaw
lowered config history is items all k h r kh hr =
    λ i. record { base = r; content = record { log = config.log; horizon = k; rows = rows i; ends = ends i; streams = streams_of config.streams items } }
  where
    after : (v : VersionKey) (d : ℕ) → finmap.get (ends_of items) v ≡ Some d → v.born < d
    after v d e =
        let from = fact_end v d items (end_found items v d e) in
        (history_log config history is).end_later from.0 v d ((items_part config history is items all).entry from.0 from.1) from.2

    rows : (part config items h r).content.rows ≡ (part config items k r).content.rows
    rows = finmap.same_map version_key_total version_key_same _ _ (λ v.
        part_row config items h r v
        ∙ row_at v.born k h r (finmap.get (rows_of items) v) (finmap.get (ends_of items) v) (after v) kh hr
        ∙ sym (part_row config items k r v))

    ends : (part config items h r).content.ends ≡ (part config items k r).content.ends
    ends = finmap.same_map version_key_total version_key_same _ _ (λ v.
        part_end config items h r v
        ∙ end_at k h r (finmap.get (ends_of items) v) kh hr
        ∙ sym (part_end config items k r v))

pub lowered_join : LoweredJoin
lowered_join config history is p q g h k r a b sa sb near kh hr =
    let soon : h ≤ readable (content_of config q h) = subst (λ (x : Content). h ≤ readable x) sb.is_content_of sb.within in
    let at_k : Represents config history q k (content_of config q k) = record { of_history = sb.of_history; within = omega arith; is_content_of = refl } in
    let joined = join_law_proof config history is p q g k r a (content_of config q k) sa at_k near (inr (omega arith)) in (
      content_of config (p ++ q) (max g k),
      subst (λ (x : Content). join_result a (record (cut x r) { content = record (cut x r).content { horizon = k } }) ≡ Ok (content_of config (p ++ q) (max g k))) (sym sb.is_content_of)
          (subst (λ (f : FragmentValue). join_result a f ≡ Ok (content_of config (p ++ q) (max g k))) (sym (lowered config history is q sb.of_history k h r kh hr)) joined),
      represents_both config history is p q g k a (content_of config q k) sa at_k,
    )

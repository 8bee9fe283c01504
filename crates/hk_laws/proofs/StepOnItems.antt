-- A step on contents is the step on the items for which they stand.
use Rattle.std.proofs.Common.{◌≡◌, refl, sym, ap, ◌∙◌, subst, ℕ, Bool, true, false, true≢false, not, cond, nat_lt, ◌||◌, ◌==◌, Option, Some, None, List, [], ◌∷◌, ◌++◌, max, inl, inr}
use Rattle.hk_types.specs.Values.{ConfigValue}
use Rattle.hk_types.specs.declared.faults.Refusal.TheVariants.{NoStream, Retired, NotYet, TooOld, Gap, AheadOfMark}
use Rattle.hk_model.specs.Replica.Content.{Content}
use Rattle.hk_model.specs.Replica.Answers.{AnswerValue, answer}
use Rattle.hk_model.specs.declared.query.Query.{Query}
use Rattle.hk_model.specs.History.Histories.{History, commits, is_retired, history_with_mark, table_at}
use Rattle.hk_log.specs.Items.{MarkValue}
use Rattle.hk_log.specs.declared.item.Item.TheVariants.{Closed}
use Rattle.hk_model.specs.declared.took.Took.{Took}
use Rattle.hk_model.specs.declared.took.Took.TheVariants.{Taken, Repeated}
use Rattle.hk_model.specs.Replica.ContentOf.{content_of}
use Rattle.hk_model.specs.Replica.Rules.{took}
use Rattle.hk_model.specs.World.Worlds.{World, Replica, EventValue, ToldValue, Agree, AllRepresent, act_on, after_mark, asked_primary, asked_of, both, by_items, delta_with, mark_now, retirement, readable_on_primary, merged_with, at_number, all_numbered, pruned_to, readable_of, step, outcome_of}
use Rattle.hk_model.specs.World.Worlds.EventValue.{Commit, MarkOf, Retire, Absorb, Batch, Prune, Merge, Delta, Ask, FrontOf}
use Rattle.hk_model.specs.World.Worlds.ToldValue.{Absorbed, Done, Answered, Marked, Refused}
use Rattle.hk_model.proofs.World.Runs.{step_law_proof}
use Rattle.hk_query.specs.Memory.{takes_memory}
use Rattle.hk_acting.specs.Telling.{is_first_outcome}
use Rattle.hk_laws.specs.Calls.{Steps, StepsOf, horizons_of, item_horizons, may_lack, takes_memory_at}
use Rattle.hk_laws.proofs.RefusedCommits.{commit_lacks}
use Rattle.hk_laws.specs.Running.{Running}

-- where none of the refusals is told that are tested first, memory may run out
abbrev OnlyFirst : ToldValue → Type 0
OnlyFirst outcome = is_first_outcome outcome ≡ false → may_lack outcome ≡ true

acted_only : {X : Type 0} (w : World Replica) (k : ℕ) (x : Option X) (act : X → ToldValue × Replica) → ((y : X) → OnlyFirst (act y).0) → OnlyFirst (act_on w k x act).0
acted_only w k None act h = λ e. absurd (true≢false e)
acted_only w k (Some y) act h = h y

either_only : (b : Bool) (x y : ToldValue) → OnlyFirst x → OnlyFirst y → OnlyFirst (cond b x y)
either_only true x y h k = h
either_only false x y h k = k

paired_only : (b : Bool) (x y : ToldValue × Replica) → OnlyFirst x.0 → OnlyFirst y.0 → OnlyFirst (cond b x y).0
paired_only true x y h k = h
paired_only false x y h k = k

world_only : (b : Bool) (x y : ToldValue × World Replica) → OnlyFirst x.0 → OnlyFirst y.0 → OnlyFirst (cond b x y).0
world_only true x y h k = h
world_only false x y h k = k

outcome_only : (x : Option Replica) (tell : Replica → ToldValue) → ((r : Replica) → OnlyFirst (tell r)) → OnlyFirst (outcome_of x tell)
outcome_only None tell h = λ e. absurd (true≢false e)
outcome_only (Some r) tell h = h r

absorbed_only : (t : Took) → OnlyFirst (Absorbed t)
absorbed_only Taken e = refl
absorbed_only Repeated e = absurd (true≢false e)

answered_only : (a : AnswerValue) → OnlyFirst (Answered a)
answered_only a e = by (takes_memory a) e
  where
    by : (b : Bool) → not b ≡ false → b ≡ true
    by true f = refl
    by false f = absurd (true≢false f)

asked_only : (config : ConfigValue) (history : History) (t : ℕ) (r : Replica) (q : Query) → OnlyFirst (asked_of config history r t q)
asked_only config history t r q =
    either_only (nat_lt t r.horizon) (Refused (TooOld r.horizon)) (cond (nat_lt (readable_of config r) t) (Refused (NotYet (readable_of config r))) (Answered (answer (table_at (commits history) t) q))) (λ e. absurd (true≢false e))
    (either_only (nat_lt (readable_of config r) t) (Refused (NotYet (readable_of config r))) (Answered (answer (table_at (commits history) t) q)) (λ e. absurd (true≢false e)) (answered_only (answer (table_at (commits history) t) q)))

pruned_only : (config : ConfigValue) (h : ℕ) (r : Replica) → OnlyFirst (pruned_to config r h).0
pruned_only config h r =
    paired_only (nat_lt (readable_of config r) h) (Refused (AheadOfMark (readable_of config r)), r) (Done, record { items = r.items; horizon = max r.horizon h }) (λ e. absurd (true≢false e)) (λ e. refl)

delta_only : (config : ConfigValue) (base : ℕ) (a b : Replica) → OnlyFirst (delta_with config a b base).0
delta_only config base a b =
    paired_only (nat_lt base b.horizon) (Refused (TooOld b.horizon), a) (cond (nat_lt (readable_of config a) base) (Refused (Gap base (readable_of config a)), a) (Done, merged_with a b)) (λ e. absurd (true≢false e))
    (paired_only (nat_lt (readable_of config a) base) (Refused (Gap base (readable_of config a)), a) (Done, merged_with a b) (λ e. absurd (true≢false e)) (λ e. refl))

primary_only : (config : ConfigValue) (history : History) (t : ℕ) (q : Query) → OnlyFirst (asked_primary config history t q)
primary_only config history t q = either_only (nat_lt (readable_on_primary config history) t) (Refused (NotYet (readable_on_primary config history))) (Answered (answer (table_at (commits history) t) q)) (λ e. absurd (true≢false e)) (answered_only (answer (table_at (commits history) t) q))

marked_only : (config : ConfigValue) (w : World Replica) (m : MarkValue) → OnlyFirst (after_mark config w m).0
marked_only config w m =
    world_only (nat_lt m.stream 1 || nat_lt config.streams m.stream) (Refused NoStream, w) (cond (is_retired w.history m.stream) (Refused (Retired m.stream), w) (Marked m, marked)) (λ f. absurd (true≢false f))
    (world_only (is_retired w.history m.stream) (Refused (Retired m.stream), w) (Marked m, marked) (λ f. absurd (true≢false f)) (λ f. refl))
  where
    marked : World Replica
    marked = record { history = history_with_mark w.history m; emitted = w.emitted ++ Closed m ∷ []; replicas = w.replicas }

-- where nothing that is tested first is told on items, nothing is refused
lack_of : (config : ConfigValue) (w : World Replica) (event : EventValue) → is_first_outcome (step (by_items config) config w event).0 ≡ false → may_lack (step (by_items config) config w event).0 ≡ true
lack_of config w (Commit s r ws) e = commit_lacks config w s r ws e
lack_of config w (MarkOf s) e = marked_only config w (mark_now config w.history s) e
lack_of config w (Retire s) e = marked_only config w (retirement config w.history s) e
lack_of config w (Absorb k i) e = (acted_only w k (both (at_number w.replicas k) (at_number w.emitted i)) (λ p. (by_items config).absorb p.0 p.1) (λ p. absorbed_only (took (content_of config p.0.items p.0.horizon) p.1)) e)
lack_of config w (Batch k is) e = (acted_only w k (both (at_number w.replicas k) (all_numbered w.emitted is)) (λ p. (by_items config).batch p.0 p.1) (λ p f. refl) e)
lack_of config w (Prune k h) e = (acted_only w k (at_number w.replicas k) (λ r. (by_items config).prune r h) (pruned_only config h) e)
lack_of config w (Merge to from) e = (acted_only w to (both (at_number w.replicas to) (at_number w.replicas from)) (λ p. (by_items config).merge p.0 p.1) (λ p f. refl) e)
lack_of config w (Delta to from base) e = (acted_only w to (both (at_number w.replicas to) (at_number w.replicas from)) (λ p. (by_items config).delta p.0 p.1 base) (λ p. delta_only config base p.0 p.1) e)
lack_of config w (Ask k t q) e =
    (either_only (k == 0) (asked_primary config w.history t q) (outcome_of (at_number w.replicas k) (λ r. (by_items config).ask w.history r t q)) (primary_only config w.history t q)
    (outcome_only (at_number w.replicas k) (λ r. (by_items config).ask w.history r t q) (λ r. asked_only config w.history t r q)) e)
lack_of config w (FrontOf k) e = (outcome_only (at_number w.replicas k) (by_items config).front (λ r f. absurd (true≢false f)) e)

-- what represents items has their horizon
same_horizons : (config : ConfigValue) (history : History) (rs : List Replica) (cs : List Content) → AllRepresent config history rs cs → horizons_of cs ≡ item_horizons rs
same_horizons config history [] [] h = refl
same_horizons config history [] (c ∷ cs) h = absurd h
same_horizons config history (r ∷ rs) [] h = absurd h
same_horizons config history (r ∷ rs) (c ∷ cs) h = λ i. (h.0.is_content_of i).horizon ∷ same_horizons config history rs cs h.1 i

pub steps_of : (old new : Running) (event : EventValue) (outcome : ToldValue) → Steps old new event outcome → StepsOf old new event outcome
steps_of old new event outcome (inl lacks) = λ items agree.
    let law = step_law_proof old.config items old.world agree event in
    let same = same_horizons old.config items.history items.replicas old.world.replicas agree.all_stand in
    inl (lacks.0, lack_of old.config items event (ap is_first_outcome law.0 ∙ lacks.1), sym (ap (λ (hs : List ℕ). takes_memory_at hs event) same) ∙ lacks.2)
steps_of old new event outcome (inr s) = λ items agree.
    let law = step_law_proof old.config items old.world agree event in
    inr (s.0 ∙ sym law.0, ap (λ (r : Running). r.config) s.1, subst (λ (w : World Content). Agree old.config (step (by_items old.config) old.config items event).1 w) (sym (ap (λ (r : Running). r.world) s.1)) law.1)

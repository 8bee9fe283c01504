-- The history that a log states, and what it makes of the log's items.
use Rattle.std.proofs.Common.{◌≡◌, refl, sym, ap, ◌∙◌, subst, ℕ, ◌^◌, ◌==◌, true, false, cond, List, [], ◌∷◌, ◌++◌, ◌⊎◌, inl, inr, ◌<◌, arith, length, All, Contains}
use Rattle.std.proofs.lemmas.List.Elements.{All-cons, All-nil}
use Rattle.hk_types.specs.Values.{ConfigValue}
use Rattle.hk_log.specs.Items.{EntryValue, MarkValue}
use Rattle.hk_log.specs.declared.item.Item.{Item}
use Rattle.hk_log.specs.declared.item.Item.TheVariants.{Commit, Closed}
use Rattle.hk_model.specs.History.Histories.Act.{Commits, Retires}
use Rattle.hk_model.specs.History.Histories.{Transaction, Act, History, commits, history_with_mark, entries_of, entry_of, MayRetire, IsHistory, IsItemOf, AreItemsOf}
use Rattle.hk_model.proofs.Replica.Members.{In}
use Rattle.hk_model.proofs.Replica.Steps.{item_longer}
use Rattle.hk_primary.specs.Log.{IsLogged, IsNextMark, IsHonest, PrimaryValue, transaction_of, read_on, history_of}

pub read_on-push : (h : History) (xs : List Item) (x : Item) → read_on h (xs ++ x ∷ []) ≡ read_on (read_on h xs) (x ∷ [])
read_on-push h [] x = refl
read_on-push h (Commit e ∷ xs) x = read_on-push (Commits (transaction_of e) ∷ h) xs x
read_on-push h (Closed m ∷ xs) x = read_on-push (history_with_mark h m) xs x

-- a mark leaves the transactions as they are
pub marked_commits : (h : History) (m : MarkValue) → commits (history_with_mark h m) ≡ commits h
marked_commits h m = elim (m.upto == 2 ^ 62) as (λ b. commits (cond b (Retires m.stream ∷ h) h) ≡ commits h) [ true ↦ refl | false ↦ refl ]

module _ (config : ConfigValue) where
  pub logged-push : (h : History) (xs : List Item) (x : Item) → IsLogged config h xs → IsLogged config (read_on h xs) (x ∷ []) → IsLogged config h (xs ++ x ∷ [])
  logged-push h [] x l one = one
  logged-push h (Commit e ∷ xs) x l one = (l.0, logged-push (Commits (transaction_of e) ∷ h) xs x l.1 one)
  logged-push h (Closed m ∷ xs) x l one = (l.0, logged-push (history_with_mark h m) xs x l.1 one)

  may_retire : (h : History) (m : MarkValue) → IsNextMark config h m → MayRetire config h m.stream
  may_retire h m n = record { stream_above = n.truthful.stream_above; stream_within = n.truthful.stream_within; not_retired = n.not_retired }

  marked_history : (h : History) (m : MarkValue) → IsHistory config h → IsNextMark config h m → IsHistory config (history_with_mark h m)
  marked_history h m is n = elim (m.upto == 2 ^ 62) as (λ b. IsHistory config (cond b (Retires m.stream ∷ h) h)) [ true ↦ (may_retire h m n, is) | false ↦ is ]

  marked_item : (h : History) (m : MarkValue) → IsNextMark config h m → (i : Item) → IsItemOf config h i → IsItemOf config (history_with_mark h m) i
  marked_item h m n i item =
      elim (m.upto == 2 ^ 62) as (λ b. IsItemOf config (cond b (Retires m.stream ∷ h) h) i) [ true ↦ item_longer config h (Retires m.stream) (may_retire h m n) i item | false ↦ item ]

  logged_history : (h : History) (xs : List Item) → IsHistory config h → IsLogged config h xs → IsHistory config (read_on h xs)
  logged_history h [] is l = is
  logged_history h (Commit e ∷ xs) is l = logged_history (Commits (transaction_of e) ∷ h) xs (l.0.may_commit, is) l.1
  logged_history h (Closed m ∷ xs) is l = logged_history (history_with_mark h m) xs (marked_history h m is l.0) l.1

  -- an item of a history stays one while the log grows
  item_on : (h : History) (xs : List Item) (i : Item) → IsLogged config h xs → IsItemOf config h i → IsItemOf config (read_on h xs) i
  item_on h [] i l is = is
  item_on h (Commit e ∷ xs) i l is = item_on (Commits (transaction_of e) ∷ h) xs i l.1 (item_longer config h (Commits (transaction_of e)) l.0.may_commit i is)
  item_on h (Closed m ∷ xs) i l is = item_on (history_with_mark h m) xs i l.1 (marked_item h m l.0 i is)

  newest_in : (e f : EntryValue) (es : List EntryValue) → e ≡ f → Contains (f ∷ es) e
  newest_in e f es same = (0, omega arith, sym same)

  logged_items : (h : History) (xs : List Item) → IsLogged config h xs → AreItemsOf config (read_on h xs) xs
  logged_items h [] l = All-nil (IsItemOf config h)
  logged_items h (Commit e ∷ xs) l =
      let act : Act = Commits (transaction_of e) in
      All-cons (IsItemOf config (read_on (act ∷ h) xs)) (Commit e) xs
      (item_on (act ∷ h) xs (Commit e) l.1 (newest_in e (entry_of config (commits h) (transaction_of e)) (entries_of config (commits h)) l.0.is_entry))
      (logged_items (act ∷ h) xs l.1)
  logged_items h (Closed m ∷ xs) l =
      let next = history_with_mark h m in
      All-cons (IsItemOf config (read_on next xs)) (Closed m) xs (item_on next xs (Closed m) l.1 l.0.truthful) (logged_items next xs l.1)

  -- the entries of the history are those before it, and those of the log
  entry_logged : (h : History) (xs : List Item) (e : EntryValue) → IsLogged config h xs → In e (entries_of config (commits (read_on h xs))) → In e (entries_of config (commits h)) ⊎ In (Commit e) xs
  entry_logged h [] e l i = inl i
  entry_logged h (Commit f ∷ xs) e l i =
      elim (entry_logged (Commits (transaction_of f) ∷ h) xs e l.1 i) [
        | inl before ↦ elim before [
          | inl now ↦ inr (inl (ap Commit (now ∙ sym l.0.is_entry)))
          | inr earlier ↦ inl earlier
        ]
        | inr later ↦ inr (inr later)
      ]
  entry_logged h (Closed m ∷ xs) e l i =
      elim (entry_logged (history_with_mark h m) xs e l.1 i) [
        | inl before ↦ inl (subst (λ ts. In e (entries_of config ts)) (marked_commits h m) before)
        | inr later ↦ inr (inr later)
      ]

  pub history_is : (items : List Item) → IsLogged config [] items → IsHistory config (history_of items)
  history_is items l = logged_history [] items tt l

  pub items_are : (items : List Item) → IsLogged config [] items → AreItemsOf config (history_of items) items
  items_are items l = logged_items [] items l

  -- the log has each entry of its history
  pub log_has : (items : List Item) (e : EntryValue) → IsLogged config [] items → In e (entries_of config (commits (history_of items))) → In (Commit e) items
  log_has items e l i = elim (entry_logged [] items e l i) [ inl none ↦ elim none [ ] | inr there ↦ there ]

  pub honest : (after : ℕ) (items : List Item) → IsLogged config [] items → IsHonest (record { config = config; after = after; history = history_of items; items = items })
  honest after items l = record { read_off = refl; is_history = history_is items l; of_history = items_are items l }

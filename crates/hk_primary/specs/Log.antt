-- The history that a log states, and what a primary is.
use Rattle.std.specs.Prelude.{◌≡◌, ◌≤◌, ℕ, Bool, false, List, [], ◌∷◌, ◌++◌, map}
use Rattle.std.specs.List.{range_with_len}
use Rattle.std.specs.FinMap as finmap
use Rattle.hk_types.specs.Values.{RowValue, ConfigValue}
use Rattle.hk_types.specs.declared.version_key.VersionKey.{VersionKey}
use Rattle.hk_log.specs.Items.{EntryValue, MarkValue}
use Rattle.hk_log.specs.declared.item.Item.{Item}
use Rattle.hk_log.specs.declared.item.Item.TheVariants.{Commit, Closed}
use Rattle.hk_model.specs.History.Rows.{row_key_cmp}
use Rattle.hk_model.specs.History.Facts.{rows_of, ends_of}
use Rattle.hk_model.specs.History.Histories.Act.{Commits}
use Rattle.hk_model.specs.History.Histories.{Transaction, History, commits, is_retired, written_key, last, entries_in, entry_of, history_with_mark, MayCommit, IsHistory, IsTruthful, AreItemsOf}
use Rattle.hk_model.specs.declared.write_op.WriteOp.{WriteOp}
use Rattle.hk_model.specs.declared.write_op.WriteOp.TheVariants.{Put, Remove}
use Rattle.hk_store.specs.Facts.{FactsValue}

-- ---- the history that a log states

-- an entry's row is a put
abbrev pub put_of : ℕ × ℕ × RowValue → WriteOp
put_of r = Put r.0 r.1 r.2

-- an ended version is a removal
abbrev pub removal_of : VersionKey → WriteOp
removal_of v = Remove v.table v.key

-- writes by their keys; of two of one key the first one stands
abbrev pub by_key : List WriteOp → finmap.FinMap row_key_cmp WriteOp
by_key ws = finmap.from_entries (map (λ w. (written_key w, w)) ws)

-- the writes of an entry, by rising key: its rows are puts, and its ended keys without a row are removals
abbrev pub writes_of : EntryValue → List WriteOp
writes_of e = finmap.values (by_key (map put_of e.rows ++ map removal_of e.ends))

-- the transaction that an entry states
abbrev pub transaction_of : EntryValue → Transaction
transaction_of e = record { time = e.time; stream = e.stream; writes = writes_of e }

-- the history after these items, which came after this history: a mark at the last time of all retires its stream
abbrev pub read_on : History → List Item → History
read_on h [] = h
read_on h (Commit e ∷ more) = read_on (Commits (transaction_of e) ∷ h) more
read_on h (Closed m ∷ more) = read_on (history_with_mark h m) more

-- the history that a log states
abbrev pub history_of : List Item → History
history_of items = read_on [] items

-- ---- what a primary is

-- an entry may come next: it is that of the transaction that it states
pub record IsNext (config : ConfigValue) (h : History) (e : EntryValue) : Type 0 where
  pub may_commit : MayCommit config h (transaction_of e)
  pub is_entry : e ≡ entry_of config (commits h) (transaction_of e)

-- a mark may come next: its stream is not retired, and it is true of the history with it
pub record IsNextMark (config : ConfigValue) (h : History) (m : MarkValue) : Type 0 where
  pub not_retired : is_retired h m.stream ≡ false
  pub truthful : IsTruthful config (history_with_mark h m) m

-- each item, after what came before it, is an entry or a mark that may come next
abbrev pub IsLogged : ConfigValue → History → List Item → Type 0
IsLogged config h [] = Unit {0}
IsLogged config h (Commit e ∷ more) = IsNext config h e × IsLogged config (Commits (transaction_of e) ∷ h) more
IsLogged config h (Closed m ∷ more) = IsNextMark config h m × IsLogged config (history_with_mark h m) more

-- what a primary's parts are to one another
pub record IsPrimary (config : ConfigValue) (newest : ℕ) (items : List Item) (facts : FactsValue) (counts : List ℕ) (retired : List Bool) : Type 0 where
  pub few_streams : config.streams ≤ 64
  pub logged : IsLogged config [] items
  pub newest_is : newest ≡ last (commits (history_of items))
  pub rows_are : facts.rows ≡ rows_of items
  pub ends_are : facts.ends ≡ ends_of items
  pub counts_are : counts ≡ map (entries_in (commits (history_of items))) (range_with_len 1 config.streams)
  pub retired_are : retired ≡ map (is_retired (history_of items)) (range_with_len 1 config.streams)

-- the value of a `Primary`: its configuration, the time that its clock starts after, and its history and log
pub record PrimaryValue : Type 0 where
  pub config : ConfigValue
  pub after : ℕ
  pub history : History
  pub items : List Item

-- what holds of every primary
pub record IsHonest (p : PrimaryValue) : Type 0 where
  pub read_off : p.history ≡ history_of p.items
  pub is_history : IsHistory p.config p.history
  pub of_history : AreItemsOf p.config p.history p.items

-- a primary with no commits
abbrev pub no_commits : ConfigValue → ℕ → PrimaryValue
no_commits config after = record { config = config; after = after; history = []; items = [] }

-- the primary after one more item, with this history
abbrev pub with_item : PrimaryValue → History → Item → PrimaryValue
with_item p history item = record { config = p.config; after = p.after; history = history; items = p.items ++ item ∷ [] }

-- the primary after one more entry
abbrev pub with_entry : PrimaryValue → EntryValue → PrimaryValue
with_entry p e = with_item p (Commits (transaction_of e) ∷ p.history) (Commit e)

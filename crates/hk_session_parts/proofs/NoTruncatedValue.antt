-- No reader of a value answers that the input ends inside a frame: a feeder alone does, at the end.
use Rattle.std.proofs.Common.{not, leb, ◌≡◌, ℕ, zero, suc, ◌+◌, ◌^◌, ◌||◌, ◌&&◌, true, false, cond, eqb, ltb, List, [], ◌∷◌, length, Option, Some, None, refl, Bool}
use Rattle.std.specs.Int.{Width, w16, w32, w64, byte_len}
use Rattle.hk_types.specs.declared.version_key.VersionKey.{VersionKey}
use Rattle.hk_types.specs.declared.faults.FormFault.{FormFault}
use Rattle.hk_types.specs.declared.faults.FormFault.TheVariants.{BadVersion, BadKind, BadStream, BadNumber, BadOrder, BadCount, BadBody, WrongLength}
use Rattle.hk_log.specs.Items.{end_place, row_place, is_after}
use Rattle.hk_codec.specs.Lists.{last_place, is_above, elements_at, group_at, groups_at}
use Rattle.hk_codec.specs.Reading.{keyed_end_at, end_at, keyed_row_at, row_at, moment_at, counted_ends_at, counted_rows_at, grouped_ends_at, grouped_rows_at, ends_of_version, rows_of_version, entry_at, mark_at, HeadValue, head_at as item_head_at, kind_at, item_at}
use Rattle.hk_frames.specs.Fields.{check, byte_at, number_at, bytes_at, body_at, list_at}
use Rattle.hk_fragment.specs.Parts.{follows, is_valid_end}
use Rattle.hk_answers.specs.Readers.{Reader, both, after, fault_where, mapped_value, by_kind, list_by, list_by_count, time_at, positive_at, stream_count_at}
use Rattle.hk_answers.specs.Answers.{row_at as value_row_at}
use Rattle.hk_answers.specs.Queries.{query_of, query_at}
use Rattle.hk_fragment_bytes.specs.Fragments.{number_follows, extra_at, waiting_count_at, waiting_at, stream_of, stream_at, version_at, died_at, known_of, fact_at, least_closed_of, no_stream, bounds_at, streams_at, fragment_head_at, facts_at, fragment_at, whole_at}
use Rattle.hk_fragment_bytes.specs.Parts.{head_at, whole_head_at, part_at}
use Rattle.hk_session_parts.proofs.NeverCut.{is_other, bind_whole, cond_whole, check_whole, Whole}

-- ---- readers

pub number_whole : (w : Width) → Whole (number_at w)
unfolding number_at
number_whole w bytes = cond_whole (ltb (length bytes) (byte_len w)) _ _ refl refl

pub byte_whole : Whole byte_at
unfolding byte_at
byte_whole [] = refl
byte_whole (b ∷ bytes) = refl

pub bytes_whole : (n : ℕ) → Whole (bytes_at n)
unfolding bytes_at
bytes_whole n bytes = cond_whole (ltb (length bytes) n) _ _ refl refl

pub body_whole : Whole body_at
unfolding body_at
body_whole bytes = bind_whole (number_at w16 bytes) _ (number_whole w16 bytes) (λ len. bind_whole (check (ltb 4096 len.0) BadBody) _ (check_whole (ltb 4096 len.0) BadBody refl) (λ _. bytes_whole len.0 len.1))

pub list_whole : {X P : Type 0} (place : X → P) (one : Option P → Reader X) → ((before : Option P) → Whole (one before)) → (n : ℕ) (before : Option P) → Whole (list_at place one n before)
unfolding list_at
list_whole place one h zero before bytes = refl
list_whole place one h (suc n) before bytes =
    bind_whole (one before bytes) _ (h before bytes) (λ x. bind_whole (list_at place one n (Some (place x.0)) x.1) _ (list_whole place one h n (Some (place x.0)) x.1) (λ _. refl))

pub both_whole : {A B : Type 0} (a : Reader A) (b : Reader B) → Whole a → Whole b → Whole (both a b)
both_whole a b h k bytes = bind_whole (a bytes) _ (h bytes) (λ x. bind_whole (b x.1) _ (k x.1) (λ _. refl))

pub after_whole : {A B : Type 0} (a : Reader A) (b : A → Reader B) → Whole a → ((x : A) → Whole (b x)) → Whole (after a b)
after_whole a b h k bytes = bind_whole (a bytes) _ (h bytes) (λ x. bind_whole (b x.0 x.1) _ (k x.0 x.1) (λ _. refl))

pub barred_whole : {A : Type 0} (a : Reader A) (bad : A → Bool) (fault : FormFault) → is_other fault ≡ true → Whole a → Whole (fault_where a bad fault)
barred_whole a bad fault other h bytes = bind_whole (a bytes) _ (h bytes) (λ x. bind_whole (check (bad x.0) fault) _ (check_whole (bad x.0) fault other) (λ _. refl))

pub made_whole : {A B : Type 0} (f : A → B) (r : Reader A) → Whole r → Whole (mapped_value f r)
made_whole f r h bytes = bind_whole (r bytes) _ (h bytes) (λ _. refl)

pub kinded_whole : {A : Type 0} (of : ℕ → Reader A) → ((k : ℕ) → Whole (of k)) → Whole (by_kind of)
kinded_whole of h bytes = bind_whole (byte_at bytes) _ (byte_whole bytes) (λ k. h k.0 k.1)

pub listed_whole : {X P : Type 0} (count_at : Reader ℕ) (place : X → P) (one : Option P → Reader X) → Whole count_at → ((before : Option P) → Whole (one before)) → Whole (list_by count_at place one)
listed_whole count_at place one h k bytes = bind_whole (count_at bytes) _ (h bytes) (λ count. list_whole place one k count.0 None count.1)

pub counted_whole : {X P : Type 0} (place : X → P) (one : Option P → Reader X) → ((before : Option P) → Whole (one before)) → Whole (list_by_count place one)
counted_whole place one k bytes = listed_whole (number_at w32) place one (number_whole w32) k bytes

pub time_whole : Whole time_at
unfolding time_at
time_whole bytes = barred_whole (number_at w64) (λ n. ltb (2 ^ 62) n) BadNumber refl (number_whole w64) bytes

-- ---- items

pub keyed_end_whole : (time table : ℕ) (before : Option (ℕ × ℕ)) → Whole (keyed_end_at time table before)
unfolding keyed_end_at
keyed_end_whole time table before bytes =
    bind_whole (number_at w64 bytes) _ (number_whole w64 bytes) (λ key.
    bind_whole (number_at w64 key.1) _ (number_whole w64 key.1) (λ born.
    bind_whole (check (cond (is_after before (table, key.0)) false true) BadOrder) _ (check_whole _ BadOrder refl) (λ _.
    bind_whole (check (cond (ltb 0 born.0 && ltb born.0 time) false true) BadNumber) _ (check_whole _ BadNumber refl) (λ _. refl))))

pub end_whole : (time : ℕ) (before : Option (ℕ × ℕ)) → Whole (end_at time before)
unfolding end_at
end_whole time before bytes = bind_whole (number_at w16 bytes) _ (number_whole w16 bytes) (λ table. keyed_end_whole time table.0 before table.1)

pub keyed_row_whole : (table : ℕ) (before : Option (ℕ × ℕ)) → Whole (keyed_row_at table before)
unfolding keyed_row_at
keyed_row_whole table before bytes =
    bind_whole (number_at w64 bytes) _ (number_whole w64 bytes) (λ key.
    bind_whole (check (cond (is_after before (table, key.0)) false true) BadOrder) _ (check_whole _ BadOrder refl) (λ _.
    bind_whole (number_at w32 key.1) _ (number_whole w32 key.1) (λ tag.
    bind_whole (body_at tag.1) _ (body_whole tag.1) (λ _. refl))))

pub row_whole : (before : Option (ℕ × ℕ)) → Whole (row_at before)
unfolding row_at
row_whole before bytes = bind_whole (number_at w16 bytes) _ (number_whole w16 bytes) (λ table. keyed_row_whole table.0 before table.1)

-- groups of one table
pub group_whole : {X : Type 0} (place : X → ℕ × ℕ) (one : ℕ → Option (ℕ × ℕ) → Reader X) → ((table : ℕ) (before : Option (ℕ × ℕ)) → Whole (one table before)) → (before : List X) → Whole (group_at place one before)
unfolding group_at elements_at
group_whole place one h before bytes =
    bind_whole (number_at w16 bytes) _ (number_whole w16 bytes) (λ table.
    bind_whole (check (cond (is_above (last_place place None before) table.0) false true) BadOrder) _ (check_whole _ BadOrder refl) (λ _.
    bind_whole (number_at w16 table.1) _ (number_whole w16 table.1) (λ count.
    bind_whole (check (ltb count.0 1 || ltb 1024 (length before + count.0)) BadCount) _ (check_whole _ BadCount refl) (λ _.
    bind_whole (list_at place (one table.0) count.0 (last_place place None before) count.1) _ (list_whole place (one table.0) (h table.0) count.0 (last_place place None before) count.1) (λ _. refl)))))

pub groups_whole : {X : Type 0} (place : X → ℕ × ℕ) (one : ℕ → Option (ℕ × ℕ) → Reader X) → ((table : ℕ) (before : Option (ℕ × ℕ)) → Whole (one table before)) → (n : ℕ) (before : List X) → Whole (groups_at place one n before)
unfolding groups_at
groups_whole place one h zero before bytes = refl
groups_whole place one h (suc n) before bytes = bind_whole (group_at place one before bytes) _ (group_whole place one h before bytes) (λ more. groups_whole place one h n more.0 more.1)

pub moment_whole : Whole moment_at
unfolding moment_at
moment_whole bytes =
    bind_whole (number_at w64 bytes) _ (number_whole w64 bytes) (λ number.
    bind_whole (number_at w64 number.1) _ (number_whole w64 number.1) (λ time.
    bind_whole (check (ltb number.0 1 || ltb time.0 number.0 || ltb (2 ^ 62) time.0) BadNumber) _ (check_whole _ BadNumber refl) (λ _. refl)))

pub counted_ends_whole : (time : ℕ) → Whole (counted_ends_at time)
unfolding counted_ends_at
counted_ends_whole time bytes =
    bind_whole (number_at w16 bytes) _ (number_whole w16 bytes) (λ count.
    bind_whole (check (ltb 1024 count.0) BadCount) _ (check_whole _ BadCount refl) (λ _. list_whole end_place (end_at time) (end_whole time) count.0 None count.1))

pub counted_rows_whole : (ends : ℕ) → Whole (counted_rows_at ends)
unfolding counted_rows_at
counted_rows_whole ends bytes =
    bind_whole (number_at w16 bytes) _ (number_whole w16 bytes) (λ count.
    bind_whole (check (ltb 1024 count.0 || ltb (ends + count.0) 1) BadCount) _ (check_whole _ BadCount refl) (λ _. list_whole row_place row_at row_whole count.0 None count.1))

pub grouped_ends_whole : (time : ℕ) → Whole (grouped_ends_at time)
unfolding grouped_ends_at
grouped_ends_whole time bytes =
    bind_whole (number_at w16 bytes) _ (number_whole w16 bytes) (λ count.
    bind_whole (check (ltb 1024 count.0) BadCount) _ (check_whole _ BadCount refl) (λ _. groups_whole end_place (keyed_end_at time) (keyed_end_whole time) count.0 [] count.1))

pub grouped_rows_whole : (ends : ℕ) → Whole (grouped_rows_at ends)
unfolding grouped_rows_at
grouped_rows_whole ends bytes =
    bind_whole (number_at w16 bytes) _ (number_whole w16 bytes) (λ count.
    bind_whole (check (ltb 1024 count.0 || ltb (ends + count.0) 1) BadCount) _ (check_whole _ BadCount refl) (λ _. groups_whole row_place keyed_row_at keyed_row_whole count.0 [] count.1))

pub entry_whole : (version log stream : ℕ) → Whole (entry_at version log stream)
unfolding entry_at
entry_whole version log stream bytes =
    bind_whole (moment_at bytes) _ (moment_whole bytes) (λ moment.
    bind_whole (ends_of_version version moment.0.1 moment.1) _ (cond_whole (eqb version 1) _ _ (counted_ends_whole moment.0.1 moment.1) (grouped_ends_whole moment.0.1 moment.1)) (λ ends.
    bind_whole (rows_of_version version (length ends.0) ends.1) _ (cond_whole (eqb version 1) _ _ (counted_rows_whole (length ends.0) ends.1) (grouped_rows_whole (length ends.0) ends.1)) (λ _. refl)))

pub mark_whole : (log stream : ℕ) → Whole (mark_at log stream)
unfolding mark_at
mark_whole log stream bytes =
    bind_whole (number_at w64 bytes) _ (number_whole w64 bytes) (λ count.
    bind_whole (number_at w64 count.1) _ (number_whole w64 count.1) (λ upto.
    bind_whole (check (ltb upto.0 count.0 || ltb (2 ^ 62) upto.0) BadNumber) _ (check_whole _ BadNumber refl) (λ _. refl)))

item_head_whole : Whole item_head_at
unfolding item_head_at
item_head_whole bytes =
    bind_whole (byte_at bytes) _ (byte_whole bytes) (λ version.
    bind_whole (check (cond (eqb version.0 1 || eqb version.0 2) false true) BadVersion) _ (check_whole _ BadVersion refl) (λ _.
    bind_whole (byte_at version.1) _ (byte_whole version.1) (λ kind.
    bind_whole (check (cond (eqb kind.0 1 || eqb kind.0 2) false true) BadKind) _ (check_whole _ BadKind refl) (λ _.
    bind_whole (number_at w64 kind.1) _ (number_whole w64 kind.1) (λ log.
    bind_whole (number_at w16 log.1) _ (number_whole w16 log.1) (λ stream.
    bind_whole (check (ltb stream.0 1 || ltb 64 stream.0) BadStream) _ (check_whole _ BadStream refl) (λ _. refl)))))))

pub kind_whole : (head : HeadValue) → Whole (kind_at head)
unfolding kind_at
kind_whole head bytes =
    cond_whole (eqb head.kind 1) _ _
    (bind_whole (entry_at head.version head.log head.stream bytes) _ (entry_whole head.version head.log head.stream bytes) (λ _. refl))
    (bind_whole (mark_at head.log head.stream bytes) _ (mark_whole head.log head.stream bytes) (λ _. refl))

pub item_whole : Whole item_at
unfolding item_at
item_whole bytes =
    bind_whole (item_head_at bytes) _ (item_head_whole bytes) (λ head.
    bind_whole (kind_at head.0 head.1) _ (kind_whole head.0 head.1) (λ item.
    bind_whole (check (ltb 0 (length item.1)) WrongLength) _ (check_whole _ WrongLength refl) (λ _. refl)))

-- ---- fragments

row_value_whole : Whole value_row_at
unfolding value_row_at
row_value_whole bytes = made_whole _ (both (number_at w32) body_at) (both_whole (number_at w32) body_at (number_whole w32) body_whole) bytes

extra_whole : (prefix : ℕ) (before : Option ℕ) → Whole (extra_at prefix before)
unfolding extra_at
extra_whole prefix before bytes =
    barred_whole (fault_where (number_at w64) (λ n. not (number_follows before n)) BadOrder) (λ n. leb n (prefix + 1) || ltb (2 ^ 62) n) BadNumber refl
    (barred_whole (number_at w64) (λ n. not (number_follows before n)) BadOrder refl (number_whole w64)) bytes

waiting_whole : (prefix : ℕ) (before : Option ℕ) → Whole (waiting_at prefix before)
unfolding waiting_at
waiting_whole prefix before bytes =
    barred_whole (both (waiting_count_at prefix before) time_at) (λ m. ltb m.1 m.0) BadNumber refl
    (both_whole (waiting_count_at prefix before) time_at
    (barred_whole (fault_where (number_at w64) (λ n. not (number_follows before n)) BadOrder) (λ n. leb n prefix) BadNumber refl
    (barred_whole (number_at w64) (λ n. not (number_follows before n)) BadOrder refl (number_whole w64)))
    time_whole) bytes

stream_of_whole : (prefix : ℕ) → Whole (stream_of prefix)
stream_of_whole prefix =
    both_whole time_at (both (list_by_count (λ n. n) (extra_at prefix)) (list_by_count (λ m. m.0) (waiting_at prefix))) time_whole
    (both_whole (list_by_count (λ n. n) (extra_at prefix)) (list_by_count (λ m. m.0) (waiting_at prefix))
    (counted_whole (λ n. n) (extra_at prefix) (extra_whole prefix)) (counted_whole (λ m. m.0) (waiting_at prefix) (waiting_whole prefix)))

stream_whole : Whole stream_at
unfolding stream_at
stream_whole bytes = made_whole _ (after time_at stream_of) (after_whole time_at stream_of time_whole stream_of_whole) bytes

version_whole : (before : Option VersionKey) → Whole (version_at before)
unfolding version_at
version_whole before bytes =
    barred_whole (fault_where (mapped_value _ (both (number_at w16) (both (number_at w64) (number_at w64)))) (λ v. not (follows before v)) BadOrder) (λ v. ltb v.born 1 || ltb (2 ^ 62) v.born) BadNumber refl
    (barred_whole (mapped_value _ (both (number_at w16) (both (number_at w64) (number_at w64)))) (λ v. not (follows before v)) BadOrder refl
    (made_whole _ (both (number_at w16) (both (number_at w64) (number_at w64)))
    (both_whole (number_at w16) (both (number_at w64) (number_at w64)) (number_whole w16) (both_whole (number_at w64) (number_at w64) (number_whole w64) (number_whole w64))))) bytes

died_whole : (base horizon born : ℕ) → Whole (died_at base horizon born)
died_whole base horizon born = barred_whole time_at (λ died. not (is_valid_end base horizon born (Some died))) BadNumber refl time_whole

known_whole : (base horizon born flags : ℕ) → Whole (known_of base horizon born flags)
unfolding known_of
known_whole base horizon born flags bytes =
    cond_whole (eqb flags 2) _ _ (made_whole _ (died_at base horizon born) (died_whole base horizon born) bytes)
    (cond_whole (leb born base) _ _ refl
    (cond_whole (eqb flags 1) _ _ (made_whole _ value_row_at row_value_whole bytes)
    (cond_whole (eqb flags 3) _ _ (made_whole _ (both value_row_at (died_at base horizon born)) (both_whole value_row_at (died_at base horizon born) row_value_whole (died_whole base horizon born)) bytes) refl)))

fact_whole : (base horizon : ℕ) (before : Option VersionKey) → Whole (fact_at base horizon before)
unfolding fact_at
fact_whole base horizon before bytes =
    after_whole (version_at before) (λ v. by_kind (known_of base horizon v.born)) (version_whole before) (λ v. kinded_whole (known_of base horizon v.born) (known_whole base horizon v.born)) bytes

bounds_whole : Whole bounds_at
unfolding bounds_at
bounds_whole bytes = barred_whole (both time_at time_at) (λ p. not ((eqb p.0 0) || leb p.1 p.0)) BadNumber refl (both_whole time_at time_at time_whole time_whole) bytes

stream_count_whole : Whole stream_count_at
unfolding stream_count_at
stream_count_whole bytes = barred_whole (number_at w16) (λ n. ltb n 1 || ltb 64 n) BadStream refl (number_whole w16) bytes

streams_whole : (horizon count : ℕ) → Whole (streams_at horizon count)
unfolding streams_at
streams_whole horizon count bytes =
    barred_whole (list_at no_stream (λ _. stream_at) count None) (λ streams. ltb (least_closed_of streams) horizon) BadNumber refl (list_whole no_stream (λ _. stream_at) (λ _. stream_whole) count None) bytes

fragment_head_whole : Whole fragment_head_at
fragment_head_whole = both_whole (number_at w64) (both stream_count_at bounds_at) (number_whole w64) (both_whole stream_count_at bounds_at stream_count_whole bounds_whole)

facts_whole : (base horizon : ℕ) → Whole (facts_at base horizon)
facts_whole base horizon = counted_whole (λ e. e.0) (fact_at base horizon) (fact_whole base horizon)

pub fragment_whole : Whole fragment_at
unfolding fragment_at
fragment_whole bytes =
    made_whole _ (after (after fragment_head_at (λ h. streams_at h.1.1.1 h.1.0)) (λ p. facts_at p.0.1.1.0 p.0.1.1.1))
    (after_whole (after fragment_head_at (λ h. streams_at h.1.1.1 h.1.0)) (λ p. facts_at p.0.1.1.0 p.0.1.1.1)
    (after_whole fragment_head_at (λ h. streams_at h.1.1.1 h.1.0) fragment_head_whole (λ h. streams_whole h.1.1.1 h.1.0))
    (λ p. facts_whole p.0.1.1.0 p.0.1.1.1)) bytes

-- ---- queries

pub query_of_whole : (kind : ℕ) → Whole (query_of kind)
unfolding query_of
query_of_whole kind bytes =
    cond_whole (eqb kind 1) _ _ (made_whole _ (both (number_at w16) (number_at w64)) (both_whole (number_at w16) (number_at w64) (number_whole w16) (number_whole w64)) bytes)
    (cond_whole (eqb kind 2) _ _ (made_whole _ (both (number_at w16) (both (number_at w64) (number_at w64))) (both_whole (number_at w16) (both (number_at w64) (number_at w64)) (number_whole w16) (both_whole (number_at w64) (number_at w64) (number_whole w64) (number_whole w64))) bytes)
    (cond_whole (eqb kind 3) _ _ (made_whole _ (both (number_at w16) (number_at w32)) (both_whole (number_at w16) (number_at w32) (number_whole w16) (number_whole w32)) bytes)
    (cond_whole (eqb kind 4) _ _ (made_whole _ (number_at w16) (number_whole w16) bytes) refl)))

pub query_whole : Whole query_at
unfolding query_at
query_whole = kinded_whole query_of query_of_whole

-- ---- wholes, heads and parts

pub whole_whole : Whole whole_at
unfolding whole_at
whole_whole bytes = barred_whole fragment_at (λ f. not (eqb f.base 0)) BadNumber refl fragment_whole bytes

pub head_whole : Whole head_at
unfolding head_at
head_whole bytes =
    made_whole _ (both (after fragment_head_at (λ h. streams_at h.1.1.1 h.1.0)) (number_at w64))
    (both_whole (after fragment_head_at (λ h. streams_at h.1.1.1 h.1.0)) (number_at w64)
    (after_whole fragment_head_at (λ h. streams_at h.1.1.1 h.1.0) fragment_head_whole (λ h. streams_whole h.1.1.1 h.1.0)) (number_whole w64)) bytes

pub whole_head_whole : Whole whole_head_at
unfolding whole_head_at
whole_head_whole bytes = barred_whole head_at (λ head. not (eqb head.base 0)) BadNumber refl head_whole bytes

pub part_whole : Whole part_at
unfolding part_at
part_whole bytes = facts_whole 0 0 bytes

pub positive_whole : Whole positive_at
unfolding positive_at
positive_whole bytes = barred_whole (number_at w64) (λ n. eqb n 0) BadNumber refl (number_whole w64) bytes

-- Items and requests that are read for what is seen of them alone.
use Rattle.std.proofs.Common.{◌≡◌, ℕ, zero, suc, Bool, true, false, cond, eqb, ltb, List, ◌∷◌, length, map, Option, Some, None, Result, Ok, Err, refl, sym, ap, ◌∙◌}
use Rattle.hk_types.specs.declared.faults.FormFault.{FormFault}
use Rattle.hk_types.specs.declared.faults.FormFault.TheVariants.{WrongLength}
use Rattle.hk_log.specs.declared.item.Item.{Item}
use Rattle.hk_frames.specs.Fields.{◌>>=◌, mapped, check, bytes_at, list_at}
use Rattle.hk_frames.specs.Framing.{framed}
use Rattle.hk_frames.proofs.OneFrame.{frame_seen, framed_seen}
use Rattle.hk_codec.specs.Encoding.{WrittenItem}
use Rattle.hk_codec.specs.Reading.{item_at}
use Rattle.hk_codec.specs.Frames.{frame_at}
use Rattle.hk_answers.specs.Readers.{both, time_at}
use Rattle.hk_answers.specs.Queries.{query_at}
use Rattle.hk_fragment_bytes.specs.Fragments.{fragment_at, whole_at}
use Rattle.hk_message_head.specs.Messages.{head_at, message_at}
use Rattle.hk_messages.specs.LaterRequests as later
use Rattle.hk_messages.specs.Requests.{RequestValue, WrittenRequest, Items, Delta, Ask, JoinThis, MergeThis, Prune, Feed, Later, request_meant, frame_taken, item_frame_at, item_count_at, no_place, items_at, plain_frame_at, plain_items_at, request_of, request_at, plain_request_at}

abbrev item_of : WrittenItem → Item
item_of w = w.item

-- what is read, seen so, and the bytes after it
abbrev pub seen_of : {A B : Type 0} → (A → B) → A × List ℕ → B × List ℕ
seen_of f x = (f x.0, x.1)

taken_plain : (bytes : List ℕ) (r : Result (Option (WrittenItem × ℕ)) FormFault) → (mapped (frame_seen item_of) r >>= λ frame. frame_taken frame bytes) ≡ mapped (seen_of item_of) (r >>= λ frame. frame_taken frame bytes)
taken_plain bytes (Err f) = refl
taken_plain bytes (Ok None) = refl
taken_plain bytes (Ok (Some frame)) = by (bytes_at frame.1 bytes)
  where
    by : (t : Result (List ℕ × List ℕ) FormFault) → (t >>= λ taken. Ok (frame.0.item, taken.1)) ≡ mapped (seen_of item_of) (t >>= λ taken. Ok (frame.0, taken.1))
    by (Ok x) = refl
    by (Err f) = refl

pub frame_plain : (bytes : List ℕ) → plain_frame_at bytes ≡ mapped (seen_of item_of) (item_frame_at bytes)
unfolding plain_frame_at item_frame_at
frame_plain bytes =
    ap (λ (r : Result (Option (Item × ℕ)) FormFault). r >>= λ frame. frame_taken frame bytes) (framed_seen item_of 28 4233248 item_at bytes)
    ∙ taken_plain bytes (frame_at bytes)

-- a frame whose bytes can't be passed over
pub frame_fails : (bytes : List ℕ) (frame : Option (Item × ℕ)) (i : Item) (n : ℕ) (f : FormFault) → framed 28 4233248 (λ rest. mapped item_of (item_at rest)) bytes ≡ Ok frame → frame ≡ Some (i, n) → bytes_at n bytes ≡ Err f → plain_frame_at bytes ≡ Err f
unfolding plain_frame_at
frame_fails bytes frame i n f e s h =
    ap (λ (r : Result (Option (Item × ℕ)) FormFault). r >>= λ o. frame_taken o bytes) e
    ∙ ap (λ (o : Option (Item × ℕ)). frame_taken o bytes) s
    ∙ ap (λ (t : Result (List ℕ × List ℕ) FormFault). t >>= λ taken. Ok (i, taken.1)) h

more_plain : (r : Result (WrittenItem × List ℕ) FormFault) (others : List ℕ → Result (List WrittenItem × List ℕ) FormFault) (plain : List ℕ → Result (List Item × List ℕ) FormFault) → ((bytes : List ℕ) → plain bytes ≡ mapped (seen_of (map item_of)) (others bytes))
    → (mapped (seen_of item_of) r >>= λ first. plain first.1 >>= λ rest. Ok (first.0 ∷ rest.0, rest.1)) ≡ mapped (seen_of (map item_of)) (r >>= λ first. others first.1 >>= λ rest. Ok (first.0 ∷ rest.0, rest.1))
more_plain (Err f) others plain same = refl
more_plain (Ok first) others plain same = ap (λ (t : Result (List Item × List ℕ) FormFault). t >>= λ rest. Ok (first.0.item ∷ rest.0, rest.1)) (same first.1) ∙ by (others first.1)
  where
    by : (t : Result (List WrittenItem × List ℕ) FormFault) → (mapped (seen_of (map item_of)) t >>= λ rest. Ok (first.0.item ∷ rest.0, rest.1)) ≡ mapped (seen_of (map item_of)) (t >>= λ rest. Ok (first.0 ∷ rest.0, rest.1))
    by (Ok x) = refl
    by (Err f) = refl

list_plain : (n : ℕ) (before : Option (Unit {0})) (bytes : List ℕ) → list_at no_place (λ _. plain_frame_at) n before bytes ≡ mapped (seen_of (map item_of)) (list_at no_place (λ _. item_frame_at) n before bytes)
unfolding list_at
list_plain zero before bytes = refl
list_plain (suc n) before bytes =
    ap (λ (r : Result (Item × List ℕ) FormFault). r >>= λ first. list_at no_place (λ _. plain_frame_at) n (Some tt) first.1 >>= λ rest. Ok (first.0 ∷ rest.0, rest.1)) (frame_plain bytes)
    ∙ more_plain (item_frame_at bytes) (λ b. list_at no_place (λ _. item_frame_at) n (Some tt) b) (λ b. list_at no_place (λ _. plain_frame_at) n (Some tt) b) (list_plain n (Some tt))

pub items_plain : (bytes : List ℕ) → plain_items_at bytes ≡ mapped (seen_of (map item_of)) (items_at bytes)
unfolding plain_items_at items_at
items_plain bytes = by (item_count_at bytes)
  where
    by : (r : Result (ℕ × List ℕ) FormFault) → (r >>= λ count. list_at no_place (λ _. plain_frame_at) count.0 None count.1) ≡ mapped (seen_of (map item_of)) (r >>= λ count. list_at no_place (λ _. item_frame_at) count.0 None count.1)
    by (Ok count) = list_plain count.0 None count.1
    by (Err f) = refl

-- items don't depend on what stands before them
pub any_plain_before : (n : ℕ) (bytes : List ℕ) → list_at no_place (λ _. plain_frame_at) n None bytes ≡ list_at no_place (λ _. plain_frame_at) n (Some tt) bytes
unfolding list_at
any_plain_before zero bytes = refl
any_plain_before (suc n) bytes = refl

-- ---- requests

end_plain : (b : Bool) (x : WrittenRequest) → (check b WrongLength >>= λ _. Ok (request_meant x)) ≡ mapped request_meant (check b WrongLength >>= λ _. Ok x)
end_plain true x = refl
end_plain false x = refl

body_plain : (r : Result (WrittenRequest × List ℕ) FormFault) → (mapped (seen_of request_meant) r >>= λ body. check (ltb 0 (length body.1)) WrongLength >>= λ _. Ok body.0) ≡ mapped request_meant (r >>= λ body. check (ltb 0 (length body.1)) WrongLength >>= λ _. Ok body.0)
body_plain (Ok x) = end_plain (ltb 0 (length x.1)) x.0
body_plain (Err f) = refl

items_body_seen : (r : Result (List WrittenItem × List ℕ) FormFault) → mapped (seen_of request_meant) (r >>= λ a. Ok (Items a.0, a.1)) ≡ (mapped (seen_of (map item_of)) r >>= λ a. Ok (Items a.0, a.1))
items_body_seen (Ok a) = refl
items_body_seen (Err f) = refl

feed_body_seen : (r : Result (List WrittenItem × List ℕ) FormFault) → mapped (seen_of request_meant) (r >>= λ a. Ok (Feed a.0, a.1)) ≡ (mapped (seen_of (map item_of)) r >>= λ a. Ok (Feed a.0, a.1))
feed_body_seen (Ok a) = refl
feed_body_seen (Err f) = refl

feed_same : (bytes : List ℕ) → (plain_items_at bytes >>= λ a. Ok (Feed a.0, a.1)) ≡ mapped (seen_of request_meant) (items_at bytes >>= λ a. Ok (Feed a.0, a.1))
feed_same bytes = ap (λ (r : Result (List Item × List ℕ) FormFault). r >>= λ a. Ok (Feed a.0, a.1)) (items_plain bytes) ∙ sym (feed_body_seen (items_at bytes))

items_same : (bytes : List ℕ) → (plain_items_at bytes >>= λ a. Ok (Items a.0, a.1)) ≡ mapped (seen_of request_meant) (items_at bytes >>= λ a. Ok (Items a.0, a.1))
items_same bytes = ap (λ (r : Result (List Item × List ℕ) FormFault). r >>= λ a. Ok (Items a.0, a.1)) (items_plain bytes) ∙ sym (items_body_seen (items_at bytes))

made_same : {A : Type 0} (f : A → WrittenRequest) (g : A → RequestValue) → ((a : A) → g a ≡ request_meant (f a)) → (r : Result (A × List ℕ) FormFault) → (r >>= λ a. Ok (g a.0, a.1)) ≡ mapped (seen_of request_meant) (r >>= λ a. Ok (f a.0, a.1))
made_same f g same (Ok a) = ap (λ (v : RequestValue). Ok (v, a.1)) (same a.0)
made_same f g same (Err fault) = refl

-- the same in the one case, and in the other
same_or : {A B : Type 0} (f : A → B) (b : Bool) (x y : Result B FormFault) (s t : Result A FormFault) → x ≡ mapped f s → y ≡ mapped f t → cond b x y ≡ mapped f (cond b s t)
same_or f true x y s t h k = h
same_or f false x y s t h k = k

of_plain : (k : ℕ) (bytes : List ℕ) → request_of plain_items_at k bytes ≡ mapped (seen_of request_meant) (request_of items_at k bytes)
unfolding request_of
of_plain k bytes =
    same_or (seen_of request_meant) (eqb k 16) _ _ _ _ (items_same bytes)
    (same_or (seen_of request_meant) (eqb k 17) _ _ _ _ refl
    (same_or (seen_of request_meant) (eqb k 18) _ _ _ _ (made_same (λ base. Delta base) (λ base. Delta base) (λ a. refl) (time_at bytes))
    (same_or (seen_of request_meant) (eqb k 19) _ _ _ _ refl
    (same_or (seen_of request_meant) (eqb k 20) _ _ _ _ (made_same (λ p. Ask p.0 p.1) (λ p. Ask p.0 p.1) (λ a. refl) (both time_at query_at bytes))
    (same_or (seen_of request_meant) (eqb k 21) _ _ _ _ (made_same (λ f. JoinThis f) (λ f. JoinThis f) (λ a. refl) (fragment_at bytes))
    (same_or (seen_of request_meant) (eqb k 22) _ _ _ _ (made_same (λ f. MergeThis f) (λ f. MergeThis f) (λ a. refl) (whole_at bytes))
    (same_or (seen_of request_meant) (eqb k 23) _ _ _ _ (made_same (λ horizon. Prune horizon) (λ horizon. Prune horizon) (λ a. refl) (time_at bytes))
    (same_or (seen_of request_meant) (eqb k 58) _ _ _ _ (feed_same bytes)
    (made_same (λ r. Later r) (λ r. Later r) (λ a. refl) (later.request_of k bytes))))))))))

pub request_plain : (latest : ℕ) (bytes : List ℕ) → plain_request_at latest bytes ≡ mapped request_meant (request_at latest bytes)
unfolding plain_request_at request_at message_at
request_plain latest bytes = by (head_at latest bytes)
  where
    by : (r : Result (ℕ × List ℕ) FormFault) → (r >>= λ kind. request_of plain_items_at kind.0 kind.1 >>= λ body. check (ltb 0 (length body.1)) WrongLength >>= λ _. Ok body.0) ≡ mapped request_meant (r >>= λ kind. request_of items_at kind.0 kind.1 >>= λ body. check (ltb 0 (length body.1)) WrongLength >>= λ _. Ok body.0)
    by (Ok kind) =
        ap (λ (r : Result (RequestValue × List ℕ) FormFault). r >>= λ body. check (ltb 0 (length body.1)) WrongLength >>= λ _. Ok body.0) (of_plain kind.0 kind.1)
        ∙ body_plain (request_of items_at kind.0 kind.1)
    by (Err f) = refl

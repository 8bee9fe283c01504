-- A reply to a change stays right where the seat's list goes on behind it.
use Rattle.std.proofs.Common.{ℕ, ◌≡◌, ◌≤◌, inl, inr, Bool, true, false, true≢false, refl, sym, ap, subst, ◌∙◌, List, length, take, Some, Result, Ok, Err, MatchBool, IfOk, arith, length-append}
use Rattle.std.proofs.Math.Seq.{take-append-le}
use mathlib.Core.List.{IsPrefix}
use Rattle.hk_link_state.proofs.Seen.{same_prefix, then_prefix}
use Rattle.hk_types.specs.declared.faults.Refusal.{Refusal}
use Rattle.hk_types.specs.declared.faults.Refusal.TheVariants.{Memory}
use Rattle.hk_log.specs.declared.item.Item.{Item}
use Rattle.hk_model.specs.Replica.Fragments.{FragmentValue}
use Rattle.hk_model.specs.Replica.Rules.{gather_result}
use Rattle.hk_messages.specs.declared.request.Request.{Request}
use Rattle.hk_messages.specs.declared.request.Request.TheVariants.{Items, Feed}
use Rattle.hk_messages.specs.Replies.{ReplyValue, Done, Front, Fragment, Answer, Refused, Later}
use Rattle.hk_messages.specs.LaterReplies as later
use Rattle.hk_oplog.specs.declared.op.NodeKind.{NodeKind}
use Rattle.hk_oplog.specs.declared.op.Op.{Op}
use Rattle.hk_oplog.specs.Lists.{last_of}
use Rattle.hk_oplog.specs.NewItems.{new_to}
use Rattle.hk_node.specs.Guarded.{TakesSome}
use Rattle.hk_seats.specs.Replying.{IsChangeReply, IsFedReply, IsItemsReply, IsReplyTo, IsReplyToItems, IsTold, fed_reply, items_reply}
use Rattle.hk_seats.specs.Telling.{GoesOnBy, IsChange}

-- the first operations of a list are those of one that goes on from it
same_front : (now new : List Op) (count : ℕ) → IsPrefix now new → count ≤ length now → take count now ≡ take count new
same_front now new count p fits = sym (take-append-le count now p.0 fits) ∙ ap (take count) p.1

still_fits : (now new : List Op) (count : ℕ) → IsPrefix now new → count ≤ length now → count ≤ length new
still_fits now new count p fits = let e = ap length (sym p.1) ∙ length-append now p.0 in omega arith

on_told : (Gives : Result (List Op) Refusal → Type 0) (old now new : List Op) (reply : ReplyValue) → GoesOnBy reply now new → IsTold Gives old now reply → IsTold Gives old new reply
on_told Gives old now new (Done count) p told = (told.0, still_fits now new count p told.1, subst (λ (l : List Op). Gives (Ok l)) (same_front now new count p told.1) told.2)
on_told Gives old now new (Refused why) same told = (told.0, same ∙ told.1)
on_told Gives old now new (Front horizon readable) same told = absurd told
on_told Gives old now new (Fragment fragment) same told = absurd told
on_told Gives old now new (Answer a) same told = absurd told
on_told Gives old now new (Later r) same told = absurd told

on_change : (kind : NodeKind) (old now new : List Op) (op : Op) (reply : ReplyValue) → GoesOnBy reply now new → IsChangeReply kind old now op reply → IsChangeReply kind old new op reply
on_change kind old now new op (Done count) p told = (told.0, still_fits now new count p told.1, subst (λ (l : List Op). last_of l ≡ Some op) (same_front now new count p told.1) told.2)
on_change kind old now new op (Refused why) same told = (told.0, same ∙ told.1)
on_change kind old now new op (Front horizon readable) same told = absurd told
on_change kind old now new op (Fragment fragment) same told = absurd told
on_change kind old now new op (Answer a) same told = absurd told
on_change kind old now new op (Later r) same told = absurd told

-- a refusal leaves the list as it is
same_list : (now new : List Op) (why : Refusal) (reply : ReplyValue) → GoesOnBy reply now new → reply ≡ Refused why → new ≡ now
same_list now new why reply goes is = subst (λ (r : ReplyValue). GoesOnBy r now new) is goes

on_gathered : (kind : NodeKind) (old now new : List Op) (gathered : Result FragmentValue Refusal) (reply : ReplyValue) → GoesOnBy reply now new → IsItemsReply kind old now gathered reply
    → IsItemsReply kind old new gathered reply
on_gathered kind old now new (Ok f) reply goes (inl told) = inl (on_change kind old now new _ reply goes told)
on_gathered kind old now new (Ok f) reply goes (inr told) = inr (told.0, same_list now new Memory reply goes told.0 ∙ told.1)
on_gathered kind old now new (Err why) reply goes told = (told.0, same_list now new why reply goes told.0 ∙ told.1)

either : (b : Bool) (A B C D : Type 0) → (A → C) → (B → D) → MatchBool b A B → MatchBool b C D
either true A B C D f g a = f a
either false A B C D f g b = g b

on_items : (kind : NodeKind) (old now new : List Op) (items : List Item) (reply : ReplyValue) → GoesOnBy reply now new → IsReplyToItems kind old now items reply → IsReplyToItems kind old new items reply
on_items kind old now new items reply goes =
    either kind.guarded _ _ _ _ (on_told (TakesSome kind items) old now new reply goes) (on_gathered kind old now new (gather_result kind.config items) reply goes)

abbrev is_done : ReplyValue → Bool
is_done (Done ops) = true
is_done other = false

no_refusal : (count : ℕ) (why : Refusal) → Done count ≡ Refused why → ⊥
no_refusal count why e = true≢false (ap is_done e)

fits_gathered : (kind : NodeKind) (old now : List Op) (gathered : Result FragmentValue Refusal) (count : ℕ) → IsItemsReply kind old now gathered (Done count) → count ≤ length now
fits_gathered kind old now (Ok f) count (inl told) = told.1
fits_gathered kind old now (Ok f) count (inr told) = absurd (no_refusal count Memory told.0)
fits_gathered kind old now (Err why) count told = absurd (no_refusal count why told.0)

one_of : (b : Bool) (A B C : Type 0) → (A → C) → (B → C) → MatchBool b A B → C
one_of true A B C f g a = f a
one_of false A B C f g b = g b

fits_items : (kind : NodeKind) (old now : List Op) (items : List Item) (count : ℕ) → IsReplyToItems kind old now items (Done count) → count ≤ length now
fits_items kind old now items count = one_of kind.guarded _ _ _ (λ told. told.1) (fits_gathered kind old now (gather_result kind.config items) count)

on_later : (kind : NodeKind) (old now new : List Op) (items : List Item) (reply : later.ReplyValue) → GoesOnBy (Later reply) now new → IsFedReply kind old now items (Later reply) → IsFedReply kind old new items (Later reply)
on_later kind old now new items (later.Fed count told) p h =
    (on_items kind old now new items (Done count) p h.0, h.1 ∙ ap (λ (l : List Op). new_to l items) (same_front now new count p (fits_items kind old now items count h.0)))
on_later kind old now new items (later.Refused why) same h = on_items kind old now new items (Refused why) same h
on_later kind old now new items (later.Done ops) same h = absurd h
on_later kind old now new items (later.Streams told) same h = absurd h
on_later kind old now new items (later.Latest t a) same h = absurd h
on_later kind old now new items (later.Page page) same h = absurd h
on_later kind old now new items (later.Part left facts) same h = absurd h
on_later kind old now new items (later.LastPart facts head) same h = absurd h
on_later kind old now new items (later.Added count) same h = absurd h
on_later kind old now new items (later.Held hold t) same h = absurd h
on_later kind old now new items (later.Ready low high) same h = absurd h
on_later kind old now new items (later.Stats metrics) same h = absurd h
on_later kind old now new items (later.Tables tables) same h = absurd h

on_fed : (kind : NodeKind) (old now new : List Op) (items : List Item) (reply : ReplyValue) → GoesOnBy reply now new → IsFedReply kind old now items reply → IsFedReply kind old new items reply
on_fed kind old now new items (Later reply) goes h = on_later kind old now new items reply goes h
on_fed kind old now new items (Done count) goes h = absurd h
on_fed kind old now new items (Refused why) goes h = absurd h
on_fed kind old now new items (Front horizon readable) goes h = absurd h
on_fed kind old now new items (Fragment fragment) goes h = absurd h
on_fed kind old now new items (Answer a) goes h = absurd h

-- requests that change a node
pub items_go_on : (items : _) → IsChange (Items items)
items_go_on items = λ kind old now new reply. on_items kind old now new items.items reply

pub feed_goes_on : (items : _) → IsChange (Feed items)
feed_goes_on items = λ kind old now new reply. on_fed kind old now new items.items reply

-- the reply that has how many items were new, by that without
pub fed_is_told : (kind : NodeKind) (old new : List Op) (items : List Item) (taken : Result (ℕ × ℕ) Refusal) → IsReplyToItems kind old new items (items_reply taken)
    → IfOk taken (λ t. t.1 ≡ new_to (take t.0 new) items) → IsFedReply kind old new items (fed_reply taken)
fed_is_told kind old new items (Ok t) told counted = (told, counted)
fed_is_told kind old new items (Err why) told counted = told

stays_later : (reply : later.ReplyValue) (now : List Op) → GoesOnBy (Later reply) now now
stays_later (later.Fed count told) now = same_prefix now now refl
stays_later (later.Refused why) now = refl
stays_later (later.Done ops) now = refl
stays_later (later.Streams told) now = refl
stays_later (later.Latest t a) now = refl
stays_later (later.Page page) now = refl
stays_later (later.Part left facts) now = refl
stays_later (later.LastPart facts head) now = refl
stays_later (later.Added count) now = refl
stays_later (later.Held hold t) now = refl
stays_later (later.Ready low high) now = refl
stays_later (later.Stats metrics) now = refl
stays_later (later.Tables tables) now = refl

-- a list that stays goes on by each reply
pub stays : (reply : ReplyValue) (now : List Op) → GoesOnBy reply now now
stays (Done count) now = same_prefix now now refl
stays (Front horizon readable) now = refl
stays (Fragment fragment) now = refl
stays (Answer a) now = refl
stays (Refused why) now = refl
stays (Later reply) now = stays_later reply now

goes_later : (reply : later.ReplyValue) (now new : List Op) → GoesOnBy (Later reply) now new → IsPrefix now new
goes_later (later.Fed count told) now new p = p
goes_later (later.Refused why) now new same = same_prefix now new same
goes_later (later.Done ops) now new same = same_prefix now new same
goes_later (later.Streams told) now new same = same_prefix now new same
goes_later (later.Latest t a) now new same = same_prefix now new same
goes_later (later.Page page) now new same = same_prefix now new same
goes_later (later.Part left facts) now new same = same_prefix now new same
goes_later (later.LastPart facts head) now new same = same_prefix now new same
goes_later (later.Added count) now new same = same_prefix now new same
goes_later (later.Held hold t) now new same = same_prefix now new same
goes_later (later.Ready low high) now new same = same_prefix now new same
goes_later (later.Stats metrics) now new same = same_prefix now new same
goes_later (later.Tables tables) now new same = same_prefix now new same

goes_prefix : (reply : ReplyValue) (now new : List Op) → GoesOnBy reply now new → IsPrefix now new
goes_prefix (Done count) now new p = p
goes_prefix (Front horizon readable) now new same = same_prefix now new same
goes_prefix (Fragment fragment) now new same = same_prefix now new same
goes_prefix (Answer a) now new same = same_prefix now new same
goes_prefix (Refused why) now new same = same_prefix now new same
goes_prefix (Later reply) now new goes = goes_later reply now new goes

-- the reply to a change while the list goes on, as it is reported
pub reported : (kind : NodeKind) (old now new : List Op) (request : Request) (reply : ReplyValue) → IsChange request → GoesOnBy reply now new → IsPrefix old now → IsReplyTo kind old now request reply
    → IsPrefix old new × IsReplyTo kind old new request reply
reported kind old now new request reply change goes p told = (then_prefix old now new p (goes_prefix reply now new goes), change kind old now new reply goes told)

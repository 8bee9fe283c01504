-- A reply that is added in pieces.
use Rattle.std.proofs.Common.{◌≡◌, refl, sym, ap, subst, ◌∙◌, ℕ, ◌+◌, ◌-◌, ◌<◌, ◌≤◌, true, List, [], ◌∷◌, ◌++◌, length, take, drop, Option, Some, None, IfSome, IfNone, Result, Ok, Err, IfOk, Bool, cond, leb, leb-true, le-leb, false, inl, inr, append_assoc, append-nil, arith}
use Rattle.std.specs.Int.{w32, w64}
use Rattle.std.specs.List.{flat_map}
use Rattle.std.proofs.lemmas.Bool.Decides.{leb_tells}
use Rattle.std.proofs.lemmas.List.{length-append, length-drop, drop_all}
use Rattle.std.proofs.lemmas.List.Concat.{flat_map-cons}
use Rattle.hk_codec.proofs.Lengths.{len16, len32, len64}
use Rattle.hk_frames.specs.Fields.{number}
use Rattle.hk_frames.specs.Framing.{encoded}
use Rattle.hk_frames.proofs.Prefix.{kept_before}
use Rattle.hk_frames.proofs.ReadingSteps.{both as both_true}
use Rattle.hk_types.specs.Values.{RowValue}
use Rattle.hk_fragment.specs.Parts.{Known}
use Rattle.hk_answers.specs.Answers.{keyed_text}
use Rattle.hk_fragment_bytes.specs.Fragments.{fact_text}
use Rattle.hk_answers.specs.Pieces.{rows_of}
use Rattle.hk_fragment_bytes.specs.Parts.{WireHead, head_text}
use Rattle.hk_answers.specs.Told.{flag_text}
use Rattle.hk_fragment_bytes.proofs.WrittenFragments.{fragment_parts}
use Rattle.hk_answers.proofs.AddedPieces.{answer_parts}
use Rattle.hk_fragment_bytes.proofs.Lengths.{head_text_len}
use Rattle.hk_message_head.specs.Messages.{message_text}
use Rattle.hk_messages.specs.LaterReplies as later
use Rattle.hk_messages.specs.Replies.{ReplyValue, Fragment, Answer, Later, reply_kind, reply_body, reply_rest, reply_text, keeps_rules, is_encodable}
use Rattle.hk_wire.specs.declared.reply_pieces.Place.{Place}
use Rattle.hk_wire.specs.Pieces.{later_front, later_rest, later_count, body_front, rest_from, count_of, AddsItems, AddsFront, IsInside, AddsPiece}

-- ---- parts

-- the head of a last chunk, where it comes yet
abbrev head_at : Bool → WireHead → List ℕ
head_at b head = cond b (head_text head) []

later_parts : (r : later.ReplyValue) → later_front r ++ later_rest r 0 ≡ later.reply_body r
later_parts (later.Latest t a) = append_assoc (number w64 t) _ (flat_map keyed_text (rows_of a)) ∙ ap (λ (l : List ℕ). number w64 t ++ l) (answer_parts a)
later_parts (later.Page page) = append_assoc (flag_text page.more) (number w32 (length page.rows)) (flat_map keyed_text page.rows)
later_parts (later.Part left facts) = append_assoc (number w64 left) (number w32 (length facts)) (flat_map fact_text facts)
later_parts (later.LastPart facts head) =
    sym (append_assoc (number w32 (length facts)) (flat_map fact_text facts) (head_at (leb 0 (length facts)) head)) ∙ ap (λ (b : Bool). (number w32 (length facts) ++ flat_map fact_text facts) ++ head_at b head) (le-leb 0 (length facts) (omega arith))
later_parts other = append-nil (later.reply_body other)

body_parts : (r : ReplyValue) → body_front r ++ rest_from r 0 ≡ reply_body r
body_parts (Fragment f) = fragment_parts f
body_parts (Answer a) = answer_parts a
body_parts (Later r) = later_parts r
body_parts other = append-nil (reply_body other)

-- nothing is left behind the last element
rest_of_all : {X : Type 0} (text : X → List ℕ) (xs : List X) (n : ℕ) → length xs ≤ n → flat_map text (drop n xs) ≡ []
rest_of_all text xs n h = ap (flat_map text) (drop_all n xs h)

later_none : (r : later.ReplyValue) (n : ℕ) → later_count r ≤ n → later_rest r n ≡ []
later_none (later.Latest t a) n h = rest_of_all keyed_text (rows_of a) n h
later_none (later.Page page) n h = rest_of_all keyed_text page.rows n h
later_none (later.Part left facts) n h = rest_of_all fact_text facts n h
later_none (later.LastPart facts head) n h =
    let off : leb n (length facts) ≡ false = elim (leb_tells n (length facts)) [ inl t ↦ absurd (omega (arith, h, t.1)) | inr f ↦ f.0 ] in
    ap (λ (t : List ℕ). t ++ head_at (leb n (length facts)) head) (rest_of_all fact_text facts n (omega (arith, h))) ∙ ap (λ (b : Bool). head_at b head) off
later_none other n h = refl

rest_none : (r : ReplyValue) (n : ℕ) → count_of r ≤ n → rest_from r n ≡ []
rest_none (Fragment f) n h = rest_of_all fact_text f.facts n h
rest_none (Answer a) n h = rest_of_all keyed_text (rows_of a) n h
rest_none (Later r) n h = later_none r n h
rest_none other n h = refl

-- and something before it
some_rest : {X : Type 0} (text : X → List ℕ) (xs : List X) (n : ℕ) → ((x : X) → 0 < length (text x)) → n < length xs → 0 < length (flat_map text (drop n xs))
some_rest text xs n some lt = some_first text (drop n xs) some (omega (arith, lt, length-drop n xs))
  where
    some_first : {X : Type 0} (text : X → List ℕ) (xs : List X) → ((x : X) → 0 < length (text x)) → 0 < length xs → 0 < length (flat_map text xs)
    some_first text [] some h = absurd (omega (arith, h))
    some_first text (x ∷ xs) some h = omega (arith, some x, ap length (flat_map-cons text x xs), length-append (text x) (flat_map text xs))

some_fact : (e : Known) → 0 < length (fact_text e)
unfolding fact_text
some_fact e = simp (length-append, len16, len64) (omega arith)

some_row : (e : ℕ × RowValue) → 0 < length (keyed_text e)
unfolding keyed_text
some_row e = simp (length-append, len64) (omega arith)

later_some : (r : later.ReplyValue) (n : ℕ) → n < later_count r → 0 < length (later_rest r n)
later_some (later.Latest t a) n h = some_rest keyed_text (rows_of a) n some_row h
later_some (later.Page page) n h = some_rest keyed_text page.rows n some_row h
later_some (later.Part left facts) n h = some_rest fact_text facts n some_fact h
later_some (later.LastPart facts head) n h =
    let at : length (head_at (leb n (length facts)) head) ≡ length (head_text head) = ap (λ (b : Bool). length (head_at b head)) (le-leb n (length facts) (omega (arith, h))) in
    omega (arith, at, head_text_len head, length-append (flat_map fact_text (drop n facts)) (head_at (leb n (length facts)) head))
later_some other n h = absurd (omega (arith, h))

rest_some : (r : ReplyValue) (n : ℕ) → n < count_of r → 0 < length (rest_from r n)
rest_some (Fragment f) n h = some_rest fact_text f.facts n some_fact h
rest_some (Answer a) n h = some_rest keyed_text (rows_of a) n some_row h
rest_some (Later r) n h = later_some r n h
rest_some other n h = absurd (omega (arith, h))

-- ---- what was added

-- the first piece: the length, the version and the kind, what the body has before its facts or rows, and these
pub front_added : (r : ReplyValue) (rest kind to : ℕ) (old head front new : List ℕ) → rest ≡ length (reply_rest r) → kind ≡ reply_kind r → head ≡ old ++ (number w32 rest ++ message_text kind []) → front ≡ head ++ body_front r → AddsItems r 0 to front new → AddsFront r to old new
unfolding reply_rest encoded
front_added r rest kind to old head front new len is e f h =
    let start = number w32 rest ++ message_text kind [] in
    let body : (start ++ (body_front r ++ h.more)) ++ rest_from r to ≡ start ++ reply_body r =
    append_assoc start (body_front r ++ h.more) (rest_from r to) ∙ ap (λ (t : List ℕ). start ++ t) (append_assoc (body_front r) h.more (rest_from r to) ∙ ap (λ (t : List ℕ). body_front r ++ t) h.rest ∙ body_parts r) in
    let whole : start ++ reply_body r ≡ reply_text r =
    append_assoc (number w32 rest) (message_text kind []) (reply_body r) ∙ ap (λ (k : ℕ). number w32 rest ++ message_text k (reply_body r)) is ∙ ap (λ (n : ℕ). number w32 n ++ reply_rest r) len in
    record {
      more = start ++ (body_front r ++ h.more);
      added = h.added ∙ ap (λ (t : List ℕ). t ++ h.more) (f ∙ ap (λ (t : List ℕ). t ++ body_front r) e ∙ append_assoc old start (body_front r)) ∙ append_assoc old (start ++ body_front r) h.more ∙ ap (λ (t : List ℕ). old ++ t) (append_assoc start (body_front r) h.more);
      rest = body ∙ whole;
      within = h.within;
      many = λ lt. omega (arith, h.many lt, length-append start (body_front r ++ h.more), length-append (body_front r) h.more);
    }

-- where a piece ends: behind what was begun there came more, up to this fact or row
piece_ends : (r : ReplyValue) (to bytes left : ℕ) (begun more before after : List ℕ) (next : Option Place)
    → is_encodable r ≡ true → begun ++ (more ++ rest_from r to) ≡ reply_text r → bytes ≡ length begun → left ≡ length (more ++ rest_from r to) → 0 < left → after ≡ before ++ more → to ≤ count_of r → (to < count_of r → 65536 < length more)
    → IfNone next (count_of r ≤ to) → IfSome next (λ p. to < count_of r) → IfSome next (λ p. p ≡ record { items = to; bytes = bytes + length more; left = left - length more })
    → AddsPiece r bytes next before after
piece_ends r to bytes left begun more before after None known whole is size some added within many none lt at =
    let end = rest_none r to none in
    let all : begun ++ more ≡ reply_text r = ap (λ (t : List ℕ). begun ++ t) (sym (append-nil more) ∙ ap (λ (t : List ℕ). more ++ t) (sym end)) ∙ whole in
    let front : take bytes (reply_text r) ≡ begun = ap (λ (n : ℕ). take n (reply_text r)) is ∙ kept_before begun more (reply_text r) (sym all) in
    let any : length (more ++ rest_from r to) ≡ length more = ap length (ap (λ (t : List ℕ). more ++ t) end ∙ append-nil more) in
    (known, (more, added, ap (λ (t : List ℕ). t ++ more) front ∙ all, omega (arith, size, some, any)))
piece_ends r to bytes left begun more before after (Some p) known whole is size some added within many none lt at =
    let behind = rest_some r to lt in
    let both : (begun ++ more) ++ rest_from r to ≡ reply_text r = append_assoc begun more (rest_from r to) ∙ whole in
    let front : take bytes (reply_text r) ≡ begun = ap (λ (n : ℕ). take n (reply_text r)) is ∙ kept_before begun (more ++ rest_from r to) (reply_text r) (sym whole) in
    let sum : bytes + length more ≡ length (begun ++ more) = omega (arith, is, length-append begun more) in
    let next : take (bytes + length more) (reply_text r) ≡ begun ++ more = ap (λ (n : ℕ). take n (reply_text r)) sum ∙ kept_before (begun ++ more) (rest_from r to) (reply_text r) (sym both) in
    let sizes = length-append more (rest_from r to) in
    subst (λ (q : Place). IsInside r q × ((m : List ℕ) × (after ≡ before ++ m) × (take bytes (reply_text r) ++ m ≡ take q.bytes (reply_text r)) × (65536 < length m))) (sym at) (
      record {
        encodable = known;
        begun = begun ++ more;
        whole = both;
        bytes = sum;
        some = omega (arith, many lt);
        left = omega (arith, size, sizes);
        more = omega (arith, size, sizes, behind);
        within = within;
      },
      (more, added, ap (λ (t : List ℕ). t ++ more) front ∙ sym next, many lt),
    )

pub first_ends : (r : ReplyValue) (rest to added : ℕ) (before after : List ℕ) (next : Option Place)
    → is_encodable r ≡ true → rest ≡ length (reply_rest r) → added ≡ length after - length before → AddsFront r to before after
    → IfNone next (count_of r ≤ to) → IfSome next (λ p. to < count_of r) → IfSome next (λ p. p ≡ record { items = to; bytes = 0 + added; left = (4 + rest) - added })
    → AddsPiece r 0 next before after
unfolding encoded
first_ends r rest to added before after next known len is h none lt at =
    let sizes = ap length h.added ∙ length-append before h.more in
    let same : added ≡ length h.more = omega (arith, is, sizes) in
    let whole : 4 + rest ≡ length (h.more ++ rest_from r to) = omega (arith, len, length-append (number w32 (length (reply_rest r))) (reply_rest r), len32 (length (reply_rest r)), ap length h.rest) in
    piece_ends r to 0 (4 + rest) [] h.more before after next known h.rest refl whole (omega arith) h.added h.within h.many none lt
    (subst (λ (n : ℕ). IfSome next (λ p. p ≡ record { items = to; bytes = 0 + n; left = (4 + rest) - n })) same at)

pub next_ends : (r : ReplyValue) (from : Place) (to added : ℕ) (before after : List ℕ) (next : Option Place)
    → IsInside r from → added ≡ length after - length before → AddsItems r from.items to before after
    → IfNone next (count_of r ≤ to) → IfSome next (λ p. to < count_of r) → IfSome next (λ p. p ≡ record { items = to; bytes = from.bytes + added; left = from.left - added })
    → AddsPiece r from.bytes next before after
next_ends r from to added before after next at is h none lt place =
    let sizes = ap length h.added ∙ length-append before h.more in
    let same : added ≡ length h.more = omega (arith, is, sizes) in
    piece_ends r to from.bytes from.left at.begun h.more before after next at.encodable (ap (λ (t : List ℕ). at.begun ++ t) h.rest ∙ at.whole) at.bytes (at.left ∙ ap length (sym h.rest)) at.more h.added h.within h.many none lt
    (subst (λ (n : ℕ). IfSome next (λ p. p ≡ record { items = to; bytes = from.bytes + n; left = from.left - n })) same place)

-- ---- sizes

pub front_size : (r : ReplyValue) (rest to : ℕ) (before after : List ℕ) → rest ≡ length (reply_rest r) → AddsFront r to before after → length after - length before ≤ 4 + rest
unfolding encoded
front_size r rest to before after len h =
    omega (arith, len, ap length h.added, length-append before h.more, ap length h.rest, length-append h.more (rest_from r to), length-append (number w32 (length (reply_rest r))) (reply_rest r), len32 (length (reply_rest r)))

pub items_size : (r : ReplyValue) (p : Place) (to : ℕ) (before after : List ℕ) → IsInside r p → AddsItems r p.items to before after → length after - length before ≤ p.left
items_size r p to before after at h = omega (arith, at.left, ap length h.added, length-append before h.more, ap length h.rest, length-append h.more (rest_from r to))

pub text_size : (r : ReplyValue) → is_encodable r ≡ true → length (reply_text r) ≤ 268435460
unfolding encoded
text_size r known =
    let most = leb-true (length (reply_rest r)) 268435456 (both_true (keeps_rules r) (leb (length (reply_rest r)) 268435456) known).1 in
    omega (arith, most, length-append (number w32 (length (reply_rest r))) (reply_rest r), len32 (length (reply_rest r)))

pub inside_size : (r : ReplyValue) (p : Place) → IsInside r p → p.bytes + p.left ≤ 268435460
inside_size r p at = omega (arith, text_size r at.encodable, at.bytes, at.left, ap length at.whole, length-append at.begun (rest_from r p.items))

pub if_ok : {A E : Type 0} (P Q : A → Type 0) (r : Result A E) → ((x : A) → P x → Q x) → IfOk r P → IfOk r Q
if_ok P Q (Ok x) f h = f x h
if_ok P Q (Err e) f h = tt

pub inside_rules : (r : ReplyValue) (p : Place) → IsInside r p → keeps_rules r ≡ true
inside_rules r p at = (both_true (keeps_rules r) (leb (length (reply_rest r)) 268435456) at.encodable).0

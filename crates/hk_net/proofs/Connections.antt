-- Steps over a connection, one behind the other.
use Rattle.std.proofs.Common.{◌≡◌, ℕ, List, [], ◌∷◌, ◌++◌, Option, None, Some, IfSome, refl, sym, ap, subst, ◌∙◌, append_assoc, append-nil}
use mathlib.Core.List.{IsPrefix}
use Rattle.hk_messages.specs.declared.request.Request.{Request}
use Rattle.hk_messages.specs.declared.reply.Reply.{Reply}
use Rattle.hk_session_parts.specs.Transcript.{Answers, May}
use Rattle.hk_link_state.specs.LaterReplying.{MayReplyBoth}
use Rattle.hk_link_state.specs.LinkStates.{LinkStateValue, LinkValue, link_of}
use Rattle.hk_link_state.specs.NodeSides.{Sided}
use Rattle.hk_link.specs.Sharing.{LinkGoesOn, MayAmong, link_list}
use Rattle.hk_link_state.proofs.Seen.{then_prefix}
use Rattle.hk_doors.specs.declared.passes.Passes.{Passes}
use Rattle.hk_exchange.specs.declared.exchange.Exchange.{Exchange}
use Rattle.hk_exchange.specs.Exchanges.{ExchangeValue, IsNext, Stands, Stays, StaysBy, Told, Turns, start, value_of}
use Rattle.hk_oplog.specs.declared.op.Op.{Op}
use Rattle.hk_net.specs.declared.link.Link.{Link}
use Rattle.hk_net.specs.declared.link.Stage.{Stage}
use Rattle.hk_net.specs.declared.link.Stage.TheVariants.{Lives, LetsGo, Left}
use Rattle.hk_exchange.proofs.Standing.{served, starts}
use Rattle.std.proofs.Math.Logic.{∥∥₁_map}
use Rattle.hk_oplog.specs.declared.op.NodeKind.{NodeKind}
use Rattle.hk_net.specs.declared.turns.Moment.{Moment}
use Rattle.hk_net.specs.Connections.{AreOver, GoesOnBeside, HasStood, IsServed, KeepsOf, KeptBeside, LinkAnswers, Lived, Opens, SeatHost, Serves, StandsOn, Steps, may_of, own_at, own_of, side_of}

-- with no request more
pub none_more : (passes : Passes) (v : ExchangeValue) (ready : List ℕ) (asked : List Request) (told : List Reply) → Stands passes v ready asked told → Stands passes v ready (asked ++ []) (told ++ [])
none_more passes v ready asked told stands =
    subst (λ (l : List Request). Stands passes v ready l (told ++ [])) (sym (append-nil asked)) (subst (λ (l : List Reply). Stands passes v ready asked l) (sym (append-nil told)) stands)

-- nothing was said, and what is said of it may be otherwise
pub stays_then : (passes : Passes) (v w u : ExchangeValue) (ready out more : List ℕ) → Stays passes v ready w out → Stays passes w out u more → Stays passes v ready u more
stays_then passes v w u ready out more first second asked told stands = second asked told (first asked told stands)

-- what is so of what is kept is so while a session goes on
at_any : (stage : Stage) (own : Option LinkStateValue) (P : LinkStateValue → Type 0) → IfSome own P → IfSome (own_at stage own) P
at_any Lives own P h = h
at_any LetsGo own P h = tt
at_any Left own P h = tt

-- nothing is kept where the session is over
pub left_none : (link : Link) → link.stage ≡ Left → own_of link ≡ None
left_none link is = ap (λ s. own_at s link.kept) is

pub lets_none : (link : Link) → link.stage ≡ LetsGo → own_of link ≡ None
lets_none link is = ap (λ s. own_at s link.kept) is

-- what is kept stays so
pub kept_same : (own : Option LinkStateValue) → KeptBeside own own
kept_same None = refl
kept_same (Some kept) = (kept, refl, refl)

pub kept_then : (old mid new : Option LinkStateValue) → KeptBeside old mid → KeptBeside mid new → KeptBeside old new
kept_then None mid new first second = subst (λ (o : Option LinkStateValue). KeptBeside o new) first second
kept_then (Some had) mid new first second =
    let more = subst (λ (o : Option LinkStateValue). KeptBeside o new) first.1 second in
    (more.0, more.1, more.2 ∙ ap (λ (k : LinkStateValue). record k { buffers = more.0.buffers }) first.2)

module _ {S : Type 0} (side : Sided S) (may : May S) where
  -- a host may stay as it is
  pub stays_so : (h : LinkValue S) → GoesOnBeside side h h
  stays_so h = (([], append-nil (link_list side h)), refl)

  -- and go on further
  goes_further : (a b c : LinkValue S) → GoesOnBeside side a b → GoesOnBeside side b c → GoesOnBeside side a c
  goes_further a b c p q =
      (then_prefix (link_list side a) (link_list side b) (link_list side c) p.0 q.0, q.1 ∙ ap (λ (l : LinkValue S). record l { inner = c.inner; buffers = c.buffers }) p.1)

  -- with the same room
  goes_same : (a b : LinkValue S) → LinkGoesOn side a b → GoesOnBeside side a b
  goes_same a b g = (g.0, g.1 ∙ ap (λ n. record a { inner = b.inner; buffers = n }) (sym (ap (λ (l : LinkValue S). l.buffers) g.1)))

  -- it goes on before it answers
  goes_first : (old mid new : LinkValue S) (qs : List Request) (rs : List Reply) → GoesOnBeside side old mid → LinkAnswers side may mid qs rs new → LinkAnswers side may old qs rs new
  goes_first old mid new [] [] g h = (old, refl, goes_further old h.0 new (subst (GoesOnBeside side old) (sym h.1) g) h.2)
  goes_first old mid new (q ∷ qs) (r ∷ rs) g h = (h.0, (h.1.0, (h.1.1.0, goes_further old mid h.1.1.0 g h.1.1.1, h.1.1.2), h.1.2), h.2)
  goes_first old mid new [] (r ∷ rs) g h = absurd h.1
  goes_first old mid new (q ∷ qs) [] g h = absurd h.1

  -- it answers these, and then those
  answers_both : (old mid new : LinkValue S) (qs more_qs : List Request) (rs more_rs : List Reply)
      → LinkAnswers side may old qs rs mid → LinkAnswers side may mid more_qs more_rs new → LinkAnswers side may old (qs ++ more_qs) (rs ++ more_rs) new
  answers_both old mid new [] more_qs [] more_rs g h = goes_first old mid new more_qs more_rs (subst (λ (l : LinkValue S). GoesOnBeside side l mid) g.1 g.2) h
  answers_both old mid new (q ∷ qs) more_qs (r ∷ rs) more_rs g h =
      let rest = answers_both g.1.0 mid new qs more_qs rs more_rs (g.0, g.1.2, g.2) h in
      (rest.0, (g.1.0, g.1.1, rest.1), rest.2)
  answers_both old mid new [] more_qs (r ∷ rs) more_rs g h = absurd g.1
  answers_both old mid new (q ∷ qs) more_qs [] more_rs g h = absurd g.1

  as_among : (old new : LinkValue S) (qs : List Request) (rs : List Reply) → Answers (MayReplyBoth side may) old qs rs new → Answers (MayAmong (GoesOnBeside side) (MayReplyBoth side may)) old qs rs new
  as_among old new [] [] same = same
  as_among old new (q ∷ qs) (r ∷ rs) h = (h.0, (old, stays_so old, h.1), as_among h.0 new qs rs h.2)
  as_among old new [] (r ∷ rs) h = absurd h
  as_among old new (q ∷ qs) [] h = absurd h

  -- what an exchange did is a step
  pub by_turns : (old new : LinkValue S) (passes : Passes) (v w : ExchangeValue) (ready out : List ℕ) → Turns (MayReplyBoth side may) old new passes v ready w out → Steps side may old new passes v ready w out
  by_turns old new passes v w ready out turns asked told stands =
      let t = turns asked told stands in
      (t.0, t.1, (new, as_among old new t.0 t.1 t.2, stays_so new), t.3)

  -- one step behind the other
  pub then_steps : (old mid new : LinkValue S) (passes : Passes) (v w u : ExchangeValue) (ready out more : List ℕ)
      → Steps side may old mid passes v ready w out → Steps side may mid new passes w out u more → Steps side may old new passes v ready u more
  then_steps old mid new passes v w u ready out more first second asked told stands =
      let a = first asked told stands in
      let b = second (asked ++ a.0) (told ++ a.1) a.3 in (
        a.0 ++ b.0,
        a.1 ++ b.1,
        answers_both old mid new a.0 b.0 a.1 b.1 a.2 b.2,
        subst (λ (l : List Request). Stands passes u more l (told ++ (a.1 ++ b.1))) (append_assoc asked a.0 b.0)
            (subst (λ (l : List Reply). Stands passes u more ((asked ++ a.0) ++ b.0) l) (append_assoc told a.1 b.1) b.3),
      )

  -- the host went on, and nothing was said
  pub host_goes : (old new : LinkValue S) (passes : Passes) (v : ExchangeValue) (ready : List ℕ) → LinkGoesOn side old new → Steps side may old new passes v ready v ready
  host_goes old new passes v ready goes asked told stands = ([], [], (old, refl, goes_same old new goes), none_more passes v ready asked told stands)

  -- nothing happened
  pub no_step : (host : LinkValue S) (passes : Passes) (v : ExchangeValue) (ready : List ℕ) → Steps side may host host passes v ready v ready
  no_step host passes v ready = host_goes host host passes v ready (([], append-nil (link_list side host)), refl)

  -- a step, and then nothing was said
  pub step_stays : (old new : LinkValue S) (passes : Passes) (v w u : ExchangeValue) (ready out more : List ℕ) → Steps side may old new passes v ready w out → Stays passes w out u more → Steps side may old new passes v ready u more
  step_stays old new passes v w u ready out more steps stays asked told stands =
      let t = steps asked told stands in
      (t.0, t.1, t.2, stays (asked ++ t.0) (told ++ t.1) t.3)

  -- nothing was said, and then a step
  pub stays_step : (old new : LinkValue S) (passes : Passes) (v w u : ExchangeValue) (ready out more : List ℕ) → Stays passes v ready w out → Steps side may old new passes w out u more → Steps side may old new passes v ready u more
  stays_step old new passes v w u ready out more stays steps asked told stands = steps asked told (stays asked told stands)

  -- a request was answered by itself
  pub told_step : (old new : LinkValue S) (passes : Passes) (v w : ExchangeValue) (ready : List ℕ) (request : Request) (reply : Reply)
      → MayReplyBoth side may old request reply new → IsNext v request → Told v w reply → Steps side may old new passes v ready w ready
  told_step old new passes v w ready request reply answers next told_so asked told stands =
      (request ∷ [], reply ∷ [], (new, (new, (old, stays_so old, answers), refl), stays_so new), told_so request next passes ready asked told stands)

  -- what an exchange did at what its door lets through, by another name
  pub by_turns_at : (old new : LinkValue S) (passes same : Passes) (v w : ExchangeValue) (ready out : List ℕ) → passes ≡ same → Turns (MayReplyBoth side may) old new passes v ready w out
      → Steps side may old new same v ready w out
  by_turns_at old new passes same v w ready out is turns =
      by_turns old new same v w ready out (subst (λ (p : Passes). Turns (MayReplyBoth side may) old new p v ready w out) is turns)

  -- a step behind what was, after which what is ready was put out
  pub put_out : (old mid new : LinkValue S) (passes : Passes) (v : ExchangeValue) (w x y u : Exchange) (ready out said left : List ℕ)
      → Steps side may old mid passes v ready (value_of w) out → Steps side may mid new passes (value_of w) out (value_of x) said → y ≡ x → Stays passes (value_of y) said (value_of u) [] → left ≡ []
      → Steps side may old new passes v ready (value_of u) left
  put_out old mid new passes v w x y u ready out said left first second same stays empty =
      subst (Steps side may old new passes v ready (value_of u)) (sym empty)
      (step_stays old new passes v (value_of x) (value_of u) ready said [] (then_steps old mid new passes v (value_of w) (value_of x) ready out said first second)
      (subst (λ (e : Exchange). Stays passes (value_of e) said (value_of u) []) same stays))

  -- ---- a connection's life

  -- what is answered by a host that has seen a list is answered over that
  are_over : (seen : List Op) (old new : LinkValue S) (qs : List Request) (rs : List Reply) → IsPrefix seen (link_list side old) → LinkAnswers side may old qs rs new → AreOver side may seen qs rs
  are_over seen old new [] [] p h = tt
  are_over seen old new (q ∷ qs) (r ∷ rs) p h =
      let mid = h.1.0 in
      let own = h.1.1 in
      let grown = then_prefix seen (link_list side own.0) (link_list side mid) (then_prefix seen (link_list side old) (link_list side own.0) p own.1.0) own.2.0 in
      ((own.0, mid, own.2, grown), are_over seen mid new qs rs grown (h.0, h.1.2, h.2))
  are_over seen old new [] (r ∷ rs) p h = absurd h.1
  are_over seen old new (q ∷ qs) [] p h = absurd h.1

  -- what is left of a host after a turn is kept
  pub keeps_beside : (after : Link) (last : LinkValue S) (kept : LinkStateValue) → last ≡ link_of last.inner kept → KeptBeside (Some kept) after.kept → KeepsOf after last
  keeps_beside after last kept is beside =
      at_any after.stage after.kept (λ (own : LinkStateValue). record last { buffers = own.buffers } ≡ link_of last.inner own)
      (subst (λ (o : Option LinkStateValue). IfSome o (λ (own : LinkStateValue). record last { buffers = own.buffers } ≡ link_of last.inner own)) (sym beside.1)
      (ap (λ (l : LinkValue S). record l { buffers = beside.0.buffers }) is ∙ ap (λ (k : LinkStateValue). link_of last.inner k) (sym beside.2)))

  -- nothing is kept any more
  pub keeps_none : (after : Link) (last : LinkValue S) → own_of after ≡ None → KeepsOf after last
  keeps_none after last none = subst (λ (o : Option LinkStateValue). IfSome o (λ (own : LinkStateValue). record last { buffers = own.buffers } ≡ link_of last.inner own)) (sym none) tt

  -- the list of its seat has grown
  answers_grow : (old new : LinkValue S) (qs : List Request) (rs : List Reply) → LinkAnswers side may old qs rs new → IsPrefix (link_list side old) (link_list side new)
  answers_grow old new [] [] h = subst (λ (l : LinkValue S). IsPrefix (link_list side l) (link_list side new)) h.1 h.2.0
  answers_grow old new (q ∷ qs) (r ∷ rs) h =
      let own = h.1.1 in
      then_prefix (link_list side old) (link_list side h.1.0) (link_list side new) (then_prefix (link_list side old) (link_list side own.0) (link_list side h.1.0) own.1.0 own.2.0)
      (answers_grow h.1.0 new qs rs (h.0, h.1.2, h.2))
  answers_grow old new [] (r ∷ rs) h = absurd h.1
  answers_grow old new (q ∷ qs) [] h = absurd h.1

  -- steps over what is the same, with nothing ready
  pub steps_at : (old same new : LinkValue S) (passes : Passes) (v w : ExchangeValue) (ready out : List ℕ) → old ≡ same → ready ≡ [] → out ≡ []
      → Steps side may old new passes v ready w out → Steps side may same new passes v [] w []
  steps_at old same new passes v w ready out is none empty steps =
      subst (λ (l : LinkValue S). Steps side may l new passes v [] w []) is
      (subst (λ (l : List ℕ). Steps side may old new passes v l w []) none (subst (λ (l : List ℕ). Steps side may old new passes v ready w l) empty steps))

  -- what came before a turn's steps, and behind them
  pub steps_within : (old new : LinkValue S) (passes : Passes) (v w x u : ExchangeValue) → Stays passes v [] w [] → Steps side may old new passes w [] x [] → Stays passes x [] u [] → Steps side may old new passes v [] u []
  steps_within old new passes v w x u first steps last = stays_step old new passes v w u [] [] [] first (step_stays old new passes w x u [] [] [] steps last)

  -- a turn in which nothing was answered, and nothing is kept after it
  pub idle : (passes : Passes) (host host_after : S) (before after : Link) (seen : List Op) → own_of after ≡ None → Stays passes (value_of before.pipe.exchange) [] (value_of after.pipe.exchange) []
      → IsPrefix (side.list host) (side.list host_after) → IsPrefix seen (side.list host) → Lived side may passes (side.list host) before seen after (side.list host_after)
  idle passes host host_after before after seen none stays grown shown first asked told on = (
    [],
    [],
    tt,
    grown,
    record {
      last = on.last;
      answers = subst (λ (l : List Request). LinkAnswers side may first l (told ++ []) on.last) (sym (append-nil asked)) (subst (λ (l : List Reply). LinkAnswers side may first asked l on.last) (sym (append-nil told)) on.answers);
      stands = none_more passes (value_of after.pipe.exchange) [] asked told (stays asked told on.stands);
      known = then_prefix (side.list on.last.inner) seen (side.list host_after) on.known (then_prefix seen (side.list host) (side.list host_after) shown grown);
      keeps = keeps_none after on.last none;
    },
  )

  -- a turn over a host that has seen what the connection had, beside what it keeps
  pub lived : (passes : Passes) (host host_after : S) (before after : Link) (kept : LinkStateValue) (last : LinkValue S) (seen : List Op) → own_of before ≡ Some kept
      → Steps side may (link_of host kept) last passes (value_of before.pipe.exchange) [] (value_of after.pipe.exchange) [] → IsPrefix (side.list last.inner) (side.list host_after) → KeepsOf after last
      → IsPrefix seen (side.list host) → Lived side may passes (side.list host) before seen after (side.list host_after)
  lived passes host host_after before after kept last seen own steps grows keeps shown first asked told on =
      let t = steps asked told on.stands in
      let same = subst (λ (o : Option LinkStateValue). IfSome o (λ (k : LinkStateValue). record on.last { buffers = k.buffers } ≡ link_of on.last.inner k)) own on.keeps in
      let goes : GoesOnBeside side on.last (link_of host kept) = (then_prefix (side.list on.last.inner) seen (side.list host) on.known shown, sym (ap (λ (l : LinkValue S). record l { inner = host }) same)) in (
        t.0,
        t.1,
        are_over seen (link_of host kept) last t.0 t.1 shown t.2,
        then_prefix (side.list host) (side.list last.inner) (side.list host_after) (answers_grow (link_of host kept) last t.0 t.1 t.2) grows,
        record {
          last = last;
          answers = answers_both first on.last last asked t.0 told t.1 on.answers (goes_first on.last (link_of host kept) last t.0 t.1 goes t.2);
          stands = t.3;
          known = grows;
          keeps = keeps;
        },
      )

-- the same by other names, of a seat that had seen less
pub lived_at : {S : Type 0} (side : Sided S) (may : May S) (passes : Passes) (seat host : List Op) (before begun ended after : Link) (seen last seen_after : List Op)
    → begun ≡ before → after ≡ ended → seen_after ≡ last → IsPrefix seat host → Lived side may passes host begun seen ended last → Lived side may passes seat before seen after seen_after
lived_at side may passes seat host before begun ended after seen last seen_after is_begun is_ended is_last shorter lived first asked told on =
    let t = lived first asked told (subst (λ (l : Link). StandsOn side may passes first asked told l seen) (sym is_begun) on) in (
      t.0,
      t.1,
      t.2,
      subst (IsPrefix seat) (sym is_last) (then_prefix seat host last shorter t.3),
      subst (λ (l : Link). StandsOn side may passes first (asked ++ t.0) (told ++ t.1) l seen_after) (sym is_ended)
          (subst (λ (s : List Op). StandsOn side may passes first (asked ++ t.0) (told ++ t.1) ended s) (sym is_last) t.4),
    )

-- a connection that was just accepted stands at the beginning, beside what it keeps
pub opens : (kind : NodeKind) (kept : LinkStateValue) (link : Link) → value_of link.pipe.exchange ≡ start → link.kept ≡ Some kept → Opens kind kept link []
opens kind kept link fresh is passes way =
    let first : LinkValue SeatHost = link_of {S = SeatHost} (way, []) kept in record {
      last = first;
      answers = (first, refl, stays_so (side_of kind) (may_of kind) first);
      stands = subst (λ (v : ExchangeValue). Stands passes v [] [] []) (sym fresh) (starts passes);
      known = ([], refl);
      keeps = at_any link.stage link.kept (λ (own : LinkStateValue). record first { buffers = own.buffers } ≡ link_of {S = SeatHost} (way, []) own)
          (subst (λ (o : Option LinkStateValue). IfSome o (λ (own : LinkStateValue). record first { buffers = own.buffers } ≡ link_of {S = SeatHost} (way, []) own)) (sym is) refl);
    }

-- ---- a client

-- what is kept by a session that goes on is what its last host left, if so is what was kept before
keeps_on : {S : Type 0} (stage : Stage) (old new : Option LinkStateValue) (last : LinkValue S) → KeptBeside old new
    → IfSome (own_at stage old) (λ kept. record last { buffers = kept.buffers } ≡ link_of last.inner kept) → IfSome (own_at stage new) (λ kept. record last { buffers = kept.buffers } ≡ link_of last.inner kept)
keeps_on Lives None new last beside keeps = subst (λ (o : Option LinkStateValue). IfSome o (λ kept. record last { buffers = kept.buffers } ≡ link_of last.inner kept)) (sym beside) tt
keeps_on Lives (Some had) new last beside keeps =
    subst (λ (o : Option LinkStateValue). IfSome o (λ kept. record last { buffers = kept.buffers } ≡ link_of last.inner kept)) (sym beside.1)
    (ap (λ (l : LinkValue _). record l { buffers = beside.0.buffers }) keeps ∙ ap (λ (k : LinkStateValue). link_of last.inner k) (sym beside.2))
keeps_on LetsGo old new last beside keeps = tt
keeps_on Left old new last beside keeps = tt

-- it stands there still where nothing was asked or answered, and the same is kept
pub stands_still : {S : Type 0} (side : Sided S) (may : May S) (first : LinkValue S) (asked : List Request) (told : List Reply) (before after : Link) (seen : List Op)
    → StaysBy before.pipe.exchange [] after.pipe.exchange [] → after.stage ≡ before.stage → KeptBeside before.kept after.kept → after.passes ≡ before.passes
    → StandsOn side may before.passes first asked told before seen → StandsOn side may after.passes first asked told after seen
stands_still side may first asked told before after seen stays stage beside passes on = record {
  last = on.last;
  answers = on.answers;
  stands = subst (λ (p : Passes). Stands p (value_of after.pipe.exchange) [] asked told) (sym passes) (stays before.passes asked told on.stands);
  known = on.known;
  keeps = subst (λ (s : Stage). IfSome (own_at s after.kept) (λ kept. record on.last { buffers = kept.buffers } ≡ link_of on.last.inner kept)) (sym stage)
      (keeps_on before.stage before.kept after.kept on.last beside on.keeps);
}

-- an exchange that is as it was
pub stays_at : (before after : Exchange) → after ≡ before → StaysBy before [] after []
stays_at before after is passes asked told stands = subst (λ (e : Exchange). Stands passes (value_of e) [] asked told) (sym is) stands

-- so a client stands where it stood
pub stood_still : (kind : NodeKind) (before after : Link) (seen : List Op)
    → StaysBy before.pipe.exchange [] after.pipe.exchange [] → after.stage ≡ before.stage → KeptBeside before.kept after.kept → after.passes ≡ before.passes
    → HasStood kind before seen → HasStood kind after seen
stood_still kind before after seen stays stage beside passes h = record {
  way = h.way;
  kept = h.kept;
  asked = h.asked;
  told = h.told;
  stands = stands_still (side_of kind) (may_of kind) (link_of {S = SeatHost} (h.way, []) h.kept) h.asked h.told before after seen stays stage beside passes h.stands;
}

-- and where only its pipe changed
pub stood_beside : (kind : NodeKind) (before after : Link) (seen : List Op) → StaysBy before.pipe.exchange [] after.pipe.exchange []
    → after ≡ record before { pipe = after.pipe } → HasStood kind before seen → HasStood kind after seen
stood_beside kind before after seen stays same h =
    stood_still kind before after seen stays (ap (λ (l : Link). l.stage) same)
    (subst (KeptBeside before.kept) (sym (ap (λ (l : Link). l.kept) same)) (kept_same before.kept)) (ap (λ (l : Link). l.passes) same) h

-- a client whose connection was just accepted, and which keeps nothing
pub stood_new : (kind : NodeKind) (link : Link) (seen : List Op) → value_of link.pipe.exchange ≡ start → link.kept ≡ None → HasStood kind link seen
stood_new kind link seen fresh none =
    let kept : LinkStateValue = record { most = 0; giving = None; came = []; holds = []; buffers = 0 } in
    let first : LinkValue SeatHost = link_of {S = SeatHost} (link.passes, []) kept in record {
      way = link.passes;
      kept = kept;
      asked = [];
      told = [];
      stands = record {
        last = first;
        answers = (first, refl, stays_so (side_of kind) (may_of kind) first);
        stands = subst (λ (v : ExchangeValue). Stands link.passes v [] [] []) (sym fresh) (starts link.passes);
        known = (seen, refl);
        keeps = at_any link.stage link.kept (λ (own : LinkStateValue). record first { buffers = own.buffers } ≡ link_of {S = SeatHost} (link.passes, []) own)
            (subst (λ (o : Option LinkStateValue). IfSome o (λ (own : LinkStateValue). record first { buffers = own.buffers } ≡ link_of {S = SeatHost} (link.passes, []) own)) (sym none) tt);
      };
    }

-- and beside what it keeps from then on
pub stood_opens : (kind : NodeKind) (kept : LinkStateValue) (link : Link) (seen : List Op) → Opens kind kept link [] → HasStood kind link seen
stood_opens kind kept link seen opened =
    let on = opened link.passes link.passes in record {
      way = link.passes;
      kept = kept;
      asked = [];
      told = [];
      stands = record {
        last = on.last;
        answers = on.answers;
        stands = on.stands;
        known = then_prefix (on.last.inner.1) [] seen on.known (seen, refl);
        keeps = on.keeps;
      };
    }

-- after a turn
pub stood_turn : (kind : NodeKind) (moment : Moment) (seat : List Op) (before after : Link) (seen seen_after : List Op) → moment.passes ≡ before.passes → after.passes ≡ before.passes
    → Serves kind moment seat before seen after seen_after → HasStood kind before seen → HasStood kind after seen_after
stood_turn kind moment seat before after seen seen_after is same lived h =
    let first = link_of {S = SeatHost} (h.way, []) h.kept in
    let t = lived first h.asked h.told (subst (λ (p : Passes). StandsOn (side_of kind) (may_of kind) p first h.asked h.told before seen) (sym is) h.stands) in record {
      way = h.way;
      kept = h.kept;
      asked = h.asked ++ t.0;
      told = h.told ++ t.1;
      stands = subst (λ (p : Passes). StandsOn (side_of kind) (may_of kind) p first (h.asked ++ t.0) (h.told ++ t.1) after seen_after) (is ∙ sym same) t.4;
    }

-- what its socket took, by where it stands
pub stood_served : (kind : NodeKind) (link : Link) (seen : List Op) → ∥ HasStood kind link seen ∥₁ → IsServed link.passes link.pipe.exchange
stood_served kind link seen h =
    ∥∥₁_map h (λ (s : HasStood kind link seen). (s.asked, s.told, served link.passes (value_of link.pipe.exchange) [] s.asked s.told s.stands.stands))

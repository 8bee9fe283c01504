-- What lies under the writer's lock, after a step.
use Rattle.std.proofs.Common.{◌≡◌, true, false, is_some, List, [], ◌∷◌, ◌++◌, Option, Some, None, refl, sym, ap, ◌∙◌, subst, arith}
use Rattle.std.proofs.lemmas.List.{append-nil}
use Rattle.logbook.specs.Pages.{Book}
use Rattle.hk_oplog.specs.declared.op.NodeKind.{NodeKind}
use Rattle.hk_oplog.specs.declared.op.Op.TheVariants.{Start}
use Rattle.hk_oplog.specs.declared.op.Op.{Op}
use Rattle.hk_node.specs.declared.replica.Replica.{Replica}
use Rattle.hk_node.specs.declared.replica.Logged.{Logged}
use Rattle.hk_oplog.specs.NodeContent.{NodeContent}
use Rattle.hk_oplog.specs.Replay.{kind_of, replay, refusal_of, content_after_op, start_content, is_legal}
use Rattle.hk_node.specs.Published.{View, queue, ops_of, IsReady, IsReplay, IsPublisher}
use Rattle.hk_oplog.proofs.LegalLists.{kind-snoc, replay-snoc, legal-snoc}

pub none_pending : (pending : List Logged) (late : Option Logged) → ops_of (queue pending late) ≡ [] → pending ≡ []
none_pending [] late e = refl
none_pending (x ∷ xs) None e = absurd (cc)
none_pending (x ∷ xs) (Some o) e = absurd (cc)

pub puts : (book : Book) (kind : NodeKind) (counter : Book) (shown : Replica) (q pending : List Logged) (o : Logged) → IsPublisher book kind counter shown q → pending ≡ [] → refusal_of (replay shown.prefix.1) o.op ≡ None
    → o.prefix ≡ (book, shown.prefix.1 ++ o.op ∷ []) → IsPublisher book kind counter shown (pending ++ o ∷ [])
puts book kind counter shown q pending o s none may prefix =
    let list = shown.prefix.1 in
    let ends : o.prefix.1 ≡ list ++ o.op ∷ [] = ap (λ (v : View). v.1) prefix in
    let body : content_after_op shown.body o.op ≡ replay o.prefix.1 = ap (λ (c : NodeContent). content_after_op c o.op) s.published.0 ∙ (sym (replay-snoc list o.op s.published.1) ∙ ap replay (sym ends)) in
    let all : IsPublisher book kind counter shown (o ∷ []) = record {
      name = s.name;
      kind_shown = s.kind_shown;
      kind_all = ap kind_of ends ∙ kind-snoc list o.op s.published.1 ∙ s.kind_shown;
      counted = s.counted;
      published = s.published;
      list = prefix;
      replayed = (body, subst (λ (l : List Op). is_legal l ≡ true) (sym ends) (legal-snoc list o.op s.published.1 may));
      few = omega arith;
    } in
    subst (λ (p : List Logged). IsPublisher book kind counter shown (p ++ o ∷ [])) (sym none) all

-- what lies under the lock of a new node
pub new_publisher : (book counter : Book) (shown : Replica) (kind : NodeKind) (pending : List Logged) → shown.prefix.1 ≡ Start kind ∷ [] → shown.body ≡ start_content kind → shown.prefix.0 ≡ book → counter ≡ book → pending ≡ []
    → IsPublisher book kind counter shown (queue pending None)
new_publisher book counter shown kind pending list body name counted none =
    let replayed : IsReplay shown = (body ∙ sym (ap replay list), ap is_legal list) in
    let all : IsPublisher book kind counter shown [] = record {
      name = name;
      kind_shown = ap kind_of list;
      kind_all = ap kind_of list;
      counted = counted;
      published = replayed;
      list = λ i. (name i, sym (append-nil shown.prefix.1) i);
      replayed = replayed;
      few = omega arith;
    } in
    subst (λ (p : List Logged). IsPublisher book kind counter shown p) (sym none) all

-- with nothing beside the writer's log, what is in it may be published
pub settles : (book : Book) (kind : NodeKind) (counter : Book) (shown : Replica) (pending : List Logged) (late : Option Logged) → false ≡ is_some late → IsPublisher book kind counter shown (queue pending late) → IsReady shown pending
settles book kind counter shown pending None none s = record {
  replayed = s.replayed;
  longer = (ops_of pending, sym (ap (λ (v : View). v.1) s.list));
  same = s.name ∙ sym (ap (λ (v : View). v.0) s.list);
}
settles book kind counter shown pending (Some o) none s = absurd (cc)

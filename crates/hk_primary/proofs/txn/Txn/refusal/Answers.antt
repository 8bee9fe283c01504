use Rattle.std.proofs.Common.{◌≡◌, sym, ap, ◌∙◌, true, false, cond, Some, None, nat_le, Bool, ℕ, ◌≤◌, le-leb, arith}
use Rattle.std.proofs.lemmas.Bool.Decides.{nat_tests}
use Rattle.std.specs.FinMap as finmap
use Rattle.hk_types.specs.declared.faults.Refusal.TheVariants.{TwiceWritten, TooManyWrites}
use Rattle.hk_primary.proofs.StoredWrites.{len_seen, contains_seen, seen}
use Rattle.hk_primary.proofs.txn.Txn.refusal.Goals as goal

below : (n : ℕ) → n ≤ 1023 → nat_le 1024 n ≡ false
below n l = grind (arith, nat_tests)

pub returns-then-contains_key : goal.returns-then-contains_key
returns-then-contains_key c =
    let here : finmap.contains_key (seen c.self.inside.writes) c.args.key ≡ true = sym (contains_seen c.self.inside.writes c.args.key) ∙ sym c.contains_key.ensures ∙ c.if-contains_key.true in
    rw (← c.self.view_is) (sym (ap (λ b. cond b (Some TwiceWritten) (cond (nat_le 1024 (finmap.len (seen c.self.inside.writes))) (Some TooManyWrites) None)) here))

pub returns-then-len-ge-MOST_WRITES : goal.returns-then-len-ge-MOST_WRITES
returns-then-len-ge-MOST_WRITES c =
    let here : finmap.contains_key (seen c.self.inside.writes) c.args.key ≡ false = sym (contains_seen c.self.inside.writes c.args.key) ∙ sym c.contains_key.ensures ∙ c.if-contains_key.false in
    let is : c.len.result ≡ finmap.len (seen c.self.inside.writes) = c.len.ensures.len ∙ len_seen c.self.inside.writes c.len.ensures.ordered in
    let many : nat_le 1024 (finmap.len (seen c.self.inside.writes)) ≡ true = ap (nat_le 1024) (sym is) ∙ le-leb 1024 c.len.result c.if-len-ge-MOST_WRITES.true in
    rw (← c.self.view_is) (sym (λ i. cond (here i) (Some TwiceWritten) (cond (many i) (Some TooManyWrites) None)))

pub returns : goal.returns
returns c =
    let here : finmap.contains_key (seen c.self.inside.writes) c.args.key ≡ false = sym (contains_seen c.self.inside.writes c.args.key) ∙ sym c.contains_key.ensures ∙ c.if-contains_key.false in
    let is : c.len.result ≡ finmap.len (seen c.self.inside.writes) = c.len.ensures.len ∙ len_seen c.self.inside.writes c.len.ensures.ordered in
    let less = c.if-len-ge-MOST_WRITES.false in
    let few : nat_le 1024 (finmap.len (seen c.self.inside.writes)) ≡ false = ap (nat_le 1024) (sym is) ∙ below c.len.result (omega arith) in
    rw (← c.self.view_is) (sym (λ i. cond (here i) (Some TwiceWritten) (cond (few i) (Some TooManyWrites) None)))

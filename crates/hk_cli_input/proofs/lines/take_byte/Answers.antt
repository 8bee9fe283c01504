use Rattle.std.proofs.Common.{◌≡◌, ◌≤◌, ◌<◌, is_ok, true, length, ◌∙◌, ◌++◌, ◌∷◌, [], sym, arith}
use Rattle.hk_cli_input.proofs.Took.{ok_so}
use Rattle.hk_cli_input.proofs.LineSteps.{stands_feed, stands_byte, stands_long}
use Rattle.hk_cli_input.proofs.lines.take_byte.Goals as goal

pub returns-then-byte-eq10-clause-ok : goal.returns-then-byte-eq10-clause-ok
returns-then-byte-eq10-clause-ok g c =
    stands_feed c.args.most g.L.Lines.took c.args.lines.now c.line.new.self c.args.byte c.deref.result.now c.args.line.now.bytes.items c.clear.new.self.items
    c.if-byte-eq10.true c.deref.ensures.value c.clear.ensures.items c.in_ok-line.ensures.ok

pub returns-then-len-most-clause-ok : goal.returns-then-len-most-clause-ok
returns-then-len-most-clause-ok g c =
    let kept = c.args.line.now.bytes.items in
    let full : c.args.most ≤ length kept = omega (arith, c.args.line.now.bytes.ok.0) in
    ok_so c.long.result (λ _. stands_long c.args.most g.L.Lines.took c.args.lines.now c.long.new.self c.args.byte kept c.if-byte-eq10.false full c.long.ensures)

pub returns-clause-ok : goal.returns-clause-ok
returns-clause-ok g c =
    let kept = c.args.line.now.bytes.items in
    let less : length kept < c.args.most = omega (arith, c.args.line.now.bytes.ok.0) in
    ok_so c.map_err.result (λ good.
    let pushed : is_ok c.push.result ≡ true = sym c.map_err.ensures.variant ∙ good in
    let added : c.push.new.self.items ≡ kept ++ c.args.byte ∷ [] = rw pushed at c.push.ensures.items in
    stands_byte c.args.most g.L.Lines.took c.args.lines.now c.args.byte kept c.push.new.self.items c.if-byte-eq10.false less added)

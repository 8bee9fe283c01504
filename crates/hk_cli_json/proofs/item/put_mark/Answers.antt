use Rattle.hk_cli_json.proofs.item.put_mark.Goals as goal

pub returns : goal.returns
returns c = simp (c.log-log.ensures, c.stream-stream.ensures, c.n-n.ensures.value, c.m-m.ensures) at c.writeln.ensures.bytes

use Rattle.hk_cli_json.proofs.item.put_place.Goals as goal

pub returns : goal.returns
returns c = simp (c.log-log.ensures, c.stream-stream.ensures, c.number-number.ensures.value, c.time-time.ensures) at c.write.ensures.bytes

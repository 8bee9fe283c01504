use Rattle.std.proofs.Common.{◌++◌, append_assoc}
use Rattle.std.proofs.lemmas.Result.{IfOk-equal}
use Rattle.hk_codec.specs.Encoding.{rows_text, entry_text, version_text}
use Rattle.hk_codec.proofs.encoding.put_entry.Goals as goal

pub returns-clause-ok : goal.returns-clause-ok
unfolding version_text entry_text
returns-clause-ok c =
    IfOk-equal c.put_list-2.result c.put_list-2.new.out.items (c.put_list.new.out.items ++ rows_text c.args.version c.rows.result.now) _ c.put_list-2.ensures.ok
    (rw (c.in_ok-put_list.ensures.ok, c.in_ok-put_front.ensures.ok, c.rows.ensures.value, c.ends.ensures.value, c.number.ensures.value, c.number-2.ensures.value, c.time.ensures, c.log.ensures, c.stream.ensures) (simp append_assoc))

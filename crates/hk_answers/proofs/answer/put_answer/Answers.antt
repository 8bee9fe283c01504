use Rattle.std.proofs.Common.{◌≤◌, ◌++◌, List, ℕ, ap, ◌∙◌, length, append_assoc, rules}
use Rattle.std.specs.List.{flat_map}
use Rattle.hk_model.specs.Replica.Answers.{answer_seen}
use Rattle.hk_answers.specs.Answers.{keyed_text}
use Rattle.hk_answers.specs.Pieces.{answer_front, rows_of}
use Rattle.hk_answers.proofs.AddedPieces.{all_added, answer_parts}
use Rattle.hk_answers.proofs.answer.put_answer.Goals as goal

pub returns-clause-ok : goal.returns-clause-ok
returns-clause-ok c =
    let a = answer_seen c.args.answer.now in
    let rows = flat_map keyed_text (rows_of a) in
    let few : length c.put_answer_rows.new.out.items ≤ 18446744073709551615 = search rules in
    all_added keyed_text (rows_of a) 18446744073709551615 c.in_ok-_next._next c.put_answer_front.new.out.items c.put_answer_rows.new.out.items c.in_ok-_next.ensures.ok few
    ∙ ap (λ (t : List ℕ). t ++ rows) c.in_ok-put_answer_front.ensures.ok
    ∙ append_assoc c.args.out.now.items (answer_front a) rows
    ∙ ap (λ (t : List ℕ). c.args.out.now.items ++ t) (answer_parts a)

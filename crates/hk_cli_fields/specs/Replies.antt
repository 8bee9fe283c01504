-- The lines that are printed of replies, each with its line feed.
use Rattle.std.specs.Prelude.{ℕ, List, ◌++◌, length, codes}
use Rattle.std.specs.Fmt.{decimal}
use Rattle.hk_fragment_bytes.specs.Fragments.{WireFragment}
use Rattle.hk_messages.specs.Replies.{ReplyValue}
use Rattle.hk_messages.specs.Replies.ReplyValue.{Done, Front, Fragment, Answer, Refused, Later}
use Rattle.hk_cli_fields.specs.Lines.{line_end, answer_lines, refusal_line, front_line}
use Rattle.hk_cli_fields.specs.LaterReplies as later

-- what is printed of a fragment: where it begins, its horizon, and of how many versions it tells
abbrev pub part_line : ℕ → ℕ → ℕ → List ℕ
part_line base horizon facts = codes "fragment base " ++ decimal base ++ codes " horizon " ++ decimal horizon ++ codes " facts " ++ decimal facts ++ line_end

abbrev pub fragment_line : WireFragment → List ℕ
fragment_line f = part_line f.base f.horizon (length f.facts)

-- what is printed of a reply
abbrev pub reply_lines : ReplyValue → List ℕ
reply_lines (Done ops) = codes "done " ++ decimal ops ++ line_end
reply_lines (Front horizon readable) = front_line horizon readable
reply_lines (Fragment f) = fragment_line f
reply_lines (Answer a) = answer_lines a
reply_lines (Refused why) = refusal_line why
reply_lines (Later reply) = later.reply_lines reply

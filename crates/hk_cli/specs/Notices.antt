-- The lines of a node that serves links.
use Rattle.std.specs.Prelude.{ℕ, List, ◌++◌, codes}
use Rattle.std.specs.Fmt.{decimal}
use Rattle.hk_cli_fields.specs.Lines.{line_end}
use Rattle.hk_cli.specs.declared.notice.Notice.{Notice}
use Rattle.hk_cli.specs.declared.notice.Notice.TheVariants.{Listening, Ended}

abbrev pub notice_line : Notice → List ℕ
notice_line (Listening port) = codes "listening " ++ decimal port ++ line_end
notice_line (Ended number) = codes "ended " ++ decimal number ++ line_end

-- The lines that a script prints beside those of its world.
use Rattle.std.specs.Prelude.{ℕ, List, ◌++◌, codes}
use Rattle.std.specs.Fmt.{decimal}
use Rattle.hk_model.specs.World.Events.{told_seen}
use Rattle.hk_cli_fields.specs.Lines.{line_end, outcome_lines}
use Rattle.hk_cli_commands.specs.declared.script.Reply.{Reply}
use Rattle.hk_cli_commands.specs.declared.script.Reply.TheVariants.{Begun, Told}

-- what is printed where a transaction begins in a slot
abbrev pub begun_line : ℕ → ℕ → List ℕ
begun_line slot at = codes "begun " ++ decimal slot ++ codes " at " ++ decimal at ++ line_end

-- what a command prints
abbrev pub reply_lines : Reply → List ℕ
reply_lines (Begun slot at) = begun_line slot at
reply_lines (Told outcome) = outcome_lines (told_seen outcome)

-- what is printed of a line that is no command
abbrev pub bad_line : ℕ → List ℕ
bad_line number = codes "line " ++ decimal number ++ codes ": bad command" ++ line_end

use Rattle.std.proofs.Common.{◌∙◌, sym}
use Rattle.sql_lexer.proofs.CopyCommands.{behind_slash}
use Rattle.sql_lexer.proofs.script.copy_commands.is_copy_command.Goals as goal

pub has_copy-requires-clause-utf8 : goal.has_copy-requires-clause-utf8
has_copy-requires-clause-utf8 c = behind_slash c.args.text.now c.requires.utf8 (sym c.starts_with.ensures.value ∙ c.if-not-starts_with.false)

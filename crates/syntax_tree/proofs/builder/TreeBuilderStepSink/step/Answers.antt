use Rattle.std.specs.Str.{chars}
use Rattle.squawk_table.specs.declared.shortcuts.str_step.OwnedStep.TheVariants as sent
use Rattle.syntax_tree.proofs.Refusals.{takes_over}
use Rattle.syntax_tree.proofs.builder.TreeBuilderStepSink.step.Goals as goal

pub returns-in-Token : goal.returns-in-Token
returns-in-Token c = rw c.in-Token.is (takes_over _ _ (sent.Token c.in-Token.kind (chars c.in-Token.text.now)) _ c.token.ensures.source c.token.ensures.step)

pub returns-in-Enter : goal.returns-in-Enter
returns-in-Enter c = rw c.in-Enter.is (takes_over _ _ (sent.Enter c.in-Enter.kind) _ c.start_node.ensures.source c.start_node.ensures.step)

pub returns-in-Exit : goal.returns-in-Exit
returns-in-Exit c = rw c.in-Exit.is (takes_over _ _ sent.Exit _ c.finish_node.ensures.source c.finish_node.ensures.step)

pub returns-in-Error : goal.returns-in-Error
returns-in-Error c = rw c.in-Error.is (takes_over _ _ (sent.Error (chars c.in-Error.msg.now) c.in-Error.pos) _ c.error.ensures.source c.error.ensures.step)

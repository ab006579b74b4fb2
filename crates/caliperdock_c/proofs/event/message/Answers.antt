use Rattle.caliperdock_c.proofs.Messages.{message_there, message_unread}
use Rattle.caliperdock_c.proofs.event.message.Goals as goal

pub returns-in-Ok : goal.returns-in-Ok
returns-in-Ok c =
    message_there c.args.messages.now c.args.start c.args.end c.in-Ok.text.now c.if-start-end.false c.if-end-messages.false c.in-Ok.ensures.cases.0 c.in-Ok.ensures.cases.1

pub returns-in-Err : goal.returns-in-Err
returns-in-Err c = message_unread c.args.messages.now c.args.start c.args.end c.if-start-end.false c.if-end-messages.false c.in-Err.ensures.cases.0

use Rattle.caliperdock_c.proofs.Messages.{token_read, token_unread}
use Rattle.caliperdock_c.proofs.event.read_event.Goals as goal

pub returns-in-Ok : goal.returns-in-Ok
returns-in-Ok c = token_read c.args.messages.now c.args.event.now c.in-Ok.n_raw_tokens c.in-2.is c.in-Ok.ensures.0 c.in-Ok.ensures.1

pub returns-in-Err : goal.returns-in-Err
returns-in-Err c = token_unread c.args.messages.now c.args.event.now c.in-2.is c.in-Err.ensures

use Rattle.std.proofs.lemmas.Str.{encodes-chars}
use Rattle.caliperdock_c.proofs.errors.ErrorList.push.Goals as goal

pub returns-clause-utf8 : goal.returns-clause-utf8
returns-clause-utf8 c = encodes-chars c.args.message.now c.utf8.message

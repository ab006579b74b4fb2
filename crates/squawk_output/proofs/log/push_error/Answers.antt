use Rattle.std.proofs.Common.{◌≡◌, ◌++◌, ◌∷◌, [], length, rules}
use Rattle.squawk_output.specs.StoredEvents.{Error}
use Rattle.squawk_output.proofs.StoredEvents.{log_in-error}
use Rattle.squawk_output.proofs.log.push_error.Goals as goal

pub returns-clause-events : goal.returns-clause-events
returns-clause-events c =
    let told : c.push.new.self.items ≡ c.args.errors.now.items ++ c.args.msg ∷ [] = search rules in
    let put : c.push_reserved.new.self.items ≡ c.args.events.now.items ++ Error c.len-number.result ∷ [] = search rules in
    let is : c.len-number.result ≡ length c.args.errors.now.items = search rules in
    rw (told, put, is) (log_in-error c.args.errors.now.items c.args.msg c.args.events.now.items c.requires.texts)

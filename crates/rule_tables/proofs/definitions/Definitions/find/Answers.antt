use Rattle.std.proofs.Common.{◌∙◌, length, position, take}
use Rattle.rule_tables.specs.Definitions.{defines}
use Rattle.rule_tables.proofs.ByName.{found_few, found_number}
use Rattle.rule_tables.proofs.definitions.Definitions.find.Goals as goal

pub returns-clause-number : goal.returns-clause-number
returns-clause-number c = found_number c.args.self.now.parts.now (position (defines c.args.name.now) (take (length c.args.self.now.parts.now) c.args.self.now.parts.now)) c.copied.result
    (c.copied.ensures ∙ c.get.ensures.value ∙ c.args.self.now.are c.args.name.now)

pub returns-clause-few : goal.returns-clause-few
returns-clause-few c = found_few c.args.self.now.parts.now (position (defines c.args.name.now) (take (length c.args.self.now.parts.now) c.args.self.now.parts.now)) c.copied.result
    (c.copied.ensures ∙ c.get.ensures.value ∙ c.args.self.now.are c.args.name.now)

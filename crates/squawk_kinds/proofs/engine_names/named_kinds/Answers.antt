use Rattle.std.proofs.Common.{refl}
use Rattle.squawk_kinds.specs.EngineNames.{engine_names}
use Rattle.squawk_kinds.proofs.engine_names.named_kinds.Goals as goal

pub returns : goal.returns
unfolding engine_names
returns c = refl

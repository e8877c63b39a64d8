use Rattle.rules.proofs.Firsts.{answers_decider, first_decides}
use Rattle.rules.proofs.Portless.{ports_alike}
use Rattle.rules.proofs.laws.policy_laws.Goals as goal

pub returns : goal.returns
returns c = record { policy = answers_decider; first = first_decides; ports = ports_alike }

-- That what `==` answers of two actions tells them apart.
use Rattle.std.specs.Prelude.{◌≡◌, Decides}
use Rattle.std.proofs.Common.{rules}
use Rattle.rules.specs.declared.action.Action.{Action}
use Rattle.rules.specs.contracts.action.ActionPartialEq.TheImpl as action_eq

-- two actions
pub actions_tell : (a b : Action) → Decides (action_eq.ghosts.eq a b) (a ≡ b)
actions_tell a b = search rules

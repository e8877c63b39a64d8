-- The networks so far are put, and there is room for the others.
use Rattle.std.proofs.Common.{◌+◌, drop}
use Rattle.names.specs.Texts.{texts}
use Rattle.planwrite.specs.Written.{nets_text, plan_text}
use Rattle.planwrite.proofs.Writing.{Begun}
use Rattle.planwrite.proofs.rows.write_nets.Given as goal

abbrev pub invariant-loop-i : goal.invariant-loop-i
invariant-loop-i g l =
    Begun g.S.Sink.has_room g.S.Sink.takes (plan_text g.A.Address.text (texts l.names) l.runs) (nets_text g.A.Address.text (l.i + 1) (drop l.i (texts l.names)) l.runs) l.initial.sink l.sink

-- The rows of the runs so far are put, and there is room for the others.
use Rattle.std.proofs.Common.{drop}
use Rattle.planwrite.specs.Written.{net_text}
use Rattle.planwrite.proofs.Writing.{Begun}
use Rattle.planwrite.proofs.rows.write_net.Given as goal

abbrev pub invariant-loop-run : goal.invariant-loop-run
invariant-loop-run g l =
    Begun g.S.Sink.has_room g.S.Sink.takes (net_text g.A.Address.text l.number l.name l.runs) (net_text g.A.Address.text l.number l.name (drop l.run-index l.runs)) l.initial.sink l.sink

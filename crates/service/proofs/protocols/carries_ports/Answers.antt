-- The table agrees with the rule at every protocol number.
use Rattle.std.proofs.Common.{Bool, true, false, List, ◌∷◌, ◌++◌, replicate, slice_index_or, refl}
use Rattle.std.proofs.lemmas.Bool.{agree_below_at}
use Rattle.service.specs.Ports.{carries_ports}
use Rattle.service.proofs.protocols.carries_ports.Goals as goal

-- the table of the source
abbrev table : List Bool
table = replicate 6 false ++ (true ∷ (replicate 10 false ++ (true ∷ (replicate 15 false ++ (true ∷ (replicate 98 false ++ (true ∷ (replicate 3 false ++ (true ∷ replicate 119 false)))))))))

pub returns : goal.returns
returns c = agree_below_at (λ p. slice_index_or table p false) carries_ports 256 c.args.protocol refl c.ranges.protocol.fits

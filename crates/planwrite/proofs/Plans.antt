-- What is written of a plan that declarations made.
use Rattle.std.proofs.Common.{ℕ, ◌+◌, ◌<◌, List, [], ◌∷◌, length, arith}
use Rattle.std.proofs.lemmas.List.{length-take-le}
use Rattle.line.specs.declared.run.Run.{Run}
use Rattle.line.specs.Line.{Joined}
use Rattle.line.proofs.Lines.{joined_le}
use Rattle.text.specs.Parts.{Lacks}
use Rattle.plan.specs.declared.plan.Plan.{Plan}
use Rattle.plan.specs.Declarations.{Declaration}
use Rattle.plan.specs.Made.{Made}
use Rattle.planwrite.specs.Writes.{runs_of}
use Rattle.planwrite.specs.Back.{ReadsBack}
use Rattle.planwrite.proofs.Backing.{reads_back}

-- there are places where there are runs
some_place : {A : Type 0} (place : A → ℕ) (size : ℕ) (runs : List (Run A ℕ)) → 0 < length runs → Joined place size 0 runs → 0 < size
some_place place size [] some j = absurd (omega arith)
some_place place size (r ∷ runs) some j = let le = joined_le place size (place r.high + 1) runs j.2 in omega arith

module _ {A : Type 0} (text : A → List ℕ) (place : A → ℕ) (size : ℕ) (ds : List Declaration) (p : Plan A) (made : Made place size ds p) where
  -- its text reads back
  pub plan_reads : ((a : A) → Lacks 44 (text a) × Lacks 10 (text a)) → ReadsBack text place size (length p.rows.now) ds (runs_of p)
  plan_reads plain =
      let long = length-take-le p.count p.rows.now made.fits in
      let some = made.ready in
      let most = made.fits in
      reads_back text place size (length p.rows.now) plain ds (runs_of p)
      (some_place place size (runs_of p) (omega arith) made.line.joined) made.accepted made.line (omega arith)

-- The strips drawn so far, pair after pair.
use Rattle.std.proofs.Common.{◌≡◌, ℕ, ◌*◌, ◌≤◌, false, List, length, ◌∙◌, sym, subst, arith}
use Rattle.rules.specs.declared.pair.Pair.{Pair}
use Rattle.rules.specs.declared.rule.Rule.{Rule}
use Rattle.rules.specs.declared.scope.Scope.{Scope}
use Rattle.rules.specs.Ends.{scope_has}
use Rattle.sheets.specs.declared.sheets.Sheets.{Sheets}
use Rattle.sheets.specs.Strips.{Row, PairSheet, pairs_of, pair_number, strip, Right}
use Rattle.sheets.specs.Scopes.{DrawnElsewhere}
use Rattle.sheets.specs.Tables.{DrawsPair}
use Rattle.sheets.specs.declared.pairs.Pairs.{Pairs}
use Rattle.sheets.specs.Walks.{given}
use Rattle.sheets.proofs.Steps.{Step, Below, below_next, below_all}

-- in the rows the pair's strip holds its sheet
abbrev pub Holds : List Rule → ℕ → ℕ → List Row → ℕ → ℕ → Type 0
Holds rules networks depth rows x y = PairSheet rules x y (strip depth (pair_number networks x y) rows)

-- the strips of the pairs numbered below q hold their sheets, and the others are as they were
pub record SoFar (rules : List Rule) (before later : Sheets) (q : ℕ) : Type 0 where
  pub networks : later.networks ≡ before.networks
  pub depth : later.depth ≡ before.depth
  pub long : length later.rows.now ≡ length before.rows.now
  pub drawn : Below (Holds rules before.networks before.depth later.rows.now) before.networks q
  pub rest : (p : ℕ) → q ≤ p → strip before.depth p later.rows.now ≡ strip before.depth p before.rows.now

module _ (rules : List Rule) (b : Sheets) where
  pub one_drawn : (i j : Pairs) (pair : Pair) → Step b.networks i j pair → (s t : Sheets) → SoFar rules b s (given i) → DrawsPair rules pair s t → SoFar rules b t (given j)
  one_drawn i j pair step s t so drawn =
      let n = so.networks in
      let d = so.depth in
      let number = step.number in
      let more = step.more in
      let sheet : Holds rules b.networks b.depth t.rows.now pair.from pair.to =
      subst (λ (k : ℕ). PairSheet rules pair.from pair.to (strip k (pair_number b.networks pair.from pair.to) t.rows.now)) d
      (subst (λ (k : ℕ). PairSheet rules pair.from pair.to (strip s.depth (pair_number k pair.from pair.to) t.rows.now)) n drawn.sheet) in
      let others : (p : ℕ) → (p ≡ given i → ⊥) → strip b.depth p t.rows.now ≡ strip b.depth p s.rows.now =
      λ p other. subst (λ (k : ℕ). strip k p t.rows.now ≡ strip k p s.rows.now) d
      (drawn.others p (λ same. other (subst (λ (k : ℕ). p ≡ pair_number k pair.from pair.to) n same ∙ sym number))) in
      record {
        networks = drawn.networks ∙ n;
        depth = drawn.depth ∙ d;
        long = drawn.long ∙ so.long;
        drawn = below_next (Holds rules b.networks b.depth t.rows.now) b.networks i j pair step
            (λ x y hx hy less. subst (λ (rows : List Row). PairSheet rules x y rows) (sym (others (pair_number b.networks x y) (λ same. absurd (omega arith)))) (so.drawn x y hx hy less))
            sheet;
        rest = λ p h. others p (λ same. absurd (omega arith)) ∙ so.rest p (omega arith);
      }

  pub one_kept : (scope : Scope) → DrawnElsewhere scope rules b.networks b.depth b.rows.now → (i j : Pairs) (pair : Pair) → Step b.networks i j pair → scope_has scope pair.from pair.to ≡ false
      → (s : Sheets) → SoFar rules b s (given i) → SoFar rules b s (given j)
  one_kept scope elsewhere i j pair step out s so =
      let number = step.number in
      let more = step.more in
      record {
        networks = so.networks;
        depth = so.depth;
        long = so.long;
        drawn = below_next (Holds rules b.networks b.depth s.rows.now) b.networks i j pair step so.drawn
            (subst (λ (rows : List Row). PairSheet rules pair.from pair.to rows) (sym (so.rest (pair_number b.networks pair.from pair.to) (omega arith))) (elsewhere pair.from pair.to step.from step.to out));
        rest = λ p h. so.rest p (omega arith);
      }

  pub all_drawn : (s : Sheets) (q : ℕ) → q ≡ pairs_of b.networks → length b.rows.now ≡ pairs_of b.networks * b.depth → SoFar rules b s q → Right rules s.networks s.depth s.rows.now
  all_drawn s q e long so =
      subst (λ (k : ℕ). Right rules k s.depth s.rows.now) (sym so.networks)
      (subst (λ (k : ℕ). Right rules b.networks k s.rows.now) (sym so.depth)
      (record { long = so.long ∙ long; drawn = below_all (Holds rules b.networks b.depth s.rows.now) b.networks q e so.drawn }))

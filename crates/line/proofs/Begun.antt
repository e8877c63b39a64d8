-- The line of a labelling as it is drawn, row by row.
use Rattle.std.proofs.Common.{◌≡◌, ℕ, ◌+◌, ◌-◌, ◌<◌, List, [], ◌∷◌, ◌++◌, length, take, drop, set, sym, refl, ap, ◌∙◌, arith}
use Rattle.std.proofs.lemmas.List.{take_more_set, drop-set-lt, drop-drop}
use Rattle.line.specs.declared.run.Run.{Run}
use Rattle.line.specs.Line.{Stretch, Joined, Painted, Differ, Line}
use Rattle.line.proofs.Rows.{joined_push, painted_push, differ_push}

-- the rows of the line of f up to the place `at`, where its next run begins
pub record Begun {P L : Type 0} (place : P → ℕ) (f : ℕ → L) (at : ℕ) (rows : List (Run P L)) : Type 0 where
  pub joined : Joined place at 0 rows
  pub painted : Painted place f rows
  pub differ : Differ rows
  pub turns : 0 < at → f (at - 1) ≡ f at → ⊥

module _ {P L : Type 0} (place : P → ℕ) (f : ℕ → L) where
  pub begun_none : (at : ℕ) → at ≡ 0 → Begun place f at []
  begun_none at e = record { joined = sym e; painted = tt; differ = tt; turns = λ h. absurd (omega arith) }

  module _ (size : ℕ) (rows : List (Run P L)) (n : ℕ) (r : Run P L) (lt : n < length rows)
      (begun : Begun place f (place r.low) (take n rows)) (s : Stretch size f r.label (place r.low) (place r.high)) where
    written : take (n + 1) (set rows n r) ≡ take n rows ++ r ∷ []
    written = take_more_set rows n r lt

    pushed_joined : Joined place (place r.high + 1) 0 (take (n + 1) (set rows n r))
    pushed_joined = rw written (joined_push place _ 0 (take n rows) r begun.joined refl s.keeps.ordered)

    pushed_painted : Painted place f (take (n + 1) (set rows n r))
    pushed_painted = rw written (painted_push place f (take n rows) r begun.painted s.keeps)

    pushed_differ : Differ (take (n + 1) (set rows n r))
    pushed_differ =
        let le = s.keeps.ordered in
        let first = s.keeps.labelled (place r.low) (omega arith) (omega arith) in
        rw written (differ_push place _ 0 f (take n rows) r begun.joined begun.painted begun.differ (λ h e. begun.turns h (e ∙ sym first)))

    pub begun_more : (after : ℕ) → after ≡ place r.high + 1 → after < size → Begun place f after (take (n + 1) (set rows n r))
    begun_more after e below =
        let le = s.keeps.ordered in
        let back : after - 1 ≡ place r.high = omega arith in
        let last = s.keeps.labelled (place r.high) (omega arith) (omega arith) in
        record {
          joined = rw e pushed_joined;
          painted = pushed_painted;
          differ = pushed_differ;
          turns = λ h same. s.ends (omega arith) (ap f (sym e) ∙ sym same ∙ ap f back ∙ last);
        }

    pub begun_all : place r.high + 1 ≡ size → Line place size f (take (n + 1) (set rows n r))
    begun_all e = record { joined = rw (← e) pushed_joined; painted = pushed_painted; differ = pushed_differ }

-- a row that is written leaves the rows after it
pub rest_more : {X : Type 0} (rows before : List X) (n : ℕ) (x : X) → drop n rows ≡ drop n before → drop (n + 1) (set rows n x) ≡ drop (n + 1) before
rest_more rows before n x e =
    drop-set-lt (n + 1) rows n x (omega arith) ∙ sym (drop-drop 1 n rows) ∙ ap (drop 1) e ∙ drop-drop 1 n before

-- Going through the pairs: one step, the end, and what holds of the pairs that have come.
use Rattle.std.proofs.Common.{◌≡◌, ℕ, ◌+◌, ◌<◌, ◌≤◌, Some, None, ap, ◌∙◌, subst, ⊎_elim, arith}
use Rattle.std.proofs.lemmas.Bool.{cases_lt}
use Rattle.rules.specs.declared.pair.Pair.{Pair}
use Rattle.sheets.specs.declared.pairs.Pairs.{Pairs}
use Rattle.sheets.specs.Strips.{pairs_of, pair_number}
use Rattle.sheets.specs.Walks.{given, GivesPair}
use Rattle.sheets.proofs.Numbered.{pair_below, same_pair}

-- among so many networks, the pair came between s and t
pub record Step (networks : ℕ) (s t : Pairs) (pair : Pair) : Type 0 where
  pub same : t.networks ≡ networks
  pub from : pair.from ≤ networks
  pub to : pair.to ≤ networks
  pub number : given s ≡ pair_number networks pair.from pair.to
  pub more : given t ≡ given s + 1

pub step : (networks : ℕ) (s t : Pairs) (pair : Pair) → s.networks ≡ networks → GivesPair s (Some pair) t → Step networks s t pair
step networks s t pair e g =
    let a = g.1.0 in
    let b = g.1.1 in
    record {
      same = g.0 ∙ e;
      from = omega arith;
      to = omega arith;
      number = subst (λ (k : ℕ). given s ≡ pair_number k pair.from pair.to) e g.1.2;
      more = g.1.3;
    }

pub end : (networks : ℕ) (s t : Pairs) → s.networks ≡ networks → GivesPair s None t → given s ≡ pairs_of networks
end networks s t e g = g.1 ∙ ap pairs_of e

-- P holds of the pairs that have come
abbrev pub Below : (ℕ → ℕ → Type 0) → ℕ → ℕ → Type 0
Below P networks q = (x y : ℕ) → x ≤ networks → y ≤ networks → pair_number networks x y < q → P x y

module _ (P : ℕ → ℕ → Type 0) (networks : ℕ) where
  pub below_next : (s t : Pairs) (pair : Pair) → Step networks s t pair → Below P networks (given s) → P pair.from pair.to → Below P networks (given t)
  below_next s t pair step before here x y hx hy lt =
      let number = step.number in
      let more = step.more in
      ⊎_elim
      (λ (less : pair_number networks x y < given s). before x y hx hy less)
      (λ (ge : given s ≤ pair_number networks x y).
      let same = same_pair networks pair.from pair.to x y step.to hy (omega arith) in
      subst (λ (k : ℕ). P k y) same.0 (subst (λ (k : ℕ). P pair.from k) same.1 here))
      (cases_lt (pair_number networks x y) (given s))

  pub below_all : (q : ℕ) → q ≡ pairs_of networks → Below P networks q → (from to : ℕ) → from ≤ networks → to ≤ networks → P from to
  below_all q e all from to f t = all from to f t (let b = pair_below networks from to f t in omega arith)

-- The number of a name.
use Rattle.std.proofs.Common.{◌≡◌, ℕ, zero, suc, ◌+◌, ◌≤◌, Bool, true, false, not, cond, codes, List, [], ◌∷◌, map, length, get_or, refl, ap, arith}
use Rattle.std.specs.Option.{option_map, unwrap_or}
use Rattle.std.specs.List.{position, position_or_len}
use Rattle.std.proofs.lemmas.Bool.Decides.{nat_tests}
use Rattle.std.specs.Str.{bytes_eq}
use Rattle.std.proofs.lemmas.Bool.{le-leb}
use Rattle.std.proofs.lemmas.List.{length-map, length-take}
use Rattle.few.specs.Listed.{listed}
use Rattle.names.specs.declared.name.Name.{Name}
use Rattle.names.specs.declared.name.Names.{Names}
use Rattle.names.specs.Texts.{text_of, texts}
use Rattle.names.specs.Names.{number_in, declared, letters, well_formed}

-- a number is at most the next one
pub number_most : (ns : List (List ℕ)) (m : List ℕ) → number_in ns m ≤ length ns + 1
number_most [] m = omega arith
number_most (n ∷ ns) m = by (bytes_eq n m) (number_most ns m)
  where
    by : (b : Bool) → number_in ns m ≤ length ns + 1 → cond b 1 (number_in ns m + 1) ≤ length (n ∷ ns) + 1
    by true ih = omega arith
    by false ih = omega arith

-- a name that is not there would come next
pub number_declared : (ns : List (List ℕ)) (m : List ℕ) → number_in ns m ≡ unwrap_or (declared ns m) (length ns + 1)
number_declared ns m = let h = number_most ns m in grind (arith, nat_tests)

module _ (text : List ℕ) where
  -- whether this is the name
  abbrev pub same : Name → Bool
  same n = bytes_eq (text_of n) text

  number_place : (ns : List Name) → number_in (map text_of ns) text ≡ position_or_len same ns + 1
  number_place [] = refl
  number_place (n ∷ ns) = by (same n) (number_place ns)
    where
      by : (b : Bool) → number_in (map text_of ns) text ≡ position_or_len same ns + 1
          → cond b 1 (number_in (map text_of ns) text + 1) ≡ cond (not b) (1 + position_or_len same ns) 0 + 1
      by true e = refl
      by false e = omega arith

  -- the number goes by the place
  pub declared_place : (ns : List Name) → declared (map text_of ns) text ≡ option_map (λ i. i + 1) (position same ns)
  declared_place ns =
      let e = number_place ns in
      let l = length-map ns text_of in
      grind (arith, nat_tests)

pub well_any : (text : List ℕ) → text ≡ codes "any" → well_formed text ≡ false
well_any text e = ap well_formed e

pub well_rest : (text : List ℕ) → 1 ≤ length text → length text ≤ 12 → letters text ≡ true → bytes_eq text (codes "any") ≡ false
    → well_formed text ≡ not (bytes_eq text (codes "elsewhere"))
well_rest text a b c d =
    let p = le-leb 1 (length text) a in
    let q = le-leb (length text) 12 b in
    simp (p, q, c, d)

short_in : (xs : List Name) (i : ℕ) → length (get_or (map text_of xs) i []) ≤ 12
short_in [] i = omega arith
short_in (x ∷ xs) zero = let a = x.bytes.fits in let b = length-take x.bytes.count x.bytes.rows in omega arith
short_in (x ∷ xs) (suc i) = short_in xs i

-- a name has at most 12 bytes
pub short : (ns : Names) (i : ℕ) → length (get_or (texts ns) i []) ≤ 12
short ns i = short_in (listed ns.list) i

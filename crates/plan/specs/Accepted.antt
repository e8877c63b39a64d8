-- When a declaration is accepted, and else which cause refuses it. `size` is the number of addresses, `rows` that of the plan's rows.
use Rattle.std.specs.Prelude.{◌≡◌, ℕ, ◌<◌, ◌≤◌, true, false, ◌⊎◌, List, [], ◌∷◌, ◌++◌, ◌≢◌, nat_eq}
use Rattle.line.specs.Line.{runs_needed}
use Rattle.refusal.specs.declared.refusal.Refusal.{Refusal}
use Rattle.refusal.specs.declared.refusal.Refusal.TheVariants.{RangeReversed, RangeTaken, PlanFull, NothingElsewhere, FieldMalformed, TooManyNames}
use Rattle.names.specs.Names.{number_in, well_formed}
use Rattle.plan.specs.Declarations.{Declaration, names_of, network_of}

-- no place from low to high has a network
abbrev pub Free : (ℕ → ℕ) → ℕ → ℕ → Type 0
Free f low high = (x : ℕ) → low ≤ x → x ≤ high → f x ≡ 0

-- one of them has
abbrev pub Meets : (ℕ → ℕ) → ℕ → ℕ → Type 0
Meets f low high = (x : ℕ) × (low ≤ x) × (x ≤ high) × (f x ≢ 0)

-- every place elsewhere lies from low to high
abbrev pub Fills : ℕ → (ℕ → ℕ) → ℕ → ℕ → Type 0
Fills size f low high = (x : ℕ) → x < size → f x ≡ 0 → (low ≤ x) × (x ≤ high)

-- one lies outside
abbrev pub Remains : ℕ → (ℕ → ℕ) → ℕ → ℕ → Type 0
Remains size f low high = (x : ℕ) × (x < size) × (f x ≡ 0) × ((x < low) ⊎ (high < x))

-- nothing stands against d after ds but its addresses: its name is well formed, its range goes up, and its name is one of the first 24
pub record Sane (ds : List Declaration) (d : Declaration) : Type 0 where
  pub formed : well_formed d.name ≡ true
  pub ordered : d.low ≤ d.high
  pub few : number_in (names_of ds) d.name ≤ 24

-- d is accepted after ds
pub record Accepted (size rows : ℕ) (ds : List Declaration) (d : Declaration) : Type 0 where
  pub sane : Sane ds d
  pub inside : d.high < size
  pub free : Free (network_of ds) d.low d.high
  pub remains : Remains size (network_of ds) d.low d.high
  pub room : runs_needed nat_eq size (network_of (ds ++ d ∷ [])) ≤ rows

-- d is refused after ds, by the first of these causes that stands against it
pub data Refused (size rows : ℕ) (ds : List Declaration) (d : Declaration) : Refusal → Type 0 where
  malformed : well_formed d.name ≡ false → Refused size rows ds d FieldMalformed
  reversed : well_formed d.name ≡ true → d.high < d.low → Refused size rows ds d RangeReversed
  crowded : well_formed d.name ≡ true → d.low ≤ d.high → 24 < number_in (names_of ds) d.name → Refused size rows ds d TooManyNames
  meets : Sane ds d → Meets (network_of ds) d.low d.high → Refused size rows ds d RangeTaken
  fills : Sane ds d → Free (network_of ds) d.low d.high → Fills size (network_of ds) d.low d.high → Refused size rows ds d NothingElsewhere
  full : Sane ds d → Free (network_of ds) d.low d.high → Remains size (network_of ds) d.low d.high
      → rows < runs_needed nat_eq size (network_of (ds ++ d ∷ [])) → Refused size rows ds d PlanFull

-- after ds each of `more` is accepted in its turn
abbrev pub Accepts : ℕ → ℕ → List Declaration → List Declaration → Type 0
Accepts size rows ds [] = Unit {0}
Accepts size rows ds (d ∷ more) = Accepted size rows ds d × Accepts size rows (ds ++ d ∷ []) more

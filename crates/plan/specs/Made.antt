-- What a plan holds. `place` says where an address stands among `size`.
use Rattle.std.specs.Prelude.{◌≡◌, ℕ, ◌<◌, ◌≤◌, Bool, ◌&&◌, List, [], ◌∷◌, ◌++◌, length, take, drop, Result, MatchResult, nat_le}
use Rattle.std.specs.List.{AllByRecursion}
use Rattle.refusal.specs.declared.refusal.Refusal.{Refusal}
use Rattle.line.specs.declared.run.Run.{Run}
use Rattle.line.specs.Line.{Line}
use Rattle.names.specs.Names.{number_in}
use Rattle.names.specs.Texts.{texts}
use Rattle.plan.specs.declared.plan.Plan.{Plan}
use Rattle.plan.specs.Declarations.{Declaration, names_of, network_of}
use Rattle.plan.specs.Accepted.{Accepted, Refused, Accepts}

-- a plan has 1 to 4,096 rows
abbrev pub size_fits : ℕ → Bool
size_fits rows = nat_le 1 rows && nat_le rows 4096

-- the plan is shut: it has no runs
abbrev pub Shut : {A : Type 0} → Plan A → Type 0
Shut p = p.count ≡ 0

-- a row that is not in use: the first address twice, and label 0
pub record Blank {A : Type 0} (place : A → ℕ) (r : Run A ℕ) : Type 0 where
  pub low : place r.low ≡ 0
  pub high : place r.high ≡ 0
  pub label : r.label ≡ 0

-- the plan is open and was made by the declarations ds, each accepted in its turn: its line gives every address its network, the other rows are blank, and it has the names of ds
pub record Made {A : Type 0} (place : A → ℕ) (size : ℕ) (ds : List Declaration) (p : Plan A) : Type 0 where
  pub ready : 0 < p.count
  pub fits : p.count ≤ length p.rows.now
  pub most : length p.rows.now ≤ 4096
  pub accepted : Accepts size (length p.rows.now) [] ds
  pub line : Line place size (network_of ds) (take p.count p.rows.now)
  pub blank : AllByRecursion (Blank place) (drop p.count p.rows.now)
  pub names : texts p.names ≡ names_of ds

-- the declaration of a name for the addresses from low to high
abbrev pub declaration : {A : Type 0} → (A → ℕ) → List ℕ → A → A → Declaration
declaration place name low high = record { name = name; low = place low; high = place high }

-- d is accepted after ds, its name has the number n, and the plan q is made by ds and d
pub record Declared {A : Type 0} (place : A → ℕ) (size : ℕ) (ds : List Declaration) (d : Declaration) (q : Plan A) (n : ℕ) : Type 0 where
  pub number : n ≡ number_in (names_of ds) d.name
  pub accepted : Accepted size (length q.rows.now) ds d
  pub made : Made place size (ds ++ d ∷ []) q

-- what declaring d in the plan p answers, and the plan q after it, whatever declarations made p: d is entered, or refused by its first cause
abbrev pub Declares : {A : Type 0} → (A → ℕ) → ℕ → Plan A → Declaration → Plan A → Result ℕ Refusal → Type 0
Declares place size p d q r = (ds : List Declaration) → Made place size ds p → MatchResult r (Declared place size ds d q) (Refused size (length p.rows.now) ds d)

-- What a list of declarations says: which name has which number, and which network an address belongs to.
use Rattle.std.specs.Prelude.{ℕ, cond, ◌&&◌, List, [], ◌∷◌, nat_le}
use Rattle.names.specs.Names.{number_in, with_name}

-- a declaration: a name for the addresses from the place `low` to the place `high`
pub record Declaration : Type 0 where
  pub name : List ℕ
  pub low : ℕ
  pub high : ℕ

-- the names, and then those that the declarations bring
abbrev pub names_after : List (List ℕ) → List Declaration → List (List ℕ)
names_after names [] = names
names_after names (d ∷ ds) = names_after (with_name names d.name) ds

-- the names of the declarations, in the order of their first declaration
abbrev pub names_of : List Declaration → List (List ℕ)
names_of ds = names_after [] ds

-- the number, among the names, of the declaration that holds the place x; 0 where none does
abbrev pub network_in : List (List ℕ) → List Declaration → ℕ → ℕ
network_in names [] x = 0
network_in names (d ∷ ds) x = cond (nat_le d.low x && nat_le x d.high) (number_in names d.name) (network_in names ds x)

-- the network of the place x: the number of the name whose declaration holds it, else 0, which is called elsewhere
abbrev pub network_of : List Declaration → ℕ → ℕ
network_of ds x = network_in (names_of ds) ds x

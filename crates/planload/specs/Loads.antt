-- What a plan text says. `text` gives the text of an address, `place` its place among `size`; the plan has so many rows.
use Rattle.std.specs.Prelude.{◌≡◌, ℕ, ◌+◌, true, false, List, [], ◌∷◌, ◌++◌, Some, None, Ok, Err, codes, Option, Result, ◌≢◌}
use Rattle.refusal.specs.declared.refusal.Refusal.{Refusal}
use Rattle.refusal.specs.declared.refusal.Refusal.TheVariants.{WrongRow, FieldMalformed}
use Rattle.refusal.specs.declared.fault.Fault.{Fault}
use Rattle.refusal.specs.Faults.{fault}
use Rattle.text.specs.Parts.{rows, fields, passed_over}
use Rattle.names.specs.Names.{well_formed}
use Rattle.plan.specs.Declarations.{Declaration}
use Rattle.plan.specs.Accepted.{Accepted, Refused}

-- the row is `net,NAME,LOW,HIGH`
abbrev pub Net : List ℕ → List ℕ → List ℕ → List ℕ → Type 0
Net row name low high = fields row ≡ codes "net" ∷ (name ∷ (low ∷ (high ∷ [])))

-- the row says the declaration d: its name is well formed, and its last fields are the texts of two addresses
pub record Says {A : Type 0} (text : A → List ℕ) (place : A → ℕ) (row : List ℕ) (d : Declaration) : Type 0 where
  pub first : A
  pub last : A
  pub shape : Net row d.name (text first) (text last)
  pub formed : well_formed d.name ≡ true
  pub low : d.low ≡ place first
  pub high : d.high ≡ place last

-- the row in this line says no declaration, and f is its fault: another shape, or the first field from the left that is malformed
pub data Unread {A : Type 0} (text : A → List ℕ) (line : ℕ) (row : List ℕ) (f : Fault) : Type 0 where
  shape : ((name low high : List ℕ) → Net row name low high → ⊥) → f ≡ fault WrongRow line 0 → Unread text line row f
  name : (name low high : List ℕ) → Net row name low high → well_formed name ≡ false → f ≡ fault FieldMalformed line 2 → Unread text line row f
  low : (name low high : List ℕ) → Net row name low high → well_formed name ≡ true → ((a : A) → text a ≢ low) → f ≡ fault FieldMalformed line 3 → Unread text line row f
  high : (name high : List ℕ) (a : A) → Net row name (text a) high → well_formed name ≡ true → ((b : A) → text b ≢ high) → f ≡ fault FieldMalformed line 4 → Unread text line row f

-- the row in this line adds no declaration to ds, and f is its fault: it says none, or the one it says is refused
pub data Fails {A : Type 0} (text : A → List ℕ) (place : A → ℕ) (size most : ℕ) (ds : List Declaration) (line : ℕ) (row : List ℕ) (f : Fault) : Type 0 where
  unread : Unread text line row f → Fails text place size most ds line row f
  refused : (d : Declaration) (why : Refusal) → Says text place row d → Refused size most ds d why → f ≡ fault why line 0 → Fails text place size most ds line row f

-- the rows from this line on add the declarations `made` to ds, one after the other, and then end, or stop at the fault that `end` holds
pub data Loads {A : Type 0} (text : A → List ℕ) (place : A → ℕ) (size most : ℕ) : List Declaration → ℕ → List (List ℕ) → List Declaration → Option Fault → Type 0 where
  ends : (ds : List Declaration) (line : ℕ) → Loads text place size most ds line [] [] None
  passes : (ds : List Declaration) (line : ℕ) (row : List ℕ) (rest : List (List ℕ)) (made : List Declaration) (end : Option Fault)
      → passed_over row ≡ true → Loads text place size most ds (line + 1) rest made end → Loads text place size most ds line (row ∷ rest) made end
  makes : (ds : List Declaration) (line : ℕ) (row : List ℕ) (rest : List (List ℕ)) (d : Declaration) (made : List Declaration) (end : Option Fault)
      → passed_over row ≡ false → Says text place row d → Accepted size most ds d
      → Loads text place size most (ds ++ d ∷ []) (line + 1) rest made end → Loads text place size most ds line (row ∷ rest) (d ∷ made) end
  fails : (ds : List Declaration) (line : ℕ) (row : List ℕ) (rest : List (List ℕ)) (f : Fault)
      → passed_over row ≡ false → Fails text place size most ds line row f → Loads text place size most ds line (row ∷ rest) [] (Some f)

-- a text adds `made` to ds and ends so; its first row is line 1
abbrev pub Loaded : {A : Type 0} → (A → List ℕ) → (A → ℕ) → ℕ → ℕ → List Declaration → List ℕ → List Declaration → Option Fault → Type 0
Loaded text place size most ds bytes made end = Loads text place size most ds 1 (rows bytes) made end

-- the fault that a load ended with, if any
abbrev pub fault_in : {T : Type 0} → Result T Fault → Option Fault
fault_in (Ok x) = None
fault_in (Err f) = Some f

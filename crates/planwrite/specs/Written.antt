-- The text of a plan: its networks by number, the runs of each by address.
use Rattle.std.specs.Prelude.{ℕ, ◌+◌, cond, List, [], ◌∷◌, ◌++◌, codes, ◌==◌}
use Rattle.line.specs.declared.run.Run.{Run}
use Rattle.plan.specs.Declarations.{Declaration}

-- the row of a run: `net,NAME,LOW,HIGH` and byte 10
abbrev pub row_of : {A : Type 0} → (A → List ℕ) → List ℕ → Run A ℕ → List ℕ
row_of text name r = codes "net," ++ (name ++ (44 ∷ (text r.low ++ (44 ∷ (text r.high ++ (10 ∷ []))))))

-- the rows of the runs with the label n, in their order
abbrev pub net_text : {A : Type 0} → (A → List ℕ) → ℕ → List ℕ → List (Run A ℕ) → List ℕ
net_text text n name [] = []
net_text text n name (r ∷ runs) = cond (r.label == n) (row_of text name r ++ net_text text n name runs) (net_text text n name runs)

-- those of the networks with these names, whose numbers go up from n
abbrev pub nets_text : {A : Type 0} → (A → List ℕ) → ℕ → List (List ℕ) → List (Run A ℕ) → List ℕ
nets_text text n [] runs = []
nets_text text n (name ∷ names) runs = net_text text n name runs ++ nets_text text (n + 1) names runs

-- the text of a plan with these names and runs
abbrev pub plan_text : {A : Type 0} → (A → List ℕ) → List (List ℕ) → List (Run A ℕ) → List ℕ
plan_text text names runs = nets_text text 1 names runs

-- the declaration that the row of a run says
abbrev pub said_of : {A : Type 0} → (A → ℕ) → List ℕ → Run A ℕ → Declaration
said_of place name r = record { name = name; low = place r.low; high = place r.high }

-- those of the runs with the label n
abbrev pub net_said : {A : Type 0} → (A → ℕ) → ℕ → List ℕ → List (Run A ℕ) → List Declaration
net_said place n name [] = []
net_said place n name (r ∷ runs) = cond (r.label == n) (said_of place name r ∷ net_said place n name runs) (net_said place n name runs)

-- those of the networks with these names, whose numbers go up from n
abbrev pub nets_said : {A : Type 0} → (A → ℕ) → ℕ → List (List ℕ) → List (Run A ℕ) → List Declaration
nets_said place n [] runs = []
nets_said place n (name ∷ names) runs = net_said place n name runs ++ nets_said place (n + 1) names runs

-- the declarations that the text of a plan says
abbrev pub plan_said : {A : Type 0} → (A → ℕ) → List (List ℕ) → List (Run A ℕ) → List Declaration
plan_said place names runs = nets_said place 1 names runs

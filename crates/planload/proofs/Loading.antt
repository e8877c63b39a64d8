-- One row more of a text that is loaded.
use Rattle.std.proofs.Common.{◌≡◌, ℕ, ◌+◌, true, false, List, [], ◌∷◌, ◌++◌, Some, None, Option, sym, refl, ap, subst, append_assoc}
use Rattle.plan.specs.Declarations.{Declaration}
use Rattle.plan.specs.Accepted.{Accepted}
use Rattle.plan.specs.Made.{Made}
use Rattle.plan.specs.declared.plan.Plan.{Plan}
use Rattle.text.specs.Parts.{passed_over}
use Rattle.refusal.specs.declared.fault.Fault.{Fault}
use Rattle.planload.specs.Loads.{Says, Fails, Loads}

-- the rows up to here are loaded: they made m of what ds had, and all goes on from there
pub record Goes {A : Type 0} (text : A → List ℕ) (place : A → ℕ) (size most : ℕ) (ds : List Declaration) (all : List (List ℕ)) (p : Plan A) (line : ℕ) (left : List (List ℕ)) : Type 0 where
  pub m : List Declaration
  pub made : Made place size (ds ++ m) p
  pub goes : (more : List Declaration) (end : Option Fault) → Loads text place size most (ds ++ m) line left more end → Loads text place size most ds 1 all (m ++ more) end

nil : (xs : List Declaration) → xs ++ [] ≡ xs
nil [] = refl
nil (x ∷ xs) = ap (λ (q : List Declaration). x ∷ q) (nil xs)

pub go_first : {A : Type 0} (text : A → List ℕ) (place : A → ℕ) (size most : ℕ) (ds : List Declaration) (all : List (List ℕ)) (p : Plan A) → Made place size ds p → Goes text place size most ds all p 1 all
go_first text place size most ds all p h = record {
  m = [];
  made = subst (λ (q : List Declaration). Made place size q p) (sym (nil ds)) h;
  goes = λ more end l. subst (λ (q : List Declaration). Loads text place size most q 1 all more end) (nil ds) l;
}

pub go_past : {A : Type 0} (text : A → List ℕ) (place : A → ℕ) (size most : ℕ) (ds : List Declaration) (all : List (List ℕ)) (p : Plan A) (line : ℕ) (left : List (List ℕ)) (row : List ℕ) (rest : List (List ℕ))
    → left ≡ row ∷ rest → passed_over row ≡ true → Goes text place size most ds all p line left → Goes text place size most ds all p (line + 1) rest
go_past text place size most ds all p line left row rest e t g = record {
  m = g.m;
  made = g.made;
  goes = λ more end l. g.goes more end (subst (λ (q : List (List ℕ)). Loads text place size most (ds ++ g.m) line q more end) (sym e) (Loads.passes (ds ++ g.m) line row rest more end t l));
}

pub go_on : {A : Type 0} (text : A → List ℕ) (place : A → ℕ) (size most : ℕ) (ds : List Declaration) (all : List (List ℕ)) (p q : Plan A) (line : ℕ) (left : List (List ℕ)) (row : List ℕ) (rest : List (List ℕ))
    → left ≡ row ∷ rest → passed_over row ≡ false → (g : Goes text place size most ds all p line left)
    → (d : Declaration) → Says text place row d → Accepted size most (ds ++ g.m) d → Made place size ((ds ++ g.m) ++ (d ∷ [])) q → Goes text place size most ds all q (line + 1) rest
go_on text place size most ds all p q line left row rest e t g d says ok made = record {
  m = g.m ++ (d ∷ []);
  made = subst (λ (x : List Declaration). Made place size x q) (append_assoc ds g.m (d ∷ [])) made;
  goes = λ more end l.
      let l' = subst (λ (x : List Declaration). Loads text place size most x (line + 1) rest more end) (sym (append_assoc ds g.m (d ∷ []))) l in
      let here = subst (λ (x : List (List ℕ)). Loads text place size most (ds ++ g.m) line x (d ∷ more) end) (sym e) (Loads.makes (ds ++ g.m) line row rest d more end t says ok l') in
      subst (λ (x : List Declaration). Loads text place size most ds 1 all x end) (sym (append_assoc g.m (d ∷ []) more)) (g.goes (d ∷ more) end here);
}

pub go_fault : {A : Type 0} (text : A → List ℕ) (place : A → ℕ) (size most : ℕ) (ds : List Declaration) (all : List (List ℕ)) (p : Plan A) (line : ℕ) (left : List (List ℕ)) (row : List ℕ) (rest : List (List ℕ)) (f : Fault)
    → left ≡ row ∷ rest → passed_over row ≡ false → (g : Goes text place size most ds all p line left) → Fails text place size most (ds ++ g.m) line row f → Loads text place size most ds 1 all g.m (Some f)
go_fault text place size most ds all p line left row rest f e t g why =
    subst (λ (x : List Declaration). Loads text place size most ds 1 all x (Some f)) (nil g.m)
    (g.goes [] (Some f) (subst (λ (x : List (List ℕ)). Loads text place size most (ds ++ g.m) line x [] (Some f)) (sym e) (Loads.fails (ds ++ g.m) line row rest f t why)))

pub go_end : {A : Type 0} (text : A → List ℕ) (place : A → ℕ) (size most : ℕ) (ds : List Declaration) (all : List (List ℕ)) (p : Plan A) (line : ℕ) (left : List (List ℕ))
    → left ≡ [] → (g : Goes text place size most ds all p line left) → Loads text place size most ds 1 all g.m None
go_end text place size most ds all p line left e g =
    subst (λ (x : List Declaration). Loads text place size most ds 1 all x None) (nil g.m)
    (g.goes [] None (subst (λ (x : List (List ℕ)). Loads text place size most (ds ++ g.m) line x [] None) (sym e) (Loads.ends (ds ++ g.m) line)))

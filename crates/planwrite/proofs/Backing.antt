-- A written text reads back: its rows, cut at their ends, say the declarations one after another.
use Rattle.std.proofs.Common.{◌≡◌, ℕ, ◌+◌, ◌<◌, ◌≤◌, Bool, true, false, cond, not, ◌&&◌, eqb, leb, List, [], ◌∷◌, ◌++◌, length, None, codes, sym, refl, ap, ◌∙◌, subst, arith}
use Rattle.std.specs.List.{AllByRecursion}
use Rattle.std.specs.Str.{bytes_eq}
use Rattle.std.proofs.lemmas.List.{append_assoc}
use Rattle.std.proofs.ByRecursion.{All-append}
use Rattle.std.proofs.lemmas.Bool.{and_parts}
use Rattle.line.specs.declared.run.Run.{Run}
use Rattle.line.specs.Line.{Line}
use Rattle.line.proofs.Lines.{line_unique}
use Rattle.text.specs.Parts.{Lacks, fields, rows}
use Rattle.text.proofs.Cutting.{parts_cut, parts_one}
use Rattle.names.specs.Names.{letter, letters, well_formed}
use Rattle.plan.specs.Declarations.{Declaration, names_of, network_of}
use Rattle.plan.specs.Accepted.{Accepts}
use Rattle.plan.proofs.Taken.{taken}
use Rattle.planload.specs.Loads.{Net, Says, Loads, ends, makes}
use Rattle.planwrite.specs.Written.{row_of, net_text, nets_text, said_of, net_said, nets_said, plan_said}
use Rattle.planwrite.specs.Back.{ReadsBack}
use Rattle.planwrite.proofs.Told.{told_again}

-- the row without its end
abbrev bare : List ℕ → List ℕ → List ℕ → List ℕ
bare name low high = codes "net" ++ (44 ∷ (name ++ (44 ∷ (low ++ (44 ∷ high)))))

-- the fields of a row
row_shape : (name low high : List ℕ) → Lacks 44 name → Lacks 44 low → Lacks 44 high → Net (bare name low high) name low high
row_shape name low high ln ll lh =
    let end : List (List ℕ) = [] ∷ [] in
    let word : Lacks 44 (codes "net") = (λ e. omega arith, (λ e. omega arith, (λ e. omega arith, tt))) in
    let last : fields (low ++ (44 ∷ high)) ≡ low ∷ (high ∷ []) = parts_cut 44 end low high ll ∙ ap (λ (q : List (List ℕ)). low ∷ q) (parts_one 44 high lh) in
    let more : fields (name ++ (44 ∷ (low ++ (44 ∷ high)))) ≡ name ∷ (low ∷ (high ∷ []))
    = parts_cut 44 end name (low ++ (44 ∷ high)) ln ∙ ap (λ (q : List (List ℕ)). name ∷ q) last in
    parts_cut 44 end (codes "net") (name ++ (44 ∷ (low ++ (44 ∷ high)))) word ∙ ap (λ (q : List (List ℕ)). codes "net" ∷ q) more

-- a letter is neither a comma nor the end of a row
letter_comma : (b : ℕ) → letter b ≡ true → b ≡ 44 → ⊥
letter_comma b h e = let f : letter 44 ≡ true = ap letter (sym e) ∙ h in let z : ◌≡◌ {A = ℕ} 0 1 = cc in omega arith

letter_end : (b : ℕ) → letter b ≡ true → b ≡ 10 → ⊥
letter_end b h e = let f : letter 10 ≡ true = ap letter (sym e) ∙ h in let z : ◌≡◌ {A = ℕ} 0 1 = cc in omega arith

letters_lack : (stop : ℕ) → ((b : ℕ) → letter b ≡ true → b ≡ stop → ⊥) → (text : List ℕ) → letters text ≡ true → Lacks stop text
letters_lack stop other [] h = tt
letters_lack stop other (b ∷ text) h = let p = and_parts (letter b) (letters text) h in (other b p.0, letters_lack stop other text p.1)

name_letters : (name : List ℕ) → well_formed name ≡ true → letters name ≡ true
name_letters name h =
    let some : Bool = leb 1 (length name) && leb (length name) 12 in
    let any : Bool = not (bytes_eq name (codes "any")) in
    let p = and_parts (some && letters name && any) (not (bytes_eq name (codes "elsewhere"))) h in
    let q = and_parts (some && letters name) any p.0 in
    (and_parts some (letters name) q.0).1

-- a row has no end within
row_lacks : (name low high : List ℕ) → Lacks 10 name → Lacks 10 low → Lacks 10 high → Lacks 10 (bare name low high)
row_lacks name low high ln ll lh =
    let free : ℕ → Type 0 = λ b. b ≡ 10 → ⊥ in
    let tail : Lacks 10 (44 ∷ (low ++ (44 ∷ high))) = (λ e. omega arith, All-append free low (44 ∷ high) ll (λ e. omega arith, lh)) in
    (λ e. omega arith, (λ e. omega arith, (λ e. omega arith, (λ e. omega arith, All-append free name (44 ∷ (low ++ (44 ∷ high))) ln tail))))

module _ {A : Type 0} (text : A → List ℕ) (place : A → ℕ) (size most : ℕ) (plain : (a : A) → Lacks 44 (text a) × Lacks 10 (text a)) where
  -- the first row of a text that begins with the row of a run
  row_first : (name : List ℕ) (r : Run A ℕ) (more rest : List ℕ) → Lacks 10 name
      → rows ((row_of text name r ++ more) ++ rest) ≡ bare name (text r.low) (text r.high) ∷ rows (more ++ rest)
  row_first name r more rest lacks =
      let row : List ℕ = bare name (text r.low) (text r.high) in
      let flat : (row_of text name r ++ more) ++ rest ≡ row ++ (10 ∷ (more ++ rest)) = simp append_assoc in
      ap rows flat ∙ parts_cut 10 [] row (more ++ rest) (row_lacks name (text r.low) (text r.high) lacks (plain r.low).1 (plain r.high).1)

  -- what that row says
  row_says : (name : List ℕ) (r : Run A ℕ) → well_formed name ≡ true → Says text place (bare name (text r.low) (text r.high)) (said_of place name r)
  row_says name r formed = record {
    first = r.low;
    last = r.high;
    shape = row_shape name (text r.low) (text r.high) (letters_lack 44 letter_comma name (name_letters name formed)) (plain r.low).0 (plain r.high).0;
    formed = formed;
    low = refl;
    high = refl;
  }

  -- the rows of one network, before a text that loads
  module _ (n : ℕ) (name : List ℕ) (formed : well_formed name ≡ true) (rest : List ℕ) (said : List Declaration)
      (then : (front : List Declaration) (line : ℕ) → Accepts size most front said → Loads text place size most front line (rows rest) said None) where
    net_loads : (runs : List (Run A ℕ)) (front : List Declaration) (line : ℕ) → Accepts size most front (net_said place n name runs ++ said)
        → Loads text place size most front line (rows (net_text text n name runs ++ rest)) (net_said place n name runs ++ said) None
    net_loads [] front line accepts = then front line accepts
    net_loads (r ∷ runs) front line accepts = by (eqb r.label n) (net_loads runs) accepts
      where
        by : (b : Bool)
            → ((front : List Declaration) (line : ℕ) → Accepts size most front (net_said place n name runs ++ said)
            → Loads text place size most front line (rows (net_text text n name runs ++ rest)) (net_said place n name runs ++ said) None)
            → Accepts size most front (cond b (said_of place name r ∷ net_said place n name runs) (net_said place n name runs) ++ said)
            → Loads text place size most front line (rows (cond b (row_of text name r ++ net_text text n name runs) (net_text text n name runs) ++ rest))
            (cond b (said_of place name r ∷ net_said place n name runs) (net_said place n name runs) ++ said) None
        by true later a =
            subst (λ (q : List (List ℕ)). Loads text place size most front line q (said_of place name r ∷ (net_said place n name runs ++ said)) None)
            (sym (row_first name r (net_text text n name runs) rest (letters_lack 10 letter_end name (name_letters name formed))))
            (makes front line (bare name (text r.low) (text r.high)) (rows (net_text text n name runs ++ rest)) (said_of place name r) (net_said place n name runs ++ said) None
            refl (row_says name r formed) a.0 (later (front ++ said_of place name r ∷ []) (line + 1) a.1))
        by false later a = later front line a

  -- the rows of the networks from the number n on
  nets_load : (runs : List (Run A ℕ)) (n : ℕ) (names : List (List ℕ)) → AllByRecursion (λ (m : List ℕ). well_formed m ≡ true) names
      → (front : List Declaration) (line : ℕ) → Accepts size most front (nets_said place n names runs)
      → Loads text place size most front line (rows (nets_text text n names runs)) (nets_said place n names runs) None
  nets_load runs n [] formed front line accepts = ends front line
  nets_load runs n (name ∷ names) formed front line accepts =
      net_loads n name formed.0 (nets_text text (n + 1) names runs) (nets_said place (n + 1) names runs)
      (nets_load runs (n + 1) names formed.1) runs front line accepts

  -- the text of the plan that ds made
  pub reads_back : (ds : List Declaration) (runs : List (Run A ℕ)) → 0 < size → Accepts size most [] ds → Line place size (network_of ds) runs → length runs ≤ most
      → ReadsBack text place size most ds runs
  reads_back ds runs pos accepts line few =
      let told = told_again place size most ds runs pos accepts line few in
      record {
        loaded = nets_load runs 1 (names_of ds) (taken size most ds pos accepts).formed [] 1 told.0;
        same = told.1;
        outlined = λ others l. line_unique place size (network_of (plan_said place (names_of ds) runs)) (network_of ds) others runs l line told.1.line;
      }

-- What a declaration makes of a plan.
use Rattle.std.proofs.Common.{◌≡◌, ℕ, zero, suc, ◌<◌, ◌≤◌, cond, eqb, leb, List, [], ◌∷◌, ◌++◌, length, take, replicate, sym, refl, ap, ◌∙◌, subst, append_assoc, arith}
use Rattle.std.specs.List.{AllByRecursion}
use Rattle.std.proofs.lemmas.List.{length-take-le}
use Rattle.std.proofs.lemmas.Bool.Decides.{Decides-eqb}
use Rattle.refusal.specs.declared.refusal.Refusal.{Refusal}
use Rattle.line.specs.declared.run.Run.{Run}
use Rattle.line.specs.Line.{Line, over, runs_needed}
use Rattle.line.proofs.Counts.{needed_line}
use Rattle.splice.specs.Changes.{changed, count_after}
use Rattle.names.specs.Names.{number_in}
use Rattle.names.specs.Texts.{texts}
use Rattle.plan.specs.declared.plan.Plan.{Plan}
use Rattle.plan.specs.declared.plan.Edit.{Edit}
use Rattle.plan.specs.Declarations.{Declaration, names_of, network_of}
use Rattle.plan.specs.Accepted.{Sane, Accepted, Refused, Accepts}
use Rattle.plan.specs.Fit.{Unfit}
use Rattle.plan.specs.Made.{Blank, Made}
use Rattle.plan.specs.Edits.{Judged, Entered}
use Rattle.plan.proofs.Snoc.{same_labels, names_snoc}

-- why a range does not fit is why its declaration is refused
pub refuses : (size rows : ℕ) (ds : List Declaration) (d : Declaration) (n : ℕ) → n ≡ number_in (names_of ds) d.name → Sane ds d
    → (e : Refusal) → Unfit size (network_of ds) d.low d.high n rows e → Refused size rows ds d e
refuses size rows ds d n is sane e (Unfit.meets m) = Refused.meets sane m
refuses size rows ds d n is sane e (Unfit.fills free fills) = Refused.fills sane free fills
refuses size rows ds d n is sane e (Unfit.full free remains over-full) =
    Refused.full sane free remains
    (subst (λ (f : ℕ → ℕ). rows < runs_needed eqb size f) (ap (λ (k : ℕ). over (network_of ds) d.low d.high k) is ∙ same_labels ds d free) over-full)

-- one accepted declaration more
pub accepts_more : (size rows : ℕ) (es ds : List Declaration) (d : Declaration) → Accepts size rows es ds → Accepted size rows (es ++ ds) d → Accepts size rows es (ds ++ d ∷ [])
accepts_more size rows es [] d all a = (subst (λ (zs : List Declaration). Accepted size rows zs d) (nil es) a, tt)
  where
    nil : (xs : List Declaration) → xs ++ [] ≡ xs
    nil [] = refl
    nil (x ∷ xs) = ap (λ (q : List Declaration). x ∷ q) (nil xs)
accepts_more size rows es (c ∷ ds) d all a =
    (all.0, accepts_more size rows (es ++ c ∷ []) ds d all.1 (subst (λ (zs : List Declaration). Accepted size rows zs d) (sym (append_assoc es (c ∷ []) ds)) a))

module _ {A : Type 0} (place : A → ℕ) (size : ℕ) (ds : List Declaration) (d : Declaration) (p q : Plan A) (e : Edit A)
    (made : Made place size ds p) (judged : Judged place size ds p d e) (entered : Entered place p q d.name e)
    (room : count_after e.change p.count ≤ length p.rows.now) (top : d.high < size) where
  next_line : Line place size (network_of (ds ++ d ∷ [])) (take q.count q.rows.now)
  next_line =
      let a = judged.line in
      let same = ap (λ (k : ℕ). over (network_of ds) d.low d.high k) judged.number ∙ same_labels ds d judged.free in
      let b = subst (λ (f : ℕ → ℕ). Line place size f (changed e.change (take p.count p.rows.now))) same a in
      subst (λ (rows : List (Run A ℕ)). Line place size (network_of (ds ++ d ∷ [])) rows) (sym entered.rows) b

  next_names : texts q.names ≡ names_of (ds ++ d ∷ [])
  next_names =
      entered.names
      ∙ ap (λ (k : ℕ). cond (leb k (length (texts p.names))) (texts p.names) (texts p.names ++ d.name ∷ [])) judged.number
      ∙ ap (λ (ns : List (List ℕ)). cond (leb (number_in (names_of ds) d.name) (length ns)) ns (ns ++ d.name ∷ [])) made.names
      ∙ sym (names_snoc ds d)

  next_fits : q.count ≤ length q.rows.now
  next_fits = let a = entered.count in let b = entered.long in omega arith

  next_needs : q.count ≡ runs_needed eqb size (network_of (ds ++ d ∷ []))
  next_needs =
      let len = length-take-le q.count q.rows.now next_fits in
      let n = needed_line eqb Decides-eqb (network_of (ds ++ d ∷ [])) place size (take q.count q.rows.now) (omega arith) next_line in
      omega arith

  pub accepted : Accepted size (length q.rows.now) ds d
  accepted =
      let n = next_needs in
      let f = next_fits in
      record { sane = judged.sane; inside = top; free = judged.free; remains = judged.remains; room = omega arith }

  pub made_next : Made place size (ds ++ d ∷ []) q
  made_next =
      let long = entered.long in
      let n = next_needs in
      let held = subst (λ (rows : ℕ). Accepts size rows [] ds) (sym long) made.accepted in
      record {
        ready = omega arith;
        fits = next_fits;
        most = let b = made.most in omega arith;
        accepted = accepts_more size (length q.rows.now) [] ds d held accepted;
        line = next_line;
        blank = entered.blank made.blank;
        names = next_names;
      }

pub blanks : {A : Type 0} (place : A → ℕ) (n : ℕ) (r : Run A ℕ) → Blank place r → AllByRecursion (Blank place) (replicate n r)
blanks place zero r b = tt
blanks place (suc n) r b = (b, blanks place n r b)

-- an open plan has runs
pub open_runs : {A : Type 0} (place : A → ℕ) (size : ℕ) (ds : List Declaration) (p : Plan A) → Made place size ds p
    → (runs : List (Run A ℕ)) → runs ≡ take p.count p.rows.now → 0 < length runs
open_runs {A} place size ds p made runs is =
    let e : length runs ≡ p.count = ap length is ∙ length-take-le p.count p.rows.now made.fits in
    omega (arith, made.ready)

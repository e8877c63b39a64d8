-- An edit of a plan: what its checks promise, and what is left when it is made. No user of a plan meets these.
use Rattle.std.specs.Prelude.{◌≡◌, ℕ, ◌+◌, ◌<◌, ◌≤◌, Bool, cond, List, [], ◌∷◌, ◌++◌, length, take, drop, Some, None, Option, Result, MatchResult, nat_le}
use Rattle.std.specs.List.{AllByRecursion}
use Rattle.refusal.specs.declared.refusal.Refusal.{Refusal}
use Rattle.refusal.specs.declared.refusal.Refusal.TheVariants.{RangeReversed, FieldMalformed, TooManyNames}
use Rattle.line.specs.Line.{Line, over}
use Rattle.splice.specs.Changes.{changed, count_after, Apt}
use Rattle.names.specs.Names.{number_in}
use Rattle.names.specs.Texts.{texts}
use Rattle.plan.specs.declared.plan.Plan.{Plan}
use Rattle.plan.specs.declared.plan.Edit.{Edit}
use Rattle.plan.specs.Declarations.{Declaration, names_of, network_of}
use Rattle.plan.specs.Accepted.{Sane, Free, Remains, Refused}
use Rattle.plan.specs.Made.{Blank, Made}

-- the first of three checks that fails: the name is well formed, the range is not reversed, the names are not too many
abbrev pub first_cause : Bool → Bool → Bool → Option Refusal
first_cause formed reversed crowded = cond formed (cond reversed (Some RangeReversed) (cond crowded (Some TooManyNames) None)) (Some FieldMalformed)

-- the edit can be made in any plan like p
pub record Safe {A : Type 0} (p : Plan A) (name : List ℕ) (e : Edit A) : Type 0 where
  pub some : 0 < p.count
  pub fits : p.count ≤ length p.rows.now
  pub apt : Apt p.count e.change
  pub room : count_after e.change p.count ≤ length p.rows.now
  pub short : length name ≤ 12
  pub few : e.number ≤ 24
  pub next : e.number ≤ length (texts p.names) + 1

-- the edit is that of the declaration d in a plan that ds made
pub record Judged {A : Type 0} (place : A → ℕ) (size : ℕ) (ds : List Declaration) (p : Plan A) (d : Declaration) (e : Edit A) : Type 0 where
  pub sane : Sane ds d
  pub number : e.number ≡ number_in (names_of ds) d.name
  pub free : Free (network_of ds) d.low d.high
  pub remains : Remains size (network_of ds) d.low d.high
  pub line : Line place size (over (network_of ds) d.low d.high e.number) (changed e.change (take p.count p.rows.now))

-- what judging the declaration d in the plan p answers, whatever declarations made p
abbrev pub Judges : {A : Type 0} → (A → ℕ) → ℕ → Plan A → Declaration → Result (Edit A) Refusal → Type 0
Judges place size p d r = (ds : List Declaration) → Made place size ds p → MatchResult r (Judged place size ds p d) (Refused size (length p.rows.now) ds d)

-- the plan q is the plan p with the edit made
pub record Entered {A : Type 0} (place : A → ℕ) (p q : Plan A) (name : List ℕ) (e : Edit A) : Type 0 where
  pub count : q.count ≡ count_after e.change p.count
  pub long : length q.rows.now ≡ length p.rows.now
  pub rows : take q.count q.rows.now ≡ changed e.change (take p.count p.rows.now)
  pub blank : AllByRecursion (Blank place) (drop p.count p.rows.now) → AllByRecursion (Blank place) (drop q.count q.rows.now)
  pub names : texts q.names ≡ cond (nat_le e.number (length (texts p.names))) (texts p.names) (texts p.names ++ name ∷ [])

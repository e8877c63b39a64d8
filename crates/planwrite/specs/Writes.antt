-- What a plan and a buffer hold before and after the plan is written.
use Rattle.std.specs.Prelude.{◌≡◌, ℕ, ◌<◌, ◌≤◌, List, length, take, Result, MatchResult}
use Rattle.line.specs.declared.run.Run.{Run}
use Rattle.plan.specs.declared.plan.Plan.{Plan}
use Rattle.refusal.specs.declared.refusal.Refusal.{Refusal}
use Rattle.refusal.specs.declared.refusal.Refusal.TheVariants.{BufferTooShort}
use Rattle.text.specs.Buffers.{put}
use Rattle.plan.specs.Declarations.{Declaration, names_of}
use Rattle.plan.specs.Made.{Made}
use Rattle.planwrite.specs.Written.{plan_text}

-- the runs of the plan's line: its rows that are in use
abbrev pub runs_of : {A : Type 0} → Plan A → List (Run A ℕ)
runs_of p = take p.count p.rows.now

-- n is the length of the text, and the buffer begins with it and is else as it was
pub record Wrote (text before after : List ℕ) (n : ℕ) : Type 0 where
  pub long : n ≡ length text
  pub fits : length text ≤ length before
  pub bytes : after ≡ put before 0 text

-- the buffer is too short for the text, and it is as it was
pub record LacksRoom (text before after : List ℕ) (e : Refusal) : Type 0 where
  pub cause : e ≡ BufferTooShort
  pub short : length before < length text
  pub kept : after ≡ before

-- what writing the plan p answers, whatever declarations made it: its text is written, or the buffer is too short for it
abbrev pub WritesText : {A : Type 0} → (A → List ℕ) → (A → ℕ) → ℕ → Plan A → List ℕ → List ℕ → Result ℕ Refusal → Type 0
WritesText text place size p before after r =
    (ds : List Declaration) → Made place size ds p
    → MatchResult r (Wrote (plan_text text (names_of ds) (runs_of p)) before after) (LacksRoom (plan_text text (names_of ds) (runs_of p)) before after)

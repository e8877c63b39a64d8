-- A text that is written into a buffer.
use Rattle.std.specs.Prelude.{◌≡◌, ℕ, ◌+◌, ◌≤◌, List, ◌++◌, length, take, drop}
use Rattle.text.specs.declared.writer.Writer.{Writer}

-- the buffer with the text from the place `at` on, and all else as it was
abbrev pub put : List ℕ → ℕ → List ℕ → List ℕ
put buffer at text = take at buffer ++ (text ++ drop (at + length text) buffer)

-- the text fits between the writer's place and the end of its buffer
abbrev pub HasRoom : Writer → List ℕ → Type 0
HasRoom w text = w.at + length text ≤ length w.out.now

-- the writer goes from `before` to `after` as it writes the text at its place: it stands at the text's end, and its buffer, which is the same one, has the text and is else as it was
pub record Writes (before : Writer) (text : List ℕ) (after : Writer) : Type 0 where
  pub fits : HasRoom before text
  pub end : after.at ≡ before.at + length text
  pub bytes : after.out.now ≡ put before.out.now before.at text
  pub lent : after.out.ghost_name ≡ before.out.ghost_name

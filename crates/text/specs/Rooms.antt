-- What texts leave of a room.
use Rattle.std.specs.Prelude.{◌≡◌, ℕ, ◌-◌, ◌≤◌, List, length, Option, Some, None, cond, nat_le}
use Rattle.text.specs.declared.room.Room.{Room}

-- any text may be held to a room
abbrev pub AnyText : Room → List ℕ → Type 0
AnyText r text = 0 ≤ length text

-- what so many bytes leave of a room; none where it is too small for them
abbrev pub left_by : ℕ → Option ℕ → Option ℕ
left_by n None = None
left_by n (Some room) = cond (nat_le n room) (Some (room - n)) None

-- the room goes from `before` to `after` as the text takes from it
abbrev pub Leaves : Room → List ℕ → Room → Type 0
Leaves before text after = after.left ≡ left_by (length text) before.left

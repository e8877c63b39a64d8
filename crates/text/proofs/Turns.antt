-- Texts that a sink takes one after another, some of them under another name.
use Rattle.std.proofs.Common.{◌≡◌, ℕ, List, ◌++◌, sym, subst}
use Rattle.text.specs.Turns.{InTurn}

module _ {S : Type 0} {has_room : S → List ℕ → Type 0} {takes : S → List ℕ → S → Type 0} (turns : InTurn has_room takes) where
  -- the first text has room
  pub room_for : {s : S} {t v : List ℕ} (u : List ℕ) → has_room s (t ++ u) → v ≡ t → has_room s v
  room_for {s} u room is = subst (has_room s) (sym is) (turns.first u room)

  -- the rest has room after the first text
  pub room_after : {s r : S} {t u v : List ℕ} → has_room s (t ++ u) → v ≡ t → takes s v r → has_room r u
  room_after {s} {r} room is took = turns.second room (subst (λ x. takes s x r) is took)

  -- the first text and the rest
  pub took_both : {s r q : S} {t u v : List ℕ} → v ≡ t → takes s v r → takes r u q → takes s (t ++ u) q
  took_both {s} {r} is took then = turns.both (subst (λ x. takes s x r) is took) then

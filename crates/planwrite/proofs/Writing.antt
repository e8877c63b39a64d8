-- The text of a plan, row by row and network by network.
use Rattle.std.proofs.Common.{◌≡◌, ℕ, ◌+◌, ◌<◌, Bool, cond, eqb, List, [], ◌∷◌, ◌++◌, length, get_or, drop, sym, refl, ap, ◌∙◌, subst, append_assoc}
use Rattle.std.proofs.lemmas.List.{append-nil, at_drop_more}
use Rattle.std.proofs.lemmas.Bool.{eq-eqb, ne_eqb}
use Rattle.line.specs.declared.run.Run.{Run}
use Rattle.text.specs.Turns.{InTurn}
use Rattle.planwrite.specs.Written.{row_of, net_text, nets_text}

-- of the text `all`, a front is taken from `before` to `after`, and there is room for `left`, which is left to take
pub record Begun {S : Type 0} (has_room : S → List ℕ → Type 0) (takes : S → List ℕ → S → Type 0) (all left : List ℕ) (before after : S) : Type 0 where
  pub front : List ℕ
  pub whole : front ++ left ≡ all
  pub took : takes before front after
  pub room : has_room after left

module _ {S : Type 0} {has_room : S → List ℕ → Type 0} {takes : S → List ℕ → S → Type 0} (turns : InTurn has_room takes) where
  pub begin : (all : List ℕ) (s : S) → has_room s all → Begun has_room takes all all s s
  begin all s room = record { front = []; whole = refl; took = turns.none (turns.first all room); room = room }

  module _ {all left : List ℕ} {before after : S} (b : Begun has_room takes all left before after) where
    -- there is room for the next part
    pub part_fits : {part : List ℕ} (rest : List ℕ) → left ≡ part ++ rest → has_room after part
    part_fits rest e = turns.first rest (subst (has_room after) e b.room)

    -- the next part is taken
    pub part_taken : {part rest : List ℕ} {then : S} → left ≡ part ++ rest → takes after part then → Begun has_room takes all rest before then
    part_taken {part} {rest} e took = record {
      front = b.front ++ part;
      whole = append_assoc b.front part rest ∙ (ap (λ (q : List ℕ). b.front ++ q) (sym e) ∙ b.whole);
      took = turns.both b.took took;
      room = turns.second (subst (has_room after) e b.room) took;
    }

    -- where what is left leaves the sink as it is, all is taken
    pub all_spent : takes after left after → takes before all after
    all_spent stays = subst (λ q. takes before q after) b.whole (turns.both b.took stays)

    -- all is taken
    pub all_taken : left ≡ [] → takes before all after
    all_taken e = subst (λ q. takes before q after) (sym (append-nil b.front) ∙ (ap (λ (q : List ℕ). b.front ++ q) (sym e) ∙ b.whole)) b.took

-- the rows of a network from the run r on
module _ {A : Type 0} (text : A → List ℕ) (n : ℕ) (name : List ℕ) (runs : List (Run A ℕ)) (i : ℕ) (r : Run A ℕ) (h : i < length runs) (e : r ≡ get_or runs i r) where
  net_step : (b : Bool) → eqb r.label n ≡ b
      → net_text text n name (drop i runs) ≡ cond b (row_of text name r ++ net_text text n name (drop (i + 1) runs)) (net_text text n name (drop (i + 1) runs))
  net_step b is =
      at_drop_more (net_text text n name) runs i r h
      ∙ (ap (λ q. net_text text n name (q ∷ drop (i + 1) runs)) (sym e)
      ∙ ap (λ (t : Bool). cond t (row_of text name r ++ net_text text n name (drop (i + 1) runs)) (net_text text n name (drop (i + 1) runs))) is)

  pub net_here : r.label ≡ n → net_text text n name (drop i runs) ≡ row_of text name r ++ net_text text n name (drop (i + 1) runs)
  net_here l = net_step _ (eq-eqb r.label n l)

  pub net_past : (r.label ≡ n → ⊥) → net_text text n name (drop i runs) ≡ net_text text n name (drop (i + 1) runs)
  net_past l = net_step _ (ne_eqb r.label n l)

-- the networks from the number i + 1 on: one, and those after it
pub nets_step : {A : Type 0} (text : A → List ℕ) (names : List (List ℕ)) (runs : List (Run A ℕ)) (i : ℕ) (name : List ℕ) → i < length names → name ≡ get_or names i []
    → nets_text text (i + 1) (drop i names) runs ≡ net_text text (i + 1) name runs ++ nets_text text (i + 1 + 1) (drop (i + 1) names) runs
nets_step text names runs i name h e =
    at_drop_more (λ (zs : List (List ℕ)). nets_text text (i + 1) zs runs) names i [] h
    ∙ ap (λ (q : List ℕ). net_text text (i + 1) q runs ++ nets_text text (i + 1 + 1) (drop (i + 1) names) runs) (sym e)

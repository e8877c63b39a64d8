-- Values put in the place of others in a list.
use Rattle.std.specs.List.{SameBelow, SameFrom, CopiedTo}
use Rattle.std.proofs.Common.{◌≡◌, ℕ, ◌+◌, ◌-◌, ◌<◌, ◌≤◌, List, ◌++◌, length, take, drop, ap, ◌∙◌, arith, rules}
use Rattle.std.proofs.lemmas.List.{same_lists, places, append_assoc}

module _ {X : Type 0} (old moved : List X) (count from to tail end : ℕ) (same : length moved ≡ length old)
    (a : from ≤ to) (b : to ≤ count) (c : count ≤ length old) (d : from ≤ tail) (e : end ≡ tail + (count - to)) (f : end ≤ length old)
    (kept : SameBelow old moved tail) (shift : CopiedTo old moved to tail (count - to)) where
  front : take from moved ≡ take from (take count old)
  front = same_lists _ _ (search (rules, places)) (λ k z h.
      let lt : k < from = grind (arith, places) in
      let s = kept k z (omega arith) in
      grind (arith, places))

  back : take (count - to) (drop tail moved) ≡ drop to (take count old)
  back = same_lists _ _ (search (rules, places)) (λ k z h.
      let lt : k < count - to = grind (arith, places) in
      let s = shift (tail + k) z (omega arith) (omega arith) in
      grind (arith, places))

  -- the rows after the three writes
  pub replaced : (one two three xs ys zs : List X) (i j m : ℕ)
      → i ≡ from + length xs → take i one ≡ take from moved ++ xs → ((n : ℕ) → i ≤ n → drop n one ≡ drop n moved)
      → j ≡ i + length ys → take j two ≡ take i one ++ ys → ((n : ℕ) → j ≤ n → drop n two ≡ drop n one)
      → m ≡ j + length zs → take m three ≡ take j two ++ zs → ((n : ℕ) → m ≤ n → drop n three ≡ drop n two)
      → m ≡ tail
      → take end three ≡ take from (take count old) ++ ((xs ++ (ys ++ zs)) ++ drop to (take count old))
  replaced one two three xs ys zs i j m p1 q1 r1 p2 q2 r2 p3 q3 r3 is =
      let whole : take m three ≡ take from (take count old) ++ (xs ++ (ys ++ zs)) =
      q3 ∙ ap (λ (v : List X). v ++ zs) (q2 ∙ ap (λ (v : List X). v ++ ys) (q1 ∙ ap (λ (v : List X). v ++ xs) front)) ∙ simp append_assoc in
      let rest : drop m three ≡ drop m moved = r3 m (omega arith) ∙ r2 m (omega arith) ∙ r1 m (omega arith) in
      split m three (count - to) end (omega arith)
      ∙ ap (λ (v : List X). v ++ take (count - to) (drop m three)) whole
      ∙ ap (λ (v : List X). (take from (take count old) ++ (xs ++ (ys ++ zs))) ++ take (count - to) v) (rest ∙ ap (λ (n : ℕ). drop n moved) is)
      ∙ ap (λ (v : List X). (take from (take count old) ++ (xs ++ (ys ++ zs))) ++ v) back
      ∙ append_assoc (take from (take count old)) (xs ++ (ys ++ zs)) (drop to (take count old))
    where
      split : (n : ℕ) (vs : List X) (k t : ℕ) → t ≡ n + k → take t vs ≡ take n vs ++ take k (drop n vs)
      split n vs k t h = same_lists _ _ (search (rules, places)) (λ i z lt. grind (arith, places))

-- lists of one length that agree from n on end alike
pub rest_same : {X : Type 0} (old moved : List X) (n : ℕ) → length moved ≡ length old → SameFrom old moved n → drop n moved ≡ drop n old
rest_same old moved n same agree = same_lists _ _ (search (rules, places)) (λ k z h.
    let s = agree (n + k) z (omega arith) in
    grind (arith, places))

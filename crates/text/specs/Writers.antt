-- Texts that a writer writes one after another.
use Rattle.std.specs.Prelude.{◌≡◌, ℕ, ◌+◌, ◌≤◌, List, ◌++◌, length, take, drop, refl, false, true}
use Rattle.std.proofs.Common.{sym, ap, ◌∙◌, append_assoc, arith}
use Rattle.std.proofs.lemmas.List.{length-append, length-take-le, length-drop, take_at, drop_at, drop-drop, take-append-drop}
use Rattle.text.specs.Buffers.{put, HasRoom, Writes}
use Rattle.text.specs.Turns.{InTurn}
use Rattle.text.specs.declared.writer.Writer.{Writer}

-- a text that is written leaves the buffer as long as it was
pub put_length : (xs ys : List ℕ) (at : ℕ) → at + length ys ≤ length xs → length (put xs at ys) ≡ length xs
put_length xs ys at fits =
    let rest = drop (at + length ys) xs in
    omega (arith, fits, length-append (take at xs) (ys ++ rest), length-append ys rest, length-take-le at xs (omega arith), length-drop (at + length ys) xs)

-- a writer's buffer stays as long as it was
pub writes_length : (w v : Writer) (t : List ℕ) → Writes w t v → length v.out.now ≡ length w.out.now
writes_length w v t wrote = ap length wrote.bytes ∙ put_length w.out.now t w.at wrote.fits

-- a text that is written at the end of another
pub put_put : (xs ys zs : List ℕ) (at n : ℕ) → at + (length ys + length zs) ≤ length xs → n ≡ at + length ys → put (put xs at ys) n zs ≡ put xs at (ys ++ zs)
put_put xs ys zs at n fits is =
    let a : List ℕ = take at xs in
    let d : List ℕ = drop (at + length ys) xs in
    let long : length (a ++ ys) ≡ n = length-append a ys ∙ omega (arith, length-take-le at xs (omega arith)) in
    let whole : a ++ (ys ++ d) ≡ (a ++ ys) ++ d = sym (append_assoc a ys d) in
    let front : take n (a ++ (ys ++ d)) ≡ a ++ ys = ap (take n) whole ∙ take_at (a ++ ys) d n long in
    let rest : drop n (a ++ (ys ++ d)) ≡ d = ap (drop n) whole ∙ drop_at (a ++ ys) d n long in
    let both : at + length ys + length zs ≡ at + length (ys ++ zs) = omega (arith, length-append ys zs) in
    let e : List ℕ = drop (at + length (ys ++ zs)) xs in
    let past : drop (n + length zs) (a ++ (ys ++ d)) ≡ e
    = sym (drop-drop (length zs) n (a ++ (ys ++ d))) ∙ (ap (drop (length zs)) rest ∙ (drop-drop (length zs) (at + length ys) xs ∙ ap (λ (k : ℕ). drop k xs) both)) in
    ap (λ (q : List ℕ). q ++ (zs ++ drop (n + length zs) (a ++ (ys ++ d)))) front
    ∙ (ap (λ (q : List ℕ). (a ++ ys) ++ (zs ++ q)) past ∙ (append_assoc a ys (zs ++ e) ∙ ap (λ (q : List ℕ). a ++ q) (sym (append_assoc ys zs e))))

both : (w v x : Writer) (t u : List ℕ) → Writes w t v → Writes v u x → Writes w (t ++ u) x
both w v x t u one two =
    let room : w.at + (length t + length u) ≤ length w.out.now = omega (arith, one.fits, two.fits, one.end, writes_length w v t one) in
    record {
      fits = omega (arith, room, length-append t u);
      end = omega (arith, one.end, two.end, length-append t u);
      bytes = two.bytes ∙ (ap (λ (q : List ℕ). put q v.at u) one.bytes ∙ put_put w.out.now t u w.at v.at room one.end);
      lent = two.lent ∙ one.lent;
    }

-- why a writer is a sink
pub writes_in_turn : InTurn HasRoom Writes
writes_in_turn = record {
  first = λ {s} {t} u fits. omega (arith, fits, length-append t u);
  second = λ {s} {r} {t} {u} fits wrote. omega (arith, fits, length-append t u, wrote.end, writes_length s r t wrote);
  none = λ {s} fits. record {
    fits = fits;
    end = omega arith;
    bytes = sym (take-append-drop s.at s.out.now) ∙ ap (λ (n : ℕ). take s.at s.out.now ++ drop n s.out.now) (omega arith);
    lent = refl;
  };
  both = λ {s} {r} {q} {t} {u}. both s r q t u;
}

-- a writer is never spent
pub never_spent : (w : Writer) (t : List ℕ) → false ≡ true → Writes w t w
never_spent w t h = let z : ◌≡◌ {A = ℕ} 0 1 = cc in absurd (omega arith)

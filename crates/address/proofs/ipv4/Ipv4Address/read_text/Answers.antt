-- A text that is refused is the text of no address: its numbers are told one after another.
use Rattle.std.proofs.Common.{◌≡◌, ℕ, ◌/◌, ◌%◌, ◌^◌, ◌<◌, ◌≤◌, List, ◌∷◌, ◌++◌, decimal, sym, ◌∙◌, arith}
use Rattle.address.specs.Texts.{text4}
use Rattle.address.specs.Dots.{after_dot}
use Rattle.address.proofs.ipv4.Ipv4Address.read_text.Goals as goal

abbrev two : ℕ → List ℕ
two v = decimal (v / 2 ^ 8 % 256) ++ (46 ∷ decimal (v % 256))

abbrev three : ℕ → List ℕ
three v = decimal (v / 2 ^ 16 % 256) ++ (46 ∷ two v)

-- the bytes begin with a number and its dot
abbrev Begins : ℕ → List ℕ → List ℕ → Type 0
Begins n rest bytes = (n ≤ 255) × (decimal n ++ (46 ∷ rest) ≡ bytes)

after_one : (v a : ℕ) (r bytes : List ℕ) → v < 2 ^ 32 → Begins a r bytes → text4 v ≡ bytes → three v ≡ r
after_one v a r bytes f p e = (after_dot (v / 2 ^ 24) a (three v) r (omega arith) p.0 (e ∙ sym p.1)).1

after_two : (v a b : ℕ) (r s bytes : List ℕ) → v < 2 ^ 32 → Begins a r bytes → Begins b s r → text4 v ≡ bytes → two v ≡ s
after_two v a b r s bytes f p q e = (after_dot (v / 2 ^ 16 % 256) b (two v) s (omega arith) q.0 (after_one v a r bytes f p e ∙ sym q.1)).1

after_three : (v a b d : ℕ) (r s t bytes : List ℕ) → v < 2 ^ 32 → Begins a r bytes → Begins b s r → Begins d t s → text4 v ≡ bytes → decimal (v % 256) ≡ t
after_three v a b d r s t bytes f p q u e = (after_dot (v / 2 ^ 8 % 256) d (decimal (v % 256)) t (omega arith) u.0 (after_two v a b r s bytes f p q e ∙ sym u.1)).1

pub returns-in_err-b : goal.returns-in_err-b
returns-in_err-b c =
    rw c.from_residual-in_err-b.ensures
    (λ x e. c.in_err-b.ensures (x.value / 2 ^ 16 % 256) (two x.value) (omega arith) (after_one x.value c.in_ok-a.a c.in_ok-a.rest.now c.args.bytes.now x.fits c.in_ok-a.ensures e))

pub returns-in_err-c : goal.returns-in_err-c
returns-in_err-c c =
    rw c.from_residual-in_err-c.ensures
    (λ x e. c.in_err-c.ensures (x.value / 2 ^ 8 % 256) (decimal (x.value % 256)) (omega arith)
    (after_two x.value c.in_ok-a.a c.in_ok-b.b c.in_ok-a.rest.now c.in_ok-b.rest.now c.args.bytes.now x.fits c.in_ok-a.ensures c.in_ok-b.ensures e))

pub returns-in_err-d : goal.returns-in_err-d
returns-in_err-d c =
    rw c.from_residual-in_err-d.ensures
    (λ x e. c.in_err-d.ensures (x.value % 256) (omega arith)
    (after_three x.value c.in_ok-a.a c.in_ok-b.b c.in_ok-c.c c.in_ok-a.rest.now c.in_ok-b.rest.now c.in_ok-c.rest.now c.args.bytes.now x.fits c.in_ok-a.ensures c.in_ok-b.ensures c.in_ok-c.ensures e))

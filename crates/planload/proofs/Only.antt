-- A plan text has one outcome: the declarations that it makes, and its end.
use Rattle.std.proofs.Common.{◌≡◌, ℕ, ◌+◌, ◌<◌, ◌≤◌, ◌⊎◌, List, [], ◌∷◌, ◌++◌, length, Some, Option, Result, sym, refl, ap, ◌∙◌, subst, inl, inr, arith}
use Rattle.std.proofs.lemmas.Bool.{false≢true}
use Rattle.refusal.specs.declared.refusal.Refusal.{Refusal}
use Rattle.refusal.specs.declared.fault.Fault.{Fault}
use Rattle.refusal.specs.Faults.{fault}
use Rattle.text.specs.Parts.{rows}
use Rattle.names.specs.Names.{well_formed}
use Rattle.plan.specs.declared.plan.Plan.{Plan}
use Rattle.plan.specs.Made.{Made}
use Rattle.plan.specs.Declarations.{Declaration, network_of}
use Rattle.plan.specs.Accepted.{Fills, Remains, Accepted, Refused}
use Rattle.planload.specs.Loads.{Net, Says, Unread, Fails, Loads, fault_in}
use Rattle.planload.specs.Outcome.{Outcome}

-- no range both fills a line and leaves a place of it
apart : (size : ℕ) (f : ℕ → ℕ) (low high : ℕ) → Fills size f low high → Remains size f low high → ⊥
apart size f low high fills r = out (fills r.0 r.1 r.2) r.3
  where
    out : (low ≤ r.0) × (r.0 ≤ high) → (r.0 < low) ⊎ (high < r.0) → ⊥
    out i (inl h) = omega (arith, i.0)
    out i (inr h) = omega (arith, i.1)

-- a declaration is refused by one cause
pub refused_same : (size rows : ℕ) (ds : List Declaration) (d : Declaration) (why other : Refusal) → Refused size rows ds d why → Refused size rows ds d other → why ≡ other
refused_same size rows ds d _ _ (Refused.malformed a) (Refused.malformed a') = refl
refused_same size rows ds d _ _ (Refused.malformed a) (Refused.reversed a' b') = absurd (false≢true (sym a ∙ a'))
refused_same size rows ds d _ _ (Refused.malformed a) (Refused.crowded a' b' c') = absurd (false≢true (sym a ∙ a'))
refused_same size rows ds d _ _ (Refused.malformed a) (Refused.meets s' m') = absurd (false≢true (sym a ∙ s'.formed))
refused_same size rows ds d _ _ (Refused.malformed a) (Refused.fills s' r' l') = absurd (false≢true (sym a ∙ s'.formed))
refused_same size rows ds d _ _ (Refused.malformed a) (Refused.full s' r' o' u') = absurd (false≢true (sym a ∙ s'.formed))
refused_same size rows ds d _ _ (Refused.reversed a b) (Refused.malformed a') = absurd (false≢true (sym a' ∙ a))
refused_same size rows ds d _ _ (Refused.reversed a b) (Refused.reversed a' b') = refl
refused_same size rows ds d _ _ (Refused.reversed a b) (Refused.crowded a' b' c') = absurd (omega (arith, b, b'))
refused_same size rows ds d _ _ (Refused.reversed a b) (Refused.meets s' m') = absurd (omega (arith, b, s'.ordered))
refused_same size rows ds d _ _ (Refused.reversed a b) (Refused.fills s' r' l') = absurd (omega (arith, b, s'.ordered))
refused_same size rows ds d _ _ (Refused.reversed a b) (Refused.full s' r' o' u') = absurd (omega (arith, b, s'.ordered))
refused_same size rows ds d _ _ (Refused.crowded a b c) (Refused.malformed a') = absurd (false≢true (sym a' ∙ a))
refused_same size rows ds d _ _ (Refused.crowded a b c) (Refused.reversed a' b') = absurd (omega (arith, b', b))
refused_same size rows ds d _ _ (Refused.crowded a b c) (Refused.crowded a' b' c') = refl
refused_same size rows ds d _ _ (Refused.crowded a b c) (Refused.meets s' m') = absurd (omega (arith, c, s'.few))
refused_same size rows ds d _ _ (Refused.crowded a b c) (Refused.fills s' r' l') = absurd (omega (arith, c, s'.few))
refused_same size rows ds d _ _ (Refused.crowded a b c) (Refused.full s' r' o' u') = absurd (omega (arith, c, s'.few))
refused_same size rows ds d _ _ (Refused.meets s m) (Refused.malformed a') = absurd (false≢true (sym a' ∙ s.formed))
refused_same size rows ds d _ _ (Refused.meets s m) (Refused.reversed a' b') = absurd (omega (arith, b', s.ordered))
refused_same size rows ds d _ _ (Refused.meets s m) (Refused.crowded a' b' c') = absurd (omega (arith, c', s.few))
refused_same size rows ds d _ _ (Refused.meets s m) (Refused.meets s' m') = refl
refused_same size rows ds d _ _ (Refused.meets s m) (Refused.fills s' r' l') = absurd (m.3 (r' m.0 m.1 m.2))
refused_same size rows ds d _ _ (Refused.meets s m) (Refused.full s' r' o' u') = absurd (m.3 (r' m.0 m.1 m.2))
refused_same size rows ds d _ _ (Refused.fills s r l) (Refused.malformed a') = absurd (false≢true (sym a' ∙ s.formed))
refused_same size rows ds d _ _ (Refused.fills s r l) (Refused.reversed a' b') = absurd (omega (arith, b', s.ordered))
refused_same size rows ds d _ _ (Refused.fills s r l) (Refused.crowded a' b' c') = absurd (omega (arith, c', s.few))
refused_same size rows ds d _ _ (Refused.fills s r l) (Refused.meets s' m') = absurd (m'.3 (r m'.0 m'.1 m'.2))
refused_same size rows ds d _ _ (Refused.fills s r l) (Refused.fills s' r' l') = refl
refused_same size rows ds d _ _ (Refused.fills s r l) (Refused.full s' r' o' u') = absurd (apart size (network_of ds) d.low d.high l o')
refused_same size rows ds d _ _ (Refused.full s r o u) (Refused.malformed a') = absurd (false≢true (sym a' ∙ s.formed))
refused_same size rows ds d _ _ (Refused.full s r o u) (Refused.reversed a' b') = absurd (omega (arith, b', s.ordered))
refused_same size rows ds d _ _ (Refused.full s r o u) (Refused.crowded a' b' c') = absurd (omega (arith, c', s.few))
refused_same size rows ds d _ _ (Refused.full s r o u) (Refused.meets s' m') = absurd (m'.3 (r m'.0 m'.1 m'.2))
refused_same size rows ds d _ _ (Refused.full s r o u) (Refused.fills s' r' l') = absurd (apart size (network_of ds) d.low d.high l' o)
refused_same size rows ds d _ _ (Refused.full s r o u) (Refused.full s' r' o' u') = refl

-- and what is accepted by none
pub not_both : (size rows : ℕ) (ds : List Declaration) (d : Declaration) → Accepted size rows ds d → (why : Refusal) → Refused size rows ds d why → ⊥
not_both size rows ds d ok _ (Refused.malformed a) = false≢true (sym a ∙ ok.sane.formed)
not_both size rows ds d ok _ (Refused.reversed a b) = omega (arith, b, ok.sane.ordered)
not_both size rows ds d ok _ (Refused.crowded a b c) = omega (arith, c, ok.sane.few)
not_both size rows ds d ok _ (Refused.meets s m) = m.3 (ok.free m.0 m.1 m.2)
not_both size rows ds d ok _ (Refused.fills s r l) = apart size (network_of ds) d.low d.high l ok.remains
not_both size rows ds d ok _ (Refused.full s r o u) = omega (arith, u, ok.room)

-- a row with three fields after its word has no others
net_same : (row name low high name' low' high' : List ℕ) → Net row name low high → Net row name' low' high' → (name ≡ name') × (low ≡ low') × (high ≡ high')
net_same row name low high name' low' high' a b = let e = sym a ∙ b in (cc, cc, cc)

module _ {A : Type 0} (text : A → List ℕ) (place : A → ℕ) (tells : (a b : A) → text a ≡ text b → place a ≡ place b) where
  -- a row says one declaration
  pub says_same : (row : List ℕ) (d e : Declaration) → Says text place row d → Says text place row e → d ≡ e
  says_same row d e s t =
      let n = net_same row _ _ _ _ _ _ s.shape t.shape in
      let name = n.0 in
      let low : d.low ≡ e.low = s.low ∙ tells _ _ n.1 ∙ sym t.low in
      let high : d.high ≡ e.high = s.high ∙ tells _ _ n.2 ∙ sym t.high in
      λ i. record { name = name i; low = low i; high = high i }

  -- a row that says one has no fault of its own
  unread_not : (line : ℕ) (row : List ℕ) (f : Fault) (d : Declaration) → Unread text line row f → Says text place row d → ⊥
  unread_not line row f d (Unread.shape none e) s = none _ _ _ s.shape
  unread_not line row f d (Unread.name name low high net bad e) s =
      let n = net_same row _ _ _ _ _ _ net s.shape in
      false≢true (sym bad ∙ ap well_formed n.0 ∙ s.formed)
  unread_not line row f d (Unread.low name low high net ok none e) s = let n = net_same row _ _ _ _ _ _ net s.shape in none s.first (sym n.1)
  unread_not line row f d (Unread.high name high a net ok none e) s = let n = net_same row _ _ _ _ _ _ net s.shape in none s.last (sym n.2)

  unread_same : (line : ℕ) (row : List ℕ) (f g : Fault) → Unread text line row f → Unread text line row g → f ≡ g
  unread_same line row f g (Unread.shape none e) (Unread.shape none' e') = e ∙ sym e'
  unread_same line row f g (Unread.shape none e) (Unread.name _ _ _ net _ _) = absurd (none _ _ _ net)
  unread_same line row f g (Unread.shape none e) (Unread.low _ _ _ net _ _ _) = absurd (none _ _ _ net)
  unread_same line row f g (Unread.shape none e) (Unread.high _ _ _ net _ _ _) = absurd (none _ _ _ net)
  unread_same line row f g (Unread.name _ _ _ net bad e) (Unread.shape none _) = absurd (none _ _ _ net)
  unread_same line row f g (Unread.name _ _ _ net bad e) (Unread.name _ _ _ net' bad' e') = e ∙ sym e'
  unread_same line row f g (Unread.name _ _ _ net bad e) (Unread.low _ _ _ net' ok _ _) = absurd (false≢true (sym bad ∙ ap well_formed (net_same row _ _ _ _ _ _ net net').0 ∙ ok))
  unread_same line row f g (Unread.name _ _ _ net bad e) (Unread.high _ _ _ net' ok _ _) = absurd (false≢true (sym bad ∙ ap well_formed (net_same row _ _ _ _ _ _ net net').0 ∙ ok))
  unread_same line row f g (Unread.low _ _ _ net ok none e) (Unread.shape none' _) = absurd (none' _ _ _ net)
  unread_same line row f g (Unread.low _ _ _ net ok none e) (Unread.name _ _ _ net' bad _) = absurd (false≢true (sym bad ∙ ap well_formed (net_same row _ _ _ _ _ _ net' net).0 ∙ ok))
  unread_same line row f g (Unread.low _ _ _ net ok none e) (Unread.low _ _ _ net' ok' none' e') = e ∙ sym e'
  unread_same line row f g (Unread.low _ _ _ net ok none e) (Unread.high _ _ a net' ok' none' e') = absurd (none a (net_same row _ _ _ _ _ _ net' net).1)
  unread_same line row f g (Unread.high _ _ a net ok none e) (Unread.shape none' _) = absurd (none' _ _ _ net)
  unread_same line row f g (Unread.high _ _ a net ok none e) (Unread.name _ _ _ net' bad _) = absurd (false≢true (sym bad ∙ ap well_formed (net_same row _ _ _ _ _ _ net' net).0 ∙ ok))
  unread_same line row f g (Unread.high _ _ a net ok none e) (Unread.low _ _ _ net' ok' none' e') = absurd (none' a (net_same row _ _ _ _ _ _ net net').1)
  unread_same line row f g (Unread.high _ _ a net ok none e) (Unread.high _ _ b net' ok' none' e') = e ∙ sym e'

  module _ (size most : ℕ) where
    -- a row has one fault
    fails_same : (ds : List Declaration) (line : ℕ) (row : List ℕ) (f g : Fault) → Fails text place size most ds line row f → Fails text place size most ds line row g → f ≡ g
    fails_same ds line row f g (Fails.unread u) (Fails.unread v) = unread_same line row f g u v
    fails_same ds line row f g (Fails.unread u) (Fails.refused d why says against e) = absurd (unread_not line row f d u says)
    fails_same ds line row f g (Fails.refused d why says against e) (Fails.unread v) = absurd (unread_not line row g d v says)
    fails_same ds line row f g (Fails.refused d why says against e) (Fails.refused d' why' says' against' e') =
        let same = says_same row d' d says' says in
        let cause = refused_same size most ds d why why' against (subst (λ (z : Declaration). Refused size most ds z why') same against') in
        e ∙ ap (λ (z : Refusal). fault z line 0) cause ∙ sym e'

    -- a row that adds a declaration has none
    added_not : (ds : List Declaration) (line : ℕ) (row : List ℕ) (d : Declaration) (f : Fault) → Says text place row d → Accepted size most ds d → Fails text place size most ds line row f → ⊥
    added_not ds line row d f says ok (Fails.unread u) = unread_not line row f d u says
    added_not ds line row d f says ok (Fails.refused e why says' against _) =
        not_both size most ds d ok why (subst (λ (z : Declaration). Refused size most ds z why) (says_same row e d says' says) against)

    pub loads_same : (ds : List Declaration) (line : ℕ) (rows : List (List ℕ)) (made others : List Declaration) (end last : Option Fault)
        → Loads text place size most ds line rows made end → Loads text place size most ds line rows others last → (others ≡ made) × (last ≡ end)
    loads_same ds line [] made others end last (Loads.ends _ _) (Loads.ends _ _) = (refl, refl)
    loads_same ds line (row ∷ rest) made others end last (Loads.passes _ _ _ _ _ _ p l) (Loads.passes _ _ _ _ _ _ p' l') = loads_same ds (line + 1) rest made others end last l l'
    loads_same ds line (row ∷ rest) made others end last (Loads.passes _ _ _ _ _ _ p l) (Loads.makes _ _ _ _ d more _ p' says ok l') = absurd (false≢true (sym p' ∙ p))
    loads_same ds line (row ∷ rest) made others end last (Loads.passes _ _ _ _ _ _ p l) (Loads.fails _ _ _ _ f p' why) = absurd (false≢true (sym p' ∙ p))
    loads_same ds line (row ∷ rest) made others end last (Loads.makes _ _ _ _ d more _ p says ok l) (Loads.passes _ _ _ _ _ _ p' l') = absurd (false≢true (sym p ∙ p'))
    loads_same ds line (row ∷ rest) made others end last (Loads.makes _ _ _ _ d more _ p says ok l) (Loads.makes _ _ _ _ e more' _ p' says' ok' l') =
        let same = says_same row e d says' says in
        let there = subst (λ (z : Declaration). Loads text place size most (ds ++ z ∷ []) (line + 1) rest more' last) same l' in
        let t = loads_same (ds ++ d ∷ []) (line + 1) rest more more' end last l there in
        (ap (λ (z : Declaration). z ∷ more') same ∙ ap (λ (zs : List Declaration). d ∷ zs) t.0, t.1)
    loads_same ds line (row ∷ rest) made others end last (Loads.makes _ _ _ _ d more _ p says ok l) (Loads.fails _ _ _ _ f p' why) = absurd (added_not ds line row d f says ok why)
    loads_same ds line (row ∷ rest) made others end last (Loads.fails _ _ _ _ f p why) (Loads.passes _ _ _ _ _ _ p' l') = absurd (false≢true (sym p ∙ p'))
    loads_same ds line (row ∷ rest) made others end last (Loads.fails _ _ _ _ f p why) (Loads.makes _ _ _ _ e more' _ p' says' ok' l') = absurd (added_not ds line row e f says' ok' why)
    loads_same ds line (row ∷ rest) made others end last (Loads.fails _ _ _ _ f p why) (Loads.fails _ _ _ _ g p' why') = (refl, ap Some (fails_same ds line row g f why' why))

-- the outcome of a load that ended so
pub outcome : {A T : Type 0} (text : A → List ℕ) (place : A → ℕ) (size most : ℕ) (ds : List Declaration) (bytes : List ℕ) (m : List Declaration) (end : Option Fault) (r : Result T Fault) (p : Plan A)
    → length p.rows.now ≡ most → Made place size (ds ++ m) p → Loads text place size most ds 1 (rows bytes) m end → end ≡ fault_in r
    → ((a b : A) → text a ≡ text b → place a ≡ place b) → Outcome text place size ds bytes r p
outcome text place size most ds bytes m end r p long made loads is tells =
    let back = sym long in
    let here = subst (λ (n : ℕ). Loads text place size n ds 1 (rows bytes) m end) back loads in
    let there = subst (λ (e : Option Fault). Loads text place size (length p.rows.now) ds 1 (rows bytes) m e) is here in
    record {
      made = m;
      loads = there;
      plan = made;
      only = λ others last l. loads_same text place tells size (length p.rows.now) ds 1 (rows bytes) m others (fault_in r) last there l;
    }

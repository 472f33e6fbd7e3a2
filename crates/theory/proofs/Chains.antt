-- Chains joined, parted and turned.
use Rattle.std.proofs.Common.{ℕ, T, ◌↔◌, List, [], ◌∷◌, ◌++◌, sym, refl, subst, inl, inr}
use Rattle.theory.specs.Maps.{Map, Sound, turned}
use Rattle.theory.proofs.Maps.{turned-sound}
use Rattle.theory.specs.Chains.{Onward, Chain, On, Heard}
use Rattle.theory.specs.Theorems.{OnAChain}

pub onward-append : (m : Map) (s x t : ℕ) (c d : List ℕ) → Onward m s c x → Onward m x d t → Onward m s (c ++ d) t
onward-append m s x t [] d e h = subst (λ (z : ℕ). Onward m z d t) (sym e) h
onward-append m s x t (y ∷ c) d h k = (h.0, onward-append m y x t c d h.1 k)

-- a chain without its first unit, which is s
abbrev pub Goes : Map → ℕ → ℕ → Type 0
Goes m s t = T (m.unit s) × ((c : List ℕ) × Onward m s c t)

pub goes : (m : Map) (s t : ℕ) → Heard m s t → Goes m s t
goes m s t ([], h) = absurd h
goes m s t (x ∷ c, h) = (h.1, (c, h.2))

pub heard : (m : Map) (s t : ℕ) → Goes m s t → Heard m s t
heard m s t g = (s ∷ g.1.0, (refl, g.0, g.1.1))

-- chains are joined end to end
pub heard-trans : (m : Map) (s x t : ℕ) → Heard m s x → Heard m x t → Heard m s t
heard-trans m s x t h k =
    let a = goes m s x h in
    let b = goes m x t k in
    heard m s t (a.0, (a.1.0 ++ b.1.0, onward-append m s x t a.1.0 b.1.0 a.1.1 b.1.1))

pub heard-self : (m : Map) (s : ℕ) → T (m.unit s) → Heard m s s
heard-self m s u = (s ∷ [], (refl, u, refl))

-- the unit that a chain joins at stands on it
onward-on : (m : Map) (s w : ℕ) (c d : List ℕ) → Onward m s c w → On w (s ∷ (c ++ d))
onward-on m s w [] d e = inl (sym e)
onward-on m s w (x ∷ c) d h = inr (onward-on m x w c d h.1)

module _ (m : Map) (sound : Sound m) where
  onward-last : (s t : ℕ) (c : List ℕ) → T (m.unit s) → Onward m s c t → T (m.unit t)
  onward-last s t [] u e = subst (λ z. T (m.unit z)) e u
  onward-last s t (x ∷ c) u h = onward-last x t c (sound.to s x h.0) h.1

  pub heard-first : (s t : ℕ) → Heard m s t → T (m.unit s)
  heard-first s t h = (goes m s t h).0

  pub heard-last : (s t : ℕ) → Heard m s t → T (m.unit t)
  heard-last s t h = let g = goes m s t h in onward-last s t g.1.0 g.0 g.1.1

  pub heard-pair : (s t : ℕ) → T (m.pair s t) → Heard m s t
  heard-pair s t p = (s ∷ t ∷ [], (refl, sound.from s t p, (p, refl)))

  -- a chain is parted at any unit on it
  part : (s t w : ℕ) (c : List ℕ) → T (m.unit s) → Onward m s c t → On w (s ∷ c) → Goes m s w × Goes m w t
  part s t w c u h (inl e) = (subst (λ z. Goes m s z) (sym e) (u, ([], refl)), subst (λ z. Goes m z t) (sym e) (u, (c, h)))
  part s t w [] u h (inr o) = absurd o
  part s t w (x ∷ c) u h (inr o) =
      let r = part x t w c (sound.to s x h.0) h.1 o in
      ((u, (x ∷ r.0.1.0, (h.0, r.0.1.1))), r.1)

  pub heard-part : (s t w : ℕ) (c : List ℕ) → Chain m s t c → On w c → Heard m s w × Heard m w t
  heard-part s t w [] h o = absurd o
  heard-part s t w (x ∷ c) h o =
      let r = part s t w c h.1 h.2 (subst (λ z. On w (z ∷ c)) h.0 o) in
      (heard m s w r.0, heard m w t r.1)

  turn : (s t : ℕ) (c : List ℕ) → T (m.unit s) → Onward (turned m) s c t → Heard m t s
  turn s t [] u e = subst (λ z. Heard m z s) e (heard-self m s u)
  turn s t (x ∷ c) u h = heard-trans m t x s (turn x t c (sound.from x s h.0) h.1) (heard-pair x s h.0)

  pub heard-turn : (s t : ℕ) → Heard (turned m) s t → Heard m t s
  heard-turn s t h = let g = goes (turned m) s t h in turn s t g.1.0 g.0 g.1.1

pub on-joined : (m : Map) (u w v : ℕ) → Heard m u w → Heard m w v → (c : List ℕ) × Chain m u v c × On w c
on-joined m u w v h k =
    let a = goes m u w h in
    let b = goes m w v k in
    (u ∷ (a.1.0 ++ b.1.0), (refl, a.0, onward-append m u w v a.1.0 b.1.0 a.1.1 b.1.1), onward-on m u w a.1.0 b.1.0 a.1.1)

pub on-a-chain : OnAChain
on-a-chain m sound u w v = (λ (c, h, o). heard-part m sound u v w c h o, λ (h, k). on-joined m u w v h k)

pub heard-turned : (m : Map) → Sound m → (s t : ℕ) → Heard (turned m) s t ↔ Heard m t s
heard-turned m sound s t = (heard-turn m sound s t, heard-turn (turned m) (turned-sound m sound) t s)

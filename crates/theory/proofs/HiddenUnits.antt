-- Chains of a map with hidden units, there and back.
use Rattle.std.proofs.Common.{◌≡◌, ℕ, Bool, true, false, not, ◌&&◌, T, List, [], ◌∷◌, refl, subst, inl, inr, T_not}
use lib.Dec.{not_T}
use Rattle.theory.specs.Maps.{Map, Sound, turned, hidden}
use Rattle.theory.specs.Chains.{Onward, Chain, On, Heard}
use Rattle.theory.proofs.Tests.{and-fst, and-snd, and_both}
use Rattle.theory.proofs.Maps.{same_map, hidden-sound}
use Rattle.theory.proofs.Chains.{goes, heard, heard-last, heard-part}

module _ (f : ℕ → Bool) (m : Map) where
  pub shown-unit : (x : ℕ) → T ((hidden f m).unit x) → T (m.unit x)
  shown-unit x t = and-snd (not (f x)) (m.unit x) t

  pub clear-unit : (x : ℕ) → T ((hidden f m).unit x) → T (f x) → ⊥
  clear-unit x t = T_not (f x) (and-fst (not (f x)) (m.unit x) t)

  pub shown-pair : (a b : ℕ) → T ((hidden f m).pair a b) → T (m.pair a b)
  shown-pair a b t = and-snd (not (f b)) (m.pair a b) (and-snd (not (f a)) (not (f b) && m.pair a b) t)

  pub kept_pair : (a b : ℕ) → T (m.pair a b) → (T (f a) → ⊥) → (T (f b) → ⊥) → T ((hidden f m).pair a b)
  kept_pair a b t p q = and_both (not (f a)) (not (f b) && m.pair a b) (not_T (f a) p) (and_both (not (f b)) (m.pair a b) (not_T (f b) q) t)

  pub kept-unit : (x : ℕ) → T (m.unit x) → (T (f x) → ⊥) → T ((hidden f m).unit x)
  kept-unit x t p = and_both (not (f x)) (m.unit x) (not_T (f x) p) t

  -- a chain with no marked unit is a chain where they are hidden
  hide-onward : (s t : ℕ) (c : List ℕ) → Onward m s c t → ((x : ℕ) → On x (s ∷ c) → T (f x) → ⊥) → Onward (hidden f m) s c t
  hide-onward s t [] e far = e
  hide-onward s t (x ∷ c) h far = (kept_pair s x h.0 (far s (inl refl)) (far x (inr (inl refl))), hide-onward x t c h.1 (λ y o. far y (inr o)))

  pub hide : (s t : ℕ) (c : List ℕ) → Chain m s t c → ((x : ℕ) → On x c → T (f x) → ⊥) → Heard (hidden f m) s t
  hide s t [] h far = absurd h
  hide s t (x ∷ c) h far =
      let clear : (y : ℕ) → On y (s ∷ c) → T (f y) → ⊥ = subst (λ z. (y : ℕ) → On y (z ∷ c) → T (f y) → ⊥) h.0 far in
      heard (hidden f m) s t (kept-unit s h.1 (clear s (inl refl)), (c, hide-onward s t c h.2 clear))

  show-onward : (s t : ℕ) (c : List ℕ) → Onward (hidden f m) s c t → Onward m s c t
  show-onward s t [] e = e
  show-onward s t (x ∷ c) h = (shown-pair s x h.0, show-onward x t c h.1)

  -- what is heard where units are hidden is heard
  pub show : (s t : ℕ) → Heard (hidden f m) s t → Heard m s t
  show s t h = let g = goes (hidden f m) s t h in heard m s t (shown-unit s g.0, (g.1.0, show-onward s t g.1.0 g.1.1))

module _ (f : ℕ → Bool) (m : Map) (sound : Sound m) where
  -- the last unit is not a hidden one
  pub last-clear : (s t : ℕ) → Heard (hidden f m) s t → T (f t) → ⊥
  last-clear s t h = clear-unit f m t (heard-last (hidden f m) (hidden-sound f m sound) s t h)

  -- chains on which no unit is marked stay
  pub hide-between : (s t : ℕ) → ((x : ℕ) → Heard m s x → Heard m x t → T (f x) → ⊥) → Heard m s t → Heard (hidden f m) s t
  hide-between s t far (c, h) = hide f m s t c h (λ x o. let p = heard-part m sound s t x c h o in far x p.0 p.1)

-- hidden and turned, in either order
pub hidden-turned-is : (f : ℕ → Bool) (m : Map) → hidden f (turned m) ≡ turned (hidden f m)
hidden-turned-is f m = same_map (hidden f (turned m)) (turned (hidden f m)) (λ k. refl) (λ a b. swap (not (f a)) (not (f b)) (m.pair b a))
  where
    swap : (a b c : Bool) → (a && (b && c)) ≡ (b && (a && c))
    swap true true c = refl
    swap true false c = refl
    swap false true c = refl
    swap false false c = refl

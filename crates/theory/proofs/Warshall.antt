-- Hearing is decided by Warshall's recursion.
use Rattle.std.proofs.Common.{◌≡◌, ℕ, zero, suc, ◌≤◌, Bool, true, false, ◌&&◌, T, eqb, ◌⊎◌, List, [], ◌∷◌, subst, inl, inr, ⊎_elim, arith, eqb→eq}
use lib.Dec.{eqb_refl}
use Rattle.std.proofs.lemmas.Bool.{cases_eq}
use Rattle.theory.specs.Maps.{Map, Sound}
use Rattle.theory.specs.Chains.{Onward, Heard}
use Rattle.theory.specs.Hearing.{reach, is_heard}
use Rattle.theory.specs.Theorems.{HearingDecided}
use Rattle.theory.proofs.Chains.{goes, heard-self, heard-pair, heard-trans, heard-last}
use Rattle.theory.proofs.Tests.{and-fst, and-snd, and_both, or-either, or_fst, or_snd}

-- the step of the recursion, over any tests
abbrev step : Bool → Bool → Bool → Bool → Bool
step here old left right = elim here [ false ↦ old | true ↦ elim old [ true ↦ true | false ↦ elim left [ true ↦ right | false ↦ false ] ] ]

step-from-old : (h o l r : Bool) → T o → T (step h o l r)
step-from-old false o l r t = t
step-from-old true true l r t = tt
step-from-old true false l r t = absurd t

step-from-new : (h o l r : Bool) → T h → T l → T r → T (step h o l r)
step-from-new false o l r t a b = absurd t
step-from-new true true l r t a b = tt
step-from-new true false true r t a b = b
step-from-new true false false r t a b = a

step-parts : (h o l r : Bool) → T (step h o l r) → T o ⊎ (T l × T r)
step-parts false o l r t = inl t
step-parts true true l r t = inl tt
step-parts true false true r t = inr (tt, t)
step-parts true false false r t = absurd t

module _ (m : Map) where
  step-old : (k s t : ℕ) → T (reach m k s t) → T (reach m (suc k) s t)
  unfolding reach
  step-old k s t h = step-from-old (m.unit (suc k)) (reach m k s t) (reach m k s (suc k)) (reach m k (suc k) t) h

  step-cases : (k s t : ℕ) → T (reach m (suc k) s t) → T (reach m k s t) ⊎ (T (reach m k s (suc k)) × T (reach m k (suc k) t))
  unfolding reach
  step-cases k s t h = step-parts (m.unit (suc k)) (reach m k s t) (reach m k s (suc k)) (reach m k (suc k) t) h

module _ (m : Map) (sound : Sound m) where
  -- a test that passes has a chain
  reach-sound : (k s t : ℕ) → T (reach m k s t) → Heard m s t
  unfolding reach
  reach-sound zero s t h =
      ⊎_elim (λ i. subst (λ z. Heard m s z) (eqb→eq s t (and-snd (m.unit s) (eqb s t) i)) (heard-self m s (and-fst (m.unit s) (eqb s t) i)))
      (heard-pair m sound s t)
      (or-either (m.unit s && eqb s t) (m.pair s t) h)
  reach-sound (suc k) s t h =
      ⊎_elim (reach-sound k s t) (λ p. heard-trans m s (suc k) t (reach-sound k s (suc k) p.0) (reach-sound k (suc k) t p.1)) (step-cases m k s t h)

  step-new : (k s t : ℕ) → T (reach m k s (suc k)) → T (reach m k (suc k) t) → T (reach m (suc k) s t)
  unfolding reach
  step-new k s t h i =
      step-from-new (m.unit (suc k)) (reach m k s t) (reach m k s (suc k)) (reach m k (suc k) t) (heard-last m sound s (suc k) (reach-sound k s (suc k) h)) h i

-- reaching goes on through any number up to k: the one induction, and no chain is taken apart
abbrev Through : Map → ℕ → Type 0
Through m k = (w s t : ℕ) → 1 ≤ w → w ≤ k → T (reach m k s w) → T (reach m k w t) → T (reach m k s t)

through-next : (m : Map) → Sound m → (k : ℕ) → Through m k → Through m (suc k)
through-next m sound k ih w s t lo hi h i = go (cases_eq w (suc k)) (step-cases m k s w h) (step-cases m k w t i)
  where
    go : (w ≡ suc k) ⊎ (w ≡ suc k → ⊥) → T (reach m k s w) ⊎ (T (reach m k s (suc k)) × T (reach m k (suc k) w)) → T (reach m k w t) ⊎ (T (reach m k w (suc k)) × T (reach m k (suc k) t)) → T (reach m (suc k) s t)
    go (inl e) a b =
        step-new m sound k s t (⊎_elim (λ x. subst (λ z. T (reach m k s z)) e x) (λ x. x.0) a)
        (⊎_elim (λ x. subst (λ z. T (reach m k z t)) e x) (λ x. x.1) b)
    go (inr ne) (inl a) (inl b) = step-old m k s t (ih w s t lo (omega arith) a b)
    go (inr ne) (inl a) (inr b) = step-new m sound k s t (ih w s (suc k) lo (omega arith) a b.0) b.1
    go (inr ne) (inr a) (inl b) = step-new m sound k s t a.0 (ih w (suc k) t lo (omega arith) a.1 b)
    go (inr ne) (inr a) (inr b) = step-new m sound k s t a.0 b.1

through : (m : Map) → Sound m → (k : ℕ) → Through m k
through m sound zero = λ w s t lo hi h i. absurd (omega arith)
through m sound (suc k) = through-next m sound k (through m sound k)

module _ (m : Map) (sound : Sound m) where
  reach-self : (k s : ℕ) → T (m.unit s) → T (reach m k s s)
  unfolding reach
  reach-self zero s u = or_fst _ _ (and_both _ _ u (eqb_refl s))
  reach-self (suc k) s u = step-old m k s s (reach-self k s u)

  reach-pair : (k s t : ℕ) → T (m.pair s t) → T (reach m k s t)
  unfolding reach
  reach-pair zero s t p = or_snd (m.unit s && eqb s t) _ p
  reach-pair (suc k) s t p = step-old m k s t (reach-pair k s t p)

  -- a chain passes the test where no unit is above k
  reach-onward : (k : ℕ) → ((u : ℕ) → T (m.unit u) → u ≤ k) → (s t : ℕ) (c : List ℕ) → T (m.unit s) → Onward m s c t → T (reach m k s t)
  reach-onward k high s t [] u e = subst (λ z. T (reach m k s z)) e (reach-self k s u)
  reach-onward k high s t (x ∷ c) u h =
      let v = sound.to s x h.0 in
      through m sound k x s t (sound.low x v) (high x v) (reach-pair k s x h.0) (reach-onward k high x t c v h.1)

  pub heard-sound : (s t : ℕ) → T (is_heard m s t) → Heard m s t
  unfolding is_heard
  heard-sound s t h = reach-sound m sound 255 s t h

  pub heard-complete : (s t : ℕ) → Heard m s t → T (is_heard m s t)
  unfolding is_heard
  heard-complete s t h = let g = goes m s t h in reach-onward 255 sound.high s t g.1.0 g.0 g.1.1

pub hearing-decided : HearingDecided
hearing-decided m sound s t = (heard-sound m sound s t, heard-complete m sound s t)

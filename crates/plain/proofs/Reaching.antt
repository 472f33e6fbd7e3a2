-- The number that is told is the fewest pairings over chains: a chain of at most n pairings is what the recursion on n looks for.
use Rattle.std.proofs.Common.{◌≡◌, ℕ, zero, suc, ◌+◌, ◌<◌, ◌≤◌, Bool, true, false, cond, ◌&&◌, T, eqb, List, [], ◌∷◌, length, IfSome, Some, None, Option, sym, refl, ap, ◌∙◌, subst, inl, inr, ⊎_elim, arith, eqb→eq}
use lib.Dec.{eqb_refl}
use Rattle.std.proofs.lemmas.Bool.{cases_Bool, cases_eq}
use Rattle.theory.specs.Maps.{Map, Sound, listed}
use Rattle.theory.specs.Chains.{Onward, On, FewestOrNone}
use Rattle.theory.proofs.Tests.{and-fst, and-snd, and_both, or-either, or_fst, or_snd, passes, passed}
use Rattle.theory.proofs.Maps.{hidden-sound}
use Rattle.theory.proofs.Lists.{listed-on}
use Rattle.plain.specs.Plain.{Plain, map_of}
use Rattle.plain.specs.Reaching.{off, open_map, within, first_number, reach_told}
use Rattle.plain.proofs.Some.{some-on}

-- the first number that passes
pub first_found : (test : ℕ → Bool) (from many n : ℕ) → test n ≡ true → ((j : ℕ) → j < n → test j ≡ false) → from ≤ n → n < from + many → first_number test from many ≡ Some n
unfolding first_number
first_found test from zero n on none low high = absurd (omega arith)
first_found test from (suc many) n on none low high = ⊎_elim
    (λ e. ap (λ (b : Bool). cond b (Some from) (first_number test (suc from) many)) (ap test e ∙ on) ∙ ap (λ (k : ℕ). Some k) e)
    (λ ne. ap (λ (b : Bool). cond b (Some from) (first_number test (suc from) many)) (none from (omega (arith, ne))) ∙ first_found test (suc from) many n on none (omega (arith, ne)) (omega arith))
    (cases_eq from n)

pub first-none : (test : ℕ → Bool) (from many : ℕ) → ((j : ℕ) → test j ≡ false) → first_number test from many ≡ None
unfolding first_number
first-none test from zero none = refl
first-none test from (suc many) none = ap (λ (b : Bool). cond b (Some from) (first_number test (suc from) many)) (none from) ∙ first-none test (suc from) many none

module _ (m : Map) (sound : Sound m) (units : List ℕ) where
  -- what the recursion finds is a chain
  pub within-chain : (n s t : ℕ) → T (within m units n s t) → (c : List ℕ) × T (m.unit s) × Onward m s c t × (length c ≤ n)
  unfolding within
  within-chain zero s t h = ([], and-fst (m.unit s) (eqb s t) h, eqb→eq s t (and-snd (m.unit s) (eqb s t) h), omega arith)
  within-chain (suc n) s t h = ⊎_elim
      (λ p. let r = within-chain n s t p in let short = r.3 in (r.0, r.1, r.2, omega arith))
      (λ p. let (x, o, q) = (some-on (λ x. m.pair s x && within m units n x t) units).0 p in
      let on = and-fst (m.pair s x) (within m units n x t) q in
      let r = within-chain n x t (and-snd (m.pair s x) (within m units n x t) q) in let short = r.3 in
      (x ∷ r.0, sound.from s x on, (on, r.2), omega arith))
      (or-either (within m units n s t) _ h)

  -- and it finds every chain
  pub chain-within : ((x : ℕ) → T (m.unit x) → On x units) → (n s t : ℕ) (c : List ℕ) → T (m.unit s) → Onward m s c t → length c ≤ n → T (within m units n s t)
  unfolding within
  chain-within all zero s t [] on e h = and_both (m.unit s) (eqb s t) on (subst (λ (z : ℕ). T (eqb s z)) e (eqb_refl s))
  chain-within all (suc n) s t [] on e h = or_fst (within m units n s t) _ (chain-within all n s t [] on e (omega arith))
  chain-within all zero s t (x ∷ c) on o h = absurd (omega arith)
  chain-within all (suc n) s t (x ∷ c) on o h =
      let there = sound.to s x o.0 in
      or_snd (within m units n s t) _ ((some-on (λ y. m.pair s y && within m units n y t) units).1
      (x, all x there, and_both (m.pair s x) (within m units n x t) o.0 (chain-within all n x t c there o.1 (omega arith))))

  module _ (all : (x : ℕ) → T (m.unit x) → On x units) (s t : ℕ) where
    far : (n j : ℕ) → FewestOrNone m s t (Some n) → j < n → within m units j s t ≡ false
    far n j few h = elim (cases_Bool (within m units j s t)) [
      | inl on ↦ (let r = within-chain j s t (passes _ on) in let short = r.3 in let long = few.1 (s ∷ r.0) (refl, r.1, r.2) in absurd (omega arith))
      | inr no_way ↦ no_way
    ]

    near : (n : ℕ) → FewestOrNone m s t (Some n) → within m units n s t ≡ true
    near n (([], h, e), none) = absurd h
    near n ((x ∷ c, h, e), none) = passed _ (chain-within all n s t c h.1 h.2 (omega arith))

    never : FewestOrNone m s t None → (j : ℕ) → within m units j s t ≡ false
    never none j = elim (cases_Bool (within m units j s t)) [
      | inl on ↦ (let r = within-chain j s t (passes _ on) in absurd (none (s ∷ r.0) (refl, r.1, r.2)))
      | inr no_way ↦ no_way
    ]

    pub told-fewest : (r : Option ℕ) → FewestOrNone m s t r → IfSome r (λ n. n ≤ 255) → r ≡ first_number (λ n. within m units n s t) 0 256
    told-fewest (Some n) few small = sym (first_found (λ k. within m units k s t) 0 256 n (near n few) (λ j h. far n j few h) (omega arith) (omega arith))
    told-fewest None few small = sym (first-none (λ k. within m units k s t) 0 256 (never few))

-- what is told where the plain book is lawful
pub reach-is : (p : Plain) (sheet : List ℕ) → Sound (map_of p) → (s t : ℕ) (r : Option ℕ) → FewestOrNone (open_map p sheet) s t r → IfSome r (λ n. n ≤ 255) → r ≡ reach_told p s t sheet
unfolding reach_told
reach-is p sheet sound s t r few small =
    told-fewest (open_map p sheet) (hidden-sound (off sheet) (map_of p) sound) p.order (λ x h. (listed-on x p.order).0 (and-snd _ (listed x p.order) h)) s t r few small

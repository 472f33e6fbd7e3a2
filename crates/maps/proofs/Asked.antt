-- A set gathered by asking again for the least member above the last.
use Rattle.std.proofs.Common.{◌≡◌, ℕ, Bool, false, ◌&&◌, leb, inl, inr, arith}
use Rattle.std.proofs.lemmas.Bool.{cases_Bool}
use Rattle.theory.specs.Maps.{Map, Sound}
use Rattle.theory.proofs.Tests.{passes}

-- the set has the members up to c
abbrev pub Gathered : (ℕ → Bool) → ℕ → (ℕ → Bool) → Type 0
Gathered set c p = (k : ℕ) → set k ≡ (leb k c && p k)

-- 0 is no unit, so no member is missed by starting above 0
module _ (m : Map) (sound : Sound m) where
  pub zero_stands_not : m.unit 0 ≡ false
  zero_stands_not = elim (cases_Bool (m.unit 0)) [
    | inl t ↦ let low = sound.low 0 (passes _ t) in absurd (omega arith)
    | inr f ↦ f
  ]

  pub zero_not_listening : (a : ℕ) → m.pair a 0 ≡ false
  zero_not_listening a = elim (cases_Bool (m.pair a 0)) [
    | inl t ↦ let low = sound.low 0 (sound.to a 0 (passes _ t)) in absurd (omega arith)
    | inr f ↦ f
  ]

  pub zero_no_source : (b : ℕ) → m.pair 0 b ≡ false
  zero_no_source b = elim (cases_Bool (m.pair 0 b)) [
    | inl t ↦ let low = sound.low 0 (sound.from 0 b (passes _ t)) in absurd (omega arith)
    | inr f ↦ f
  ]

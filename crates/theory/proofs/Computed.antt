-- The examples compute.
use Rattle.std.proofs.Common.{◌≡◌, ℕ, ◌≤◌, Bool, true, false, not, ◌&&◌, T, List, [], ◌∷◌, length, refl, subst, arith}
use Rattle.theory.specs.Maps.{hidden, listed}
use Rattle.theory.specs.Chains.{Chain, Heard, Fewest}
use Rattle.theory.specs.Hearing.{reach, is_heard}
use Rattle.theory.specs.Labels.{all_units, is_in_label}
use Rattle.theory.specs.Lists.{sum, total, labels_changed}
use Rattle.theory.specs.Examples.{diamond, Examples}

-- no chain from 1 to 4 has fewer than two pairings
past_2 : Fewest (hidden (λ k. listed k (2 ∷ [])) diamond) 1 4 2
past_2 = record { some = (1 ∷ 3 ∷ 4 ∷ [], (refl, tt, (tt, (tt, refl))), refl); none = none }
  where
    none : (c : List ℕ) → Chain (hidden (λ k. listed k (2 ∷ [])) diamond) 1 4 c → 3 ≤ length c
    none [] h = absurd h
    none (x ∷ []) h = let e : ◌≡◌ {A = ℕ} 1 4 = h.2 in absurd (omega arith)
    none (x ∷ y ∷ []) h = absurd (subst (λ z. T ((hidden (λ k. listed k (2 ∷ [])) diamond).pair 1 z)) h.2.1 h.2.0)
    none (x ∷ y ∷ z ∷ c) h = omega arith

-- no pairing leads on from 1 where 2 and 3 are hidden
past_both : Heard (hidden (λ k. listed k (2 ∷ 3 ∷ [])) diamond) 1 4 → ⊥
past_both ([], h) = h
past_both (x ∷ [], h) = let e : ◌≡◌ {A = ℕ} 1 4 = h.2 in omega arith
past_both (x ∷ y ∷ c, h) = never (listed y (2 ∷ 3 ∷ [])) h.2.0
  where
    never : (b : Bool) → T (not b && b) → ⊥
    never true t = t
    never false t = t

pub examples : Examples
unfolding is_in_label is_heard reach all_units sum total labels_changed
examples = record {
  empty = refl;
  lone_hears = tt;
  lone_ins = refl;
  lone_outs = refl;
  diamond_4 = refl;
  diamond_3 = refl;
  diamond_1 = refl;
  diamond_all = refl;
  star_first = refl;
  star_last = refl;
  star_1 = refl;
  star_2 = refl;
  star_3 = refl;
  star_4 = refl;
  star_5 = refl;
  before_drop = refl;
  after_drop = refl;
  drop_changes = refl;
  before_enrol = refl;
  after_enrol = refl;
  enrol_changes = refl;
  ring_4 = refl;
  ring_all = refl;
  past_2 = past_2;
  past_both = past_both;
}

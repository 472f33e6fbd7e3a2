-- What two units share by exact labels is what they share by the definition, and tells whether the one hears the other, and through which highest unit.
use Rattle.std.proofs.Common.{◌≡◌, ℕ, Bool, true, false, ◌&&◌, ◌||◌, T, eqb, ◌↔◌, List, is_some, Some, None, Option, sym, refl, ap, ◌∙◌, subst, ap₂, arith}
use Rattle.theory.specs.Maps.{Map, turned, listed}
use Rattle.theory.specs.Chains.{Heard}
use Rattle.theory.specs.Hearing.{is_heard}
use Rattle.theory.specs.Ranks.{rank_in}
use Rattle.theory.specs.Labels.{Highest, is_in_label}
use Rattle.theory.specs.Lists.{picked, first, in_labels, out_labels, highest_shared}
use Rattle.theory.proofs.Tests.{same_tests}
use Rattle.theory.proofs.Warshall.{hearing-decided}
use Rattle.theory.proofs.Shared.{highest-shared}
use Rattle.labels.specs.declared.Labels.{Labels}
use Rattle.labels.specs.Holding.{Exact}
use Rattle.labels.specs.Asked.{Kept, sharing}
use Rattle.labels.proofs.Picked.{picked_same, listed-picked}

shared-is : (m : Map) (order : List ℕ) (l : Labels) → Exact m order l → (s t : ℕ) → first (picked (sharing l s t) order) ≡ highest_shared m order s t
shared-is m order l exact s t =
    ap first (picked_same (sharing l s t) (λ w. (eqb w s || listed w (out_labels m order s)) && (eqb w t || listed w (in_labels m order t))) order
    (λ w o. ap₂ (λ a b. (eqb w s || a) && (eqb w t || b))
    (exact.outs w s ∙ sym (listed-picked (λ u. is_in_label (turned m) (rank_in order) u s) order w o))
    (exact.ins w t ∙ sym (listed-picked (λ u. is_in_label m (rank_in order) u t) order w o))))

-- an answer that is none exactly where the test fails
some-where : (r : Option ℕ) (b : Bool) (P : Type 0) → (T b ↔ P) → ((r ≡ None) ↔ (P → ⊥)) → is_some r ≡ b
some-where None b P by none = same_tests false b (λ t. absurd t) (λ t. none.0 refl (by.0 t))
some-where (Some x) true P by none = refl
some-where (Some x) false P by none =
    let e : Some x ≡ None = none.1 (λ p. by.1 p) in
    let z : ◌≡◌ {A = ℕ} 0 1 = cc in
    absurd (omega arith)

module _ (order : List ℕ) (l : Labels) (s t : ℕ) (r : Option ℕ) (e : r ≡ first (picked (sharing l s t) order)) where
  pub told-shared : (m : Map) → Exact m order l → r ≡ highest_shared m order s t
  told-shared m exact = e ∙ shared-is m order l exact s t

  module _ (m : Map) (kept : Kept m order l) (us : T (m.unit s)) (ut : T (m.unit t)) where
    pub told-heard : is_some r ≡ is_heard m s t
    told-heard =
        ap is_some (told-shared m kept.exact)
        ∙ some-where (highest_shared m order s t) (is_heard m s t) (Heard m s t) (hearing-decided m kept.sound s t) (highest-shared m kept.sound order kept.orders s t us ut).1

    pub told-highest : (h : ℕ) → (r ≡ Some h) ↔ Highest m (rank_in order) s t h
    told-highest h =
        subst (λ z. (z ≡ Some h) ↔ Highest m (rank_in order) s t h) (sym (told-shared m kept.exact)) ((highest-shared m kept.sound order kept.orders s t us ut).0 h)

-- The in-label condition is decided by its test.
use Rattle.std.proofs.Common.{ℕ, zero, suc, ◌<◌, Bool, true, false, ◌&&◌, T, ltb, leb, ◌↔◌, arith, le→leb, ltb→lt, lt→ltb, leb→le}
use Rattle.theory.specs.Maps.{Map, Sound, turned}
use Rattle.theory.specs.Chains.{Heard}
use Rattle.theory.specs.Hearing.{is_heard}
use Rattle.theory.specs.Labels.{InLabel, all_units, is_in_label}
use Rattle.theory.specs.Theorems.{LabelsDecided}
use Rattle.theory.proofs.Tests.{and-fst, and-snd, and_both, if-use, if-make}
use Rattle.theory.proofs.Maps.{turned-sound}
use Rattle.theory.proofs.Chains.{heard-last}
use Rattle.theory.proofs.Warshall.{heard-sound, heard-complete}
use Rattle.theory.proofs.Least.{below_next}
use Rattle.theory.proofs.Labels.{in-by-hearing}
use Rattle.theory.proofs.Core as core

all-use : (m : Map) (f : ℕ → Bool) (n : ℕ) → T (all_units m n f) → (w : ℕ) → w < n → T (m.unit w) → T (f w)
unfolding all_units
all-use m f zero h = λ w k. absurd (omega arith)
all-use m f (suc n) h = let r = go (m.unit n) h in below_next (λ w. T (m.unit w) → T (f w)) n (all-use m f n r.1) r.0
  where
    go : (b : Bool) → T (elim b [ false ↦ all_units m n f | true ↦ f n && all_units m n f ]) → (T b → T (f n)) × T (all_units m n f)
    go true t = (λ u. and-fst (f n) (all_units m n f) t, and-snd (f n) (all_units m n f) t)
    go false t = (λ u. absurd u, t)

all-make : (m : Map) (f : ℕ → Bool) (n : ℕ) → ((w : ℕ) → w < n → T (m.unit w) → T (f w)) → T (all_units m n f)
unfolding all_units
all-make m f zero h = tt
all-make m f (suc n) h = go (m.unit n) (h n (omega arith)) (all-make m f n (λ w k. h w (omega arith)))
  where
    go : (b : Bool) → (T b → T (f n)) → T (all_units m n f) → T (elim b [ false ↦ all_units m n f | true ↦ f n && all_units m n f ])
    go true here rest = and_both (f n) (all_units m n f) (here tt) rest
    go false here rest = rest

module _ (m : Map) (sound : Sound m) (rank : ℕ → ℕ) (u v : ℕ) where
  -- the last part of the test, at w
  between : ℕ → Bool
  between w = is_heard m u w && is_heard m w v

  passed : T (is_in_label m rank u v) → core.In (Heard m) rank u v
  unfolding is_in_label between
  passed t =
      let a = and-fst (is_heard m u v) _ t in
      let r = and-snd (is_heard m u v) _ t in
      let b = and-fst (ltb (rank u) (rank v)) _ r in
      let c = and-snd (ltb (rank u) (rank v)) _ r in (
        heard-sound m sound u v a,
        ltb→lt (rank u) (rank v) b,
        λ w h k.
            let unit = heard-last m sound u w h in
            let few = sound.high w unit in
            leb→le (rank u) (rank w) (if-use (between w) _ (all-use m _ 256 c w (omega arith) unit) (and_both (is_heard m u w) (is_heard m w v) (heard-complete m sound u w h) (heard-complete m sound w v k))),
      )

  passes : core.In (Heard m) rank u v → T (is_in_label m rank u v)
  unfolding is_in_label between
  passes i =
      and_both (is_heard m u v) _ (heard-complete m sound u v i.0)
      (and_both (ltb (rank u) (rank v)) _ (lt→ltb (rank u) (rank v) i.1)
      (all-make m _ 256 (λ w few unit. if-make (between w) (leb (rank u) (rank w)) (λ b. le→leb (rank u) (rank w)
      (i.2 w (heard-sound m sound u w (and-fst (is_heard m u w) (is_heard m w v) b)) (heard-sound m sound w v (and-snd (is_heard m u w) (is_heard m w v) b)))))))

pub in-decided : (m : Map) → Sound m → (rank : ℕ → ℕ) (u v : ℕ) → T (is_in_label m rank u v) ↔ InLabel m rank u v
in-decided m sound rank u v =
    let by = in-by-hearing m sound rank u v in
    (λ t. by.1 (passed m sound rank u v t), λ l. passes m sound rank u v (by.0 l))

pub labels-decided : LabelsDecided
labels-decided m sound rank u v = (in-decided m sound rank u v, in-decided (turned m) (turned-sound m sound) rank u v)

-- Labels that stay, over any two relations that say the same of what is between two units.
use Rattle.std.proofs.Common.{ℕ, ◌<◌, ◌≤◌, ◌⊎◌, ◌↔◌, inl, inr, arith}
use mathlib.Core.Logic.Iff
use Rattle.std.proofs.lemmas.Bool.{cases_lt}
use Rattle.theory.specs.Maps.{Map, Sound}
use Rattle.theory.specs.Chains.{Heard}
use Rattle.theory.specs.Labels.{InLabel, OutLabel}
use Rattle.theory.proofs.Chains.{heard-self, heard-first, heard-last}
use Rattle.theory.proofs.Labels.{in-by-hearing, out-by-turned}
use Rattle.theory.proofs.Core as core
use Rattle.theory.specs.Changes.{Stay}

-- the units between u and v, and their order, are the same
pub record Same (H : ℕ → ℕ → Type 0) (rank : ℕ → ℕ) (G : ℕ → ℕ → Type 0) (rate : ℕ → ℕ) (u v : ℕ) : Type 0 where
  pub there : (w : ℕ) → H u w → H w v → G u w × G w v
  pub back : (w : ℕ) → G u w → G w v → H u w × H w v
  pub ranks : (s w : ℕ) → H u s → H s v → H u w → H w v → (rank s < rank w) ↔ (rate s < rate w)

module _ (H : ℕ → ℕ → Type 0) (rank : ℕ → ℕ) (G : ℕ → ℕ → Type 0) (rate : ℕ → ℕ) (u v : ℕ) (a : Same H rank G rate u v) where
  same_back : Same G rate H rank u v
  same_back = record {
    there = a.back;
    back = a.there;
    ranks = λ s w p q r t. let i = a.back s p q in let j = a.back w r t in Iff.symm (a.ranks s w i.0 i.1 j.0 j.1);
  }

  same-turned : Same (core.Turned H) rank (core.Turned G) rate v u
  same-turned = record {
    there = λ w q p. let r = a.there w p q in (r.1, r.0);
    back = λ w q p. let r = a.back w p q in (r.1, r.0);
    ranks = λ s w q p t r. a.ranks s w p q r t;
  }

  in-there : H u u → H v v → core.In H rank u v → core.In G rate u v
  in-there hu hv i = ((a.there u hu i.0).1, (a.ranks u v hu i.0 i.0 hv).0 i.1, low)
    where
      low : (w : ℕ) → G u w → G w v → rate u ≤ rate w
      low w p q = go (cases_lt (rate w) (rate u))
        where
          h : H u w × H w v
          h = a.back w p q

          go : (rate w < rate u) ⊎ (rate u ≤ rate w) → rate u ≤ rate w
          go (inl less) = absurd (omega (arith, (a.ranks w u h.0 h.1 hu i.0).1 less, i.2 w h.0 h.1))
          go (inr more) = more

module _ (m n : Map) (sm : Sound m) (sn : Sound n) (rank rate : ℕ → ℕ) (u v : ℕ) (a : Same (Heard m) rank (Heard n) rate u v) where
  pub stays : Stay m rank n rate u v
  stays = (
    (
      λ l. inn.1 (in-there (Heard m) rank (Heard n) rate u v a (first m sm l.heard) (last m sm l.heard) (inm.0 l)),
      λ l. inm.1 (in-there (Heard n) rate (Heard m) rank u v (same_back (Heard m) rank (Heard n) rate u v a) (first n sn l.heard) (last n sn l.heard) (inn.0 l)),
    ),
    (
      λ l. let i = outm.0 l in
          outn.1 (in-there (core.Turned (Heard m)) rank (core.Turned (Heard n)) rate v u (same-turned (Heard m) rank (Heard n) rate u v a) (last m sm i.0) (first m sm i.0) i),
      λ l. let i = outn.0 l in
          outm.1 (in-there (core.Turned (Heard n)) rate (core.Turned (Heard m)) rank v u (same-turned (Heard n) rate (Heard m) rank u v (same_back (Heard m) rank (Heard n) rate u v a)) (last n sn i.0) (first n sn i.0) i),
    ),
  )
    where
      first : (k : Map) → Sound k → Heard k u v → Heard k u u
      first k s h = heard-self k u (heard-first k s u v h)

      last : (k : Map) → Sound k → Heard k u v → Heard k v v
      last k s h = heard-self k v (heard-last k s u v h)

      inm : InLabel m rank u v ↔ core.In (Heard m) rank u v
      inm = in-by-hearing m sm rank u v

      inn : InLabel n rate u v ↔ core.In (Heard n) rate u v
      inn = in-by-hearing n sn rate u v

      outm : OutLabel m rank v u ↔ core.In (core.Turned (Heard m)) rank v u
      outm = out-by-turned m sm rank v u

      outn : OutLabel n rate v u ↔ core.In (core.Turned (Heard n)) rate v u
      outn = out-by-turned n sn rate v u

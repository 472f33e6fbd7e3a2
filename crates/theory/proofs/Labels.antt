-- The labels of a map are those of its hearing: the core at Heard m.
use Rattle.std.proofs.Common.{ℕ, ◌<◌, ◌≤◌, ◌⊎◌, ◌↔◌, List, inl, inr, arith}
use mathlib.Core.Logic.Iff
use mathlib.Core.Logic.{⊎_map}
use native.Mathlib.Decide.{map_dec}
use Rattle.std.proofs.lemmas.Bool.{cases_lt}
use Rattle.theory.specs.Maps.{Map, Sound, turned}
use Rattle.theory.specs.Chains.{Heard}
use Rattle.theory.specs.Hearing.{is_heard}
use Rattle.theory.specs.Ranks.{rank_in, Orders}
use Rattle.theory.specs.Labels.{InLabel, OutLabel, InList, OutList, Highest}
use Rattle.theory.proofs.Tests.{decided}
use Rattle.theory.proofs.Chains.{heard-self, heard-trans, heard-first, heard-last, heard-part, on-joined, heard-turned}
use Rattle.theory.proofs.Maps.{turned-sound}
use Rattle.theory.proofs.Warshall.{heard-sound, heard-complete}
use Rattle.theory.proofs.Ranks.{rank-apart}
use Rattle.theory.proofs.Core as core

-- the labels by hearing alone, with no chains
pub in-by-hearing : (m : Map) → Sound m → (rank : ℕ → ℕ) (u v : ℕ) → InLabel m rank u v ↔ core.In (Heard m) rank u v
in-by-hearing m sound rank u v = (there, back)
  where
    there : InLabel m rank u v → core.In (Heard m) rank u v
    there l = (l.heard, l.higher, low)
      where
        low : (w : ℕ) → Heard m u w → Heard m w v → rank u ≤ rank w
        low w h k = go (cases_lt (rank w) (rank u))
          where
            go : (rank w < rank u) ⊎ (rank u ≤ rank w) → rank u ≤ rank w
            go (inl less) = let r = on-joined m u w v h k in absurd (l.highest r.0 r.1 w r.2 less)
            go (inr more) = more

    back : core.In (Heard m) rank u v → InLabel m rank u v
    back i = record {
      heard = i.0;
      higher = i.1;
      highest = λ c h w o less. let p = heard-part m sound u v w c h o in omega (arith, less, i.2 w p.0 p.1);
    }

-- the out-labels are the labels of the relation turned
pub out-by-turned : (m : Map) → Sound m → (rank : ℕ → ℕ) (u v : ℕ) → OutLabel m rank u v ↔ core.In (core.Turned (Heard m)) rank u v
out-by-turned m sound rank u v =
    let by = in-by-hearing (turned m) (turned-sound m sound) rank u v in
    let same = heard-turned m sound in (
      λ l. core.in-same (Heard (turned m)) (core.Turned (Heard m)) rank same u v (by.0 l),
      λ i. by.1 (core.in-same (core.Turned (Heard m)) (Heard (turned m)) rank (λ s t. Iff.symm (same s t)) u v i),
    )

pub hearing-of : (m : Map) → Sound m → (order : List ℕ) → Orders m order → core.Hearing (Heard m) (rank_in order)
hearing-of m sound order orders = record {
  first = λ s t h. heard-self m s (heard-first m sound s t h);
  last = λ s t h. heard-self m t (heard-last m sound s t h);
  trans = heard-trans m;
  dec = λ s t. map_dec (heard-sound m sound s t) (heard-complete m sound s t) (decided (is_heard m s t));
  bound = λ u h. let k = sound.high u (heard-first m sound u u h) in omega arith;
  apart = λ u w h k e. rank-apart order u w (orders.every u (heard-first m sound u u h)) e;
}

-- a label in a list, there and back
module _ (m : Map) (sound : Sound m) (rank : ℕ → ℕ) where
  pub in-listed : (x v : ℕ) → InList m rank x v ↔ core.Listed (Heard m) rank x v
  in-listed x v = let by = in-by-hearing m sound rank x v in (⊎_map by.0 (λ e. e), ⊎_map by.1 (λ e. e))

  pub out_listed : (x v : ℕ) → OutList m rank x v ↔ core.Listed (core.Turned (Heard m)) rank x v
  out_listed x v = let by = out-by-turned m sound rank x v in (⊎_map by.0 (λ e. e), ⊎_map by.1 (λ e. e))

-- the highest unit on chains is the highest between
pub highest-top : (m : Map) → Sound m → (rank : ℕ → ℕ) (s t h : ℕ) → Highest m rank s t h ↔ core.Top (Heard m) rank s t h
highest-top m sound rank s t h = (there, back)
  where
    there : Highest m rank s t h → core.Top (Heard m) rank s t h
    there top = let p = heard-part m sound s t h top.on.0 top.on.1 top.on.2 in (p.0, p.1, low)
      where
        low : (w : ℕ) → Heard m s w → Heard m w t → rank h ≤ rank w
        low w a b = go (cases_lt (rank w) (rank h))
          where
            go : (rank w < rank h) ⊎ (rank h ≤ rank w) → rank h ≤ rank w
            go (inl less) = let r = on-joined m s w t a b in absurd (top.none r.0 r.1 w r.2 less)
            go (inr more) = more

    back : core.Top (Heard m) rank s t h → Highest m rank s t h
    back (a, b, low) = record {
      on = on-joined m s h t a b;
      none = λ c k w o less. let p = heard-part m sound s t w c k o in omega (arith, less, low w p.0 p.1);
    }

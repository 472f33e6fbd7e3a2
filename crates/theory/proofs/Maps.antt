-- Maps that answer alike are one map, and what the layers keep.
use Rattle.std.proofs.Common.{◌≡◌, ℕ, ◌≤◌, Bool, not, ◌&&◌, T, eqb, List, sym, ⊎_elim, arith, eqb→eq}
use Rattle.theory.specs.Maps.{Map, Sound, with_unit, turned, hidden}
use Rattle.theory.specs.Ranks.{Orders}
use Rattle.theory.proofs.Tests.{and-fst, and-snd, and_both, or-either, or_snd}

pub same_map : (m n : Map) → ((k : ℕ) → m.unit k ≡ n.unit k) → ((x y : ℕ) → m.pair x y ≡ n.pair x y) → m ≡ n
same_map m n units pairings = λ i. record { unit = λ k. units k i; pair = λ x y. pairings x y i }

pub with-unit-sound : (m : Map) → Sound m → (u : ℕ) → 1 ≤ u → u ≤ 255 → Sound (with_unit u m)
with-unit-sound m s u low high = record {
  low = λ k t. ⊎_elim (λ e. let same = eqb→eq k u e in omega arith) (s.low k) (or-either (eqb k u) (m.unit k) t);
  high = λ k t. ⊎_elim (λ e. let same = eqb→eq k u e in omega arith) (s.high k) (or-either (eqb k u) (m.unit k) t);
  from = λ a b p. or_snd (eqb a u) (m.unit a) (s.from a b p);
  to = λ a b p. or_snd (eqb b u) (m.unit b) (s.to a b p);
  apart = s.apart;
}

pub turned-sound : (m : Map) → Sound m → Sound (turned m)
turned-sound m s = record {
  low = s.low;
  high = s.high;
  from = λ a b. s.to b a;
  to = λ a b. s.from b a;
  apart = λ a b p e. s.apart b a p (sym e);
}

pub turned-orders : (m : Map) (order : List ℕ) → Orders m order → Orders (turned m) order
turned-orders m order o = record { every = o.every; only = o.only; once = o.once }

pub hidden-sound : (marked : ℕ → Bool) (m : Map) → Sound m → Sound (hidden marked m)
hidden-sound marked m s = record {
  low = λ u t. s.low u (and-snd (not (marked u)) (m.unit u) t);
  high = λ u t. s.high u (and-snd (not (marked u)) (m.unit u) t);
  from = λ a b t. and_both (not (marked a)) (m.unit a) (from-free a b t) (s.from a b (below a b t));
  to = λ a b t. and_both (not (marked b)) (m.unit b) (to_free a b t) (s.to a b (below a b t));
  apart = λ a b t. s.apart a b (below a b t);
}
  where
    from-free : (a b : ℕ) → T ((hidden marked m).pair a b) → T (not (marked a))
    from-free a b t = and-fst (not (marked a)) (not (marked b) && m.pair a b) t

    rest : (a b : ℕ) → T ((hidden marked m).pair a b) → T (not (marked b) && m.pair a b)
    rest a b t = and-snd (not (marked a)) (not (marked b) && m.pair a b) t

    to_free : (a b : ℕ) → T ((hidden marked m).pair a b) → T (not (marked b))
    to_free a b t = and-fst (not (marked b)) (m.pair a b) (rest a b t)

    below : (a b : ℕ) → T ((hidden marked m).pair a b) → T (m.pair a b)
    below a b t = and-snd (not (marked b)) (m.pair a b) (rest a b t)

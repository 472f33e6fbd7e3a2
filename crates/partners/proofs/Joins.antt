-- Pairings go into a map one after the other: none is refused, and together they are those of a unit that is enrolled.
use Rattle.std.proofs.Common.{◌≡◌, ℕ, ◌+◌, ◌<◌, ◌≤◌, Bool, false, ◌&&◌, ◌||◌, T, eqb, List, [], ◌∷◌, length, get_or, drop, None, sym, refl, ap, ◌∙◌, subst, inl, inr, ⊎_elim, arith}
use mathlib.Core.Bool.{and-or_distrib_left, and-or_distrib_right}
use lib.Dec.{eqb_refl}
use Rattle.std.proofs.lemmas.List.{at_drop_more, at_drop_all}
use Rattle.std.proofs.lemmas.Bool.{ne_eqb, or_from, or_parts, and_right, cases_Bool}
use Rattle.std.proofs.lemmas.Bool.Decides.{nat_tests}
use Rattle.theory.specs.Maps.{Map, Sound, with_unit, with_pair, listed, enrolled}
use Rattle.theory.specs.Chains.{On}
use Rattle.theory.specs.Counts.{pair_count}
use Rattle.theory.specs.Changes.{New}
use Rattle.theory.proofs.Tests.{passes, passed, or_fst, or_snd}
use Rattle.theory.proofs.Maps.{same_map, with-unit-sound}
use Rattle.theory.proofs.Counting.{other-pair, pair-count-with, pair-count-same}
use Rattle.theory.proofs.Distinct.{off-from-listed}
use Rattle.theory.proofs.Frames.{with-pair-sound}
use Rattle.plain.specs.Lists.{some, doubled}
use Rattle.maps.specs.Changes.{join_cause}
use Rattle.partners.specs.Joins.{Differing, joined, Joinable}

-- what a loop keeps: the rest of the list can be joined
pub record Joining (room : ℕ) (p : ℕ → ℕ × ℕ) (us : List ℕ) (m : Map) : Type 0 where
  pub sound : Sound m
  pub able : Joinable room p us m
  pub differing : Differing p

module _ (room : ℕ) (p : ℕ → ℕ × ℕ) (differing : Differing p) where
  here : (u : ℕ) (us : List ℕ) (m : Map) → Joinable room p (u ∷ us) m → join_cause m room (p u).0 (p u).1 ≡ None
  here u us m j =
      let few = j.fits in
      rw (passed _ (j.from u (inl refl)), passed _ (j.to u (inl refl)), ne_eqb (p u).0 (p u).1 (j.apart u (inl refl)), j.free u (inl refl), ne_eqb (pair_count m) room (λ z. omega arith))

  one_more : (u : ℕ) (us : List ℕ) (m : Map) → Sound m → Joinable room p (u ∷ us) m → pair_count (with_pair (p u).0 (p u).1 m) ≡ pair_count m + 1
  one_more u us m sound j =
      let ha = sound.high (p u).0 (j.from u (inl refl)) in
      let hb = sound.high (p u).1 (j.to u (inl refl)) in
      pair-count-with m (with_pair (p u).0 (p u).1 m) (p u).0 (p u).1 (omega arith) (omega arith) (λ x y. refl) (j.free u (inl refl))

  next : (u : ℕ) (us : List ℕ) (m : Map) → Sound m → Joinable room p (u ∷ us) m → Joinable room p us (with_pair (p u).0 (p u).1 m)
  next u us m sound j =
      let singly = or_parts (listed u us) (doubled us) j.once in
      let few = j.fits in
      let more = one_more u us m sound j in
      record {
        from = λ w o. j.from w (inr o);
        to = λ w o. j.to w (inr o);
        apart = λ w o. j.apart w (inr o);
        free = λ w o. or_from (eqb (p w).0 (p u).0 && eqb (p w).1 (p u).1) (m.pair (p w).0 (p w).1)
            (other-pair (p w).0 (p w).1 (p u).0 (p u).1 (λ e f. off-from-listed u us singly.0 (subst (λ z. On z us) (differing w u e f) o))) (j.free w (inr o));
        once = singly.1;
        fits = omega arith;
      }

  next-sound : (u : ℕ) (us : List ℕ) (m : Map) → Sound m → Joinable room p (u ∷ us) m → Sound (with_pair (p u).0 (p u).1 m)
  next-sound u us m sound j = with-pair-sound m sound (p u).0 (p u).1 (j.from u (inl refl)) (j.to u (inl refl)) (j.apart u (inl refl))

  counted : (us : List ℕ) (m : Map) → Sound m → Joinable room p us m → pair_count (joined p us m) ≡ pair_count m + length us
  counted [] m sound j = omega arith
  counted (u ∷ us) m sound j =
      let rest = counted us (with_pair (p u).0 (p u).1 m) (next-sound u us m sound j) (next u us m sound j) in
      let more = one_more u us m sound j in
      omega arith

-- at a place of the list
module _ (room : ℕ) (p : ℕ → ℕ × ℕ) (us : List ℕ) (i : ℕ) (m : Map) where
  pub join-granted : Joining room p (drop i us) m → i < length us → join_cause m room (p (get_or us i 0)).0 (p (get_or us i 0)).1 ≡ None
  join-granted kept h =
      here room p kept.differing (get_or us i 0) (drop (i + 1) us) m (subst (λ xs. Joinable room p xs m) (at_drop_more (λ xs. xs) us i 0 h) kept.able)

  pub join_more : (n : Map) → n ≡ with_pair (p (get_or us i 0)).0 (p (get_or us i 0)).1 m → i < length us → Joining room p (drop i us) m → Joining room p (drop (i + 1) us) n
  join_more n e h kept =
      let u = get_or us i 0 in
      let rest = drop (i + 1) us in
      let able = subst (λ xs. Joinable room p xs m) (at_drop_more (λ xs. xs) us i 0 h) kept.able in
      subst (Joining room p rest) (sym e) (record {
        sound = next-sound room p kept.differing u rest m kept.sound able;
        able = next room p kept.differing u rest m kept.sound able;
        differing = kept.differing;
      })

  pub done_more : (n whole : Map) → n ≡ with_pair (p (get_or us i 0)).0 (p (get_or us i 0)).1 m → i < length us → joined p (drop i us) m ≡ whole → joined p (drop (i + 1) us) n ≡ whole
  done_more n whole e h done = ap (joined p (drop (i + 1) us)) e ∙ sym (at_drop_more (λ xs. joined p xs m) us i 0 h) ∙ done

  pub done-end : (whole : Map) → length us ≤ i → joined p (drop i us) m ≡ whole → m ≡ whole
  done-end whole h done = sym (at_drop_all (λ xs. joined p xs m) us i h) ∙ done

-- what the pairings of a list make of a map
module _ (p : ℕ → ℕ × ℕ) where
  pub units-told : (us : List ℕ) (m : Map) (k : ℕ) → (joined p us m).unit k ≡ m.unit k
  units-told [] m k = refl
  units-told (u ∷ us) m k = units-told us (with_pair (p u).0 (p u).1 m) k

  pairs-told : (us : List ℕ) (m : Map) (x y : ℕ) → (joined p us m).pair x y ≡ (some (λ u. eqb x (p u).0 && eqb y (p u).1) us || m.pair x y)
  pairs-told [] m x y = refl
  pairs-told (u ∷ us) m x y = pairs-told us (with_pair (p u).0 (p u).1 m) x y ∙ swapped (some (λ w. eqb x (p w).0 && eqb y (p w).1) us) (eqb x (p u).0 && eqb y (p u).1) (m.pair x y)
    where
      swapped : (s h q : Bool) → (s || (h || q)) ≡ ((h || s) || q)
      swapped s h q = grind (arith, nat_tests)

from-listed : (x y v : ℕ) (us : List ℕ) → some (λ u. eqb x u && eqb y v) us ≡ (listed x us && eqb y v)
from-listed x y v [] = refl
from-listed x y v (u ∷ us) = ap (λ t. (eqb x u && eqb y v) || t) (from-listed x y v us) ∙ sym (and-or_distrib_right (eqb x u) (listed x us) (eqb y v))

to-listed : (x y v : ℕ) (us : List ℕ) → some (λ u. eqb x v && eqb y u) us ≡ (eqb x v && listed y us)
to-listed x y v [] = sym (and_right (eqb x v) false refl)
to-listed x y v (u ∷ us) = ap (λ t. (eqb x v && eqb y u) || t) (to-listed x y v us) ∙ sym (and-or_distrib_left (eqb x v) (eqb y u) (listed y us))

-- with a unit that is put in they make the map where it is enrolled
pub attached : (m : Map) (v : ℕ) (sources listeners : List ℕ) → joined (λ t. (v, t)) listeners (joined (λ s. (s, v)) sources (with_unit v m)) ≡ enrolled v sources listeners m
attached m v sources listeners =
    let half = joined (λ s. (s, v)) sources (with_unit v m) in
    same_map (joined (λ t. (v, t)) listeners half) (enrolled v sources listeners m)
    (λ k. units-told (λ t. (v, t)) listeners half k ∙ units-told (λ s. (s, v)) sources (with_unit v m) k)
    (λ x y. pairs-told (λ t. (v, t)) listeners half x y
    ∙ gathered (some (λ t. eqb x v && eqb y t) listeners) (eqb x v && listed y listeners) (half.pair x y) (some (λ s. eqb x s && eqb y v) sources) (listed x sources && eqb y v) (m.pair x y)
    (to-listed x y v listeners) (pairs-told (λ s. (s, v)) sources (with_unit v m) x y) (from-listed x y v sources))
  where
    gathered : (t l h s k p : Bool) → t ≡ l → h ≡ (s || p) → s ≡ k → (t || h) ≡ ((k || l) || p)
    gathered t l h s k p f g e = grind (arith, nat_tests)

-- a unit is put in, and joined to its sources and then to its listeners: it can be
module _ (room : ℕ) (m : Map) (sound : Sound m) (v : ℕ) (sources listeners : List ℕ) (new : New m v sources listeners) (once : (doubled sources ≡ false) × (doubled listeners ≡ false))
    (fits : pair_count m + length sources + length listeners ≤ room) where
  other : (u : ℕ) → T (m.unit u) → u ≡ v → ⊥
  other u t e = new.fresh (subst (λ z. T (m.unit z)) e t)

  unpaired : (x y : ℕ) → (T (m.pair x y) → T (m.unit v)) → m.pair x y ≡ false
  unpaired x y f = ⊎_elim (λ t. absurd (new.fresh (f (passes (m.pair x y) t)))) (λ e. e) (cases_Bool (m.pair x y))

  abbrev Put : Map
  Put = with_unit v m

  there : T (Put.unit v)
  there = or_fst (eqb v v) (m.unit v) (eqb_refl v)

  pub sources-able : Joinable room (λ s. (s, v)) sources (with_unit v m)
  sources-able = record {
    from = λ u o. or_snd (eqb u v) (m.unit u) (new.from u o);
    to = λ u o. there;
    apart = λ u o. other u (new.from u o);
    free = λ u o. unpaired u v (sound.to u v);
    once = once.0;
    fits = let same = pair-count-same Put m (λ x y. refl) in omega arith;
  }

  pub listeners-able : Joinable room (λ t. (v, t)) listeners (joined (λ s. (s, v)) sources (with_unit v m))
  listeners-able = record {
    from = λ u o. subst T (sym (units-told (λ s. (s, v)) sources Put v)) there;
    to = λ u o. subst T (sym (units-told (λ s. (s, v)) sources Put u)) (or_snd (eqb u v) (m.unit u) (new.to u o));
    apart = λ u o e. other u (new.to u o) (sym e);
    free = λ u o. pairs-told (λ s. (s, v)) sources Put v u
        ∙ or_from _ _ (from-listed v u v sources ∙ and_right (listed v sources) (eqb u v) (ne_eqb u v (other u (new.to u o)))) (unpaired v u (sound.from v u));
    once = once.1;
    fits =
        let same = pair-count-same Put m (λ x y. refl) in
        let half = counted room (λ s. (s, v)) (λ u w e f. e) sources Put (with-unit-sound m sound v new.low new.high) sources-able in
        omega arith;
  }

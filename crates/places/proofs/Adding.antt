-- Pairings go into a map one after the other, for the units of a list from its start.
use Rattle.std.proofs.Common.{◌≡◌, ℕ, ◌+◌, ◌<◌, ◌≤◌, true, T, eqb, ◌≢◌, List, length, get_or, drop, sym, ap, ◌∙◌, subst}
use lib.Dec.{eqb_refl}
use Rattle.std.proofs.lemmas.List.{at_drop_more, at_drop_all}
use Rattle.theory.specs.Maps.{Map, with_unit, with_pair, enrolled}
use Rattle.theory.specs.Changes.{New}
use Rattle.theory.proofs.Tests.{passed, or_fst, or_snd}
use Rattle.theory.proofs.Distinct.{on-at}
use Rattle.places.specs.Trials.{Addable}
use Rattle.partners.specs.Joins.{joined}
use Rattle.partners.proofs.Joins.{units-told, attached}

module _ (p : ℕ → ℕ × ℕ) (us : List ℕ) (i : ℕ) (old now : Map) where
  -- the rest of the list gives the whole
  pub adding-more : (new : Map) → new ≡ with_pair (p (get_or us i 0)).0 (p (get_or us i 0)).1 now → i < length us → joined p (drop i us) now ≡ joined p us old → joined p (drop (i + 1) us) new ≡ joined p us old
  adding-more new e h done = ap (joined p (drop (i + 1) us)) e ∙ sym (at_drop_more (λ xs. joined p xs now) us i 0 h) ∙ done

  pub adding-all : length us ≤ i → joined p (drop i us) now ≡ joined p us old → now ≡ joined p us old
  adding-all h done = sym (at_drop_all (λ xs. joined p xs now) us i h) ∙ done

  -- and each pairing can be added, since the units stay
  pub adding-able : Addable p us old → ((k : ℕ) → now.unit k ≡ old.unit k) → i < length us →
      (now.unit (p (get_or us i 0)).0 ≡ true) × ((now.unit (p (get_or us i 0)).1 ≡ true) × ((p (get_or us i 0)).0 ≢ (p (get_or us i 0)).1))
  adding-able able same h =
      let r = able (get_or us i 0) (on-at us i h) in
      (same _ ∙ passed _ r.0, (same _ ∙ passed _ r.1, r.2))

-- a unit that is put in and joined to its partners
module _ (m copy put : Map) (v : ℕ) (sources listeners : List ℕ) (new : New m v sources listeners) (same : copy ≡ m) (is : put ≡ with_unit v copy) where
  there : put ≡ with_unit v m
  there = is ∙ ap (with_unit v) same

  pub put-unit : T (put.unit v)
  put-unit = subst (λ (n : Map). T (n.unit v)) (sym there) (or_fst (eqb v v) (m.unit v) (eqb_refl v))

  old-unit : (u : ℕ) → T (m.unit u) → T (put.unit u) × (u ≢ v)
  old-unit u t = (subst (λ (n : Map). T (n.unit u)) (sym there) (or_snd (eqb u v) (m.unit u) t), λ e. new.fresh (subst (λ (z : ℕ). T (m.unit z)) e t))

  pub sources-there : Addable (λ s. (s, v)) sources put
  sources-there s o = let r = old-unit s (new.from s o) in (r.0, put-unit, r.1)

  module _ (half : Map) (then : half ≡ joined (λ s. (s, v)) sources put) where
    kept-unit : (u : ℕ) → T (put.unit u) → T (half.unit u)
    kept-unit u t = subst T (sym (ap (λ (n : Map). n.unit u) then ∙ units-told (λ s. (s, v)) sources put u)) t

    pub listeners-there : Addable (λ t. (v, t)) listeners half
    listeners-there t o = let r = old-unit t (new.to t o) in (kept-unit v put-unit, kept-unit t r.0, λ e. r.1 (sym e))

    pub copy-enrolled : (whole : Map) → whole ≡ joined (λ t. (v, t)) listeners half → whole ≡ enrolled v sources listeners m
    copy-enrolled whole e = e ∙ ap (joined (λ t. (v, t)) listeners) (then ∙ ap (joined (λ s. (s, v)) sources) there) ∙ attached m v sources listeners

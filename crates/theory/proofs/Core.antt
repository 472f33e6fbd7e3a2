-- Labels over any decidable relation that is transitive, and reflexive where it holds at all.
-- H s t says that t hears s; H u u that u is a unit.
use Rattle.std.proofs.Common.{◌≡◌, ℕ, ◌<◌, ◌≤◌, ◌≢◌, ◌⊎◌, ◌↔◌, sym, ap, subst, inl, inr, arith}
use Rattle.std.proofs.lemmas.Bool.{cases_eq}
use Rattle.theory.proofs.Least.{Search, least}

pub record Hearing (H : ℕ → ℕ → Type 0) (rank : ℕ → ℕ) : Type 0 where
  pub first : (s t : ℕ) → H s t → H s s
  pub last : (s t : ℕ) → H s t → H t t
  pub trans : (s x t : ℕ) → H s x → H x t → H s t
  pub dec : (s t : ℕ) → Dec (H s t)
  pub bound : (u : ℕ) → H u u → u < 256
  pub apart : (u w : ℕ) → H u u → H w w → rank u ≡ rank w → u ≡ w

abbrev pub Turned : (ℕ → ℕ → Type 0) → ℕ → ℕ → Type 0
Turned H s t = H t s

pub turned-hearing : (H : ℕ → ℕ → Type 0) (rank : ℕ → ℕ) → Hearing H rank → Hearing (Turned H) rank
turned-hearing H rank h = record {
  first = λ s t. h.last t s;
  last = λ s t. h.first t s;
  trans = λ s x t a b. h.trans t x s b a;
  dec = λ s t. h.dec t s;
  bound = h.bound;
  apart = h.apart;
}

-- u is an in-label of v
abbrev pub In : (ℕ → ℕ → Type 0) → (ℕ → ℕ) → ℕ → ℕ → Type 0
In H rank u v = H u v × (rank u < rank v) × ((w : ℕ) → H u w → H w v → rank u ≤ rank w)

-- u is in the list of v: an in-label of it, or v itself
abbrev pub Listed : (ℕ → ℕ → Type 0) → (ℕ → ℕ) → ℕ → ℕ → Type 0
Listed H rank u v = In H rank u v ⊎ (u ≡ v)

-- the lists of s, for what hears it, and of t, for what it hears, have a unit in common
abbrev pub Shared : (ℕ → ℕ → Type 0) → (ℕ → ℕ) → ℕ → ℕ → Type 0
Shared H rank s t = (x : ℕ) × Listed (Turned H) rank x s × Listed H rank x t

-- x is the highest between s and t
abbrev pub Top : (ℕ → ℕ → Type 0) → (ℕ → ℕ) → ℕ → ℕ → ℕ → Type 0
Top H rank s t x = H s x × H x t × ((w : ℕ) → H s w → H w t → rank x ≤ rank w)

module _ (H : ℕ → ℕ → Type 0) (rank : ℕ → ℕ) (h : Hearing H rank) where
  between-dec : (s t w : ℕ) → Dec (H s w × H w t)
  between-dec s t w = both (h.dec s w) (h.dec w t)
    where
      both : Dec (H s w) → Dec (H w t) → Dec (H s w × H w t)
      both (yes a) (yes b) = yes (a, b)
      both (yes a) (no b) = no (λ p. b p.1)
      both (no a) d = no (λ p. a p.0)

  -- what is highest between s and t is t or an in-label of it
  top_in : (s t x : ℕ) → Top H rank s t x → Listed H rank x t
  top_in s t x (a, b, low) = go (cases_eq x t)
    where
      go : (x ≡ t) ⊎ (x ≡ t → ⊥) → Listed H rank x t
      go (inl e) = inr e
      go (inr ne) =
          let le = low t (h.trans s x t a b) (h.last x t b) in
          let differ : rank x ≢ rank t = λ e. ne (h.apart x t (h.last s x a) (h.last x t b) e) in
          inl (b, omega arith, λ w p q. low w (h.trans s x w a p) q)

  pub hears-listed : (x t : ℕ) → H t t → Listed H rank x t → H x t
  hears-listed x t u (inl i) = i.0
  hears-listed x t u (inr e) = subst (λ z. H z t) (sym e) u

module _ (H : ℕ → ℕ → Type 0) (rank : ℕ → ℕ) where
  -- an in-label struck from v's list leaves that list and u's with none in common
  pub struck : (u v : ℕ) → In H rank u v → (x : ℕ) → Listed (Turned H) rank x u → (In H rank x v × (x ≢ u)) ⊎ (x ≡ v) → ⊥
  struck u v l x (inl o) (inl (i, ne)) = omega (arith, l.2 x o.0 i.0, o.1)
  struck u v l x (inl o) (inr e) = omega (arith, o.1, l.1, ap rank e)
  struck u v l x (inr e) (inl (i, ne)) = ne e
  struck u v l x (inr e) (inr k) = omega (arith, l.1, ap rank e, ap rank k)

module _ (H : ℕ → ℕ → Type 0) (rank : ℕ → ℕ) (h : Hearing H rank) where
  pub top-listed : (s t x : ℕ) → Top H rank s t x → Listed (Turned H) rank x s × Listed H rank x t
  top-listed s t x (a, b, low) = (top_in (Turned H) rank (turned-hearing H rank h) t s x (b, a, λ w q p. low w p q), top_in H rank h s t x (a, b, low))

  pub top : (s t : ℕ) → H s t → (x : ℕ) × Top H rank s t x
  top s t k = go (least (λ w. H s w × H w t) rank (between-dec H rank h s t) 256)
    where
      go : Search (λ w. H s w × H w t) rank 256 → (x : ℕ) × Top H rank s t x
      go (inl none) = absurd (none s (h.bound s (h.first s t k)) (h.first s t k, k))
      go (inr (x, (a, b), low)) = (x, (a, b, λ w p q. low w (h.bound w (h.last s w p)) (p, q)))

  pub cover : (s t : ℕ) → H s s → H t t → Shared H rank s t ↔ H s t
  cover s t us ut = (
    λ (x, o, i). h.trans s x t (hears-listed (Turned H) rank (turned-hearing H rank h) x s us o) (hears-listed H rank h x t ut i),
    λ k. let r = top s t k in let both = top-listed s t r.0 r.1 in (r.0, both.0, both.1),
  )

  -- the highest of the shared units is the highest between
  pub shared-top : (s t x : ℕ) → H s s → H t t → Listed (Turned H) rank x s → Listed H rank x t → ((y : ℕ) → Listed (Turned H) rank y s → Listed H rank y t → rank x ≤ rank y) → Top H rank s t x
  shared-top s t x us ut o i low =
      let a = hears-listed (Turned H) rank (turned-hearing H rank h) x s us o in
      let b = hears-listed H rank h x t ut i in
      let r = top s t (h.trans s x t a b) in
      let both = top-listed s t r.0 r.1 in
      (a, b, λ w p q. omega (arith, low r.0 both.0 both.1, r.1.2 w p q))

-- Relations that hold of the same pairs have the same labels.
pub in-same : (H G : ℕ → ℕ → Type 0) (rank : ℕ → ℕ) → ((s t : ℕ) → H s t ↔ G s t) → (u v : ℕ) → In H rank u v → In G rank u v
in-same H G rank e u v i = ((e u v).0 i.0, i.1, λ w p q. i.2 w ((e u w).1 p) ((e w v).1 q))

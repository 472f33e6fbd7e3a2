-- A ring is a pairing and a chain back, so a change is judged by the hearing between the ends of each pairing.
use Rattle.std.proofs.Common.{◌≡◌, ℕ, Bool, T, eqb, ◌≢◌, ◌⊎◌, ◌↔◌, List, [], ◌∷◌, refl, subst, inl, inr, ⊎_elim, arith, eqb→eq}
use Rattle.theory.specs.Maps.{Map, Sound, nothing, with_pair, without_pair, hidden, enrolled}
use Rattle.theory.specs.Chains.{On, Heard, NoRing}
use Rattle.theory.specs.Changes.{New}
use Rattle.theory.specs.Rings.{RingsKeptOut}
use Rattle.theory.proofs.Maps.{hidden-sound}
use Rattle.theory.proofs.Chains.{heard, heard-trans, heard-pair, goes}
use Rattle.theory.proofs.HiddenUnits.{shown-pair, show, hide-between}
use Rattle.theory.proofs.Frames.{Extra, detour, heard-up, with-pair-sound, with-pair-extra, with-pair-here, without-pair-sound, without-pair-extra}
use Rattle.theory.proofs.Enrols.{enrolled-sound, enrolled-cases, enrolled-dropped, source-pair, listener-pair, old-heard, heard-new, new-heard}

-- no unit hears a listener of its own
abbrev Clear : Map → Type 0
Clear m = (a b : ℕ) → T (m.pair a b) → Heard m b a → ⊥

by_pairings : (m : Map) → Sound m → NoRing m ↔ Clear m
by_pairings m sound = (there, back)
  where
    there : NoRing m → Clear m
    there none a b p h = let g = goes m b a h in none a (a ∷ b ∷ g.1.0) ((refl, sound.from a b p, (p, g.1.1)), omega arith)

    back : Clear m → NoRing m
    back clear u [] (h, long) = h
    back clear u (x ∷ []) (h, long) = omega arith
    back clear u (x ∷ y ∷ c) (h, long) = let p = h.2.0 in clear u y p (heard m y u (sound.to u y p, (c, h.2.1)))

-- a map with the pairing of a to b over another one
module _ (big small : Map) (sb : Sound big) (ss : Sound small) (a b : ℕ) (extra : Extra big small a b) where
  extra-clear : Clear small → (Heard small b a → ⊥) → Clear big
  extra-clear clear far x y p h = go (extra.pair-down x y p) (detour big small sb ss a b extra y x h)
    where
      go : T (small.pair x y) ⊎ ((x ≡ a) × (y ≡ b)) → Heard small y x ⊎ (Heard small y a × Heard small b x) → ⊥
      go (inl q) (inl k) = clear x y q k
      go (inl q) (inr (k, j)) = far (heard-trans small b x a j (heard-trans small x y a (heard-pair small ss x y q) k))
      go (inr (e, g)) (inl k) = far (subst (λ z. Heard small z a) g (subst (λ z. Heard small y z) e k))
      go (inr (e, g)) (inr (k, j)) = far (subst (λ z. Heard small z a) g k)

  less-clear : Clear big → Clear small
  less-clear clear x y p h = clear x y (extra.pair-up x y p) (heard-up big small sb ss a b extra y x h)

pair-ring : (m : Map) → Sound m → NoRing m → (a b : ℕ) → T (m.unit a) → T (m.unit b) → a ≢ b → NoRing (with_pair a b m) ↔ (Heard m b a → ⊥)
pair-ring m sound none a b ua ub ne = (
  λ free h. (by_pairings n sn).0 free a b (with-pair-here m a b) (heard-up n m sn sound a b e b a h),
  λ far. (by_pairings n sn).1 (extra-clear n m sn sound a b e ((by_pairings m sound).0 none) far),
)
  where
    n : Map
    n = with_pair a b m

    sn : Sound (with_pair a b m)
    sn = with-pair-sound m sound a b ua ub ne

    e : Extra (with_pair a b m) m a b
    e = with-pair-extra m sound a b ua ub ne

unpair-ring : (m : Map) → Sound m → NoRing m → (a b : ℕ) → NoRing (without_pair a b m)
unpair-ring m sound none a b =
    let sn = without-pair-sound m sound a b in
    (by_pairings (without_pair a b m) sn).1 (less-clear m (without_pair a b m) sound sn a b (without-pair-extra m sound a b) ((by_pairings m sound).0 none))

hide-ring : (f : ℕ → Bool) (m : Map) → Sound m → NoRing m → NoRing (hidden f m)
hide-ring f m sound none = (by_pairings (hidden f m) (hidden-sound f m sound)).1 (λ a b p h. (by_pairings m sound).0 none a b (shown-pair f m a b p) (show f m b a h))

module _ (m : Map) (sound : Sound m) (none : NoRing m) (x : ℕ) (sources listeners : List ℕ) (new : New m x sources listeners) where
  abbrev Far : Type 0
  Far = (s t : ℕ) → On s sources → On t listeners → Heard m t s → ⊥

  n-sound : Sound (enrolled x sources listeners m)
  n-sound = enrolled-sound m sound x sources listeners new

  not_new : (y : ℕ) → T (m.unit y) → y ≡ x → ⊥
  not_new y t e = new.fresh (subst (λ z. T (m.unit z)) e t)

  enrol-there : NoRing (enrolled x sources listeners m) → Far
  enrol-there free s t o p h =
      let n = enrolled x sources listeners m in
      (by_pairings n n-sound).0 free s x (source-pair m sound x sources listeners new s o)
      (heard-trans n x t s (heard-pair n n-sound x t (listener-pair m sound x sources listeners new t p)) (old-heard m sound x sources listeners new t s h))

  -- a chain between old units goes by the new one, or it is an old chain
  enrol-back : Far → Clear (enrolled x sources listeners m)
  enrol-back far a b p h = go (enrolled-cases m sound x sources listeners new a b p)
    where
      sources-of : (u : ℕ) → T (m.unit u) → Heard (enrolled x sources listeners m) u x → (s : ℕ) × On s sources × Heard m u s
      sources-of u t k = ⊎_elim (λ e. absurd (not_new u t e)) (λ r. r) ((heard-new m sound x sources listeners new u).0 k)

      listeners-of : (u : ℕ) → T (m.unit u) → Heard (enrolled x sources listeners m) x u → (t : ℕ) × On t listeners × Heard m t u
      listeners-of u t k = ⊎_elim (λ e. absurd (not_new u t e)) (λ r. r) ((new-heard m sound x sources listeners new u).0 k)

      through : T (m.pair a b) → Heard (enrolled x sources listeners m) b x → Heard (enrolled x sources listeners m) x a → ⊥
      through q i j =
          let s = sources-of b (sound.to a b q) i in
          let t = listeners-of a (sound.from a b q) j in
          far s.0 t.0 s.1 t.1 (heard-trans m t.0 a s.0 t.2 (heard-trans m a b s.0 (heard-pair m sound a b q) s.2))

      old : T (m.pair a b) → ⊥
      old q =
          let n = enrolled x sources listeners m in
          (by_pairings m sound).0 none a b q (subst (λ k. Heard k b a) (enrolled-dropped m sound x sources listeners new)
          (hide-between (λ y. eqb y x) n n-sound b a (λ y i j t. through q (subst (λ z. Heard n b z) (eqb→eq y x t) i) (subst (λ z. Heard n z a) (eqb→eq y x t) j)) h))

      go : T (m.pair a b) ⊎ ((On a sources × (b ≡ x)) ⊎ ((a ≡ x) × On b listeners)) → ⊥
      go (inl q) = old q
      go (inr (inl (o, e))) =
          let t = listeners-of a (new.from a o) (subst (λ z. Heard (enrolled x sources listeners m) z a) e h) in
          far a t.0 o t.1 t.2
      go (inr (inr (e, o))) =
          let s = sources-of b (new.to b o) (subst (λ z. Heard (enrolled x sources listeners m) b z) e h) in
          far s.0 b s.1 o s.2

enrol-ring : (m : Map) → Sound m → NoRing m → (x : ℕ) (sources listeners : List ℕ) → New m x sources listeners → NoRing (enrolled x sources listeners m) ↔ ((s t : ℕ) → On s sources → On t listeners → Heard m t s → ⊥)
enrol-ring m sound none x sources listeners new = (
  enrol-there m sound none x sources listeners new,
  λ far. (by_pairings (enrolled x sources listeners m) (enrolled-sound m sound x sources listeners new)).1 (enrol-back m sound none x sources listeners new far),
)

no-ring : NoRing nothing
no-ring u [] (h, long) = h
no-ring u (x ∷ c) (h, long) = h.1

pub rings-kept-out : RingsKeptOut
rings-kept-out = record { by_pairings = by_pairings; none = no-ring; pair = pair-ring; unpair = unpair-ring; hide = hide-ring; enrol = enrol-ring }

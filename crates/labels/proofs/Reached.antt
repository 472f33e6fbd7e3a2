-- A unit, its row and what is covered for it are all that hears it.
use Rattle.std.proofs.Common.{◌≡◌, ℕ, Bool, ◌&&◌, ◌||◌, T, eqb, ◌⊎◌, ◌↔◌, List, [], ◌∷◌, sym, refl, ◌∙◌, subst, inl, inr, ⊎_elim, eqb→eq}
use mathlib.Core.Logic.{⊎_map}
use lib.Dec.{eqb_refl}
use Rattle.theory.specs.Maps.{Map, Sound, turned}
use Rattle.theory.specs.Chains.{On}
use Rattle.theory.specs.Hearing.{is_heard}
use Rattle.theory.specs.Ranks.{rank_in, Orders}
use Rattle.theory.specs.Rows.{Rows, AllRight, Through, turned_rows}
use Rattle.theory.proofs.Tests.{and-fst, and-snd, and_both, or-either, or_fst, or_snd, same_tests}
use Rattle.theory.proofs.Maps.{turned-sound, turned-orders}
use Rattle.theory.proofs.Chains.{heard-turned}
use Rattle.theory.proofs.Warshall.{hearing-decided}
use Rattle.theory.proofs.Tables.{says-out, turned_right, reached-by-tables}
use Rattle.labels.specs.declared.Labels.{Labels}
use Rattle.labels.specs.Holding.{holds, rows_of}
use Rattle.labels.specs.Asked.{Kept, covered}

module _ (ins outs : ℕ → ℕ → Bool) (u y : ℕ) where
  -- x leads from u to y
  abbrev pub Leads : ℕ → Type 0
  Leads x = T (outs x u) × (T (ins x y) ⊎ (x ≡ y))

  one : (x : ℕ) → T (outs x u && (eqb y x || ins x y)) ↔ Leads x
  one x = (
    λ t. (
      and-fst (outs x u) (eqb y x || ins x y) t,
      ⊎_elim (λ e. inr (sym (eqb→eq y x e))) inl (or-either (eqb y x) (ins x y) (and-snd (outs x u) (eqb y x || ins x y) t)),
    ),
    λ (t, i). and_both (outs x u) (eqb y x || ins x y) t
        (⊎_elim (or_snd (eqb y x) (ins x y)) (λ e. or_fst (eqb y x) (ins x y) (subst (λ z. T (eqb y z)) (sym e) (eqb_refl y))) i),
  )

  pub through : (order : List ℕ) → T (covered ins outs order u y) ↔ ((w : ℕ) × On w order × Leads w)
  through [] = (λ t. absurd t, λ (w, o, l). absurd o)
  through (x ∷ xs) = go (through xs)
    where
      go : T (covered ins outs xs u y) ↔ ((w : ℕ) × On w xs × Leads w) → T (covered ins outs (x ∷ xs) u y) ↔ ((w : ℕ) × On w (x ∷ xs) × Leads w)
      go ih = (
        λ t. ⊎_elim (λ k. (x, inl refl, (one x).0 k)) (λ k. let r = ih.0 k in (r.0, inr r.1, r.2)) (or-either (outs x u && (eqb y x || ins x y)) (covered ins outs xs u y) t),
        λ (w, o, l). ⊎_elim (λ e. or_fst (outs x u && (eqb y x || ins x y)) (covered ins outs xs u y) ((one x).1 (subst Leads e l)))
            (λ k. or_snd (outs x u && (eqb y x || ins x y)) (covered ins outs xs u y) (ih.1 (w, k, l))) o,
      )

any_of : (c e r : Bool) → T (c || (e || r)) ↔ (T e ⊎ (T r ⊎ T c))
any_of c e r = (
  λ t. ⊎_elim (λ k. inr (inr k)) (λ k. ⊎_map (λ j. j) inl (or-either e r k)) (or-either c (e || r) t),
  ⊎_elim (λ k. or_snd c (e || r) (or_fst e r k)) (⊎_elim (λ k. or_snd c (e || r) (or_snd e r k)) (or_fst c (e || r))),
)

-- what is covered for a unit, the unit and its row, by right tables
by-tables : (m : Map) → Sound m → (order : List ℕ) → Orders m order → (rows : Rows) → AllRight m order rows → (u v : ℕ) → T (m.unit u)
    → (covered rows.ins rows.outs order u v || (eqb v u || rows.ins u v)) ≡ is_heard m u v
by-tables m sound order orders rows right u v unit =
    let any = any_of (covered rows.ins rows.outs order u v) (eqb v u) (rows.ins u v) in
    let reached = reached-by-tables m sound order orders rows right u v unit in
    let decides = hearing-decided m sound u v in
    same_tests _ (is_heard m u v) (λ t. decides.1 (reached.1 (⊎_map (eqb→eq v u) (⊎_map (λ k. k) down) (any.0 t))))
    (λ t. any.1 (⊎_map (λ e. subst (λ z. T (eqb v z)) e (eqb_refl v)) (⊎_map (λ k. k) up) (reached.0 (decides.0 t))))
  where
    down : T (covered rows.ins rows.outs order u v) → Through order rows u v
    down t =
        let r = (through rows.ins rows.outs u v order).0 t in
        let label = (says-out m sound (rank_in order) rows r.0 (right r.0 r.1) u).0 r.2.0 in
        (r.0, r.1, label.higher, r.2.0, r.2.1)

    up : Through order rows u v → T (covered rows.ins rows.outs order u v)
    up (w, o, less, t, i) = (through rows.ins rows.outs u v order).1 (w, o, (t, i))

heard-back : (m : Map) → Sound m → (s t : ℕ) → is_heard (turned m) s t ≡ is_heard m t s
heard-back m sound s t =
    let own = hearing-decided m sound t s in
    let other = hearing-decided (turned m) (turned-sound m sound) s t in
    let turn = heard-turned m sound s t in
    same_tests (is_heard (turned m) s t) (is_heard m t s) (λ k. own.1 (turn.0 (other.0 k))) (λ k. other.1 (turn.1 (own.0 k)))

module _ (m : Map) (order : List ℕ) (l : Labels) (kept : Kept m order l) (u v : ℕ) (unit : T (m.unit u)) where
  right : AllRight m order (rows_of l)
  right w o = record { ins = kept.exact.ins w; outs = kept.exact.outs w }

  pub all-hearers : (covered (holds l.ins) (holds l.outs) order u v || (eqb v u || holds l.ins u v)) ≡ is_heard m u v
  all-hearers = by-tables m kept.sound order kept.orders (rows_of l) right u v unit

  pub all-heard : (covered (holds l.outs) (holds l.ins) order u v || (eqb v u || holds l.outs u v)) ≡ is_heard m v u
  all-heard =
      by-tables (turned m) (turned-sound m kept.sound) order (turned-orders m order kept.orders) (turned_rows (rows_of l))
      (λ w o. turned_right m (rank_in order) (rows_of l) w (right w o)) u v unit
      ∙ heard-back m kept.sound u v

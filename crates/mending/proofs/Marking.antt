-- The units that a walk passes over, gathered from the highest down: those before it in the order, and what they cover.
use Rattle.std.proofs.Common.{◌≡◌, ℕ, suc, ◌+◌, ◌<◌, ◌≤◌, Bool, not, ◌&&◌, ◌||◌, T, eqb, ◌≢◌, ◌⊎◌, ◌↔◌, List, length, get_or, take, sym, ap, ◌∙◌, subst, inl, inr, ⊎_elim, arith}
use Rattle.std.proofs.lemmas.Bool.{cases_eq}
use Rattle.std.proofs.lemmas.List.{take_more, get_or-take, length-take-le}
use Rattle.theory.specs.Maps.{Map, Sound, hidden, listed}
use Rattle.theory.specs.Chains.{On, Heard}
use Rattle.theory.specs.Hearing.{is_heard}
use Rattle.theory.specs.Ranks.{rank_in, Once, Orders}
use Rattle.theory.specs.Labels.{InLabel}
use Rattle.theory.specs.Rows.{Rows, Through, MarksBy}
use Rattle.theory.proofs.Tests.{and-fst, and-snd, and_both, or-either, or_fst, or_snd, differ, differs}
use Rattle.theory.proofs.Maps.{hidden-sound}
use Rattle.theory.proofs.Warshall.{heard-sound, heard-complete}
use Rattle.theory.proofs.Distinct.{on-at, at_on, listed-more, rank-at}
use Rattle.theory.proofs.Lists.{listed-on}
use Rattle.theory.proofs.Tables.{decided-by, next_row}
use Rattle.mending.specs.Steps.{NewRow}

-- w is x, or it has u in its out-row and x in its in-row
abbrev Leads : Rows → ℕ → ℕ → ℕ → Type 0
Leads rows u w x = (w ≡ x) ⊎ (T (rows.outs w u) × T (rows.ins w x))

-- the set has the first k of the order, what the first i lead to, and no more than what the first k lead to
pub record Marking (order : List ℕ) (rows : Rows) (u k i : ℕ) (f : ℕ → Bool) : Type 0 where
  pub firsts : (j : ℕ) → j < k → T (f (get_or order j 0))
  pub every : (j : ℕ) → j < i → (x : ℕ) → T (rows.outs (get_or order j 0) u) → T (rows.ins (get_or order j 0) x) → T (f x)
  pub only : (x : ℕ) → T (f x) → (j : ℕ) × (j < k) × Leads rows u (get_or order j 0) x

pub marking-none : (order : List ℕ) (rows : Rows) (u k : ℕ) (f : ℕ → Bool) → k ≤ length order → ((x : ℕ) → f x ≡ listed x (take k order)) → Marking order rows u k 0 f
marking-none order rows u k f short first = record {
  firsts = λ j h. subst T (sym (first (get_or order j 0))) ((listed-on (get_or order j 0) (take k order)).1 (subst (λ (z : ℕ). On z (take k order)) (get_or-take k order j 0 h) (on-at (take k order) j (omega (arith, long, h)))));
  every = λ j h. absurd (omega arith);
  only = λ x t.
      let (j, h, e) = at_on (take k order) x ((listed-on x (take k order)).0 (subst T (first x) t)) in
      let within : j < k = omega (arith, h, long) in
      (j, within, inl (sym (get_or-take k order j 0 within) ∙ e));
}
  where
    long : length (take k order) ≡ k
    long = length-take-le k order short

module _ (order : List ℕ) (rows : Rows) (u k i : ℕ) (less : i < k) (f g : ℕ → Bool) (more : (x : ℕ) → g x ≡ (f x || (rows.outs (get_or order i 0) u && rows.ins (get_or order i 0) x))) (old : Marking order rows u k i f) where
  abbrev w : ℕ
  w = get_or order i 0

  kept : (x : ℕ) → T (f x) → T (g x)
  kept x t = subst T (sym (more x)) (or_fst (f x) _ t)

  put : (x : ℕ) → T (rows.outs w u) → T (rows.ins w x) → T (g x)
  put x o t = subst T (sym (more x)) (or_snd (f x) _ (and_both (rows.outs w u) (rows.ins w x) o t))

  pub marking-more : Marking order rows u k (i + 1) g
  marking-more = record {
    firsts = λ j h. kept (get_or order j 0) (old.firsts j h);
    every = λ j h x o t. ⊎_elim
        (λ e. put x (subst (λ (n : ℕ). T (rows.outs (get_or order n 0) u)) e o) (subst (λ (n : ℕ). T (rows.ins (get_or order n 0) x)) e t))
        (λ ne. kept x (old.every j (omega (arith, ne)) x o t)) (cases_eq j i);
    only = λ x t. ⊎_elim (old.only x) (λ p. (i, less, inr (and-fst (rows.outs w u) _ p, and-snd (rows.outs w u) (rows.ins w x) p)))
        (or-either (f x) (rows.outs w u && rows.ins w x) (subst T (more x) t));
  }

-- with all before u gathered, a walk from u may pass over the set
pub marking-all : (order : List ℕ) → Once order → (rows : Rows) (k i : ℕ) → k < length order → i ≡ k → (f : ℕ → Bool) →
    Marking order rows (get_or order k 0) k i f → MarksBy order rows (get_or order k 0) f
marking-all order once rows k i here e f marking = record { every = λ x ne. every x; only = λ x t. only x (marking.only x t) }
  where
    rank : (j : ℕ) → j < length order → rank_in order (get_or order j 0) ≡ suc j
    rank j h = rank-at order once j h

    every : (x : ℕ) → Through order rows (get_or order k 0) x → T (f x)
    every x (w, o, less, t, leads) = ⊎_elim
        (λ p. marking.every r.0 (omega (arith, low)) x (subst (λ (z : ℕ). T (rows.outs z (get_or order k 0))) (sym r.2) t) (subst (λ (z : ℕ). T (rows.ins z x)) (sym r.2) p))
        (λ p. subst (λ (z : ℕ). T (f z)) (r.2 ∙ p) (marking.firsts r.0 low)) leads
      where
        r : (j : ℕ) × (j < length order) × (get_or order j 0 ≡ w)
        r = at_on order w o

        low : r.0 < k
        low =
            let at = rank k here in
            let back : rank_in order w ≡ suc r.0 = subst (λ (z : ℕ). rank_in order z ≡ suc r.0) r.2 (rank r.0 r.1) in
            omega arith

    only : (x : ℕ) → (j : ℕ) × (j < k) × Leads rows (get_or order k 0) (get_or order j 0) x → Through order rows (get_or order k 0) x ⊎ (rank_in order x < rank_in order (get_or order k 0))
    only x (j, h, leads) = side leads
      where
        less : rank_in order (get_or order j 0) < rank_in order (get_or order k 0)
        less = omega (arith, rank j (omega arith), rank k here)

        side : Leads rows (get_or order k 0) (get_or order j 0) x → Through order rows (get_or order k 0) x ⊎ (rank_in order x < rank_in order (get_or order k 0))
        side (inl p) = inr (subst (λ (z : ℕ). rank_in order z < rank_in order (get_or order k 0)) p less)
        side (inr (o, t)) = inl (get_or order j 0, on-at order j (omega arith), less, o, inl t)

-- what a walk from u finds past such a set, without u, is the in-row of u
pub row-found : (m : Map) → Sound m → (order : List ℕ) → Orders m order → (rows : Rows) (u : ℕ) (f : ℕ → Bool) → MarksBy order rows u f →
    (row : ℕ → Bool) → ((v : ℕ) → row v ≡ (not (eqb v u) && is_heard (hidden f m) u v)) → NewRow m order rows u row
row-found m sound order orders rows u f marks row walked right v = decided-by m sound (rank_in order) u v (row v) (λ t. next.1 (there (subst T (walked v) t)), λ l. back (next.0 l))
  where
    next : InLabel m (rank_in order) u v ↔ ((u ≢ v) × Heard (hidden f m) u v)
    next = next_row m sound order orders rows u right f marks v

    there : T (not (eqb v u) && is_heard (hidden f m) u v) → (u ≢ v) × Heard (hidden f m) u v
    there t = (
      λ k. differ v u (and-fst (not (eqb v u)) _ t) (sym k),
      heard-sound (hidden f m) (hidden-sound f m sound) u v (and-snd (not (eqb v u)) (is_heard (hidden f m) u v) t),
    )

    back : (u ≢ v) × Heard (hidden f m) u v → T (row v)
    back (ne, h) = subst T (sym (walked v)) (and_both (not (eqb v u)) _ (differs v u (λ k. ne (sym k))) (heard-complete (hidden f m) (hidden-sound f m sound) u v h))

-- the units that are done, one after another
pub firsts_more : (order : List ℕ) (k : ℕ) (f g : ℕ → Bool) → k < length order → ((x : ℕ) → g x ≡ (eqb x (get_or order k 0) || f x)) → ((x : ℕ) → f x ≡ listed x (take k order))
    → (x : ℕ) → g x ≡ listed x (take (k + 1) order)
firsts_more order k f g h more old x =
    more x ∙ ap (λ b. eqb x (get_or order k 0) || b) (old x) ∙ sym (ap (listed x) (take_more order k 0 h) ∙ listed-more x (take k order) (get_or order k 0))

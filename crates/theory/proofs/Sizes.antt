-- How many labels have a property: numbers of labels put together from those at each unit.
use Rattle.std.proofs.Common.{◌≡◌, ℕ, zero, suc, ◌+◌, ◌<◌, ◌≤◌, Bool, true, false, not, T, ◌⊎◌, ◌↔◌, List, [], ◌∷◌, ◌++◌, length, sym, refl, ap, ◌∙◌, subst, inl, inr, ⊎_elim, arith, T_not, length-append}
use mathlib.Core.Logic.{⊎_map}
use lib.Dec.{not_T}
use Rattle.std.proofs.lemmas.Bool.{cases_eq}
use Rattle.theory.specs.Maps.{listed}
use Rattle.theory.specs.Chains.{On}
use Rattle.theory.specs.Counts.{sum_below, one}
use Rattle.theory.specs.Ranks.{Once}
use Rattle.theory.specs.Lists.{picked, sum, differing}
use Rattle.theory.specs.Sizes.{Label, inward, outward, Among, Apart, Number, NumberTold}
use Rattle.theory.proofs.Lists.{on-picked, once-picked, listed-on}

-- lists end to end
among-append : (xs ys : List Label) (l : Label) → Among l (xs ++ ys) ↔ (Among l xs ⊎ Among l ys)
among-append [] ys l = (inr, ⊎_elim absurd (λ k. k))
among-append (x ∷ xs) ys l =
    let ih = among-append xs ys l in
    (⊎_elim (λ e. inl (inl e)) (λ k. ⊎_map inr (λ q. q) (ih.0 k)), ⊎_elim (⊎_elim inl (λ k. inr (ih.1 (inl k)))) (λ k. inr (ih.1 (inr k))))

apart-append : (xs ys : List Label) → Apart xs → Apart ys → ((l : Label) → Among l xs → Among l ys → ⊥) → Apart (xs ++ ys)
apart-append [] ys a b far = b
apart-append (x ∷ xs) ys a b far =
    (λ k. ⊎_elim a.0 (far x (inl refl)) ((among-append xs ys x).0 k), apart-append xs ys a.1 b (λ l p q. far l (inr p) q))

-- a label taken out of a list that has it
abbrev Taken : Label → List Label → Type 0
Taken x ys = (zs : List Label) × (length ys ≡ suc (length zs)) × ((l : Label) → Among l ys → (l ≡ x) ⊎ Among l zs)

take_out : (x : Label) (ys : List Label) → Among x ys → Taken x ys
take_out x [] k = absurd k
take_out x (y ∷ ys) (inl e) = (ys, refl, λ l. ⊎_map (λ q. q ∙ sym e) (λ q. q))
take_out x (y ∷ ys) (inr k) =
    let r = take_out x ys k in
    (y ∷ r.0, ap suc r.1, λ l. ⊎_elim (λ q. inr (inl q)) (λ q. ⊎_map (λ p. p) inr (r.2 l q)))

no_longer : (xs ys : List Label) → Apart xs → ((l : Label) → Among l xs → Among l ys) → length xs ≤ length ys
no_longer [] ys a f = omega arith
no_longer (x ∷ xs) ys a f =
    let r = take_out x ys (f x (inl refl)) in
    let ih = no_longer xs r.0 a.1 (λ l k. ⊎_elim (λ e. absurd (a.0 (subst (λ z. Among z xs) e k))) (λ q. q) (r.2 l (f l (inr k)))) in
    omega (arith, r.1, ih)

pub number-told : NumberTold
number-told xs ys a b same = omega (arith, no_longer xs ys a (λ l. (same l).0), no_longer ys xs b (λ l. (same l).1))

-- numbers of labels, put together
number-none : (P : Label → Type 0) → ((l : Label) → P l → ⊥) → Number P 0
number-none P far = record { list = []; every = far; only = λ l k. absurd k; apart = tt; size = refl }

number-one : (P : Label → Type 0) (x : Label) → P x → ((l : Label) → P l → l ≡ x) → Number P 1
number-one P x p only = record {
  list = x ∷ [];
  every = λ l k. inl (only l k);
  only = λ l k. ⊎_elim (λ e. subst P (sym e) p) absurd k;
  apart = (λ k. k, tt);
  size = refl;
}

number-both : (P Q R : Label → Type 0) (a b : ℕ) → Number P a → Number Q b → ((l : Label) → P l → Q l → ⊥) → ((l : Label) → R l ↔ (P l ⊎ Q l)) → Number R (a + b)
number-both P Q R a b p q far r = record {
  list = p.list ++ q.list;
  every = λ l k. (among-append p.list q.list l).1 (⊎_map (p.every l) (q.every l) ((r l).0 k));
  only = λ l k. (r l).1 (⊎_map (p.only l) (q.only l) ((among-append p.list q.list l).0 k));
  apart = apart-append p.list q.list p.apart q.apart (λ l i j. far l (p.only l i) (q.only l j));
  size = omega (arith, length-append p.list q.list, p.size, q.size);
}

pub number_same : (P Q : Label → Type 0) (n : ℕ) → ((l : Label) → Q l ↔ P l) → Number P n → Number Q n
number_same P Q n same p = record {
  list = p.list;
  every = λ l k. p.every l ((same l).0 k);
  only = λ l k. (same l).1 (p.only l k);
  apart = p.apart;
  size = p.size;
}

number-equal : (P : Label → Type 0) (n k : ℕ) → n ≡ k → Number P n → Number P k
number-equal P n k e p = subst (Number P) e p

-- two numbers of the same labels are equal
pub number-alone : (P : Label → Type 0) (a b : ℕ) → Number P a → Number P b → a ≡ b
number-alone P a b p q =
    let e = number-told p.list q.list p.apart q.apart (λ l. (λ k. q.every l (p.only l k), λ k. p.every l (q.only l k))) in
    omega (arith, e, p.size, q.size)

-- the labels that mk makes of the numbers with a property
abbrev pub Made : (ℕ → Label) → (ℕ → Type 0) → Label → Type 0
Made mk Q l = (x : ℕ) × Q x × (l ≡ mk x)

module _ (mk : ℕ → Label) (only : (x y : ℕ) → mk x ≡ mk y → x ≡ y) where
  made-both : (Q R S : ℕ → Type 0) (a b : ℕ) → Number (Made mk Q) a → Number (Made mk R) b → ((x : ℕ) → Q x → R x → ⊥) → ((x : ℕ) → S x ↔ (Q x ⊎ R x)) → Number (Made mk S) (a + b)
  made-both Q R S a b p q far same =
      number-both (Made mk Q) (Made mk R) (Made mk S) a b p q (λ l (x, i, e) (y, j, g). far x i (subst R (only y x (sym g ∙ e)) j))
      (λ l. (λ (x, s, e). ⊎_map (λ i. (x, i, e)) (λ j. (x, j, e)) ((same x).0 s), ⊎_elim (λ (x, i, e). (x, (same x).1 (inl i), e)) (λ (x, j, e). (x, (same x).1 (inr j), e))))

  made_one : (z : ℕ) → Number (Made mk (λ x. x ≡ z)) 1
  made_one z = number-one (Made mk (λ x. x ≡ z)) (mk z) (z, refl, refl) (λ l (x, e, g). g ∙ ap mk e)

  made_none : (Q : ℕ → Type 0) → ((x : ℕ) → Q x → ⊥) → Number (Made mk Q) 0
  made_none Q far = number-none (Made mk Q) (λ l (x, q, e). far x q)

  -- as many as a list has members
  pub list-number : (xs : List ℕ) → Once xs → Number (Made mk (λ x. On x xs)) (length xs)
  list-number [] h = made_none (λ x. On x []) (λ x o. o)
  list-number (y ∷ ys) h =
      number-equal (Made mk (λ x. On x (y ∷ ys))) (1 + length ys) (suc (length ys)) (omega arith)
      (made-both (λ x. x ≡ y) (λ x. On x ys) (λ x. On x (y ∷ ys)) 1 (length ys) (made_one y) (list-number ys h.1)
      (λ x e o. h.0 (subst (λ z. On z ys) e o)) (λ x. (λ o. o, λ o. o)))

  -- as many as a test passes
  pub row_number : (f : ℕ → Bool) (n : ℕ) → Number (Made mk (λ x. (x < n) × T (f x))) (sum_below (λ k. one (f k)) n)
  unfolding sum_below
  row_number f zero = made_none (λ x. (x < 0) × T (f x)) (λ x (less, t). omega arith)
  row_number f (suc n) =
      made-both (λ x. (x ≡ n) × T (f n)) (λ x. (x < n) × T (f x)) (λ x. (x < suc n) × T (f x)) (one (f n)) (sum_below (λ k. one (f k)) n) (here (f n)) (row_number f n)
      (λ x (e, t) (less, k). omega arith)
      (λ x. (split x, join x))
    where
      here : (b : Bool) → Number (Made mk (λ x. (x ≡ n) × T b)) (one b)
      here true = number_same (Made mk (λ x. x ≡ n)) (Made mk (λ x. (x ≡ n) × T true)) 1 (λ l. (λ (x, i, e). (x, i.0, e), λ (x, i, e). (x, (i, tt), e))) (made_one n)
      here false = made_none (λ x. (x ≡ n) × T false) (λ x (e, t). t)

      split : (x : ℕ) → (x < suc n) × T (f x) → ((x ≡ n) × T (f n)) ⊎ ((x < n) × T (f x))
      split x (less, t) = ⊎_map (λ e. (e, subst (λ z. T (f z)) e t)) (λ ne. let low : x < n = omega arith in (low, t)) (cases_eq x n)

      join : (x : ℕ) → ((x ≡ n) × T (f n)) ⊎ ((x < n) × T (f x)) → (x < suc n) × T (f x)
      join x (inl (e, t)) = let low : x < suc n = omega arith in (low, subst (λ z. T (f z)) (sym e) t)
      join x (inr (less, t)) = let low : x < suc n = omega arith in (low, t)

  -- as many as stand in one of two lists, and not in both
  pub differing-number : (xs ys : List ℕ) → Once xs → Once ys → Number (Made mk (λ x. (On x xs × (On x ys → ⊥)) ⊎ ((On x xs → ⊥) × On x ys))) (differing xs ys)
  differing-number xs ys hx hy =
      made-both (λ x. On x (picked (λ z. not (listed z ys)) xs)) (λ x. On x (picked (λ z. not (listed z xs)) ys)) (λ x. (On x xs × (On x ys → ⊥)) ⊎ ((On x xs → ⊥) × On x ys))
      (length (picked (λ z. not (listed z ys)) xs)) (length (picked (λ z. not (listed z xs)) ys))
      (list-number (picked (λ z. not (listed z ys)) xs) (once-picked (λ z. not (listed z ys)) xs hx)) (list-number (picked (λ z. not (listed z xs)) ys) (once-picked (λ z. not (listed z xs)) ys hy))
      (λ x o p. ((rest ys xs x).0 p).1 ((rest xs ys x).0 o).0)
      (λ x. (
        ⊎_map (rest xs ys x).1 (λ (far, o). (rest ys xs x).1 (o, far)),
        ⊎_map (rest xs ys x).0 (λ o. let r = (rest ys xs x).0 o in (r.1, r.0)),
      ))
    where
      rest : (cs bs : List ℕ) (x : ℕ) → On x (picked (λ z. not (listed z bs)) cs) ↔ (On x cs × (On x bs → ⊥))
      rest cs bs x =
          let on = on-picked (λ z. not (listed z bs)) cs x in
          let has = listed-on x bs in
          (λ o. let r = on.0 o in (r.0, λ k. T_not (listed x bs) r.1 (has.1 k)), λ (o, far). on.1 (o, not_T (listed x bs) (λ t. far (has.0 t))))

-- Labels of two kinds, each at one unit, its owner: the first of its ends, or the last.
pub record Owned : Type 0 where
  pub ins : ℕ → ℕ → Label
  pub outs : ℕ → ℕ → Label
  pub owner : Label → ℕ
  pub ins-owner : (u v : ℕ) → owner (ins u v) ≡ u
  pub outs-owner : (u v : ℕ) → owner (outs u v) ≡ u
  pub ins-only : (u x y : ℕ) → ins u x ≡ ins u y → x ≡ y
  pub outs-only : (u x y : ℕ) → outs u x ≡ outs u y → x ≡ y
  pub apart : (u v x y : ℕ) → ins u v ≡ outs x y → ⊥
  pub which : (l : Label) → ((u : ℕ) × (v : ℕ) × (l ≡ ins u v)) ⊎ ((u : ℕ) × (v : ℕ) × (l ≡ outs u v))

first-end : Label → ℕ
first-end (inward u v) = u
first-end (outward u v) = u

last_end : Label → ℕ
last_end (inward u v) = v
last_end (outward u v) = v

-- a label is in a row of its first end
unfoldable pub by_row : Owned
unfolding first-end
by_row = record {
  ins = inward;
  outs = outward;
  owner = first-end;
  ins-owner = λ u v. refl;
  outs-owner = λ u v. refl;
  ins-only = λ u x y e. cc;
  outs-only = λ u x y e. cc;
  apart = λ u v x y e. let z : ◌≡◌ {A = ℕ} 0 1 = cc in omega arith;
  which = which;
}
  where
    which : (l : Label) → ((u : ℕ) × (v : ℕ) × (l ≡ inward u v)) ⊎ ((u : ℕ) × (v : ℕ) × (l ≡ outward u v))
    which (inward u v) = inl (u, v, refl)
    which (outward u v) = inr (u, v, refl)

-- and in a list of its last
unfoldable pub by_list : Owned
unfolding last_end
by_list = record {
  ins = λ v u. inward u v;
  outs = λ v u. outward u v;
  owner = last_end;
  ins-owner = λ v u. refl;
  outs-owner = λ v u. refl;
  ins-only = λ v x y e. cc;
  outs-only = λ v x y e. cc;
  apart = λ v u y x e. let z : ◌≡◌ {A = ℕ} 0 1 = cc in omega arith;
  which = which;
}
  where
    which : (l : Label) → ((v : ℕ) × (u : ℕ) × (l ≡ inward u v)) ⊎ ((v : ℕ) × (u : ℕ) × (l ≡ outward u v))
    which (inward u v) = inl (v, u, refl)
    which (outward u v) = inr (v, u, refl)

module _ (k : Owned) (A B : ℕ → ℕ → Type 0) (a b : ℕ → ℕ) (na : (u : ℕ) → Number (Made (k.ins u) (A u)) (a u)) (nb : (u : ℕ) → Number (Made (k.outs u) (B u)) (b u)) where
  abbrev AtUnit : ℕ → Label → Type 0
  AtUnit u l = Made (k.ins u) (A u) l ⊎ Made (k.outs u) (B u) l

  abbrev AtUnits : List ℕ → Label → Type 0
  AtUnits units l = (u : ℕ) × On u units × AtUnit u l

  at-owner : (u : ℕ) (l : Label) → AtUnit u l → k.owner l ≡ u
  at-owner u l (inl (v, i, e)) = ap k.owner e ∙ k.ins-owner u v
  at-owner u l (inr (v, i, e)) = ap k.owner e ∙ k.outs-owner u v

  unit-number : (u : ℕ) → Number (AtUnit u) (a u + b u)
  unit-number u =
      number-both (Made (k.ins u) (A u)) (Made (k.outs u) (B u)) (AtUnit u) (a u) (b u) (na u) (nb u)
      (λ l (x, i, e) (y, j, g). k.apart u x u y (sym e ∙ g)) (λ l. (λ p. p, λ p. p))

  units_number : (units : List ℕ) → Once units → Number (AtUnits units) (sum units (λ u. a u + b u))
  unfolding sum
  units_number [] h = number-none (AtUnits []) (λ l (u, o, p). absurd o)
  units_number (x ∷ xs) h =
      number-both (AtUnit x) (AtUnits xs) (AtUnits (x ∷ xs)) (a x + b x) (sum xs (λ u. a u + b u)) (unit-number x) (units_number xs h.1)
      (λ l p (u, o, q). h.0 (subst (λ z. On z xs) (sym (at-owner u l q) ∙ at-owner x l p) o))
      (λ l. (λ (u, o, p). ⊎_map (λ e. subst (λ z. AtUnit z l) e p) (λ q. (u, q, p)) o, ⊎_elim (λ p. (x, inl refl, p)) (λ (u, o, p). (u, inr o, p))))

  -- labels that are those at the units are as many
  pub counted : (P : Label → Type 0) (units : List ℕ) → Once units → ((u v : ℕ) → P (k.ins u v) ↔ (On u units × A u v)) → ((u v : ℕ) → P (k.outs u v) ↔ (On u units × B u v)) → Number P (sum units (λ u. a u + b u))
  counted P units once ins outs = number_same (AtUnits units) P _ (λ l. (there l, back l)) (units_number units once)
    where
      there : (l : Label) → P l → AtUnits units l
      there l p =
          ⊎_elim (λ (u, v, e). let r = (ins u v).0 (subst P e p) in (u, r.0, inl (v, r.1, e)))
          (λ (u, v, e). let r = (outs u v).0 (subst P e p) in (u, r.0, inr (v, r.1, e))) (k.which l)

      back : (l : Label) → AtUnits units l → P l
      back l (u, o, inl (v, i, e)) = subst P (sym e) ((ins u v).1 (o, i))
      back l (u, o, inr (v, i, e)) = subst P (sym e) ((outs u v).1 (o, i))

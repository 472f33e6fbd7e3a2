-- The reading of a line is right: it says what the line says, or the place where no lawful line could go on.
use Rattle.std.proofs.Common.{◌≡◌, ℕ, suc, ◌≤◌, Bool, true, false, cond, not, T, eqb, ◌⊎◌, List, [], ◌∷◌, ◌++◌, length, Ok, Err, decimal, Result, sym, refl, ap, ◌∙◌, subst, inl, inr, arith}
use Rattle.std.proofs.lemmas.List.{append_assoc}
use Rattle.std.proofs.lemmas.Bool.{eqb-true, eqb-false, eq-eqb, ne_eqb}
use Rattle.grammar.specs.Grammar.{Said, Enrol, Drop, Pair, Unpair, Rank, Hear, IsName, letter, fields, spaced, written, Says, Lawful, Begins, MalformedAt, Right}
use Rattle.grammar.specs.Reading.{Cut, name_run, number_run, value_after, name_field, number_field, next, ended, read_enrol, read_two, read_by, read}
use Rattle.grammar.specs.Theorems.{ReadingRight}
use Rattle.grammar.proofs.Fields.{Kind, RightOn, Ended, ended-right, Fielded, field-right, field-only, Cuts, same, longer, shorter, cut-two, head-same, tail-same, no-cons}
use Rattle.grammar.proofs.Texts.{name-kind, number-kind}

-- what follows a field: nothing, or a space; and something can
pub record Follows (M : Said → List ℕ → Type 0) : Type 0 where
  pub shape : (x : Said) (tail : List ℕ) → M x tail → (tail ≡ []) ⊎ ((t : List ℕ) × (tail ≡ 32 ∷ t))
  pub possible : (x : Said) × (tail : List ℕ) × M x tail

ended-follows : (said : Said) → Follows (Ended said)
ended-follows said = record { shape = λ x tail m. inl m.1; possible = (said, [], (refl, refl)) }

module _ {A : Type 0} (text : A → List ℕ) (Law : A → Type 0) (run : List ℕ → ℕ) (make : List ℕ → A) (kind : Kind text Law run make)
    (M : A → Said → List ℕ → Type 0) (follows : (a : A) → Follows (M a)) where
  abbrev pub One : Said → List ℕ → Type 0
  One = Fielded text Law run make kind M (λ a. (follows a).shape) (λ a. (follows a).possible)

  pub one_follows : Follows One
  one_follows = record {
    shape = λ x tail m. inr (text m.0 ++ m.1, m.3);
    possible = let r = (follows kind.one).possible in (r.0, 32 ∷ (text kind.one ++ r.1), (kind.one, r.1, kind.one-law, refl, r.2));
  }

abbrev Number : (M : ℕ → Said → List ℕ → Type 0) → ((n : ℕ) → Follows (M n)) → Said → List ℕ → Type 0
Number M f = One decimal (λ (n : ℕ). n ≤ 255) number_run (value_after 0) number-kind M f

abbrev Name : (M : List ℕ → Said → List ℕ → Type 0) → ((n : List ℕ) → Follows (M n)) → Said → List ℕ → Type 0
Name M f = One (λ (n : List ℕ). n) IsName (name_run 16) (λ (n : List ℕ). n) name-kind M f

number-follows : (M : ℕ → Said → List ℕ → Type 0) (f : (n : ℕ) → Follows (M n)) → Follows (Number M f)
number-follows M f = one_follows decimal (λ (n : ℕ). n ≤ 255) number_run (value_after 0) number-kind M f

name-follows : (M : List ℕ → Said → List ℕ → Type 0) (f : (n : List ℕ) → Follows (M n)) → Follows (Name M f)
name-follows M f = one_follows (λ (n : List ℕ). n) IsName (name_run 16) (λ (n : List ℕ). n) name-kind M f

number-right : (M : ℕ → Said → List ℕ → Type 0) (f : (n : ℕ) → Follows (M n)) (xs : List ℕ) (p : ℕ) (go : Cut ℕ → Result Said ℕ) →
    ((n : ℕ) (ys : List ℕ) (q : ℕ) → RightOn (M n) ys q (go (n, ys, q))) → RightOn (Number M f) xs p (next (number_field xs p) go)
number-right M f xs p go rest =
    field-right decimal (λ (n : ℕ). n ≤ 255) number_run (value_after 0) number-kind M (λ n. (f n).shape) (λ n. (f n).possible) xs p go rest

name-right : (M : List ℕ → Said → List ℕ → Type 0) (f : (n : List ℕ) → Follows (M n)) (xs : List ℕ) (p : ℕ) (go : Cut (List ℕ) → Result Said ℕ) →
    ((n : List ℕ) (ys : List ℕ) (q : ℕ) → RightOn (M n) ys q (go (n, ys, q))) → RightOn (Name M f) xs p (next (name_field xs p) go)
name-right M f xs p go rest =
    field-right (λ (n : List ℕ). n) IsName (name_run 16) (λ (n : List ℕ). n) name-kind M (λ n. (f n).shape) (λ n. (f n).possible) xs p go rest

-- the four forms of what follows a letter
abbrev LastNumber : (ℕ → Said) → Said → List ℕ → Type 0
LastNumber says = Number (λ k. Ended (says k)) (λ k. ended-follows (says k))

last-number-follows : (says : ℕ → Said) → Follows (LastNumber says)
last-number-follows says = number-follows (λ k. Ended (says k)) (λ k. ended-follows (says k))

abbrev LastName : (List ℕ → Said) → Said → List ℕ → Type 0
LastName says = Name (λ a. Ended (says a)) (λ a. ended-follows (says a))

last-name-follows : (says : List ℕ → Said) → Follows (LastName says)
last-name-follows says = name-follows (λ a. Ended (says a)) (λ a. ended-follows (says a))

abbrev NameNumber : (List ℕ → ℕ → Said) → Said → List ℕ → Type 0
NameNumber says = Name (λ a. LastNumber (says a)) (λ a. last-number-follows (says a))

name-number-follows : (says : List ℕ → ℕ → Said) → Follows (NameNumber says)
name-number-follows says = name-follows (λ a. LastNumber (says a)) (λ a. last-number-follows (says a))

abbrev TwoNames : (List ℕ → List ℕ → Said) → Said → List ℕ → Type 0
TwoNames says = Name (λ a. LastName (says a)) (λ a. last-name-follows (says a))

abbrev EnrolFields : Said → List ℕ → Type 0
EnrolFields = Number (λ n. NameNumber (Enrol n)) (λ n. name-number-follows (Enrol n))

last-number-right : (says : ℕ → Said) (xs : List ℕ) (p : ℕ) → RightOn (LastNumber says) xs p (next (number_field xs p) (λ c. ended (says c.0) c.1 c.2))
last-number-right says xs p = number-right (λ k. Ended (says k)) (λ k. ended-follows (says k)) xs p (λ c. ended (says c.0) c.1 c.2) (λ k. ended-right (says k))

last-name-right : (says : List ℕ → Said) (xs : List ℕ) (p : ℕ) → RightOn (LastName says) xs p (next (name_field xs p) (λ c. ended (says c.0) c.1 c.2))
last-name-right says xs p = name-right (λ a. Ended (says a)) (λ a. ended-follows (says a)) xs p (λ c. ended (says c.0) c.1 c.2) (λ a. ended-right (says a))

name-number-right : (says : List ℕ → ℕ → Said) (xs : List ℕ) (p : ℕ) →
    RightOn (NameNumber says) xs p (next (name_field xs p) (λ b. next (number_field b.1 b.2) (λ c. ended (says b.0 c.0) c.1 c.2)))
name-number-right says xs p =
    name-right (λ a. LastNumber (says a)) (λ a. last-number-follows (says a)) xs p
    (λ b. next (number_field b.1 b.2) (λ c. ended (says b.0 c.0) c.1 c.2)) (λ a. last-number-right (says a))

two-names-right : (says : List ℕ → List ℕ → Said) (xs : List ℕ) (p : ℕ) → RightOn (TwoNames says) xs p (read_two says xs p)
two-names-right says xs p =
    name-right (λ a. LastName (says a)) (λ a. last-name-follows (says a)) xs p
    (λ a. next (name_field a.1 a.2) (λ b. ended (says a.0 b.0) b.1 b.2)) (λ a. last-name-right (says a))

enrol-right : (xs : List ℕ) (p : ℕ) → RightOn EnrolFields xs p (read_enrol xs p)
enrol-right xs p =
    number-right (λ n. NameNumber (Enrol n)) (λ n. name-number-follows (Enrol n)) xs p
    (λ a. next (name_field a.1 a.2) (λ b. next (number_field b.1 b.2) (λ c. ended (Enrol a.0 b.0 c.0) c.1 c.2))) (λ n. name-number-right (Enrol n))

-- with the letter in front
module _ (l : ℕ) (rest : List ℕ) (L : Said → List ℕ → Type 0) (to : (x : Said) (ys : List ℕ) → L x ys → Says (l ∷ ys) x) (from : (x : Said) (ys : List ℕ) → Says (l ∷ ys) x → L x ys) where
  lettered : (r : Result Said ℕ) → RightOn L rest 2 r → Right (l ∷ rest) r
  lettered (Ok x) m = to x rest m
  lettered (Err q) f = record {
    before = l ∷ f.before;
    after = f.after;
    split = ap (λ (z : List ℕ). l ∷ z) f.split;
    here = omega (arith, f.here);
    begins = (f.begins.0, (f.begins.1, to f.begins.1 (f.before ++ f.begins.0) f.begins.2));
    stops = λ b others e g. f.stops b others e g.0 g.1.0 (from g.1.0 (f.before ++ b ∷ g.0) (subst (λ (z : List ℕ). Says (l ∷ z) g.1.0) (append_assoc f.before (b ∷ []) g.0) g.1.1));
    unlawful = λ g. f.unlawful g.0 (from g.0 rest g.1);
  }

-- two lines with different letters
clash : {c l : ℕ} {xs ys : List ℕ} → c ∷ xs ≡ l ∷ ys → T (not (eqb c l)) → ⊥
clash {c = c} {l = l} {xs = xs} {ys = ys} e t = differ c l t (head-same c l xs ys e)
  where
    differ : (c l : ℕ) → T (not (eqb c l)) → c ≡ l → ⊥
    differ c l t e = subst (λ (b : Bool). T (not b)) (eq-eqb c l e) t

-- a line of each letter, by its fields
enrol-to : (x : Said) (ys : List ℕ) → EnrolFields x ys → Says (101 ∷ ys) x
enrol-to x ys (n, s, ln, es, (a, t, la, et, (k, u, lk, eu, (is, nil)))) =
    subst (λ (z : Said). Says (101 ∷ ys) z) (sym is) (record { lawful = (ln, (la, (lk, tt))); is = cc })

drop-to : (x : Said) (ys : List ℕ) → LastName Drop x ys → Says (100 ∷ ys) x
drop-to x ys (a, t, la, et, (is, nil)) = subst (λ (z : Said). Says (100 ∷ ys) z) (sym is) (record { lawful = (la, tt); is = cc })

rank-to : (x : Said) (ys : List ℕ) → NameNumber Rank x ys → Says (114 ∷ ys) x
rank-to x ys (a, t, la, et, (k, u, lk, eu, (is, nil))) = subst (λ (z : Said). Says (114 ∷ ys) z) (sym is) (record { lawful = (la, (lk, tt)); is = cc })

pair-to : (x : Said) (ys : List ℕ) → TwoNames Pair x ys → Says (112 ∷ ys) x
pair-to x ys (a, t, la, et, (b, u, lb, eu, (is, nil))) = subst (λ (z : Said). Says (112 ∷ ys) z) (sym is) (record { lawful = (la, (lb, tt)); is = cc })

unpair-to : (x : Said) (ys : List ℕ) → TwoNames Unpair x ys → Says (97 ∷ ys) x
unpair-to x ys (a, t, la, et, (b, u, lb, eu, (is, nil))) = subst (λ (z : Said). Says (97 ∷ ys) z) (sym is) (record { lawful = (la, (lb, tt)); is = cc })

hear-to : (x : Said) (ys : List ℕ) → TwoNames Hear x ys → Says (104 ∷ ys) x
hear-to x ys (a, t, la, et, (b, u, lb, eu, (is, nil))) = subst (λ (z : Said). Says (104 ∷ ys) z) (sym is) (record { lawful = (la, (lb, tt)); is = cc })

enrol-from : (x : Said) (ys : List ℕ) → Says (101 ∷ ys) x → EnrolFields x ys
enrol-from (Enrol n a k) ys s = (
  n,
  32 ∷ (a ++ 32 ∷ (decimal k ++ [])),
  s.lawful.0,
  sym (tail-same 101 101 (spaced (fields (Enrol n a k))) ys s.is),
  (a, 32 ∷ (decimal k ++ []), s.lawful.1.0, refl, (k, [], s.lawful.1.1.0, refl, (refl, refl))),
)
enrol-from (Drop a) ys s = absurd (clash s.is tt)
enrol-from (Pair a b) ys s = absurd (clash s.is tt)
enrol-from (Unpair a b) ys s = absurd (clash s.is tt)
enrol-from (Rank a k) ys s = absurd (clash s.is tt)
enrol-from (Hear a b) ys s = absurd (clash s.is tt)

drop-from : (x : Said) (ys : List ℕ) → Says (100 ∷ ys) x → LastName Drop x ys
drop-from (Enrol n a k) ys s = absurd (clash s.is tt)
drop-from (Drop a) ys s = (a, [], s.lawful.0, sym (tail-same 100 100 (spaced (fields (Drop a))) ys s.is), (refl, refl))
drop-from (Pair a b) ys s = absurd (clash s.is tt)
drop-from (Unpair a b) ys s = absurd (clash s.is tt)
drop-from (Rank a k) ys s = absurd (clash s.is tt)
drop-from (Hear a b) ys s = absurd (clash s.is tt)

rank-from : (x : Said) (ys : List ℕ) → Says (114 ∷ ys) x → NameNumber Rank x ys
rank-from (Enrol n a k) ys s = absurd (clash s.is tt)
rank-from (Drop a) ys s = absurd (clash s.is tt)
rank-from (Pair a b) ys s = absurd (clash s.is tt)
rank-from (Unpair a b) ys s = absurd (clash s.is tt)
rank-from (Rank a k) ys s =
    (a, 32 ∷ (decimal k ++ []), s.lawful.0, sym (tail-same 114 114 (spaced (fields (Rank a k))) ys s.is), (k, [], s.lawful.1.0, refl, (refl, refl)))
rank-from (Hear a b) ys s = absurd (clash s.is tt)

pair-from : (x : Said) (ys : List ℕ) → Says (112 ∷ ys) x → TwoNames Pair x ys
pair-from (Enrol n a k) ys s = absurd (clash s.is tt)
pair-from (Drop a) ys s = absurd (clash s.is tt)
pair-from (Pair a b) ys s =
    (a, 32 ∷ (b ++ []), s.lawful.0, sym (tail-same 112 112 (spaced (fields (Pair a b))) ys s.is), (b, [], s.lawful.1.0, refl, (refl, refl)))
pair-from (Unpair a b) ys s = absurd (clash s.is tt)
pair-from (Rank a k) ys s = absurd (clash s.is tt)
pair-from (Hear a b) ys s = absurd (clash s.is tt)

unpair-from : (x : Said) (ys : List ℕ) → Says (97 ∷ ys) x → TwoNames Unpair x ys
unpair-from (Enrol n a k) ys s = absurd (clash s.is tt)
unpair-from (Drop a) ys s = absurd (clash s.is tt)
unpair-from (Pair a b) ys s = absurd (clash s.is tt)
unpair-from (Unpair a b) ys s =
    (a, 32 ∷ (b ++ []), s.lawful.0, sym (tail-same 97 97 (spaced (fields (Unpair a b))) ys s.is), (b, [], s.lawful.1.0, refl, (refl, refl)))
unpair-from (Rank a k) ys s = absurd (clash s.is tt)
unpair-from (Hear a b) ys s = absurd (clash s.is tt)

hear-from : (x : Said) (ys : List ℕ) → Says (104 ∷ ys) x → TwoNames Hear x ys
hear-from (Enrol n a k) ys s = absurd (clash s.is tt)
hear-from (Drop a) ys s = absurd (clash s.is tt)
hear-from (Pair a b) ys s = absurd (clash s.is tt)
hear-from (Unpair a b) ys s = absurd (clash s.is tt)
hear-from (Rank a k) ys s = absurd (clash s.is tt)
hear-from (Hear a b) ys s =
    (a, 32 ∷ (b ++ []), s.lawful.0, sym (tail-same 104 104 (spaced (fields (Hear a b))) ys s.is), (b, [], s.lawful.1.0, refl, (refl, refl)))

-- a letter that begins no line
module _ (l : ℕ) (rest : List ℕ) (e : l ≡ 101 → ⊥) (d : l ≡ 100 → ⊥) (p : l ≡ 112 → ⊥) (a : l ≡ 97 → ⊥) (r : l ≡ 114 → ⊥) (h : l ≡ 104 → ⊥) where
  no_line : (xs : List ℕ) (x : Said) → Says (l ∷ xs) x → ⊥
  no_line xs (Enrol n b k) s = e (sym (head-same 101 l (spaced (fields (Enrol n b k))) xs s.is))
  no_line xs (Drop b) s = d (sym (head-same 100 l (spaced (fields (Drop b))) xs s.is))
  no_line xs (Pair b c) s = p (sym (head-same 112 l (spaced (fields (Pair b c))) xs s.is))
  no_line xs (Unpair b c) s = a (sym (head-same 97 l (spaced (fields (Unpair b c))) xs s.is))
  no_line xs (Rank b k) s = r (sym (head-same 114 l (spaced (fields (Rank b k))) xs s.is))
  no_line xs (Hear b c) s = h (sym (head-same 104 l (spaced (fields (Hear b c))) xs s.is))

-- some line is lawful
a-line : (line : List ℕ) × Lawful line
a-line = (written (Drop name-kind.one), (Drop name-kind.one, record { lawful = (name-kind.one-law, tt); is = refl }))

other-right : (l : ℕ) (rest : List ℕ) → (l ≡ 101 → ⊥) → (l ≡ 100 → ⊥) → (l ≡ 112 → ⊥) → (l ≡ 97 → ⊥) → (l ≡ 114 → ⊥) → (l ≡ 104 → ⊥) → MalformedAt (l ∷ rest) 1
other-right l rest e d p a r h = record {
  before = [];
  after = l ∷ rest;
  split = refl;
  here = refl;
  begins = a-line;
  stops = λ b others is g. no_line l rest e d p a r h g.0 g.1.0 (subst (λ (z : ℕ). Says (z ∷ g.0) g.1.0) (sym (head-same l b rest others is)) g.1.1);
  unlawful = λ g. no_line l rest e d p a r h rest g.0 g.1;
}

empty_right : MalformedAt [] 1
empty_right = record {
  before = [];
  after = [];
  split = refl;
  here = refl;
  begins = a-line;
  stops = λ b others is g. no-cons b others is;
  unlawful = λ g. no-cons (letter g.0) (spaced (fields g.0)) (sym g.1.is);
}

choose : (line : List ℕ) (l c : ℕ) (this that : Result Said ℕ) → (l ≡ c → Right line this) → ((l ≡ c → ⊥) → Right line that) → Right line (cond (eqb l c) this that)
choose line l c this that yes' no' = go (eqb l c) refl
  where
    go : (b : Bool) → eqb l c ≡ b → Right line (cond b this that)
    go true e = yes' (eqb-true l c e)
    go false e = no' (eqb-false l c e)

-- the reading after a known letter
at-letter : (c : ℕ) (rest : List ℕ) (r : Result Said ℕ) → Right (c ∷ rest) r → (l : ℕ) → l ≡ c → Right (l ∷ rest) r
at-letter c rest r right l e = subst (λ (z : ℕ). Right (z ∷ rest) r) (sym e) right

by_right : (l : ℕ) (rest : List ℕ) → Right (l ∷ rest) (read_by l rest)
unfolding read_by
by_right l rest =
    choose (l ∷ rest) l 101 _ _ (at-letter 101 rest _ (lettered 101 rest EnrolFields enrol-to enrol-from _ (enrol-right rest 2)) l) (λ e.
    choose (l ∷ rest) l 100 _ _ (at-letter 100 rest _ (lettered 100 rest (LastName Drop) drop-to drop-from _ (last-name-right Drop rest 2)) l) (λ d.
    choose (l ∷ rest) l 112 _ _ (at-letter 112 rest _ (lettered 112 rest (TwoNames Pair) pair-to pair-from _ (two-names-right Pair rest 2)) l) (λ p.
    choose (l ∷ rest) l 97 _ _ (at-letter 97 rest _ (lettered 97 rest (TwoNames Unpair) unpair-to unpair-from _ (two-names-right Unpair rest 2)) l) (λ a.
    choose (l ∷ rest) l 114 _ _ (at-letter 114 rest _ (lettered 114 rest (NameNumber Rank) rank-to rank-from _ (name-number-right Rank rest 2)) l) (λ r.
    choose (l ∷ rest) l 104 _ _ (at-letter 104 rest _ (lettered 104 rest (TwoNames Hear) hear-to hear-from _ (two-names-right Hear rest 2)) l) (λ h.
    other-right l rest e d p a r h))))))

read_right : (line : List ℕ) → Right line (read line)
read_right [] = empty_right
read_right (l ∷ rest) =
    let n : eqb (suc (length rest)) 0 ≡ false = ne_eqb (suc (length rest)) 0 (λ z. omega arith) in
    subst (λ (b : Bool). Right (l ∷ rest) (cond b (Err 1) (read_by l rest))) (sym n) (by_right l rest)

-- Only one answer is right: what a line says is said by it alone,
one_only : {A : Type 0} (text : A → List ℕ) (Law : A → Type 0) (run : List ℕ → ℕ) (make : List ℕ → A) (kind : Kind text Law run make) (M : A → Said → List ℕ → Type 0) (f : (a : A) → Follows (M a)) →
    ((a : A) (x y : Said) (tail : List ℕ) → M a x tail → M a y tail → x ≡ y) → (x y : Said) (xs : List ℕ) → One text Law run make kind M f x xs → One text Law run make kind M f y xs → x ≡ y
one_only text Law run make kind M f once = field-only text Law run make kind M (λ a. (f a).shape) (λ a. (f a).possible) once

ended-only : (said x y : Said) (tail : List ℕ) → Ended said x tail → Ended said y tail → x ≡ y
ended-only said x y tail a b = a.0 ∙ sym b.0

abbrev Only : (Said → List ℕ → Type 0) → Type 0
Only M = (x y : Said) (tail : List ℕ) → M x tail → M y tail → x ≡ y

number-only : (M : ℕ → Said → List ℕ → Type 0) (f : (n : ℕ) → Follows (M n)) → ((n : ℕ) → Only (M n)) → Only (Number M f)
number-only M f once = one_only decimal (λ (n : ℕ). n ≤ 255) number_run (value_after 0) number-kind M f once

name-only : (M : List ℕ → Said → List ℕ → Type 0) (f : (n : List ℕ) → Follows (M n)) → ((n : List ℕ) → Only (M n)) → Only (Name M f)
name-only M f once = one_only (λ (n : List ℕ). n) IsName (name_run 16) (λ (n : List ℕ). n) name-kind M f once

name-number-only : (says : List ℕ → ℕ → Said) → Only (NameNumber says)
name-number-only says = name-only (λ a. LastNumber (says a)) (λ a. last-number-follows (says a)) (λ a. number-only (λ k. Ended (says a k)) (λ k. ended-follows (says a k)) (λ k. ended-only (says a k)))

two-names-only : (says : List ℕ → List ℕ → Said) → Only (TwoNames says)
two-names-only says = name-only (λ a. LastName (says a)) (λ a. last-name-follows (says a)) (λ a. name-only (λ b. Ended (says a b)) (λ b. ended-follows (says a b)) (λ b. ended-only (says a b)))

-- the same letter, so the same form
says-only : (x y : Said) (line : List ℕ) → Says line x → Says line y → x ≡ y
says-only (Enrol n a k) y line s t =
    let u = subst (λ (z : List ℕ). Says z y) (sym s.is) t in
    number-only (λ m. NameNumber (Enrol m)) (λ m. name-number-follows (Enrol m)) (λ m. name-number-only (Enrol m)) (Enrol n a k) y (spaced (fields (Enrol n a k))) (enrol-from (Enrol n a k) _ (record { lawful = s.lawful; is = refl })) (enrol-from y _ u)
says-only (Drop a) y line s t =
    let u = subst (λ (z : List ℕ). Says z y) (sym s.is) t in
    name-only (λ b. Ended (Drop b)) (λ b. ended-follows (Drop b)) (λ b. ended-only (Drop b)) (Drop a) y (spaced (fields (Drop a))) (drop-from (Drop a) _ (record { lawful = s.lawful; is = refl })) (drop-from y _ u)
says-only (Pair a b) y line s t =
    let u = subst (λ (z : List ℕ). Says z y) (sym s.is) t in
    two-names-only Pair (Pair a b) y (spaced (fields (Pair a b))) (pair-from (Pair a b) _ (record { lawful = s.lawful; is = refl })) (pair-from y _ u)
says-only (Unpair a b) y line s t =
    let u = subst (λ (z : List ℕ). Says z y) (sym s.is) t in
    two-names-only Unpair (Unpair a b) y (spaced (fields (Unpair a b))) (unpair-from (Unpair a b) _ (record { lawful = s.lawful; is = refl })) (unpair-from y _ u)
says-only (Rank a k) y line s t =
    let u = subst (λ (z : List ℕ). Says z y) (sym s.is) t in
    name-number-only Rank (Rank a k) y (spaced (fields (Rank a k))) (rank-from (Rank a k) _ (record { lawful = s.lawful; is = refl })) (rank-from y _ u)
says-only (Hear a b) y line s t =
    let u = subst (λ (z : List ℕ). Says z y) (sym s.is) t in
    two-names-only Hear (Hear a b) y (spaced (fields (Hear a b))) (hear-from (Hear a b) _ (record { lawful = s.lawful; is = refl })) (hear-from y _ u)

-- and a malformed line has one place: the bytes before it begin a line, and one more begins none
begins-part : (f : List ℕ) (b : ℕ) (more : List ℕ) → Begins (f ++ b ∷ more) → Begins (f ++ b ∷ [])
begins-part f b more g =
    let e : (f ++ b ∷ []) ++ (more ++ g.0) ≡ (f ++ b ∷ more) ++ g.0 = append_assoc f (b ∷ []) (more ++ g.0) ∙ sym (append_assoc f (b ∷ more) g.0) in
    (more ++ g.0, subst Lawful (sym e) g.1)

place-only : (line : List ℕ) (p q : ℕ) → MalformedAt line p → MalformedAt line q → p ≡ q
place-only line p q a b = go (cut-two a.before a.after b.before b.after (a.split ∙ sym b.split))
  where
    go : Cuts a.before a.after b.before b.after → p ≡ q
    go (same e r) = a.here ∙ ap (λ (z : List ℕ). suc (length z)) e ∙ sym b.here
    go (longer c more e r) = absurd (b.stops c (more ++ a.after) r (begins-part b.before c more (subst Begins e a.begins)))
    go (shorter c more e r) = absurd (a.stops c (more ++ b.after) r (begins-part a.before c more (subst Begins e b.begins)))

right-only : (line : List ℕ) (a b : Result Said ℕ) → Right line a → Right line b → a ≡ b
right-only line (Ok x) (Ok y) s t = ap (λ (z : Said). Ok z) (says-only x y line s t)
right-only line (Ok x) (Err q) s t = absurd (t.unlawful (x, s))
right-only line (Err p) (Ok y) s t = absurd (s.unlawful (y, t))
right-only line (Err p) (Err q) s t = ap (λ (z : ℕ). Err z) (place-only line p q s t)

pub reading-right : ReadingRight
reading-right = record { right = read_right; only = λ line other o. right-only line other (read line) o (read_right line) }

-- of an answer that is the reading
pub answer-right : (line : List ℕ) (r : Result Said ℕ) → r ≡ read line → Right line r
answer-right line r e = subst (Right line) (sym e) (read_right line)

pub answer-only : (line : List ℕ) (r : Result Said ℕ) → r ≡ read line → (other : Result Said ℕ) → Right line other → other ≡ r
answer-only line r e other o = right-only line other r o (answer-right line r e)

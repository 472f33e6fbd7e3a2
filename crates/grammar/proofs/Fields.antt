-- A field that is the longest start of a text is the only one that can stand there; so reading field by field finds what the text says, or where it goes wrong.
use Rattle.std.proofs.Common.{◌≡◌, ℕ, suc, ◌+◌, ◌≤◌, Bool, true, false, cond, eqb, ◌⊎◌, List, [], ◌∷◌, ◌++◌, length, take, drop, Ok, Err, Result, sym, refl, ap, ◌∙◌, subst, inl, inr, arith}
use Rattle.std.proofs.lemmas.List.{append_assoc, take-append-drop, length-append, length-take-le}
use Rattle.std.proofs.lemmas.Bool.{eqb-true, eqb-false, ne_eqb}
use Rattle.grammar.specs.Reading.{Cut, field, next, ended}

-- a list of one cut at two places
pub data Cuts (g t f w : List ℕ) : Type 0 where
  same : g ≡ f → t ≡ w → Cuts g t f w
  longer : (b : ℕ) (more : List ℕ) → g ≡ f ++ b ∷ more → w ≡ b ∷ (more ++ t) → Cuts g t f w
  shorter : (b : ℕ) (more : List ℕ) → f ≡ g ++ b ∷ more → t ≡ b ∷ (more ++ w) → Cuts g t f w

pub head-same : (x y : ℕ) (xs ys : List ℕ) → x ∷ xs ≡ y ∷ ys → x ≡ y
head-same x y xs ys e = cc

pub tail-same : (x y : ℕ) (xs ys : List ℕ) → x ∷ xs ≡ y ∷ ys → xs ≡ ys
tail-same x y xs ys e = cc

pub no-cons : (x : ℕ) (xs : List ℕ) → [] ≡ x ∷ xs → ⊥
no-cons x xs e = let z : ◌≡◌ {A = ℕ} 0 1 = cc in omega arith

pub cut-two : (g t f w : List ℕ) → g ++ t ≡ f ++ w → Cuts g t f w
cut-two [] t [] w e = same refl e
cut-two [] t (b ∷ f) w e = shorter b f refl e
cut-two (b ∷ g) t [] w e = longer b g refl (sym e)
cut-two (x ∷ g) t (y ∷ f) w e = go (cut-two g t f w (tail-same x y (g ++ t) (f ++ w) e))
  where
    h : x ≡ y
    h = head-same x y (g ++ t) (f ++ w) e

    go : Cuts g t f w → Cuts (x ∷ g) t (y ∷ f) w
    go (same a b) = same (ap (λ (z : List ℕ). x ∷ z) a ∙ ap (λ (z : ℕ). z ∷ f) h) b
    go (longer b more a c) = longer b more (ap (λ (z : List ℕ). x ∷ z) a ∙ ap (λ (z : ℕ). z ∷ (f ++ b ∷ more)) h) c
    go (shorter b more a c) = shorter b more (ap (λ (z : List ℕ). y ∷ z) a ∙ ap (λ (z : ℕ). z ∷ (g ++ b ∷ more)) (sym h)) c

-- two lists that begin alike up to a byte have the same first byte
heads : (before after back : List ℕ) (b c : ℕ) (more rest others : List ℕ) → before ++ after ≡ back → after ≡ b ∷ rest → before ++ b ∷ more ≡ c ∷ others → (tail : List ℕ) × (back ≡ c ∷ tail)
heads [] after back b c more rest others s e w = (rest, sym s ∙ e ∙ ap (λ (z : ℕ). z ∷ rest) (head-same b c more others w))
heads (y ∷ before) after back b c more rest others s e w = (before ++ after, sym s ∙ ap (λ (z : ℕ). z ∷ (before ++ after)) (head-same y c (before ++ b ∷ more) others w))

-- the texts of the things of type A that are lawful: `run` and `make` find the longest one at the start of a text
pub record Kind {A : Type 0} (text : A → List ℕ) (Law : A → Type 0) (run : List ℕ → ℕ) (make : List ℕ → A) : Type 0 where
  pub within : (xs : List ℕ) → run xs ≤ length xs
  pub law : (xs : List ℕ) → (run xs ≡ 0 → ⊥) → Law (make (take (run xs) xs))
  pub made : (xs : List ℕ) → (run xs ≡ 0 → ⊥) → text (make (take (run xs) xs)) ≡ take (run xs) xs
  pub longest : (xs : List ℕ) (b : ℕ) (rest : List ℕ) → xs ≡ take (run xs) xs ++ b ∷ rest → (a : A) (more : List ℕ) → Law a → text a ≡ take (run xs) xs ++ b ∷ more → ⊥
  pub solid : (a : A) → Law a → (f g : List ℕ) → text a ≡ f ++ 32 ∷ g → ⊥
  pub some : (a : A) → Law a → text a ≡ [] → ⊥
  pub alike : (a b : A) → Law a → Law b → text a ≡ text b → a ≡ b
  pub one : A
  pub one-law : Law one

-- a text that goes wrong at q, if it begins at p, where `L x xs` says that xs says x
pub record Fault {X : Type 0} (L : X → List ℕ → Type 0) (xs : List ℕ) (p q : ℕ) : Type 0 where
  pub before : List ℕ
  pub after : List ℕ
  pub split : before ++ after ≡ xs
  pub here : q ≡ p + length before
  pub begins : (rest : List ℕ) × (x : X) × L x (before ++ rest)
  pub stops : (b : ℕ) (rest : List ℕ) → after ≡ b ∷ rest → (more : List ℕ) (x : X) → L x (before ++ b ∷ more) → ⊥
  pub unlawful : (x : X) → L x xs → ⊥

abbrev pub RightOn : {X : Type 0} → (X → List ℕ → Type 0) → List ℕ → ℕ → Result X ℕ → Type 0
RightOn L xs p (Ok x) = L x xs
RightOn L xs p (Err q) = Fault L xs p q

-- what is said where nothing more may follow
abbrev pub Ended : {X : Type 0} → X → X → List ℕ → Type 0
Ended said x xs = (x ≡ said) × (xs ≡ [])

pub ended-right : {X : Type 0} (said : X) (xs : List ℕ) (p : ℕ) → RightOn (Ended said) xs p (ended said xs p)
ended-right said [] p = (refl, refl)
ended-right said (b ∷ xs) p =
    let n : eqb (suc (length xs)) 0 ≡ false = ne_eqb (suc (length xs)) 0 (λ z. omega arith) in
    subst (λ (t : Bool). RightOn (Ended said) (b ∷ xs) p (cond t (Ok said) (Err p))) (sym n) (record {
      before = [];
      after = b ∷ xs;
      split = refl;
      here = omega arith;
      begins = ([], said, (refl, refl));
      stops = λ c rest e more x l. no-cons c more (sym l.1);
      unlawful = λ x l. no-cons b xs (sym l.1);
    })

-- One field after a space, and then what `M` says of the rest.
module _ {A X : Type 0} (text : A → List ℕ) (Law : A → Type 0) (run : List ℕ → ℕ) (make : List ℕ → A) (kind : Kind text Law run make)
    (M : A → X → List ℕ → Type 0) (shape : (a : A) (x : X) (tail : List ℕ) → M a x tail → (tail ≡ []) ⊎ ((t : List ℕ) × (tail ≡ 32 ∷ t)))
    (possible : (a : A) → (x : X) × (tail : List ℕ) × M a x tail) where
  abbrev pub Fielded : X → List ℕ → Type 0
  Fielded x xs = (a : A) × (tail : List ℕ) × Law a × (xs ≡ 32 ∷ (text a ++ tail)) × M a x tail

  a-line : (x : X) × (xs : List ℕ) × Fielded x (32 ∷ xs)
  a-line = let r = possible kind.one in (r.0, text kind.one ++ r.1, (kind.one, r.1, kind.one-law, refl, r.2))

  no-space : (xs : List ℕ) (p : ℕ) → ((b : ℕ) (rest : List ℕ) → xs ≡ b ∷ rest → b ≡ 32 → ⊥) → Fault Fielded xs p p
  no-space xs p other = record {
    before = [];
    after = xs;
    split = refl;
    here = omega arith;
    begins = (32 ∷ a-line.1, a-line.0, a-line.2);
    stops = λ b rest e more x l. other b rest e (head-same b 32 more (text l.0 ++ l.1) l.3);
    unlawful = λ x l. other 32 (text l.0 ++ l.1) l.3 refl;
  }

  module _ (ys : List ℕ) (p : ℕ) where
    abbrev front : List ℕ
    front = take (run ys) ys

    abbrev back : List ℕ
    back = drop (run ys) ys

    joined : ys ≡ front ++ back
    joined = sym (take-append-drop (run ys) ys)

    -- no field begins with more than the front
    too_long : (a : A) → Law a → (b : ℕ) (more rest : List ℕ) → back ≡ b ∷ rest → text a ≡ front ++ b ∷ more → ⊥
    too_long a law b more rest e t = kind.longest ys b rest (joined ∙ ap (λ (z : List ℕ). front ++ z) e) a more law t

    -- where there is no front, no field begins
    none : (run ys ≡ 0) → (a : A) → Law a → (tail rest : List ℕ) (b : ℕ) (zs : List ℕ) → back ≡ b ∷ zs → b ∷ rest ≡ text a ++ tail → ⊥
    none zero a law tail rest b zs e t = go (text a) refl
      where
        empty : [] ≡ front
        empty = sym (ap (λ (n : ℕ). take n ys) zero)

        go : (f : List ℕ) → text a ≡ f → ⊥
        go [] is = kind.some a law is
        go (c ∷ f) is =
            let at : b ≡ c = head-same b c rest (f ++ tail) (t ∙ ap (λ (z : List ℕ). z ++ tail) is) in
            too_long a law b f zs e (is ∙ ap (λ (z : ℕ). z ∷ f) (sym at) ∙ ap (λ (z : List ℕ). z ++ b ∷ f) empty)

    no_name : run ys ≡ 0 → Fault Fielded (32 ∷ ys) p (p + 1)
    no_name zero = record {
      before = 32 ∷ [];
      after = ys;
      split = refl;
      here = refl;
      begins = (a-line.1, a-line.0, a-line.2);
      stops = λ b rest e more x l. none zero l.0 l.2 l.1 more b rest (whole ∙ e) (tail-same 32 32 (b ∷ more) (text l.0 ++ l.1) l.3);
      unlawful = λ x l. at ys refl l.0 l.2 l.1 (tail-same 32 32 ys (text l.0 ++ l.1) l.3);
    }
      where
        whole : back ≡ ys
        whole = ap (λ (n : ℕ). drop n ys) zero

        at : (zs : List ℕ) → ys ≡ zs → (a : A) → Law a → (tail : List ℕ) → ys ≡ text a ++ tail → ⊥
        at [] e a law tail t = kind.some a law (nil-left (text a) tail (sym (sym e ∙ t)))
          where
            nil-left : (f g : List ℕ) → f ++ g ≡ [] → f ≡ []
            nil-left [] g z = refl
            nil-left (c ∷ f) g z = absurd (no-cons c (f ++ g) (sym z))
        at (b ∷ zs) e a law tail t = none zero a law tail zs b zs (whole ∙ e) (sym e ∙ t)

    module _ (some : run ys ≡ 0 → ⊥) where
      abbrev this : A
      this = make front

      this-law : Law this
      this-law = kind.law ys some

      this-text : text this ≡ front
      this-text = kind.made ys some

      -- a lawful text that goes on with what follows the front, or with nothing else known, has this field
      only : (a : A) → Law a → (x : X) (tail w : List ℕ) → M a x tail → text a ++ tail ≡ front ++ w →
          ((b : ℕ) (more : List ℕ) → w ≡ b ∷ more → (rest : List ℕ) × (back ≡ b ∷ rest)) → M this x w
      only a law x tail w m e known = go (cut-two (text a) tail front w e)
        where
          go : Cuts (text a) tail front w → M this x w
          go (same t r) =
              let is : a ≡ this = kind.alike a this law this-law (t ∙ sym this-text) in
              subst (λ (z : List ℕ). M this x z) r (subst (λ (z : A). M z x tail) is m)
          go (longer b more t r) = let k = known b (more ++ tail) r in absurd (too_long a law b more k.0 k.1 t)
          go (shorter b more t r) = absurd (inside (shape a x tail m))
            where
              inside : (tail ≡ []) ⊎ ((u : List ℕ) × (tail ≡ 32 ∷ u)) → ⊥
              inside (inl nil) = no-cons b (more ++ w) (sym nil ∙ r)
              inside (inr u) =
                  let c : b ≡ 32 = head-same b 32 (more ++ w) u.0 (sym r ∙ u.1) in
                  kind.solid this this-law (text a) more (this-text ∙ t ∙ ap (λ (z : ℕ). text a ++ z ∷ more) c)

      rest-right : (r : Result X ℕ) → RightOn (M this) back (p + 1 + run ys) r → RightOn Fielded (32 ∷ ys) p r
      rest-right (Ok x) m = (this, back, this-law, ap (λ (z : List ℕ). 32 ∷ z) (joined ∙ ap (λ (z : List ℕ). z ++ back) (sym this-text)), m)
      rest-right (Err q) f = record {
        before = 32 ∷ (front ++ f.before);
        after = f.after;
        split = ap (λ (z : List ℕ). 32 ∷ z) (append_assoc front f.before f.after ∙ ap (λ (z : List ℕ). front ++ z) f.split ∙ sym joined);
        here = omega (arith, f.here, length-append front f.before, length-take-le (run ys) ys (kind.within ys));
        begins = (
          f.begins.0,
          f.begins.1,
          (this, f.before ++ f.begins.0, this-law, ap (λ (z : List ℕ). 32 ∷ z) (append_assoc front f.before f.begins.0 ∙ ap (λ (z : List ℕ). z ++ (f.before ++ f.begins.0)) (sym this-text)), f.begins.2),
        );
        stops = λ b rest e more x l. f.stops b rest e more x (only l.0 l.2 x l.1 (f.before ++ b ∷ more) l.4
            (sym (tail-same 32 32 ((front ++ f.before) ++ b ∷ more) (text l.0 ++ l.1) l.3) ∙ append_assoc front f.before (b ∷ more))
            (λ c others w. heads f.before f.after back b c more rest others f.split e w));
        unlawful = λ x l. f.unlawful x (only l.0 l.2 x l.1 back l.4
            (sym (tail-same 32 32 ys (text l.0 ++ l.1) l.3) ∙ joined) (λ c others w. (others, w)));
      }

  pub field-right : (xs : List ℕ) (p : ℕ) (go : Cut A → Result X ℕ) → ((a : A) (ys : List ℕ) (q : ℕ) → RightOn (M a) ys q (go (a, ys, q))) →
      RightOn Fielded xs p (next (field run make xs p) go)
  field-right [] p go rest = no-space [] p (λ b zs e. absurd (no-cons b zs e))
  field-right (b ∷ ys) p go rest = by-space (eqb b 32) refl
    where
      result : Bool → Bool → Result X ℕ
      result s z = next (cond s (cond z (Err (p + 1)) (Ok (make (take (run ys) ys), drop (run ys) ys, p + 1 + run ys))) (Err p)) go

      by-run : (z : Bool) → eqb (run ys) 0 ≡ z → b ≡ 32 → RightOn Fielded (b ∷ ys) p (result true z)
      by-run true e is = subst (λ (c : ℕ). Fault Fielded (c ∷ ys) p (p + 1)) (sym is) (no_name ys p (eqb-true (run ys) 0 e))
      by-run false e is =
          let some = eqb-false (run ys) 0 e in
          subst (λ (c : ℕ). RightOn Fielded (c ∷ ys) p (result true false)) (sym is) (rest-right ys p some (result true false) (rest (make (take (run ys) ys)) (drop (run ys) ys) (p + 1 + run ys)))

      by-space : (s : Bool) → eqb b 32 ≡ s → RightOn Fielded (b ∷ ys) p (result s (eqb (run ys) 0))
      by-space true e = by-run (eqb (run ys) 0) refl (eqb-true b 32 e)
      by-space false e = no-space (b ∷ ys) p (λ c zs h is. eqb-false b 32 e (head-same b c ys zs h ∙ is))

  -- what is said is said by one thing only
  pub field-only : ((a : A) (x y : X) (tail : List ℕ) → M a x tail → M a y tail → x ≡ y) → (x y : X) (xs : List ℕ) → Fielded x xs → Fielded y xs → x ≡ y
  field-only once x y xs (a, t, la, et, m) (b, u, lb, eu, n) = go (cut-two (text a) t (text b) u (tail-same 32 32 (text a ++ t) (text b ++ u) (sym et ∙ eu)))
    where
      outside : (c : A) → Law c → (z : X) (tail f more rest : List ℕ) (d : ℕ) → M c z tail → tail ≡ d ∷ rest → (e : A) → Law e → text e ≡ f ++ d ∷ more → ⊥
      outside c law z tail f more rest d w is e le te = inside (shape c z tail w)
        where
          inside : (tail ≡ []) ⊎ ((v : List ℕ) × (tail ≡ 32 ∷ v)) → ⊥
          inside (inl nil) = no-cons d rest (sym nil ∙ is)
          inside (inr v) = kind.solid e le f more (te ∙ ap (λ (o : ℕ). f ++ o ∷ more) (head-same d 32 rest v.0 (sym is ∙ v.1)))

      go : Cuts (text a) t (text b) u → x ≡ y
      go (same e r) = once b x y u (subst (λ (z : List ℕ). M b x z) r (subst (λ (z : A). M z x t) (kind.alike a b la lb e) m)) n
      go (longer d more e r) = absurd (outside b lb y u (text b) more (more ++ t) d n r a la e)
      go (shorter d more e r) = absurd (outside a la x t (text a) more (more ++ u) d m r b lb e)

-- A search for the shortest chain on its way: its level is what is n pairings from s, and no fewer.
use Rattle.std.proofs.Common.{◌≡◌, ℕ, suc, ◌+◌, ◌<◌, ◌≤◌, Bool, true, false, not, ◌||◌, eqb, ◌⊎◌, List, [], ◌∷◌, ◌++◌, length, Some, None, sym, refl, ap, ◌∙◌, subst, inl, inr, arith, length-append}
use Rattle.std.proofs.lemmas.Bool.{cases_Bool, cases_lt, eqb-true, both_ways, or_right}
use Rattle.theory.specs.Maps.{Map, Sound}
use Rattle.theory.specs.Chains.{Onward, Chain, FewestOrNone}
use Rattle.theory.proofs.Tests.{passes, passed}
use Rattle.theory.proofs.Counting.{count_most, count-falls}
use Rattle.theory.proofs.Chains.{onward-append, heard-last}
use Rattle.walks.specs.Levels.{Next}
use Rattle.walks.proofs.Walked.{Walked, left, walked_start, walked_more, left-falls, old, spread, before, onward-seen}

pub record Level (m : Map) (s t n : ℕ) (seen level : ℕ → Bool) : Type 0 where
  pub walked : Walked m s seen level
  -- the level is n pairings away
  pub reached : (k : ℕ) → level k ≡ true → (c : List ℕ) × Onward m s c k × (length c ≡ n)
  -- what is no more than n away was seen
  pub near : (k : ℕ) (c : List ℕ) → Onward m s c k → length c ≤ n → seen k ≡ true
  -- what is less than n away is not in the level
  pub nearer : (k : ℕ) (c : List ℕ) → Onward m s c k → length c < n → level k ≡ false
  -- t was not seen before the level
  pub not_yet : (k : ℕ) → seen k ≡ true → level k ≡ false → k ≡ t → ⊥
  pub few : n + left seen level ≤ 256

-- the start: nothing was marked, and then what the level has
pub level-start : (m : Map) (s t : ℕ) (seen level : ℕ → Bool) → m.unit s ≡ true → (before : ℕ → Bool) → ((k : ℕ) → before k ≡ false) →
    ((k : ℕ) → seen k ≡ (before k || level k)) → ((k : ℕ) → level k ≡ eqb k s) → Level m s t 0 seen level
level-start m s t seen level on before none marked only =
    let same : level ≡ seen = λ i k. (sym (marked k ∙ ap (λ (b : Bool). b || level k) (none k))) i in
    subst (λ (f : ℕ → Bool). Level m s t 0 f level) same (record {
      walked = w;
      reached = λ k l. ([], sym (eqb-true k s (sym (only k) ∙ l)), refl);
      near = λ k c o h. at k c o h w.start;
      nearer = λ k c o h. absurd (omega arith);
      not_yet = λ k t f _. both_ways _ f t;
      few = let most = count_most (λ k. not (level k) || level k) in omega arith;
    })
  where
    w : Walked m s level level
    w = walked_start m s level on only

    at : (k : ℕ) (c : List ℕ) → Onward m s c k → length c ≤ 0 → level s ≡ true → level k ≡ true
    at k [] o h on = subst (λ (z : ℕ). level z ≡ true) o on
    at k (x ∷ c) o h on = absurd (omega arith)

-- the last pairing of a chain
last_step : (m : Map) (s x k : ℕ) (c : List ℕ) → Onward m s (x ∷ c) k → (j : ℕ) × (d : List ℕ) × Onward m s d j × (length d ≡ length c) × (m.pair j k ≡ true)
last_step m s x k [] o = (s, [], refl, refl, ap (m.pair s) (sym o.1) ∙ passed _ o.0)
last_step m s x k (y ∷ c) o = let (j, d, od, ld, p) = last_step m x y k c o.1 in (j, x ∷ d, (o.0, od), ap suc ld, p)

-- one turn, with t not in the level
module _ (m : Map) (sound : Sound m) (s t n : ℕ) (seen level next seen' : ℕ → Bool) (news : Next m level seen next)
    (sees : (k : ℕ) → seen' k ≡ (seen k || next k)) (l : Level m s t n seen level) where
  reached-more : (k : ℕ) → next k ≡ true → (c : List ℕ) × Onward m s c k × (length c ≡ n + 1)
  reached-more k h =
      let (j, on, p) = news.from k h in
      let (c, o, e) = l.reached j on in
      (c ++ (k ∷ []), onward-append m s j k c (k ∷ []) o (passes _ p, refl), length-append c (k ∷ []) ∙ ap (λ (x : ℕ). x + 1) e)

  near-more : (k : ℕ) (c : List ℕ) → Onward m s c k → length c ≤ n + 1 → (length c < n + 1) ⊎ (n + 1 ≤ length c) → seen' k ≡ true
  near-more k c o h (inl less) = old m sound s seen level next seen' news sees l.walked k (l.near k c o (omega arith))
  near-more k [] o h (inr full) = absurd (omega arith)
  near-more k (x ∷ c) o h (inr full) =
      let (j, d, od, ld, p) = last_step m s x k c o in
      spread m sound s seen level next seen' news sees l.walked j k (l.near j d od (omega arith)) p

  not-next : (k : ℕ) → seen k ≡ true → (next k ≡ true) ⊎ (next k ≡ false) → next k ≡ false
  not-next k on (inl h) = absurd (both_ways _ (news.new k h) on)
  not-next k on (inr f) = f

  not-yet-more : (k : ℕ) → level t ≡ false → seen k ≡ true → (level k ≡ true) ⊎ (level k ≡ false) → k ≡ t → ⊥
  not-yet-more k off on (inl h) e = both_ways _ off (ap level (sym e) ∙ h)
  not-yet-more k off on (inr f) e = l.not_yet k on f e

  pub level-more : (j : ℕ) → level j ≡ true → level t ≡ false → Level m s t (n + 1) seen' next × (left seen' next < left seen level)
  level-more j on off =
      let falls = left-falls m sound s seen level next seen' news sees l.walked j on in
      let few = l.few in (
        record {
          walked = walked_more m sound s seen level next seen' news sees l.walked;
          reached = reached-more;
          near = λ k c o h. near-more k c o h (cases_lt (length c) (n + 1));
          nearer = λ k c o h. not-next k (l.near k c o (omega arith)) (cases_Bool (next k));
          not_yet = λ k h f. not-yet-more k off (before m sound s seen level next seen' news sees l.walked k h f) (cases_Bool (level k));
          few = omega arith;
        },
        falls,
      )

-- the level that has t in it
pub level-found : (m : Map) (s t n : ℕ) (seen level : ℕ → Bool) → m.unit s ≡ true → Level m s t n seen level → level t ≡ true → FewestOrNone m s t (Some n)
level-found m s t n seen level unit l on =
    let (c, o, e) = l.reached t on in
    ((s ∷ c, (refl, passes _ unit, o), omega arith), shortest)
  where
    shortest : (d : List ℕ) → Chain m s t d → n + 1 ≤ length d
    shortest [] h = absurd h
    shortest (x ∷ d) h = elim (cases_lt (length d) n) [ inl less ↦ absurd (both_ways _ (l.nearer t d h.2 less) on) | inr more ↦ omega arith ]

-- and then it is at most 255 pairings away, since there are no more than 256 numbers
pub level-short : (m : Map) → Sound m → (s t n : ℕ) (seen level : ℕ → Bool) → Level m s t n seen level → level t ≡ true → n ≤ 255
level-short m sound s t n seen level l on =
    let few = l.few in
    let high = sound.high t (heard-last m sound s t (l.walked.heard t (l.walked.within t on))) in
    let some = count-falls (λ k. false) (λ k. not (seen k) || level k) t (omega arith) (λ k e. absurd (both_ways false refl e)) refl (or_right _ _ on) in
    omega arith

-- no level is left
pub level-none : (m : Map) → Sound m → (s t n : ℕ) (seen level : ℕ → Bool) → Level m s t n seen level → ((k : ℕ) → level k ≡ false) → FewestOrNone m s t None
level-none m sound s t n seen level l done [] h = h
level-none m sound s t n seen level l done (x ∷ c) h =
    l.not_yet t (onward-seen m sound s seen level l.walked done s t c l.walked.start h.2) (done t) refl

-- A search on its way: what it has seen, and the level that it has come to.
use Rattle.std.proofs.Common.{◌≡◌, ℕ, ◌<◌, Bool, true, false, not, ◌||◌, eqb, ◌⊎◌, List, [], ◌∷◌, sym, refl, ◌∙◌, subst, inl, inr, arith}
use Rattle.std.proofs.lemmas.Bool.{cases_Bool, eqb-true, eq-eqb, both_ways, or_cases, or_parts, or_left, or_right, or_from, not_from_true, not_from_false, not-true}
use Rattle.theory.specs.Maps.{Map, Sound}
use Rattle.theory.specs.Counts.{count}
use Rattle.theory.specs.Chains.{Onward, Heard}
use Rattle.theory.specs.Hearing.{is_heard}
use Rattle.theory.proofs.Tests.{passes, passed, same_tests}
use Rattle.theory.proofs.Counting.{count-falls}
use Rattle.theory.proofs.Chains.{goes, heard-self, heard-pair, heard-trans, heard-first, heard-last}
use Rattle.theory.proofs.Warshall.{heard-sound, heard-complete}
use Rattle.walks.specs.Levels.{Next}

pub record Walked (m : Map) (s : ℕ) (seen level : ℕ → Bool) : Type 0 where
  pub start : seen s ≡ true
  pub heard : (k : ℕ) → seen k ≡ true → Heard m s k
  pub within : (k : ℕ) → level k ≡ true → seen k ≡ true
  -- what was seen before the level has all its listeners seen
  pub closed : (k j : ℕ) → seen k ≡ true → level k ≡ false → m.pair k j ≡ true → seen j ≡ true

-- how many numbers are not seen, or in the level
abbrev pub left : (ℕ → Bool) → (ℕ → Bool) → ℕ
left seen level = count (λ k. not (seen k) || level k)

pub unheard : (m : Map) → Sound m → (s t : ℕ) → m.unit s ≡ false → is_heard m s t ≡ false
unheard m sound s t off = same_tests (is_heard m s t) false
    (λ h. absurd (both_ways _ off (passed _ (heard-first m sound s t (heard-sound m sound s t h)))))
    (λ h. absurd h)

pub walked_start : (m : Map) (s : ℕ) (seen : ℕ → Bool) → m.unit s ≡ true → ((k : ℕ) → seen k ≡ eqb k s) → Walked m s seen seen
walked_start m s seen on only = record {
  start = only s ∙ eq-eqb s s refl;
  heard = λ k t. subst (λ (z : ℕ). Heard m s z) (sym (eqb-true k s (sym (only k) ∙ t))) (heard-self m s (passes _ on));
  within = λ k t. t;
  closed = λ k j t f p. absurd (both_ways _ f t);
}

-- one turn
module _ (m : Map) (sound : Sound m) (s : ℕ) (seen level next seen' : ℕ → Bool) (news : Next m level seen next)
    (sees : (k : ℕ) → seen' k ≡ (seen k || next k)) (w : Walked m s seen level) where
  pub old : (k : ℕ) → seen k ≡ true → seen' k ≡ true
  old k t = sees k ∙ or_left _ _ t

  -- the listeners of what was seen are seen now
  pub spread : (k j : ℕ) → seen k ≡ true → m.pair k j ≡ true → seen' j ≡ true
  spread k j t p = go (cases_Bool (level k)) (cases_Bool (seen j))
    where
      go : (level k ≡ true) ⊎ (level k ≡ false) → (seen j ≡ true) ⊎ (seen j ≡ false) → seen' j ≡ true
      go l (inl on) = old j on
      go (inl l) (inr off) = sees j ∙ or_right _ _ (news.every k j l p off)
      go (inr l) (inr off) = old j (w.closed k j t l p)

  -- seen now, and not in the next level: seen before
  pub before : (k : ℕ) → seen' k ≡ true → next k ≡ false → seen k ≡ true
  before k t f = go (or_cases _ _ (sym (sees k) ∙ t))
    where
      go : (seen k ≡ true) ⊎ (next k ≡ true) → seen k ≡ true
      go (inl on) = on
      go (inr on) = absurd (both_ways _ f on)

  heard-new : (k : ℕ) → (seen k ≡ true) ⊎ (next k ≡ true) → Heard m s k
  heard-new k (inl t) = w.heard k t
  heard-new k (inr t) =
      let (j, l, p) = news.from k t in
      heard-trans m s j k (w.heard j (w.within j l)) (heard-pair m sound j k (passes _ p))

  pub walked_more : Walked m s seen' next
  walked_more = record {
    start = old s w.start;
    heard = λ k t. heard-new k (or_cases _ _ (sym (sees k) ∙ t));
    within = λ k t. sees k ∙ or_right _ _ t;
    closed = λ k j t f p. spread k j (before k t f) p;
  }

  unseen : (k : ℕ) → (not (seen' k) ≡ true) ⊎ (next k ≡ true) → seen k ≡ false
  unseen k (inl f) = (or_parts (seen k) (next k) (sym (sees k) ∙ not-true (seen' k) f)).0
  unseen k (inr t) = news.new k t

  pub left-falls : (k : ℕ) → level k ≡ true → left seen' next < left seen level
  left-falls k l =
      let on = w.within k l in
      let high = sound.high k (heard-last m sound s k (w.heard k on)) in
      count-falls (λ k. not (seen' k) || next k) (λ k. not (seen k) || level k) k (omega arith)
      (λ j t. or_left _ _ (not_from_false (seen j) (unseen j (or_cases _ _ t))))
      (or_from _ _ (not_from_true (seen' k) (old k on)) (not-next (cases_Bool (next k)) on))
      (or_right _ _ l)
    where
      not-next : (next k ≡ true) ⊎ (next k ≡ false) → seen k ≡ true → next k ≡ false
      not-next (inl t) on = absurd (both_ways _ (news.new k t) on)
      not-next (inr f) on = f

-- at the end the level is empty
module _ (m : Map) (sound : Sound m) (s : ℕ) (seen level : ℕ → Bool) (w : Walked m s seen level) (done : (k : ℕ) → level k ≡ false) where
  pub onward-seen : (x t : ℕ) (c : List ℕ) → seen x ≡ true → Onward m x c t → seen t ≡ true
  onward-seen x t [] h e = subst (λ (z : ℕ). seen z ≡ true) e h
  onward-seen x t (y ∷ c) h o = onward-seen y t c (w.closed x y h (done x) (passed _ o.0)) o.1

  pub walked-done : (t : ℕ) → seen t ≡ is_heard m s t
  walked-done t = same_tests (seen t) (is_heard m s t)
      (λ h. heard-complete m sound s t (w.heard t (passed _ h)))
      (λ h. let g = goes m s t (heard-sound m sound s t h) in passes _ (onward-seen s t g.1.0 w.start g.1.1))

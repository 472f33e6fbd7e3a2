-- What a change leaves of the lists: the tests stay, and the one number that comes, goes or moves in the order passes none of them.
use Rattle.std.proofs.Common.{◌≡◌, ℕ, zero, suc, Bool, true, false, cond, T, eqb, ◌⊎◌, List, [], ◌∷◌, sym, refl, ap, ◌∙◌, subst, inl, inr, arith}
use mathlib.Core.Path.{fun_ext}
use mathlib.Core.Logic.Iff
use lib.Dec.{eqb_refl}
use Rattle.std.proofs.lemmas.Bool.{cases_eq}
use Rattle.theory.specs.Maps.{Map, Sound, turned, with_pair, without_pair, without_unit, enrolled}
use Rattle.theory.specs.Chains.{Heard}
use Rattle.theory.specs.Ranks.{rank_in, inserted, removed, moved}
use Rattle.theory.specs.Labels.{is_in_label}
use Rattle.theory.specs.Lists.{picked}
use Rattle.theory.specs.Changes.{Frame, Local, PairLocal, UnpairLocal, DropLocal, RankLocal, EnrolLocal}
use Rattle.theory.proofs.Maps.{turned-sound, hidden-sound}
use Rattle.theory.proofs.Chains.{heard-first, heard-last, heard-turned}
use Rattle.theory.proofs.Ranks.{removed-here, removed-next}
use Rattle.theory.proofs.HiddenUnits.{clear-unit}
use Rattle.theory.proofs.Decide.{in-decided}
use Rattle.theory.proofs.Frames.{pair-frame, unpair-frame, drop-frame, rank-frame, with-pair-sound, without-pair-sound}
use Rattle.theory.proofs.Enrols.{enrol-frame, enrolled-sound}
use Rattle.theory.proofs.Tables.{decided-by}

-- a number that does not pass the test makes no difference to what is picked
picked_next : (f : ℕ → Bool) (x : ℕ) (xs : List ℕ) → (T (f x) → ⊥) → picked f (x ∷ xs) ≡ picked f xs
picked_next f x xs far = go (f x) far
  where
    go : (b : Bool) → (T b → ⊥) → cond b (x ∷ picked f xs) (picked f xs) ≡ picked f xs
    go true far = absurd (far tt)
    go false far = refl

picked-removed : (f : ℕ → Bool) (x : ℕ) (xs : List ℕ) → (T (f x) → ⊥) → picked f (removed x xs) ≡ picked f xs
picked-removed f x [] far = refl
picked-removed f x (y ∷ ys) far = go (cases_eq y x) (picked-removed f x ys far)
  where
    go : (y ≡ x) ⊎ (y ≡ x → ⊥) → picked f (removed x ys) ≡ picked f ys → picked f (removed x (y ∷ ys)) ≡ picked f (y ∷ ys)
    go (inl e) ih = ap (picked f) (removed-here y ys x e) ∙ ih ∙ sym (picked_next f y ys (λ t. far (subst (λ z. T (f z)) e t)))
    go (inr ne) ih = ap (picked f) (removed-next y ys x ne) ∙ ap (λ l. cond (f y) (y ∷ l) l) ih

picked-inserted : (f : ℕ → Bool) (k x : ℕ) (xs : List ℕ) → (T (f x) → ⊥) → picked f (inserted k x xs) ≡ picked f xs
picked-inserted f zero x xs far = picked_next f x xs far
picked-inserted f (suc k) x [] far = picked_next f x [] far
picked-inserted f (suc k) x (y ∷ ys) far = ap (λ l. cond (f y) (y ∷ l) l) (picked-inserted f k x ys far)

-- a change in a frame, where the order keeps all numbers but x in their places
module _ (m n : Map) (sm : Sound m) (sn : Sound n) (order after : List ℕ) (A D : ℕ → Type 0) (frame : Frame m (rank_in order) n (rank_in after) A D) (x : ℕ)
    (picks : (f : ℕ → Bool) → (T (f x) → ⊥) → picked f order ≡ picked f after) (down : (v : ℕ) → Heard n x v → D v) (up : (u : ℕ) → Heard n u x → A u) where
  in-test : (u v : ℕ) → (A u → D v → ⊥) → is_in_label m (rank_in order) u v ≡ is_in_label n (rank_in after) u v
  in-test u v far = decided-by n sn (rank_in after) u v (is_in_label m (rank_in order) u v) (Iff.trans (in-decided m sm (rank_in order) u v) (frame u v far).0)

  out-test : (u v : ℕ) → (A u → D v → ⊥) → is_in_label (turned m) (rank_in order) v u ≡ is_in_label (turned n) (rank_in after) v u
  out-test u v far =
      decided-by (turned n) (turned-sound n sn) (rank_in after) v u (is_in_label (turned m) (rank_in order) v u)
      (Iff.trans (in-decided (turned m) (turned-sound m sm) (rank_in order) v u) (frame u v far).1)

  in-heard : (u v : ℕ) → T (is_in_label n (rank_in after) u v) → Heard n u v
  in-heard u v t = ((in-decided n sn (rank_in after) u v).0 t).heard

  out-heard : (u v : ℕ) → T (is_in_label (turned n) (rank_in after) v u) → Heard n u v
  out-heard u v t = (heard-turned n sn v u).0 ((in-decided (turned n) (turned-sound n sn) (rank_in after) v u).0 t).heard

  same-picks : (f g : ℕ → Bool) → ((k : ℕ) → f k ≡ g k) → (T (g x) → ⊥) → picked f order ≡ picked g after
  same-picks f g e far = ap (λ h. picked h order) (fun_ext e) ∙ picks g far

  local : Local m order n after A D
  local = record {
    in_labels_same = λ v far. same-picks (λ u. is_in_label m (rank_in order) u v) (λ u. is_in_label n (rank_in after) u v) (λ u. in-test u v (λ p q. far q)) (λ t. far (down v (in-heard x v t)));
    out_labels_same = λ u far. same-picks (λ v. is_in_label (turned m) (rank_in order) v u) (λ v. is_in_label (turned n) (rank_in after) v u) (λ v. out-test u v (λ p q. far p)) (λ t. far (up u (out-heard u x t)));
    in_holders_same = λ u far. same-picks (λ v. is_in_label m (rank_in order) u v) (λ v. is_in_label n (rank_in after) u v) (λ v. in-test u v (λ p q. far p)) (λ t. far (up u (in-heard u x t)));
    out_holders_same = λ v far. same-picks (λ u. is_in_label (turned m) (rank_in order) v u) (λ u. is_in_label (turned n) (rank_in after) v u) (λ u. out-test u v (λ p q. far q)) (λ t. far (down v (out-heard x v t)));
  }

-- zero is no unit: nothing hears it and it hears nothing
zero-alone : (n : Map) → Sound n → (P : Type 0) → T (n.unit 0) → P
zero-alone n sn P t = let k = sn.low 0 t in absurd (omega arith)

-- a change that keeps the order
local-paired : (m n : Map) → Sound m → Sound n → (order : List ℕ) (A D : ℕ → Type 0) → Frame m (rank_in order) n (rank_in order) A D → Local m order n order A D
local-paired m n sm sn order A D frame =
    local m n sm sn order order A D frame 0 (λ f far. refl) (λ v h. zero-alone n sn (D v) (heard-first n sn 0 v h)) (λ u h. zero-alone n sn (A u) (heard-last n sn u 0 h))

pub pair-local : PairLocal
pair-local m sound order a b ua ub ne =
    local-paired m (with_pair a b m) sound (with-pair-sound m sound a b ua ub ne) order (λ u. Heard m u a) (λ v. Heard m b v) (pair-frame m sound a b ua ub ne (rank_in order))

pub unpair-local : UnpairLocal
unpair-local m sound order a b =
    local-paired m (without_pair a b m) sound (without-pair-sound m sound a b) order (λ u. Heard m u a) (λ v. Heard m b v) (unpair-frame m sound a b (rank_in order))

pub drop_local : DropLocal
drop_local m sound order x =
    let n = without_unit x m in
    let sn = hidden-sound (λ y. eqb y x) m sound in
    local m n sound sn order (removed x order) (λ u. Heard m u x) (λ v. Heard m x v) (drop-frame m sound order x) x (λ f far. sym (picked-removed f x order far))
    (λ v h. absurd (clear-unit (λ y. eqb y x) m x (heard-first n sn x v h) (eqb_refl x))) (λ u h. absurd (clear-unit (λ y. eqb y x) m x (heard-last n sn u x h) (eqb_refl x)))

pub rank-local : RankLocal
rank-local m sound order x k =
    local m m sound sound order (moved k x order) (λ u. Heard m u x) (λ v. Heard m x v) (rank-frame m sound order x k) x
    (λ f far. sym (picked-inserted f k x (removed x order) far ∙ picked-removed f x order far)) (λ v h. h) (λ u h. h)

pub enrol-local : EnrolLocal
enrol-local m sound order orders x sources listeners new k =
    let n = enrolled x sources listeners m in
    local m n sound (enrolled-sound m sound x sources listeners new) order (inserted k x order) (λ u. Heard n u x) (λ v. Heard n x v)
    (enrol-frame m sound order orders x sources listeners new k) x (λ f far. sym (picked-inserted f k x order far)) (λ v h. h) (λ u h. h)

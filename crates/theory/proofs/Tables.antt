-- Right tables say the labels, and a walk past what they mark gives the next row.
use Rattle.std.proofs.Common.{◌≡◌, ℕ, Bool, T, ◌≢◌, ◌⊎◌, ◌↔◌, List, sym, subst}
use mathlib.Core.Logic.Iff
use mathlib.Core.Logic.{⊎_map}
use Rattle.theory.specs.Maps.{Map, Sound, turned, hidden}
use Rattle.theory.specs.Chains.{Heard}
use Rattle.theory.specs.Ranks.{rank_in, Orders}
use Rattle.theory.specs.Labels.{InLabel, OutLabel, is_in_label}
use Rattle.theory.specs.Rows.{Covered, Rows, Right, RightBefore, Through, turned_rows}
use Rattle.theory.specs.Walks.{NextRow, ReachedByTables}
use Rattle.theory.proofs.Tests.{same_tests}
use Rattle.theory.proofs.Maps.{turned-sound}
use Rattle.theory.proofs.Chains.{heard-first}
use Rattle.theory.proofs.Decide.{in-decided}
use Rattle.theory.proofs.Walks.{row-by-cover, row-by-walk, reached-by-rows}

pub turned_right : (m : Map) (rank : ℕ → ℕ) (rows : Rows) (u : ℕ) → Right m rank rows u → Right (turned m) rank (turned_rows rows) u
turned_right m rank rows u r = record { ins = r.outs; outs = r.ins }

-- a test that equals the label's test decides the label
pub decides : (m : Map) → Sound m → (rank : ℕ → ℕ) (u v : ℕ) (b : Bool) → b ≡ is_in_label m rank u v → T b ↔ InLabel m rank u v
decides m sound rank u v b e = subst (λ z. T z ↔ InLabel m rank u v) (sym e) (in-decided m sound rank u v)

pub decided-by : (m : Map) → Sound m → (rank : ℕ → ℕ) (u v : ℕ) (b : Bool) → T b ↔ InLabel m rank u v → b ≡ is_in_label m rank u v
decided-by m sound rank u v b h =
    let by = Iff.trans h (Iff.symm (in-decided m sound rank u v)) in
    same_tests b (is_in_label m rank u v) by.0 by.1

-- the rows of a unit say its labels
module _ (m : Map) (sound : Sound m) (rank : ℕ → ℕ) (rows : Rows) (u : ℕ) (r : Right m rank rows u) where
  pub says-in : (v : ℕ) → T (rows.ins u v) ↔ InLabel m rank u v
  says-in v = decides m sound rank u v (rows.ins u v) (r.ins v)

  pub says-out : (v : ℕ) → T (rows.outs u v) ↔ OutLabel m rank u v
  says-out v = decides (turned m) (turned-sound m sound) rank u v (rows.outs u v) (r.outs v)

-- what right tables lead to is what u covers
through-covered : (m : Map) → Sound m → (order : List ℕ) → Orders m order → (rows : Rows) (u : ℕ) → RightBefore m order rows u → (x : ℕ) → Through order rows u x ↔ Covered m (rank_in order) u x
through-covered m sound order orders rows u right x = (there, back)
  where
    there : Through order rows u x → Covered m (rank_in order) u x
    there (w, o, less, t, i) =
        let r = right w o less in
        (w, (says-out m sound (rank_in order) rows w r u).0 t, ⊎_map (says-in m sound (rank_in order) rows w r x).0 (λ e. e) i)

    back : Covered m (rank_in order) u x → Through order rows u x
    back (w, l, i) =
        let o = orders.every w (heard-first (turned m) (turned-sound m sound) w u l.heard) in
        let r = right w o l.higher in
        (w, o, l.higher, (says-out m sound (rank_in order) rows w r u).1 l, ⊎_map (says-in m sound (rank_in order) rows w r x).1 (λ e. e) i)

pub next_row : NextRow
next_row m sound order orders rows u right f marks v =
    (λ l. let ne = ((row-by-cover m sound order orders u v).0 l).0 in (ne, (walk ne).0 l), λ (ne, h). (walk ne).1 h)
  where
    walk : u ≢ v → InLabel m (rank_in order) u v ↔ Heard (hidden f m) u v
    walk ne = row-by-walk m sound order orders u v ne f (record {
      every = λ x d c. marks.every x d ((through-covered m sound order orders rows u right x).1 c);
      only = λ x t. ⊎_map (through-covered m sound order orders rows u right x).0 (λ less. less) (marks.only x t);
    })

pub reached-by-tables : ReachedByTables
reached-by-tables m sound order orders rows right u v t =
    (λ h. ⊎_map (λ e. e) (⊎_map here.1 down.1) (r.0 h), λ k. r.1 (⊎_map (λ e. e) (⊎_map here.0 down.0) k))
  where
    here : T (rows.ins u v) ↔ InLabel m (rank_in order) u v
    here = says-in m sound (rank_in order) rows u (right u (orders.every u t)) v

    r : Heard m u v ↔ ((v ≡ u) ⊎ (InLabel m (rank_in order) u v ⊎ Covered m (rank_in order) u v))
    r = reached-by-rows m sound order orders u v t

    down : Through order rows u v ↔ Covered m (rank_in order) u v
    down = through-covered m sound order orders rows u (λ w o less. right w o) v

-- What a table keeps, once a unit is put into its order or taken out, and the ranks are written anew from there on.
use Rattle.std.proofs.Common.{◌≡◌, ℕ, ◌+◌, ◌-◌, ◌<◌, ◌≤◌, true, false, ◌⊎◌, List, length, get_or, take, set, Option, Some, None, sym, ap, ◌∙◌, subst, inl, inr, ⊎_elim, arith}
use Rattle.std.proofs.lemmas.List.{length-take-le, get_or-take, get_or-set_same, get_or-set_other}
use Rattle.std.proofs.lemmas.Bool.{cases_Bool, cases_eq, cond-true, cond-false}
use Rattle.theory.specs.Maps.{listed}
use Rattle.theory.specs.Chains.{On}
use Rattle.theory.specs.Ranks.{rank_in, Once, inserted, removed}
use Rattle.theory.proofs.Distinct.{on-from-listed, off-from-listed, at_on, rank-at}
use Rattle.theory.proofs.Ranks.{on-inserted, on-removed}
use Rattle.ranks.specs.Orders.{Lawful, Ranking, Numbered, rank_found}
use Rattle.ranks.specs.Fields.{Kept, filled}
use Rattle.ranks.proofs.Whole.{Stands, stands, insert_lawful, remove_lawful, room, numbered, absent}
use Rattle.ranks.proofs.Shifts.{opened, closed}

-- the units have their ranks, and no other number has one
pub ranking : (order : List ℕ) (n : ℕ) (place : List (Option ℕ)) → n ≤ length order → Lawful (take n order) → Numbered order place n
    → ((u : ℕ) → (On u (take n order) → ⊥) → get_or place u None ≡ None) → Ranking (take n order) place
ranking order n place h law ranks none = record { lawful = law; ranked = λ u. at u (cases_Bool (listed u xs)) }
  where
    xs : List ℕ
    xs = take n order

    at : (u : ℕ) → (listed u xs ≡ true) ⊎ (listed u xs ≡ false) → get_or place u None ≡ rank_found xs u
    at u (inl t) =
        let p = at_on xs u (on-from-listed u xs t) in
        let many = length-take-le n order h in
        let l = p.1 in
        let here : get_or order p.0 0 ≡ u = sym (get_or-take n order p.0 0 (omega arith)) ∙ p.2 in
        let rank : p.0 + 1 ≡ rank_in xs u = omega (arith, rank-at xs law.once p.0 l, ap (rank_in xs) p.2) in
        ap (λ v. get_or place v None) (sym here) ∙ ranks p.0 (omega arith) ∙ ap Some rank ∙ sym (cond-true (listed u xs) (Some (rank_in xs u)) None t)
    at u (inr f) = none u (off-from-listed u xs f) ∙ sym (cond-false (listed u xs) (Some (rank_in xs u)) None f)

-- the order is changed from k on, so that it has these units, and only their ranks are still to be written
pub record Changed (place : List (Option ℕ)) (units new : List ℕ) (m k : ℕ) : Type 0 where
  pub within : k ≤ m
  pub is : take m new ≡ units
  pub once : Once (take m new)
  pub before : Numbered new place k
  pub kept : (now : List (Option ℕ)) → length now ≡ 256 → Numbered new now m → ((w : ℕ) → (On w (take m new) → ⊥) → get_or now w None ≡ get_or place w None) → Kept new m now

module _ (order : List ℕ) (n : ℕ) (place : List (Option ℕ)) (kept : Kept order n place) where
  -- the unit at a place of the array has the rank of that place
  rank-read : (i : ℕ) → i < n → get_or place (get_or order i 0) None ≡ Some (i + 1)
  rank-read i h =
      let many = filled order n place kept in
      ap (λ u. get_or place u None) (sym (get_or-take n order i 0 h)) ∙ numbered (take n order) place kept.ranking i (omega arith)

  -- u is put in at k
  module _ (k u : ℕ) (one : 1 ≤ u) (most : u ≤ 255) (off : listed u (take n order) ≡ false) (within : k ≤ length (take n order)) where
    pub insert-room : n < 255
    insert-room = omega (arith, filled order n place kept, room u (take n order) kept.ranking.lawful one most off)

    pub insert-within : k ≤ n
    insert-within = omega (arith, filled order n place kept, within)

    module _ (new : List ℕ) (m : ℕ) (count : m ≡ n + 1) (long : length new ≡ 255) (above : (i : ℕ) → i < k → get_or new i 0 ≡ get_or order i 0) (here : get_or new k 0 ≡ u)
        (below : (i : ℕ) → k < i → i ≤ n → get_or new i 0 ≡ get_or order (i - 1) 0) where
      insert-is : take m new ≡ inserted k u (take n order)
      insert-is =
          ap (λ j. take j new) count ∙ opened order new n k u (omega (arith, kept.long, kept.within)) (omega (arith, long, insert-room)) insert-within above here below

      insert-lawful : Lawful (take m new)
      insert-lawful = subst Lawful (sym insert-is) (insert_lawful k u (take n order) one most off kept.ranking.lawful)

      insert-absent : (w : ℕ) → (On w (take m new) → ⊥) → get_or place w None ≡ None
      insert-absent w far =
          absent (take n order) place kept.ranking w (λ o. far (subst (On w) (sym insert-is) ((on-inserted k u (take n order) w).1 (inr o))))

      pub insert_changed : ((i : ℕ) → n < i → get_or new i 0 ≡ get_or order i 0) → Changed place (inserted k u (take n order)) new m k
      insert_changed spare = record {
        within = omega (arith, count, insert-within);
        is = insert-is;
        once = insert-lawful.once;
        before = λ i l. ap (λ v. get_or place v None) (above i l) ∙ rank-read i (omega (arith, insert-within));
        kept = λ now wide ranks same. record {
          long = long;
          wide = wide;
          within = omega (arith, count, insert-room);
          spare = λ i h. spare i (omega (arith, count)) ∙ kept.spare i (omega (arith, count));
          ranking = ranking new m now (omega (arith, count, long, insert-room)) insert-lawful ranks (λ w far. same w far ∙ insert-absent w far);
        };
      }

  -- u is taken out, at its rank
  module _ (u rank : ℕ) (there : rank_found (take n order) u ≡ Some rank) where
    at-rank : Stands (take n order) u rank
    at-rank = stands (take n order) u rank kept.ranking.lawful.once there

    remove-within : rank - 1 < n
    remove-within = omega (arith, at-rank.within, filled order n place kept)

    -- a unit above it is another one
    remove-apart : (i : ℕ) → i < rank - 1 → get_or order i 0 ≡ u → ⊥
    remove-apart i l e =
        let h = remove-within in
        let both : Some (i + 1) ≡ Some rank = sym (rank-read i (omega arith)) ∙ ap (λ v. get_or place v None) e ∙ kept.ranking.ranked u ∙ there in
        let same : i + 1 ≡ rank = cc in
        omega arith

    module _ (new : List ℕ) (m : ℕ) (count : m ≡ n - 1) (long : length new ≡ 255) (above : (i : ℕ) → i < rank - 1 → get_or new i 0 ≡ get_or order i 0)
        (below : (i : ℕ) → rank - 1 ≤ i → i < m → get_or new i 0 ≡ get_or order (i + 1) 0) where
      remove-is : take m new ≡ removed u (take n order)
      remove-is =
          ap (λ j. take j new) count
          ∙ closed order new n (rank - 1) (omega (arith, kept.long, kept.within)) (omega (arith, long, kept.within)) remove-within above (λ i h l. below i h (omega (arith, count)))
          ∙ at-rank.taken

      remove-lawful : Lawful (take m new)
      remove-lawful = subst Lawful (sym remove-is) (remove_lawful u (take n order) kept.ranking.lawful)

      remove-before : Numbered new (set place u None) (rank - 1)
      remove-before i l =
          let h = remove-within in
          ap (λ v. get_or (set place u None) v None) (above i l) ∙ get_or-set_other place u (get_or order i 0) None None (remove-apart i l) ∙ rank-read i (omega arith)

      remove-absent : u < 256 → (w : ℕ) → (On w (take m new) → ⊥) → get_or (set place u None) w None ≡ None
      remove-absent small w far = ⊎_elim same other (cases_eq w u)
        where
          same : w ≡ u → get_or (set place u None) w None ≡ None
          same e = ap (λ z. get_or (set place u None) z None) e ∙ get_or-set_same place u None None (omega (arith, kept.wide))

          other : (w ≡ u → ⊥) → get_or (set place u None) w None ≡ None
          other ne =
              get_or-set_other place u w None None ne
              ∙ absent (take n order) place kept.ranking w (λ o. far (subst (On w) (sym remove-is) ((on-removed (take n order) u w).1 (o, ne))))

      pub remove_changed : u < 256 → get_or new m 0 ≡ 0 → ((i : ℕ) → n ≤ i → get_or new i 0 ≡ get_or order i 0) → Changed (set place u None) (removed u (take n order)) new m (rank - 1)
      remove_changed small last spare = record {
        within = omega (arith, count, remove-within);
        is = remove-is;
        once = remove-lawful.once;
        before = remove-before;
        kept = λ now wide ranks same. record {
          long = long;
          wide = wide;
          within = omega (arith, count, kept.within);
          spare = λ i h. ⊎_elim (λ (e : i ≡ m). ap (λ j. get_or new j 0) e ∙ last) (λ ne. spare i (omega (arith, count)) ∙ kept.spare i (omega (arith, count))) (cases_eq i m);
          ranking = ranking new m now (omega (arith, count, long, kept.within)) remove-lawful ranks (λ w far. same w far ∙ remove-absent small w far);
        };
      }

-- A request alters only the labels that it may: the frames of the changes, between lawful books.
use Rattle.std.proofs.Common.{◌≡◌, ℕ, ◌-◌, true, false, ◌&&◌, T, eqb, ◌≢◌, List, [], ◌∷◌, ◌++◌, Some, None, Option, sym, refl, ap, subst, inl, inr, ⊎_elim, eqb→eq}
use Rattle.std.proofs.lemmas.Bool.{both_ways, eq-eqb}
use Rattle.theory.specs.Maps.{Map, Sound, listed, with_pair, without_pair, without_unit, enrolled}
use Rattle.theory.specs.Chains.{On, Heard}
use Rattle.theory.specs.Ranks.{inserted, removed, moved}
use Rattle.theory.specs.Changes.{Local, New}
use Rattle.theory.proofs.Tests.{passes, passed, or_fst, or_snd, or-either, and_both}
use Rattle.theory.proofs.Lists.{listed-on}
use Rattle.theory.proofs.Enrols.{drop_orders, enrol_orders, rank_orders}
use Rattle.theory.proofs.Frames.{pair-area}
use Rattle.theory.proofs.Local.{pair-local, unpair-local, drop_local, rank-local, enrol-local}
use Rattle.plain.specs.declared.BookFault.{BookFault}
use Rattle.plain.specs.Plain.{Plain, map_of, Lawful}
use Rattle.plain.specs.Requests.{Request, Make, Load, Enrol, Drop, Pair, Unpair, Rank, Hear, BestPlace, InLabels, OutLabels, InHolders, OutHolders, Reach, Save, checks, verdict, granted, step, run, unless, rank_checks, enrol_checks}
use Rattle.book.proofs.Agree.{stored-by}
use Rattle.book.proofs.Changing.{all-absent}
use Rattle.book.proofs.Moving.{one_known}
use Rattle.histories.specs.Alters.{ByUnit, ByPairing, AltersOnly, LawfulAlong}

-- between larger sets, and to a map that goes by another term
wider : (m : Map) (order : List ℕ) (n k : Map) (after : List ℕ) (A D B E : ℕ → Type 0) → Local m order n after A D → n ≡ k → ((u : ℕ) → A u → B u) → ((v : ℕ) → D v → E v) → Local m order k after B E
wider m order n k after A D B E local e a d = subst (λ (x : Map). Local m order x after B E) e (record {
  in_labels_same = λ v off. local.in_labels_same v (λ h. off (d v h));
  out_labels_same = λ u off. local.out_labels_same u (λ h. off (a u h));
  in_holders_same = λ u off. local.in_holders_same u (λ h. off (a u h));
  out_holders_same = λ v off. local.out_holders_same v (λ h. off (d v h));
})

same : (p : Plain) (A D : ℕ → Type 0) → Local (map_of p) p.order (map_of p) p.order A D
same p A D = record { in_labels_same = λ v off. refl; out_labels_same = λ u off. refl; in_holders_same = λ u off. refl; out_holders_same = λ v off. refl }

-- what is refused alters nothing
nothing-altered : (p : Plain) (r : Request) → AltersOnly p r p
nothing-altered p Make = tt
nothing-altered p (Load page) = tt
nothing-altered p (Enrol unit rank sources listeners) = same p _ _
nothing-altered p (Drop unit) = same p _ _
nothing-altered p (Rank unit rank) = same p _ _
nothing-altered p (Pair source listener) = same p _ _
nothing-altered p (Unpair source listener) = same p _ _
nothing-altered p (Hear source listener) = refl
nothing-altered p (BestPlace unit sources listeners) = refl
nothing-altered p (InLabels unit room) = refl
nothing-altered p (OutLabels unit room) = refl
nothing-altered p (InHolders unit room) = refl
nothing-altered p (OutHolders unit room) = refl
nothing-altered p (Reach source listener sheet) = refl
nothing-altered p (Save place room) = refl

module _ (p : Plain) (law : Lawful p) where
  drop-alters : (v : ℕ) → ByUnit p (granted p (Drop v)) v
  unfolding granted
  drop-alters v =
      wider (map_of p) p.order (without_unit v (map_of p)) (map_of (granted p (Drop v))) (removed v p.order) _ _ _ _ (drop_local (map_of p) law.sound p.order v)
      (stored-by (without_unit v (map_of p)) (removed v p.order) (drop_orders (map_of p) p.order law.orders v)) (λ u. inl) (λ t. inl)

  rank-alters : (v k : ℕ) → listed v p.order ≡ true → ByUnit p (granted p (Rank v k)) v
  unfolding granted
  rank-alters v k there =
      wider (map_of p) p.order (map_of p) (map_of (granted p (Rank v k))) (moved (k - 1) v p.order) _ _ _ _ (rank-local (map_of p) law.sound p.order v (k - 1))
      (stored-by (map_of p) (moved (k - 1) v p.order) (rank_orders (map_of p) p.order law.orders v (passes _ there) (k - 1))) (λ u. inl) (λ t. inl)

  -- a granted pairing leads between different units
  pair-alters : (a b : ℕ) → Lawful (granted p (Pair a b)) → ByPairing p (granted p (Pair a b)) a b
  unfolding granted
  pair-alters a b after =
      let here : T ((with_pair a b (map_of p)).pair a b) = or_fst _ _ (and_both (eqb a a) (eqb b b) (passes _ (eq-eqb a a refl)) (passes _ (eq-eqb b b refl))) in
      let from = after.sound.from a b here in
      let to = after.sound.to a b here in
      let apart = after.sound.apart a b here in
      let area = λ (x : ℕ). (pair-area (map_of p) law.sound a b x).0 from to apart in
      wider (map_of p) p.order (with_pair a b (map_of p)) (map_of (granted p (Pair a b))) p.order _ _ _ _ (pair-local (map_of p) law.sound p.order a b from to apart) refl
      (λ u h. (h, (area u).0.1 h)) (λ t h. (h, (area t).1.1 h))

  unpair-alters : (a b : ℕ) → ByPairing p (granted p (Unpair a b)) a b
  unfolding granted
  unpair-alters a b =
      let area = λ (x : ℕ). pair-area (map_of p) law.sound a b x in
      wider (map_of p) p.order (without_pair a b (map_of p)) (map_of (granted p (Unpair a b))) p.order _ _ _ _ (unpair-local (map_of p) law.sound p.order a b) refl
      (λ u h. (h, (area u).1.1 h)) (λ t h. (h, (area t).2.1 h))

  -- a granted enrolment is of a new unit with partners that stand
  enrol-alters : (v k : ℕ) (sources listeners : List ℕ) → listed v p.order ≡ false → Lawful (granted p (Enrol v k sources listeners)) → ByUnit p (granted p (Enrol v k sources listeners)) v
  unfolding granted
  enrol-alters v k sources listeners absent after =
      wider (map_of p) p.order (enrolled v sources listeners (map_of p)) (map_of (granted p (Enrol v k sources listeners))) (inserted (k - 1) v p.order) _ _ _ _
      (enrol-local (map_of p) law.sound p.order law.orders v sources listeners new (k - 1)) is
      (λ u h. inr (subst (λ (n : Map). Heard n u v) is h)) (λ t h. inr (subst (λ (n : Map). Heard n v t) is h))
    where
      fresh : T (listed v p.order) → ⊥
      fresh t = both_ways _ absent (passed _ t)

      is : enrolled v sources listeners (map_of p) ≡ map_of (granted p (Enrol v k sources listeners))
      is = stored-by (enrolled v sources listeners (map_of p)) (inserted (k - 1) v p.order) (enrol_orders (map_of p) p.order law.orders v sources listeners fresh (k - 1))

      sound : Sound (enrolled v sources listeners (map_of p))
      sound = subst Sound (sym is) after.sound

      own : T ((enrolled v sources listeners (map_of p)).unit v)
      own = or_fst (eqb v v) _ (passes _ (eq-eqb v v refl))

      old : (u : ℕ) → u ≢ v → T ((enrolled v sources listeners (map_of p)).unit u) → T (listed u p.order)
      old u ne t = ⊎_elim (λ e. absurd (ne (eqb→eq u v e))) (λ h. h) (or-either (eqb u v) _ t)

      source : (s : ℕ) → On s sources → T ((enrolled v sources listeners (map_of p)).pair s v)
      source s o = or_fst _ _ (or_fst _ _ (and_both (listed s sources) (eqb v v) ((listed-on s sources).1 o) (passes _ (eq-eqb v v refl))))

      listener : (t : ℕ) → On t listeners → T ((enrolled v sources listeners (map_of p)).pair v t)
      listener t o = or_fst _ _ (or_snd (listed v sources && eqb t v) _ (and_both (eqb v v) (listed t listeners) (passes _ (eq-eqb v v refl)) ((listed-on t listeners).1 o)))

      new : New (map_of p) v sources listeners
      new = record {
        low = sound.low v own;
        high = sound.high v own;
        fresh = fresh;
        from = λ s o. old s (λ e. sound.apart s v (source s o) e) (sound.from s v (source s o));
        to = λ t o. old t (λ e. sound.apart v t (listener t o) (sym e)) (sound.to v t (listener t o));
      }

granted-alters : (capacity : ℕ) (p : Plain) (r : Request) → Lawful p → verdict capacity p r ≡ None → Lawful (granted p r) → AltersOnly p r (granted p r)
unfolding checks granted
granted-alters capacity p Make law v after = tt
granted-alters capacity p (Load page) law v after = tt
granted-alters capacity p (Enrol unit rank sources listeners) law v after = enrol-alters p law unit rank sources listeners (all-absent (enrol_checks capacity p unit rank sources listeners) v).1.0 after
granted-alters capacity p (Drop unit) law v after = drop-alters p law unit
granted-alters capacity p (Rank unit rank) law v after = rank-alters p law unit rank (one_known p.order unit (all-absent (rank_checks p unit rank) v).0)
granted-alters capacity p (Pair source listener) law v after = pair-alters p law source listener after
granted-alters capacity p (Unpair source listener) law v after = unpair-alters p law source listener
granted-alters capacity p (Hear source listener) law v after = refl
granted-alters capacity p (BestPlace unit sources listeners) law v after = refl
granted-alters capacity p (InLabels unit room) law v after = refl
granted-alters capacity p (OutLabels unit room) law v after = refl
granted-alters capacity p (InHolders unit room) law v after = refl
granted-alters capacity p (OutHolders unit room) law v after = refl
granted-alters capacity p (Reach source listener sheet) law v after = refl
granted-alters capacity p (Save place room) law v after = refl

pub step-alters : (capacity : ℕ) (p : Plain) (r : Request) → Lawful p → Lawful (step capacity p r) → AltersOnly p r (step capacity p r)
step-alters capacity p r law after = go (verdict capacity p r) refl
  where
    go : (v : Option BookFault) → verdict capacity p r ≡ v → AltersOnly p r (step capacity p r)
    go None e =
        let is : step capacity p r ≡ granted p r = ap (λ w. unless w p (granted p r)) e in
        subst (AltersOnly p r) (sym is) (granted-alters capacity p r law e (subst Lawful is after))
    go (Some cause) e = let is : step capacity p r ≡ p = ap (λ w. unless w p (granted p r)) e in subst (AltersOnly p r) (sym is) (nothing-altered p r)

pub along-first : (capacity : ℕ) (p : Plain) (rs : List Request) → LawfulAlong capacity p rs → Lawful p
along-first capacity p [] h = h
along-first capacity p (r ∷ rs) h = h.0

-- at every place of the list
pub alters-along : (capacity : ℕ) (p : Plain) (before : List Request) (r : Request) (after : List Request) → LawfulAlong capacity p (before ++ r ∷ after) →
    AltersOnly (run capacity p before) r (step capacity (run capacity p before) r)
alters-along capacity p [] r after h = step-alters capacity p r h.0 (along-first capacity (step capacity p r) after h.1)
alters-along capacity p (q ∷ qs) r after h = alters-along capacity (step capacity p q) qs r after h.1

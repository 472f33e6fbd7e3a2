-- Small maps worked out by the definitions.
use Rattle.std.specs.Prelude.{◌≡◌, ℕ, T, List, [], ◌∷◌}
use Rattle.theory.specs.Maps.{Map, nothing, with_unit, with_pair, without_unit, hidden, listed, enrolled}
use Rattle.theory.specs.Chains.{Heard, Fewest}
use Rattle.theory.specs.Hearing.{is_heard}
use Rattle.theory.specs.Ranks.{inserted, removed}
use Rattle.theory.specs.Lists.{in_labels, out_labels, total, labels_changed}

-- The units of the list, unpaired.
abbrev pub units : List ℕ → Map
units [] = nothing
units (x ∷ xs) = with_unit x (units xs)

-- 1 is paired to 2 and 3, and both to 4.
abbrev pub diamond : Map
diamond = with_pair 1 2 (with_pair 1 3 (with_pair 2 4 (with_pair 3 4 (units (2 ∷ 1 ∷ 3 ∷ 4 ∷ [])))))

abbrev pub diamond_order : List ℕ
diamond_order = 2 ∷ 1 ∷ 3 ∷ 4 ∷ []

-- 1 and 2 are paired to 3, and 3 to 4 and 5.
abbrev pub star : Map
star = with_pair 1 3 (with_pair 2 3 (with_pair 3 4 (with_pair 3 5 (units (1 ∷ 2 ∷ 3 ∷ 4 ∷ 5 ∷ [])))))

-- The total of labels where 3 is enrolled after the first k of 1, 2, 4, 5, with the sources 1 and 2 and the listeners 4 and 5.
abbrev pub star_total : ℕ → ℕ
star_total k = total (enrolled 3 (1 ∷ 2 ∷ []) (4 ∷ 5 ∷ []) (units (1 ∷ 2 ∷ 4 ∷ 5 ∷ []))) (inserted k 3 (1 ∷ 2 ∷ 4 ∷ 5 ∷ []))

-- 1 is paired to 2, 2 to 3, and 1 to 3.
abbrev pub short_cut : Map
short_cut = with_pair 1 2 (with_pair 2 3 (with_pair 1 3 (units (2 ∷ 1 ∷ 3 ∷ []))))

-- 1 is paired to 3; and with 2 between them.
abbrev pub direct : Map
direct = with_pair 1 3 (units (1 ∷ 3 ∷ []))

abbrev pub between : Map
between = enrolled 2 (1 ∷ []) (3 ∷ []) direct

-- 1 is paired to 2, 2 to 3 and 3 to 1, a ring; and 3 to 4.
abbrev pub ring : Map
ring = with_pair 1 2 (with_pair 2 3 (with_pair 3 1 (with_pair 3 4 (units (1 ∷ 2 ∷ 3 ∷ 4 ∷ [])))))

pub record Examples : Type 0 where
  -- nothing has no labels
  pub empty : total nothing [] ≡ 0
  -- a lone unit hears itself and has no labels
  pub lone_hears : T (is_heard (units (7 ∷ [])) 7 7)
  pub lone_ins : in_labels (units (7 ∷ [])) (7 ∷ []) 7 ≡ []
  pub lone_outs : out_labels (units (7 ∷ [])) (7 ∷ []) 7 ≡ []
  -- the four labels of the diamond
  pub diamond_4 : in_labels diamond diamond_order 4 ≡ 2 ∷ 3 ∷ []
  pub diamond_3 : in_labels diamond diamond_order 3 ≡ 1 ∷ []
  pub diamond_1 : out_labels diamond diamond_order 1 ≡ 2 ∷ []
  pub diamond_all : total diamond diamond_order ≡ 4
  -- the middle of the star ranked first, and last
  pub star_first : total star (3 ∷ 1 ∷ 2 ∷ 4 ∷ 5 ∷ []) ≡ 4
  pub star_last : total star (1 ∷ 2 ∷ 4 ∷ 5 ∷ 3 ∷ []) ≡ 8
  -- the middle enrolled at each rank: the first is the best
  pub star_1 : star_total 0 ≡ 4
  pub star_2 : star_total 1 ≡ 6
  pub star_3 : star_total 2 ≡ 8
  pub star_4 : star_total 3 ≡ 8
  pub star_5 : star_total 4 ≡ 8
  -- 2 dropped: 1 becomes an in-label of 3, and three labels change
  pub before_drop : in_labels short_cut (2 ∷ 1 ∷ 3 ∷ []) 3 ≡ 2 ∷ []
  pub after_drop : in_labels (without_unit 2 short_cut) (removed 2 (2 ∷ 1 ∷ 3 ∷ [])) 3 ≡ 1 ∷ []
  pub drop_changes : labels_changed short_cut (2 ∷ 1 ∷ 3 ∷ []) (without_unit 2 short_cut) (removed 2 (2 ∷ 1 ∷ 3 ∷ [])) ≡ 3
  -- 2 enrolled between 1 and 3 at rank 1: 1 leaves the in-labels of 3, and three labels change
  pub before_enrol : in_labels direct (1 ∷ 3 ∷ []) 3 ≡ 1 ∷ []
  pub after_enrol : in_labels between (inserted 0 2 (1 ∷ 3 ∷ [])) 3 ≡ 2 ∷ []
  pub enrol_changes : labels_changed direct (1 ∷ 3 ∷ []) between (inserted 0 2 (1 ∷ 3 ∷ [])) ≡ 3
  -- round the ring all hear each other, and 4 hears all: 2, the highest, is its only in-label
  pub ring_4 : in_labels ring (2 ∷ 4 ∷ 1 ∷ 3 ∷ []) 4 ≡ 2 ∷ []
  pub ring_all : total ring (2 ∷ 4 ∷ 1 ∷ 3 ∷ []) ≡ 5
  -- past a hidden unit of the diamond the other way has two pairings; past both there is none
  pub past_2 : Fewest (hidden (λ k. listed k (2 ∷ [])) diamond) 1 4 2
  pub past_both : Heard (hidden (λ k. listed k (2 ∷ 3 ∷ [])) diamond) 1 4 → ⊥

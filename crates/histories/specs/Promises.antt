-- What is promised of a book after any list of requests.
use Rattle.std.specs.Prelude.{◌≡◌, ℕ, T, ◌↔◌, List, ◌∷◌, ◌++◌}
use Rattle.theory.specs.Maps.{Map}
use Rattle.theory.specs.Chains.{On}
use Rattle.theory.specs.Ranks.{removed}
use Rattle.theory.specs.Lists.{in_labels, out_labels, in_holders, out_holders, shares}
use Rattle.plain.specs.Plain.{Plain, map_of, empty}
use Rattle.plain.specs.Requests.{Request, stands, step, run}
use Rattle.book.specs.declared.Book.{Book}
use Rattle.book.specs.Views.{plain_of, kept_in_labels, kept_out_labels, kept_in_holders, kept_out_holders}
use Rattle.histories.specs.Replies.{Reply, replies}
use Rattle.histories.specs.Alters.{Hears, AltersOnly}

-- `means` gives the meaning of the store.
module _ {S : Type 0} (means : S → Map) where
  -- The four lists of the unit, as the book keeps them and its calls would write them, are those of the definition for the plain book.
  pub record FourLists (book : Book S) (p : Plain) (v : ℕ) : Type 0 where
    pub in_labels_same : kept_in_labels means book v ≡ in_labels (map_of p) p.order v
    pub out_labels_same : kept_out_labels means book v ≡ out_labels (map_of p) p.order v
    pub in_holders_same : kept_in_holders means book v ≡ in_holders (map_of p) p.order v
    pub out_holders_same : kept_out_holders means book v ≡ out_holders (map_of p) p.order v

  -- The lists of labels tell who hears whom, and none of the labels can be struck.
  pub record Sufficient (book : Book S) (p : Plain) : Type 0 where
    -- s with its out-labels and t with its in-labels share a unit exactly when t hears s
    pub shared : (s t : ℕ) → T (stands p s) → T (stands p t) → T (shares (s ∷ kept_out_labels means book s) (t ∷ kept_in_labels means book t)) ↔ Hears p t s
    -- with an in-label u of v struck, v still hears u, and the two lists share none
    pub in_needed : (u v : ℕ) → On u (kept_in_labels means book v) → Hears p v u × (T (shares (u ∷ kept_out_labels means book u) (v ∷ removed u (kept_in_labels means book v))) → ⊥)
    -- with an out-label u of v struck, u still hears v, and the two lists share none
    pub out_needed : (u v : ℕ) → On u (kept_out_labels means book v) → Hears p u v × (T (shares (v ∷ removed u (kept_out_labels means book v)) (u ∷ kept_in_labels means book u)) → ⊥)

  -- The book after the requests, of which the first made it, and the replies to them.
  pub record Promised (capacity : ℕ) (requests : List Request) (book : Book S) (given : List Reply) : Type 0 where
    -- its ranks and pairings are those of the plain book after the same requests
    pub plain : plain_of means book ≡ run capacity empty requests
    -- so are the units and pairings of its store
    pub stored : means book.store ≡ map_of (run capacity empty requests)
    -- the replies are the plain book's
    pub replied : given ≡ replies capacity empty requests
    pub lists : (v : ℕ) → FourLists book (run capacity empty requests) v
    pub sufficient : Sufficient book (run capacity empty requests)
    -- each request altered only the labels that it may
    pub local : (before : List Request) (r : Request) (after : List Request) → requests ≡ before ++ r ∷ after →
        AltersOnly (run capacity empty before) r (step capacity (run capacity empty before) r)

-- A book that agrees with the plain book keeps the whole promise.
use Rattle.std.proofs.Common.{◌≡◌, ℕ, T, ◌↔◌, List, ◌∷◌, sym, ap, ◌∙◌, subst}
use Rattle.theory.specs.Maps.{Map}
use Rattle.theory.specs.Chains.{On}
use Rattle.theory.specs.Ranks.{removed}
use Rattle.theory.specs.Lists.{in_labels, out_labels, in_holders, out_holders, shares}
use Rattle.theory.proofs.Lists.{lists-told}
use Rattle.theory.proofs.Shared.{cover, minimal-in, minimal-out}
use Rattle.plain.specs.Plain.{Plain, map_of, empty, Lawful}
use Rattle.plain.specs.Requests.{Request, run}
use Rattle.book.specs.declared.Book.{Book}
use Rattle.book.specs.Views.{plain_of, Whole, kept_in_labels, kept_out_labels}
use Rattle.book.proofs.Keeping.{in-labels-kept, out-labels-kept, in-holders-kept, out-holders-kept}
use Rattle.histories.specs.Replies.{Reply, replies}
use Rattle.histories.specs.Alters.{Hears, LawfulAlong}
use Rattle.histories.specs.Promises.{FourLists, Sufficient, Promised}
use Rattle.histories.proofs.Locals.{alters-along}

module _ {S : Type 0} (means : S → Map) (book : Book S) (whole : Whole means book) (p : Plain) (is : plain_of means book ≡ p) where
  four-lists : (v : ℕ) → FourLists means book p v
  four-lists v =
      let q = plain_of means book in
      let exact = whole.exact in
      record {
        in_labels_same = in-labels-kept (map_of q) q.order book.labels exact v ∙ ap (λ (k : Plain). in_labels (map_of k) k.order v) is;
        out_labels_same = out-labels-kept (map_of q) q.order book.labels exact v ∙ ap (λ (k : Plain). out_labels (map_of k) k.order v) is;
        in_holders_same = in-holders-kept (map_of q) q.order book.labels exact v ∙ ap (λ (k : Plain). in_holders (map_of k) k.order v) is;
        out_holders_same = out-holders-kept (map_of q) q.order book.labels exact v ∙ ap (λ (k : Plain). out_holders (map_of k) k.order v) is;
      }

  law : Lawful p
  law = subst Lawful is whole.lawful

  -- two kept lists as those of the definition
  told-by : (P : List ℕ → List ℕ → Type 0) (s t : ℕ) → P (out_labels (map_of p) p.order s) (in_labels (map_of p) p.order t) → P (kept_out_labels means book s) (kept_in_labels means book t)
  told-by P s t h =
      subst (λ (xs : List ℕ). P xs (kept_in_labels means book t)) (sym (four-lists s).out_labels_same) (subst (λ (ys : List ℕ). P (out_labels (map_of p) p.order s) ys) (sym (four-lists t).in_labels_same) h)

  sufficient : Sufficient means book p
  sufficient = record {
    shared = λ s t us ut. told-by (λ xs ys. T (shares (s ∷ xs) (t ∷ ys)) ↔ Hears p t s) s t (cover (map_of p) law.sound p.order law.orders s t us ut).1;
    in_needed = λ u v o.
        let label = (lists-told (map_of p) law.sound p.order law.orders v).0.only u (subst (On u) (four-lists v).in_labels_same o) in
        let struck = minimal-in (map_of p) law.sound p.order law.orders u v label in
        (struck.0, told-by (λ xs ys. T (shares (u ∷ xs) (v ∷ removed u ys)) → ⊥) u v struck.2);
    out_needed = λ u v o.
        let label = (lists-told (map_of p) law.sound p.order law.orders v).1.only u (subst (On u) (four-lists v).out_labels_same o) in
        let struck = minimal-out (map_of p) law.sound p.order law.orders u v label in
        (struck.0, told-by (λ xs ys. T (shares (v ∷ removed u xs) (u ∷ ys)) → ⊥) v u struck.2);
  }

pub promised : {S : Type 0} (means : S → Map) (capacity : ℕ) (requests : List Request) (book : Book S) (given : List Reply) → Whole means book → plain_of means book ≡ run capacity empty requests →
    given ≡ replies capacity empty requests → LawfulAlong capacity empty requests → Promised means capacity requests book given
promised means capacity requests book given whole is told along = record {
  plain = is;
  stored = whole.stored ∙ ap map_of is;
  replied = told;
  lists = four-lists means book whole (run capacity empty requests) is;
  sufficient = sufficient means book whole (run capacity empty requests) is;
  local = λ before r after e. alters-along capacity empty before r after (subst (LawfulAlong capacity empty) e along);
}

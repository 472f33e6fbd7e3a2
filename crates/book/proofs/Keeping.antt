-- The lists that a book keeps are those of the definition.
use Rattle.std.proofs.Common.{◌≡◌, ℕ, List}
use Rattle.theory.specs.Maps.{Map}
use Rattle.theory.specs.Lists.{picked, in_labels, out_labels, in_holders, out_holders}
use Rattle.labels.specs.declared.Labels.{Labels}
use Rattle.labels.specs.declared.lists.List.{List as Wanted}
use Rattle.labels.specs.declared.lists.List.TheVariants as wanted
use Rattle.labels.specs.Holding.{holds, Exact}
use Rattle.labels.specs.Listed.{list_of}
use Rattle.plain.specs.Plain.{map_of}
use Rattle.book.specs.declared.Book.{Book}
use Rattle.book.specs.Views.{plain_of, Whole, kept_list}
use Rattle.labels.proofs.Picked.{picked_same}

module _ (m : Map) (order : List ℕ) (l : Labels) (exact : Exact m order l) (u : ℕ) where
  pub in-labels-kept : picked (λ k. holds l.ins k u) order ≡ in_labels m order u
  in-labels-kept = picked_same _ _ order (λ k o. exact.ins k u)

  pub out-labels-kept : picked (λ k. holds l.outs k u) order ≡ out_labels m order u
  out-labels-kept = picked_same _ _ order (λ k o. exact.outs k u)

  pub in-holders-kept : picked (λ k. holds l.ins u k) order ≡ in_holders m order u
  in-holders-kept = picked_same _ _ order (λ k o. exact.ins u k)

  pub out-holders-kept : picked (λ k. holds l.outs u k) order ≡ out_holders m order u
  out-holders-kept = picked_same _ _ order (λ k o. exact.outs u k)

pub list-kept : {S : Type 0} (means : S → Map) (b : Book S) (list : Wanted) (u : ℕ) → Whole means b → kept_list means list b u ≡ list_of list (map_of (plain_of means b)) (plain_of means b).order u
list-kept means b wanted.InLabels u whole = in-labels-kept _ _ b.labels whole.exact u
list-kept means b wanted.OutLabels u whole = out-labels-kept _ _ b.labels whole.exact u
list-kept means b wanted.InHolders u whole = in-holders-kept _ _ b.labels whole.exact u
list-kept means b wanted.OutHolders u whole = out-holders-kept _ _ b.labels whole.exact u

-- A save: refused where the page does not fit from the place on; else the page stands there and the other bytes stay.
use Rattle.std.proofs.Common.{◌≡◌, ℕ, ◌+◌, ◌*◌, ◌≤◌, Bool, true, false, cond, not, ltb, leb, List, [], ◌∷◌, ◌++◌, length, take, drop, Some, None, Ok, Err, sym, ap, ◌∙◌}
use borrow.Rule.Slice.PartMut.{put_mid}
use Rattle.std.proofs.lemmas.List.{drop-drop}
use Rattle.std.proofs.lemmas.Bool.{leb-true, leb-false, le-leb, le-ltb, lt-ltb}
use Rattle.theory.specs.Counts.{pair_count}
use Rattle.plain.specs.declared.BookFault.TheVariants as fault
use Rattle.plain.specs.Plain.{Plain, map_of, Lawful}
use Rattle.plain.specs.Saving.{saved_page}
use Rattle.plain.specs.Pages.{page_book, has_ring_or_loop}
use Rattle.plain.specs.Requests.{Save, checks, first_cause, granted, verdict}
use Rattle.maps.specs.declared.fault.StoreFault.TheVariants.{Full}
use Rattle.page_laws.proofs.Saved.{saved-length}
use Rattle.page_laws.proofs.RoundTrip.{saved-reads-back}
use Rattle.book.specs.Answers.{answered, placed, LoadsTo, Saves}
use Rattle.book.proofs.Loading.{load-granted}

-- a saved page is granted wherever there is room, and is the book again
loads : (p : Plain) → Lawful p → pair_count (map_of p) ≤ 8000 → LoadsTo (saved_page p) p
unfolding granted
loads p law few room other fit =
    let back = saved-reads-back p law few in (
      load-granted room other (saved_page p) (ap (λ (l : Bool). first_cause ((fault.UnlawfulPage, not l) ∷ (fault.Ring, has_ring_or_loop (page_book (saved_page p))) ∷ [])) back.lawful ∙ ap (λ (b : Bool). cond b (Some fault.Ring) None) back.ringless)
          (map_of p) (ap map_of (sym back.same)) (ap (λ (b : Bool). cond b None (Some Full)) (le-leb _ _ fit)),
      back.same,
    )

module _ (capacity : ℕ) (p : Plain) (law : Lawful p) (few : pair_count (map_of p) ≤ 8000) (place long : ℕ) (before : List ℕ) (is : long ≡ 4 + 3 * length p.order + 3 * pair_count (map_of p)) where
  pub page-long : length (saved_page p) ≡ long
  page-long = saved-length p law.sound law.orders ∙ sym is

  by_length : verdict capacity p (Save place (length before)) ≡ cond (ltb (length before) (place + long)) (Some fault.ShortBuffer) None
  unfolding checks
  by_length = ap (λ (n : ℕ). cond (ltb (length before) (place + n)) (Some fault.ShortBuffer) None) (sym is)

  pub save-refused : leb (place + long) (length before) ≡ false → Saves capacity p place before (Err fault.ShortBuffer) before
  save-refused e =
      let v : verdict capacity p (Save place (length before)) ≡ Some fault.ShortBuffer =
      by_length ∙ ap (λ (b : Bool). cond b (Some fault.ShortBuffer) None) (lt-ltb _ _ (leb-false _ _ e)) in
      record { told = ap (λ w. answered w (length (saved_page p))) (sym v); left = ap (λ w. placed w place (saved_page p) before) (sym v); back = loads p law few }

  pub save-done : leb (place + long) (length before) ≡ true → (k : ℕ) → k ≡ long → (page : List ℕ) → page ≡ saved_page p → Saves capacity p place before (Ok long) (put_mid place k before page)
  save-done e k same page written =
      let v : verdict capacity p (Save place (length before)) ≡ None =
      by_length ∙ ap (λ (b : Bool). cond b (Some fault.ShortBuffer) None) (le-ltb _ _ (leb-true _ _ e)) in
      record {
        told = ap (λ n. Ok n) (sym page-long) ∙ ap (λ w. answered w (length (saved_page p))) (sym v);
        left =
            ap (λ (xs : List ℕ). take place before ++ (xs ++ drop k (drop place before))) written
            ∙ ap (λ (n : ℕ). take place before ++ (saved_page p ++ drop n (drop place before))) (same ∙ sym page-long)
            ∙ ap (λ (xs : List ℕ). take place before ++ (saved_page p ++ xs)) (drop-drop (length (saved_page p)) place before)
            ∙ ap (λ w. placed w place (saved_page p) before) (sym v);
        back = loads p law few;
      }

use Rattle.std.proofs.Common.{◌≡◌, ℕ, ◌+◌, ◌-◌, ◌*◌, ◌≤◌, List, length, drop, sym, refl, ap, ◌∙◌, subst, arith, length-drop}
use Rattle.std.proofs.lemmas.Bool.{leb-true}
use Rattle.std.proofs.lemmas.List.{length-take-le}
use Rattle.theory.specs.Maps.{Map}
use Rattle.theory.specs.Counts.{pair_count}
use Rattle.theory.specs.Ranks.{Orders}
use Rattle.theory.proofs.Counting.{pair-count-same}
use Rattle.plain.specs.Plain.{map_of, plain_by}
use Rattle.plain.specs.Saving.{saved_page}
use Rattle.book.specs.Views.{plain_of}
use Rattle.book.proofs.Agree.{keeps}
use Rattle.book.proofs.Saving.{save-refused, save-done}
use Rattle.book.proofs.Book.save.Goals as goal

-- the length that was reckoned is that of the page
long : (m : Map) (order : List ℕ) (n units pairings : ℕ) → n ≡ 4 + 3 * units + 3 * pairings → units ≡ length order → pairings ≡ pair_count m → n ≡ 4 + 3 * length order + 3 * pair_count (map_of (plain_by m order))
long m order n units pairings e f g = let same = pair-count-same m (map_of (plain_by m order)) (λ x y. refl) in omega arith

-- a store has room for 8,000 pairings at most
few : (m : Map) (order : List ℕ) (pairings room : ℕ) → pairings ≡ pair_count m → pairings ≤ room → room ≤ 8000 → pair_count (map_of (plain_by m order)) ≤ 8000
few m order pairings room e f g = let same = pair-count-same m (map_of (plain_by m order)) (λ x y. refl) in omega arith

pub returns-then-not-fits : goal.returns-then-not-fits
returns-then-not-fits g c =
    save-refused g.S.Store.room (plain_of g.S.Map.meaning c.args.self.now) c.requires.lawful (few _ _ _ _ c.pairings-pairings.ensures.number c.pairings-pairings.ensures.within (subst (λ (n : ℕ). n ≤ 8000) c.capacity.ensures.number c.capacity.ensures.most)) c.args.place c.page_length-length.result c.args.buffer.now
    (long _ _ _ _ _ c.page_length-length.ensures c.len.ensures c.pairings-pairings.ensures.number) (sym c.if-not-fits.ensures)

pub write-requires : goal.write-requires
write-requires g c =
    let k = keeps (g.S.Map.meaning c.args.self.now.store) c.args.self.now.ranks c.args.self.now.labels c.requires in
    let room = leb-true _ _ (sym c.if-not-fits.ensures) in
    let part = c.args.place + c.page_length-length.result - c.args.place in
    let rest = length-drop c.args.place c.args.buffer.now in
    let size = length-take-le part (drop c.args.place c.args.buffer.now) (omega arith) in
    let units = ap length c.as_slice.ensures in
    let within = c.pairings-pairings.ensures.within in
    record {
      orders = subst (λ (xs : List ℕ). Orders (g.S.Map.meaning c.args.self.now.store) xs) (sym c.as_slice.ensures) k.orders;
      number = c.pairings-pairings.ensures.number;
      few = omega (arith, c.capacity.ensures.number, c.capacity.ensures.most);
      long = omega (arith, c.page_length-length.ensures, c.len.ensures);
    }

pub returns : goal.returns
returns g c =
    let m = g.S.Map.meaning c.args.self.now.store in
    let part : (c.args.place + c.page_length-length.result) - c.args.place ≡ c.page_length-length.result = omega arith in
    save-done g.S.Store.room (plain_of g.S.Map.meaning c.args.self.now) c.requires.lawful (few _ _ _ _ c.pairings-pairings.ensures.number c.pairings-pairings.ensures.within (subst (λ (n : ℕ). n ≤ 8000) c.capacity.ensures.number c.capacity.ensures.most)) c.args.place c.page_length-length.result c.args.buffer.now
    (long _ _ _ _ _ c.page_length-length.ensures c.len.ensures c.pairings-pairings.ensures.number) (sym c.if-not-fits.ensures) _ part c.write.new.page
    (c.write.ensures ∙ ap (λ (xs : List ℕ). saved_page (plain_by m xs)) c.as_slice.ensures)

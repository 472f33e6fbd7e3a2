-- A refusal leaves the book as it was; a granted load is the book that the page says.
use Rattle.std.proofs.Common.{◌≡◌, ℕ, sym, refl, ap, ◌∙◌, subst, arith}
use Rattle.plain.specs.Requests.{Load, verdict}
use Rattle.grid.specs.Meaning.{matrix_map}
use Rattle.book.specs.declared.Book.{Book}
use Rattle.book.specs.Views.{plain_of, Whole}
use Rattle.book.specs.Answers.{answered}
use Rattle.book.proofs.Answering.{told-cause}
use Rattle.book.proofs.Loading.{page-refused, room-refused, load-granted, load-refused, load_step, said-lawful, said-orders, said-agrees}
use Rattle.book.proofs.Book.load.Goals as goal

pub returns-in_err-contents : goal.returns-in_err-contents
returns-in_err-contents g c =
    let p = plain_of g.S.Map.meaning c.args.self.now in
    let v = page-refused g.S.Store.room p c.args.page.now _ c.in_err-contents.ensures in
    record {
      told = told-cause (verdict g.S.Store.room p (Load c.args.page.now)) (tt {0}) c.from_residual.result _ v c.from_residual.ensures.1;
      left = load-refused g.S.Store.room p c.args.page.now _ v;
      whole = c.requires;
      kept = λ cause e. refl;
    }

pub returns-in_err-copy_map : goal.returns-in_err-copy_map
returns-in_err-copy_map g c =
    let p = plain_of g.S.Map.meaning c.args.self.now in
    let says = c.in_ok-contents.ensures in
    let v = room-refused g.S.Store.room p c.args.page.now says.granted _ says.map _ c.in_err-copy_map.ensures.copied.0 in
    let same : c.copy_map.new.into ≡ c.args.self.now.store = c.in_err-copy_map.ensures.kept _ refl in
    let whole : Book g.row.S.Denot → Type 0 = Whole g.S.Map.meaning in
    let book : g.row.S.Denot → Book g.row.S.Denot = λ s. record { store = s; ranks = c.args.self.now.ranks; labels = c.args.self.now.labels } in
    record {
      told = told-cause (verdict g.S.Store.room p (Load c.args.page.now)) (tt {0}) c.from_residual-in_err-copy_map.result _ v c.from_residual-in_err-copy_map.ensures.1;
      left = ap (λ s. plain_of g.S.Map.meaning (book s)) same ∙ load-refused g.S.Store.room p c.args.page.now _ v;
      whole = subst (λ s. whole (book s)) (sym same) c.requires;
      kept = λ cause e. ap book same;
    }

pub build-self-requires : goal.build-self-requires
build-self-requires g c =
    let says = c.in_ok-contents.ensures in
    let page = c.args.page.now in
    said-orders page _ (matrix_map c.in_ok-contents.contents.map) says.map (c.as_slice.ensures ∙ says.ranks) (said-lawful page _ says.granted says.ranks c.lawful.ensures)

pub returns : goal.returns
returns g c =
    let says = c.in_ok-contents.ensures in
    let page = c.args.page.now in
    let p = plain_of g.S.Map.meaning c.args.self.now in
    let copied = c.in_ok-copy_map.ensures.copied in
    let v = load-granted g.S.Store.room p page says.granted _ says.map copied.0 in
    let law = said-lawful page _ says.granted says.ranks c.lawful.ensures in
    record {
      told = ap (λ w. answered w (tt {0})) (sym v);
      left = load_step g.S.Store.room p page v _ _ (copied.1 ∙ says.map) says.ranks;
      whole = said-agrees page _ _ _ _ _ _ law says.map (copied.1 ∙ says.map) says.ranks c.as_slice.ensures refl c.build-self.ensures;
      kept = λ cause e. absurd (let z : ◌≡◌ {A = ℕ} 0 1 = cc in omega arith);
    }

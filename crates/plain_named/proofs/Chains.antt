-- A yes to a question is a chain of pairings between the two units that have the names, and a no that there is none.
use Rattle.std.proofs.Common.{◌≡◌, ℕ, suc, ◌+◌, Bool, List, length, Some, None, Ok, Err, Option, Result, sym, refl, ap, ◌∙◌, arith}
use Rattle.std.proofs.lemmas.Option.{MatchOption-at_some}
use Rattle.std.proofs.lemmas.Bool.{both_ways}
use Rattle.grammar.specs.Grammar.{Said}
use Rattle.grammar.specs.Grammar as said
use Rattle.names.specs.Names.{unit_named, found_at}
use Rattle.names.proofs.Finding.{holder}
use Rattle.theory.specs.Maps.{Sound}
use Rattle.theory.proofs.Tests.{passes, passed}
use Rattle.theory.proofs.Warshall.{heard-sound, heard-complete}
use Rattle.plain.specs.declared.BookFault.{BookFault}
use Rattle.plain.specs.Plain.{map_of, hears}
use Rattle.plain.specs.Requests.{verdict}
use Rattle.plain.specs.Requests as request
use Rattle.answers.specs.declared.Told.{Told}
use Rattle.answers.specs.declared.Told.TheVariants.{Heard}
use Rattle.answers.specs.declared.fault.LineFault.{LineFault}
use Rattle.plain_named.specs.Named.{Named, WellNamed}
use Rattle.plain_named.specs.Lines.{Hear, asked, next}
use Rattle.plain_named.specs.Replies.{replied, reply, reply_to, placed, reply_to_read}
use Rattle.plain_named.specs.Calls.{Hearing, ToldByChains}

-- what a granted question told
told_is : (o : Option BookFault) (b answer : Bool) → replied o (Heard b) ≡ Ok (Heard answer) → b ≡ answer
told_is None b answer e = cc
told_is (Some cause) b answer e = let z : ◌≡◌ {A = ℕ} 0 1 = cc in absurd (omega arith)

-- the two units of a question that was granted
two-found : (capacity : ℕ) (n : Named) (at then : ℕ) (answer : Bool) (o p : Option ℕ) → reply_to capacity n (next (found_at at o) (λ a. next (found_at then p) (λ b. Ok (Hear a b)))) ≡ Ok (Heard answer) →
    (a : ℕ) × (b : ℕ) × (o ≡ Some a) × (p ≡ Some b) × (hears n.book b a ≡ answer)
unfolding reply_to
two-found capacity n at then answer None p e = let z : ◌≡◌ {A = ℕ} 0 1 = cc in absurd (omega arith)
two-found capacity n at then answer (Some a) None e = let z : ◌≡◌ {A = ℕ} 0 1 = cc in absurd (omega arith)
two-found capacity n at then answer (Some a) (Some b) e = (a, b, refl, refl, told_is (verdict capacity n.book (request.Hear a b)) (hears n.book b a) answer e)

unplaced : (s : Said) (r : Result Told LineFault) (told : Told) → placed s r ≡ Ok told → r ≡ Ok told
unplaced s (Ok other) told e = cc
unplaced s (Err cause) told e = let z : ◌≡◌ {A = ℕ} 0 1 = cc in absurd (omega arith)

said-by-chains : (capacity : ℕ) (n : Named) → WellNamed n → Sound (map_of n.book) → (s t : List ℕ) (answer : Bool) → reply capacity n (said.Hear s t) ≡ Ok (Heard answer) → Hearing n s t answer
unfolding asked
said-by-chains capacity n w sound s t answer e =
    let f = two-found capacity n 3 (suc (length s) + 3) answer (unit_named n.names s) (unit_named n.names t) e in
    let m = map_of n.book in
    record {
      source = f.0;
      listener = f.1;
      first = MatchOption-at_some _ (λ k. n.names k ≡ Some s) f.0 f.2 (holder n.names s w.few);
      second = MatchOption-at_some _ (λ k. n.names k ≡ Some t) f.1 f.3 (holder n.names t w.few);
      heard = λ y. heard-sound m sound f.0 f.1 (passes (hears n.book f.1 f.0) (f.4 ∙ y));
      unheard = λ o h. both_ways (hears n.book f.1 f.0) (f.4 ∙ o) (passed (hears n.book f.1 f.0) (heard-complete m sound f.0 f.1 h));
    }

pub by-chains : (capacity : ℕ) (n : Named) (line : List ℕ) → WellNamed n → Sound (map_of n.book) → ToldByChains capacity n line
by-chains capacity n line w sound s t answer is e =
    said-by-chains capacity n w sound s t answer (unplaced (said.Hear s t) (reply capacity n (said.Hear s t)) (Heard answer) (ap (reply_to_read capacity n) (sym is) ∙ e))

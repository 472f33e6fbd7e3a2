use Rattle.std.proofs.Common.{length, sym, refl, ◌∙◌, subst}
use Rattle.std.proofs.lemmas.Bool.{ltb-false}
use Rattle.answers.specs.Texts.{Near}
use Rattle.plain_named.proofs.Chains.{by-chains}
use Rattle.plain_named.proofs.Places.{line-near}
use Rattle.plain_named.proofs.Obeying.{line-answered, line_refused, not-refused}
use Rattle.named.specs.Views.{named_of}
use Rattle.named.proofs.NamedBook.line.Goals as goal

pub write_answer-requires : goal.write_answer-requires
write_answer-requires g c =
    let n = named_of g.S.Map.meaning c.args.self.now in
    record { room = ltb-false (length c.args.buffer.now) 16 (sym c.if-is_short.ensures); near = subst Near (sym c.reply-answer.ensures.told) (line-near g.S.Store.room n c.args.bytes.now) }

pub returns : goal.returns
returns g c =
    let n = named_of g.S.Map.meaning c.args.self.now in
    record {
      answered = line-answered g.S.Store.room n c.args.bytes.now c.args.buffer.now c.reply-answer.result c.write_answer.result _ _ (ltb-false (length c.args.buffer.now) 16 (sym c.if-is_short.ensures)) c.reply-answer.ensures.told c.write_answer.ensures.len c.write_answer.ensures.buffer c.reply-answer.ensures.left;
      short = c.write_answer.ensures.short;
      agreed = c.reply-answer.ensures.agreed;
      untouched = λ cause e. not-refused c.write_answer.result cause e;
      chains = by-chains g.S.Store.room n c.args.bytes.now c.requires.1 c.requires.0.lawful.sound;
      kept = λ refusal e. c.reply-answer.ensures.kept refusal (c.reply-answer.ensures.told ∙ e);
    }

pub returns-then-is_short : goal.returns-then-is_short
returns-then-is_short g c = record {
  answered = line_refused g.S.Store.room (named_of g.S.Map.meaning c.args.self.now) c.args.bytes.now c.args.buffer.now (sym c.if-is_short.ensures);
  short = tt;
  agreed = c.requires;
  untouched = λ cause e. refl;
  chains = by-chains g.S.Store.room (named_of g.S.Map.meaning c.args.self.now) c.args.bytes.now c.requires.1 c.requires.0.lawful.sound;
  kept = λ refusal e. refl;
}

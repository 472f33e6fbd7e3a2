use Rattle.std.proofs.Common.{length, ap, ◌∙◌, arith, lit<, codes, decimal}
use Rattle.std.proofs.lemmas.List.{length_push}
use Rattle.answers.proofs.Short.{two_digits, number_short, letter_ascii, pushed}
use Rattle.answers.proofs.fault.Refusal.text.Goals as goal

pub push_str-requires-5 : goal.push_str-requires-5
push_str-requires-5 c =
    let fault = c.args.self.fault in
    let number = number_short fault c.number.result c.number.ensures in
    let place = two_digits c.args.self.place c.requires in
    let letter = ap length (c.push.ensures.ascii (letter_ascii fault c.from.result (c.from.ensures ∙ c.letter.ensures))) ∙ length_push c.push_str-3.new.self.bytes c.from.result in
    (lit< tt, omega (arith, number, place, letter, ap length c.new-text.ensures, ap length c.format.ensures.text, ap length c.format-2.ensures.text))

pub push_str-requires-6 : goal.push_str-requires-6
push_str-requires-6 c =
    let fault = c.args.self.fault in
    let number = number_short fault c.number.result c.number.ensures in
    let place = two_digits c.args.self.place c.requires in
    let letter = ap length (c.push.ensures.ascii (letter_ascii fault c.from.result (c.from.ensures ∙ c.letter.ensures))) ∙ length_push c.push_str-3.new.self.bytes c.from.result in
    (lit< tt, omega (arith, number, place, letter, ap length c.new-text.ensures, ap length c.format.ensures.text, ap length c.format-2.ensures.text))

pub returns : goal.returns
returns c =
    let letter = c.push.ensures.ascii (letter_ascii c.args.self.fault c.from.result (c.from.ensures ∙ c.letter.ensures)) in
    pushed _ _ _ _ _ _ _ _ (codes "refused ") _ _ _ _ _ _ c.new-text.ensures c.push_str.ensures.bytes c.push_str-2.ensures.bytes (c.format.ensures.text ∙ ap decimal c.number.ensures)
    c.push_str-3.ensures.bytes letter (c.from.ensures ∙ c.letter.ensures) c.push_str-4.ensures.bytes c.push_str-5.ensures.bytes c.format-2.ensures.text c.push_str-6.ensures.bytes

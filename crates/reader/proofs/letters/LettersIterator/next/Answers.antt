use Rattle.std.proofs.Common.{◌≡◌, ◌<◌, ◌≤◌, ◌∷◌, length, sym, ap, ◌∙◌, arith}
use Rattle.reader.specs.Letters.{letters_left}
use Rattle.reader.specs.declared.letters.SwitchLetter.{SwitchLetter}
use Rattle.reader.proofs.LetterRuns.{one_left}
use Rattle.reader.proofs.letters.LettersIterator.next.Goals as goal

here : (c : goal.After-is_empty-2) → letters_left c.args.self.now ≡ record { code = c.letter_code.result; last = c.is_empty-2.result } ∷ letters_left (record { 0 = c.split_at.result.1 })
here c =
    let t = c.args.self.now.0.now in
    let z : 0 < length t = omega arith in
    let short : length c.split_at.result.0.now ≤ 4 = omega arith in
    one_left t c.split_at.result.0.now c.split_at.result.1.now c.letter_length.result c.letter_code.result z c.letter_length.ensures.value c.split_at.ensures.front c.split_at.ensures.back (c.letter_code.ensures short)
    ∙ ap (λ b. record { code = c.letter_code.result; last = b } ∷ letters_left (record { 0 = c.split_at.result.1 })) (sym c.is_empty-2.ensures)

pub returns-clause-steps : goal.returns-clause-steps
returns-clause-steps c = here c

pub returns-clause-goes : goal.returns-clause-goes
returns-clause-goes c = let e = ap (length {A = SwitchLetter}) (here c) in record { on = λ _. (tt, tt, omega arith); keeps = tt; rests = λ _. tt }

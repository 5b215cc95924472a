use Rattle.std.proofs.Common.{◌≡◌, ◌+◌, ◌≤◌, length, drop}
use Rattle.arrayvec.specs.ArrayVec.{array_vec_len}
use Rattle.text.specs.Line.{closed}
use Rattle.text.specs.Spans.{texts_at}
use Rattle.reading.specs.Model.{scan}
use Rattle.reader.specs.Steps.{state_of}
use Rattle.reader.specs.Signatures.{parameters_of}
use Rattle.reader.proofs.invocation.Invocation.read_words.Given as goal

abbrev pub invariant-loop-i : goal.invariant-loop-i
invariant-loop-i g l =
    let ps = parameters_of g.R.Register.signatures l.signature in
    (l.self.words ≡ l.initial.self.words + l.i)
    × (length l.self.values.rows.items + length (closed (texts_at l.bytes (drop l.i l.words))) ≤ 1024)
    × (array_vec_len l.roles ≡ array_vec_len l.initial.roles + l.i)
    × (scan ps (state_of ps l.bytes l.self l.roles.items) (texts_at l.bytes (drop l.i l.words)) ≡ scan ps (state_of ps l.bytes l.initial.self l.initial.roles.items) (texts_at l.bytes l.words))

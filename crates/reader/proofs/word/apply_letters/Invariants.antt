use Rattle.std.proofs.Common.{◌≡◌, ℕ, ◌+◌, ◌≤◌, List, map, length}
use Rattle.std.specs.Option.{option_map}
use Rattle.std.specs.Iterator.Adapters.{enumerate_source, enumerate_count}
use Rattle.text.specs.Spans.{text_at}
use Rattle.reading.specs.Letters.{letters}
use Rattle.reading.specs.Switches.Switch.{Letter}
use Rattle.reading.specs.Model.{run}
use Rattle.reader.specs.Meaning.{values_of}
use Rattle.reader.specs.Answers.{waiting_of}
use Rattle.reader.specs.Signatures.{parameters_of}
use Rattle.reader.specs.Letters.{letters_left, marked}
use Rattle.reader.proofs.LetterRuns.{run_on}
use Rattle.reader.proofs.word.apply_letters.Given as goal

abbrev pub invariant-loop-i : goal.invariant-loop-i
invariant-loop-i g l =
    let ps = parameters_of g.R.Register.signatures l.signature in
    record {
      room : length l.values.rows.items + length (letters_left (enumerate_source l.i-iterator)) ≤ length l.initial.values.rows.items + length (marked (letters l.name));
      runs : (bytes : List ℕ) → run_on ps l.word (option_map (text_at bytes) l.value) (values_of bytes l.values) (waiting_of ps l.waiting) (enumerate_count l.i-iterator) (letters_left (enumerate_source l.i-iterator)) ≡ run ps l.word (option_map (text_at bytes) l.value) (values_of bytes l.initial.values) 0 (map Letter (letters l.name));
    }

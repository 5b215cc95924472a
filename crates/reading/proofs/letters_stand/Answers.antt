use Rattle.reading.proofs.Letters.{letters_char}
use Rattle.reading.proofs.letters_stand.Goals as goal

pub returns : goal.returns
returns c char is rest = letters_char is rest

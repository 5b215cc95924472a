use Rattle.refusal.proofs.Moves.{shift_none, shift_twice}
use Rattle.refusal.proofs.shift.shifts_stand.Goals as goal

pub returns : goal.returns
returns c = record { none = shift_none; twice = shift_twice }

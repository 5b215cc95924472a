use Rattle.register.specs.Parameters.{has_long_name, has_letter_code}
use Rattle.register.proofs.Places.{place_found, place_only, long_passes, passes_long, letter_passes, passes_letter}
use Rattle.register.proofs.register.look_ups_stand.Goals as goal

pub returns : goal.returns
returns c = record {
  long_found = λ ps t i h. passes_long ps t i (place_found (has_long_name t) ps i h);
  long_only = λ ps apart t i h. place_only (has_long_name t) ps i (apart.longs t) (long_passes ps t i h);
  letter_found = λ ps c i h. passes_letter ps c i (place_found (has_letter_code c) ps i h);
  letter_only = λ ps apart c i h. place_only (has_letter_code c) ps i (apart.letters c) (letter_passes ps c i h);
}

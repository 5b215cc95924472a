-- What the marks of a parameter mean where its texts are left out. Assumes nothing.
use Rattle.std.specs.Prelude.{Bool, not, ◌&&◌, ◌||◌, is_some}
use Rattle.register.specs.declared.parameter.Parameter.{Parameter}
use Rattle.reading.specs.Signature.{is_star, above_zero}

abbrev pub bare_option : Parameter → Bool
bare_option p = p.has_long || is_some p.letter

abbrev pub bare_required : Parameter → Bool
bare_required p = not p.has_default && (not p.flag && (not (is_star p.kind) || above_zero p.min))

abbrev pub bare_may_be_empty : Parameter → Bool
bare_may_be_empty p = p.has_default || (p.flag || is_star p.kind)

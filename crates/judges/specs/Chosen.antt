-- What the judge that a run was told accepts. Assumes nothing.
use Rattle.judge.specs.Meaning.{JudgeMeaning, either_of}
use Rattle.judges.specs.Patterns.{texts_over, gauges_over}
use Rattle.judges.specs.declared.chosen.Chosen.{Chosen}
use Rattle.judges.specs.declared.chosen.Chosen.TheVariants.{Texts, Gauge, Both}

abbrev pub chosen_accepts : Chosen → JudgeMeaning
chosen_accepts (Texts j) = texts_over j.image.now j.patterns.now
chosen_accepts (Gauge j) = gauges_over j.patterns.now
chosen_accepts (Both t g) = either_of (texts_over t.image.now t.patterns.now) (gauges_over g.patterns.now)

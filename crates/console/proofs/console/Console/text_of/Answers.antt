use Rattle.std.proofs.Common.{◌≡◌, Bor, List, ℕ, sym, rules, ◌∙◌}
use Rattle.std.specs.Option.{option_map}
use Rattle.reader.specs.Meaning.{source_text}
use Rattle.console.proofs.Sources.{first_text_lem}
use Rattle.console.proofs.console.Console.text_of.Goals as goal

pub returns : goal.returns
returns c =
    let found : option_map (λ (x : Bor (List ℕ)). x.now) c.map.result ≡ option_map (source_text c.line-line.result.now) c.first_source.result = search rules in
    found ∙ rw (c.line-line.ensures, c.first_source.ensures, c.values-rows.ensures) (sym (first_text_lem _ c.args.row.first c.args.parameter _))

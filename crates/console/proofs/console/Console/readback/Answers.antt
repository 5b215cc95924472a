use Rattle.std.proofs.Common.{◌≡◌, Bor, List, ℕ, refl, rules}
use Rattle.std.specs.Option.{option_map, option_or}
use Rattle.register.specs.Parameters.{default_at}
use Rattle.console.specs.Keeps.{view}
use Rattle.reading.specs.Reading.{group}
use Rattle.book.specs.Kept.{row_kept}
use Rattle.console.proofs.Waiting.{nothing_couples}
use Rattle.console.proofs.Admission.{sane}
use Rattle.console.proofs.Sources.{text_or, reads_unkept, reads_unknown, reads_text}
use Rattle.console.proofs.console.Console.readback.Goals as goal

pub returns-in_default : goal.returns-in_default
returns-in_default g c h l =
    let s = c.args.self.now in
    let sig = g.R.Register.signatures c.args.register.now in record {
      lawful = (l.lawful, reads_unkept h (view s) l.coupled (sane s) sig c.args.serial c.args.parameter c.in_default.ensures);
      coupled = nothing_couples h (view s) _ refl l.coupled;
    }

pub returns-then-parameter-count : goal.returns-then-parameter-count
returns-then-parameter-count g c h l =
    let s = c.args.self.now in
    let sig = g.R.Register.signatures c.args.register.now in record {
      lawful = (l.lawful, reads_unknown h (view s) l.coupled (sane s) sig c.args.serial c.args.parameter c.in-Some.row c.in-Some.ensures c.count.result c.count.ensures c.if-parameter-count.true);
      coupled = nothing_couples h (view s) _ refl l.coupled;
    }

pub returns : goal.returns
returns g c h l =
    let s = c.args.self.now in
    let sig = g.R.Register.signatures c.args.register.now in
    let row = c.in-Some.row in
    let vs = group c.args.parameter (row_kept (view s).bytes (view s).values row).values in
    let instead = default_at (sig.parameters row.recipe) c.args.parameter in
    let t : option_map (λ (x : Bor (List ℕ)). x.now) c.or_else.result ≡ option_or (option_map (λ (x : Bor (List ℕ)). x.now) c.text_of-text.result) instead = search rules in record {
      lawful = (l.lawful, reads_text h (view s) l.coupled (sane s) sig c.args.serial c.args.parameter row c.in-Some.ensures c.count.result c.count.ensures c.if-parameter-count.false _ (text_or vs instead _ _ c.text_of-text.ensures t));
      coupled = nothing_couples h (view s) _ refl l.coupled;
    }

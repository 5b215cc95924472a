use Rattle.std.proofs.Common.{◌≡◌, ◌+◌, ◌<◌, ◌≤◌, min, length, get_or, refl, ap, ◌∙◌, rules}
use Rattle.console.specs.Keeps.{view}
use Rattle.console.specs.declared.issued.Issued.{Issued}
use Rattle.console.proofs.Admission.{sane}
use Rattle.console.proofs.Steps.{issue_couples, issue_shows}
use Rattle.console.proofs.console.Console.issue.Goals as goal

pub returns : goal.returns
returns c = record {
  law = λ h l.
      let s = c.args.self.now in
      let i = c.next_issued-issued.ensures in
      let some : s.at < s.book.fill.orders = search rules in
      let few : s.book.fill.orders ≤ length s.shown = search rules in
      let serial : c.next_issued-issued.result.serial ≡ s.first + s.base + s.at = ap (λ (y : Issued). y.serial) i in
      let more : c.one_more.result ≡ min 255 (get_or s.shown s.at 0 + 1) = c.one_more.ensures ∙ ap (λ (y : Issued). min 255 (y.earlier + 1)) i in record {
        lawful = (
          l.lawful,
          issue_shows h (view s) l.coupled (sane s) c.if-self.false some few c.one_more.result more _ _ _ serial refl (ap (λ (y : Issued). y.recipe) i) (ap (λ (y : Issued). y.first) i) (ap (λ (y : Issued). y.words) i) (ap (λ (y : Issued). y.earlier) i) (ap (λ y. y.number) c.new-slip.ensures) (ap (λ y. y.serial) c.new-slip.ensures ∙ serial),
        );
        coupled = issue_couples h (view s) l.coupled (sane s) c.if-self.false some few c.one_more.result more _ _ _ serial;
      };
  refused = tt;
}

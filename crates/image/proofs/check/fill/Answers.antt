use Rattle.std.proofs.Common.{drop, refl, ap, ◌∙◌}
use Rattle.std.proofs.lemmas.Result.{err_from_is_err_and}
use Rattle.tree.specs.Rows.{module_at}
use Rattle.image.specs.Image.{Unlawful}
use Rattle.image.specs.Tables.{zero}
use Rattle.image.specs.declared.tables.Tables.{Tables}
use Rattle.image.proofs.Says.{zero_behind, filled_rows, filled_count, all_held, lawful_from, once_from, not_once_from}
use Rattle.image.proofs.check.fill.Goals as goal

pub returns-then-image-gt-IMAGE_BYTES : goal.returns-then-image-gt-IMAGE_BYTES
returns-then-image-gt-IMAGE_BYTES c = Unlawful.long c.if-image-gt-IMAGE_BYTES.true

pub returns-in_err-counts : goal.returns-in_err-counts
returns-in_err-counts c =
    let p = err_from_is_err_and c.from_residual.result c.from_residual.ensures.1 in
    rw (p.1, p.2) (Unlawful.field c.if-image-gt-IMAGE_BYTES.false c.in_err-counts.ensures.reads.says)

pub returns-then-at-image : goal.returns-then-at-image
returns-then-at-image c =
    Unlawful.behind (record { short = c.if-image-gt-IMAGE_BYTES.false; good = c.in_ok-counts.ensures.reads.says }) c.if-at-image.true

pub returns-in_err-filled : goal.returns-in_err-filled
returns-in_err-filled c =
    let p = err_from_is_err_and c.from_residual-in_err-filled.result c.from_residual-in_err-filled.ensures.1 in
    let a = c.in_err-filled.ensures.answer in
    let held = all_held c.in_ok-counts.ensures.reads.says c.if-image-gt-IMAGE_BYTES.false c.if-at-image.false in
    rw (p.1, p.2, a.1) (Unlawful.shared held (rw c.from-recipes.ensures at a.2))

pub returns-in_err-check_modules : goal.returns-in_err-check_modules
returns-in_err-check_modules c =
    let p = err_from_is_err_and c.from_residual-in_err-check_modules.result c.from_residual-in_err-check_modules.ensures.1 in
    let image = c.args.image.now in
    let a = rw (c.front.ensures, c.from-names.ensures, c.from-modules.ensures) at (c.in_err-check_modules.ensures image) in
    let n = c.in_ok-counts.counts in
    let held = all_held c.in_ok-counts.ensures.reads.says c.if-image-gt-IMAGE_BYTES.false c.if-at-image.false in
    let count = filled_count (module_at image) 64 n.modules _ c.read_tree.new.modules c.in_ok-counts.ensures.modules in
    rw (p.1, p.2, a.1) (Unlawful.unnamed held (rw c.from-recipes.ensures at c.in_ok-filled.ensures.answer.apart) (not_once_from image c.read_tree.new.names n.names n.modules _ count a.2))

pub returns : goal.returns
returns c =
    let image = c.args.image.now in
    let n = c.in_ok-counts.counts in
    let r = c.in_ok-counts.ensures in
    let a = rw c.from-recipes.ensures at c.in_ok-filled.ensures.answer in
    let count = filled_count (module_at image) 64 n.modules _ c.read_tree.new.modules r.modules in
    let once = once_from image c.read_tree.new.names n.names n.modules _ count (rw (c.front.ensures, c.from-names.ensures, c.from-modules.ensures) at (c.in_ok-check_modules.ensures image)) in
    rw (c.from-modules.ensures, c.from-names.ensures, c.from-recipes.ensures, c.from.ensures) (
      refl,
      record {
        lawful = lawful_from r.reads.says c.if-image-gt-IMAGE_BYTES.false c.if-at-image.false a.apart once;
        longs = a.by_long;
        letters = a.by_letter;
        counted = record {
          modules = filled_rows 64 n.modules _ _ r.modules;
          names = filled_rows 512 n.names _ _ r.names;
          recipes = filled_rows 64 n.recipes _ _ r.recipes;
          patterns = filled_rows 256 n.patterns _ _ r.patterns;
        };
        modules_fit = r.modules.fits;
        names_fit = r.names.fits;
        modules = zero_behind 64 n.modules _ _ zero.modules r.modules (ap (λ (t : Tables). t.modules) c.requires);
        names = zero_behind 512 n.names _ _ zero.names r.names (ap (λ (t : Tables). t.names) c.requires);
        recipes = zero_behind 64 n.recipes _ _ zero.recipes r.recipes (ap (λ (t : Tables). t.recipes) c.requires);
        patterns = zero_behind 256 n.patterns _ _ zero.patterns r.patterns (ap (λ (t : Tables). t.patterns) c.requires);
        longs_behind = a.longs_filled.behind ∙ ap (λ (t : Tables). drop c.in_ok-filled.filled.longs t.longs) c.requires;
        letters_behind = a.letters_filled.behind ∙ ap (λ (t : Tables). drop c.in_ok-filled.filled.letters t.letters) c.requires;
        tidy_recipes = r.parameters;
        tidy_patterns = r.texts;
      },
    )

use Rattle.std.proofs.Common.{◌≡◌, ◌-◌, cond, length, take, drop, sym, ◌∙◌, rules, tests}
use Rattle.std.proofs.lemmas.List.{take_rest}
use Rattle.std.proofs.lemmas.Bool.{cond-true, cond-false}
use Rattle.std.proofs.lemmas.Iterator.{YieldsList-from_slice}
use Rattle.std.proofs.lemmas.Iterator.Search.{position_from_yields_List}
use Rattle.reader.proofs.WordParts.{is_equals, first_equals, found_name, found_value, missed_name, missed_value}
use Rattle.reader.proofs.switch_word.SwitchWord.of.Goals as goal
use Rattle.reader.proofs.switch_word.SwitchWord.of.Goals.{then-long, else-long}

pub returns-in-Some-clause-name : goal.returns-in-Some-clause-name
returns-in-Some-clause-name c =
    let bytes = c.args.bytes.now in
    let text = c.text_at-text.result.now in let dashes = c.if-long.dashes in
    let rest = take (length text - dashes) (drop dashes text) in
    let d : c.if-long.dashes ≡ cond c.is_long-long.result 2 1 = elim c.if-long.branch [ then-long y ↦ y.dashes-is ∙ sym (cond-true _ _ _ y.if-long.true) | else-long y ↦ y.dashes-is ∙ sym (cond-false _ _ _ y.if-long.false) ] in
    let p : c.position.result ≡ first_equals rest = position_from_yields_List is_equals _ _ _ c.position.ensures.ran (YieldsList-from_slice rest cc) (λ x b q k. search (rules, tests)) in
    found_name bytes c.args.span text rest c.is_long-long.result dashes c.text_at-text.ensures c.is_long-long.ensures (take_rest text dashes) d c.position.result p c.in-Some.at c.in-Some.is

pub returns-in-Some-clause-value : goal.returns-in-Some-clause-value
returns-in-Some-clause-value c =
    let bytes = c.args.bytes.now in
    let text = c.text_at-text.result.now in let dashes = c.if-long.dashes in
    let rest = take (length text - dashes) (drop dashes text) in
    let d : c.if-long.dashes ≡ cond c.is_long-long.result 2 1 = elim c.if-long.branch [ then-long y ↦ y.dashes-is ∙ sym (cond-true _ _ _ y.if-long.true) | else-long y ↦ y.dashes-is ∙ sym (cond-false _ _ _ y.if-long.false) ] in
    let p : c.position.result ≡ first_equals rest = position_from_yields_List is_equals _ _ _ c.position.ensures.ran (YieldsList-from_slice rest cc) (λ x b q k. search (rules, tests)) in
    found_value bytes c.args.span text rest c.is_long-long.result dashes c.text_at-text.ensures c.is_long-long.ensures (take_rest text dashes) d c.position.result p c.in-Some.at c.in-Some.is

pub returns-in-None-clause-name : goal.returns-in-None-clause-name
returns-in-None-clause-name c =
    let bytes = c.args.bytes.now in
    let text = c.text_at-text.result.now in let dashes = c.if-long.dashes in
    let rest = take (length text - dashes) (drop dashes text) in
    let d : c.if-long.dashes ≡ cond c.is_long-long.result 2 1 = elim c.if-long.branch [ then-long y ↦ y.dashes-is ∙ sym (cond-true _ _ _ y.if-long.true) | else-long y ↦ y.dashes-is ∙ sym (cond-false _ _ _ y.if-long.false) ] in
    let p : c.position.result ≡ first_equals rest = position_from_yields_List is_equals _ _ _ c.position.ensures.ran (YieldsList-from_slice rest cc) (λ x b q k. search (rules, tests)) in
    missed_name bytes c.args.span text rest c.is_long-long.result dashes c.text_at-text.ensures c.is_long-long.ensures (take_rest text dashes) d c.position.result p c.in-None.is

pub returns-in-None-clause-value : goal.returns-in-None-clause-value
returns-in-None-clause-value c =
    let bytes = c.args.bytes.now in
    let text = c.text_at-text.result.now in let dashes = c.if-long.dashes in
    let rest = take (length text - dashes) (drop dashes text) in
    let d : c.if-long.dashes ≡ cond c.is_long-long.result 2 1 = elim c.if-long.branch [ then-long y ↦ y.dashes-is ∙ sym (cond-true _ _ _ y.if-long.true) | else-long y ↦ y.dashes-is ∙ sym (cond-false _ _ _ y.if-long.false) ] in
    let p : c.position.result ≡ first_equals rest = position_from_yields_List is_equals _ _ _ c.position.ensures.ran (YieldsList-from_slice rest cc) (λ x b q k. search (rules, tests)) in
    missed_value bytes c.args.span text rest c.is_long-long.result dashes c.text_at-text.ensures c.is_long-long.ensures (take_rest text dashes) d c.position.result p c.in-None.is

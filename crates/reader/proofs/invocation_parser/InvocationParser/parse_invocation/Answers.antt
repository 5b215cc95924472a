use Rattle.std.proofs.Common.{ℕ, ◌+◌, ◌-◌, List, length, take, drop, Err, sym, ap, ◌∙◌, subst, arith, length-drop}
use Rattle.std.proofs.lemmas.List.{take_rest}
use Rattle.std.proofs.lemmas.Result.{err_from_is_err_and, IfOk-at_ok}
use Rattle.text.specs.Line.{closed}
use Rattle.text.specs.Spans.{texts_at}
use Rattle.text.specs.declared.span.Span.{Span}
use Rattle.path.specs.Path.{PathAnswer}
use Rattle.path.specs.Laws.{Takes}
use Rattle.reader.specs.Counts.{fault_of}
use Rattle.reader.specs.Orders.{order_by, parsed_order, ParsedWithin}
use Rattle.reader.proofs.OrderSteps.{closed-drop, default_at_lem, order_breaks, order_refuses, order_takes}
use Rattle.reader.proofs.invocation_parser.InvocationParser.parse_invocation.Goals as goal

pub read_words-requires : goal.read_words-requires
read_words-requires g c =
    let s = g.R.Register.signatures c.args.register.now in let names = g.R.Register.names c.args.register.now in let accepts = g.J.Judge.accepts c.args.judge.now in
    let bytes = c.args.bytes.now in let words = c.args.words.now in
    let path = c.in_ok-path.path in
    let most = (IfOk-at_ok (Takes (length words)) c.in_ok-path.was c.find_path.ensures.takes).most in
    let part = take_rest words path.words in
    let l = ap length part ∙ length-drop path.words words in
    let b = ap (λ (x : List Span). length (closed (texts_at bytes x))) part in
    let d = closed-drop path.words bytes words in
    record { few = omega (arith, c.restart.ensures.words); room = omega (arith, ap length c.restart.ensures.fill); places = omega (arith, ap length c.clear.ensures) }

pub returns-in_err-path : goal.returns-in_err-path
returns-in_err-path g c =
    let s = g.R.Register.signatures c.args.register.now in let names = g.R.Register.names c.args.register.now in let accepts = g.J.Judge.accepts c.args.judge.now in
    let bytes = c.args.bytes.now in let words = c.args.words.now in
    let p = err_from_is_err_and c.from_residual.result c.from_residual.ensures.1 in
    let e = p.1 ∙ ap Err p.2 in
    record {
      ordered = λ walked right. ap (λ r. parsed_order s bytes words r c.args.self.now) e ∙ ap (order_by s accepts (texts_at bytes words)) (sym (c.find_path.ensures.answer.only walked right ∙ c.in_err-path.was));
      within = subst (λ r. ParsedWithin names bytes words r c.args.self.now) (sym e) tt;
    }

pub returns-in_err-check_can_be_default_recipe : goal.returns-in_err-check_can_be_default_recipe
returns-in_err-check_can_be_default_recipe g c =
    let s = g.R.Register.signatures c.args.register.now in let names = g.R.Register.names c.args.register.now in let accepts = g.J.Judge.accepts c.args.judge.now in
    let bytes = c.args.bytes.now in let words = c.args.words.now in
    let p = err_from_is_err_and c.from_residual-in_err-check_can_be_default_recipe.result c.from_residual-in_err-check_can_be_default_recipe.ensures.1 in
    let e = p.1 ∙ ap Err p.2 in
    record {
      ordered = λ walked right. ap (λ r. parsed_order s bytes words r c.args.self.now) e
          ∙ default_at_lem s accepts (texts_at bytes words) c.in_ok-path.path _ (sym (ap fault_of c.in_err-check_can_be_default_recipe.was) ∙ c.check_can_be_default_recipe.ensures)
          ∙ ap (order_by s accepts (texts_at bytes words)) (sym (c.find_path.ensures.answer.only walked right ∙ c.in_ok-path.was));
      within = subst (λ r. ParsedWithin names bytes words r c.args.self.now) (sym e) tt;
    }

pub returns-in_err-read_words : goal.returns-in_err-read_words
returns-in_err-read_words g c =
    let s = g.R.Register.signatures c.args.register.now in let names = g.R.Register.names c.args.register.now in let accepts = g.J.Judge.accepts c.args.judge.now in
    let bytes = c.args.bytes.now in let words = c.args.words.now in
    let path = c.in_ok-path.path in let slice = take (length words - path.words) (drop path.words words) in
    let allowed = sym (ap fault_of c.in_ok-check_can_be_default_recipe.was) ∙ c.check_can_be_default_recipe.ensures in
    let none = c.clear.ensures in
    let p = err_from_is_err_and c.from_residual-in_err-read_words.result c.from_residual-in_err-read_words.ensures.1 in
    let e = p.1 ∙ ap Err p.2 in
    record {
      ordered = λ walked right. ap (λ r. parsed_order s bytes words r (record { order = c.read_words.new.self; roles = c.read_words.new.roles })) e
          ∙ order_breaks s accepts bytes words slice path c.restart.new.self c.read_words.new.self c.clear.new.self.items c.read_words.new.roles c.read_words.result (take_rest words path.words) (c.restart.ensures.state (s.parameters path.recipe) bytes) none c.read_words.ensures.scans allowed _ c.in_err-read_words.was
          ∙ ap (order_by s accepts (texts_at bytes words)) (sym (c.find_path.ensures.answer.only walked right ∙ c.in_ok-path.was));
      within = subst (λ r. ParsedWithin names bytes words r (record { order = c.read_words.new.self; roles = c.read_words.new.roles })) (sym e) tt;
    }

pub returns-in_err-check : goal.returns-in_err-check
returns-in_err-check g c =
    let s = g.R.Register.signatures c.args.register.now in let names = g.R.Register.names c.args.register.now in let accepts = g.J.Judge.accepts c.args.judge.now in
    let bytes = c.args.bytes.now in let words = c.args.words.now in
    let path = c.in_ok-path.path in let slice = take (length words - path.words) (drop path.words words) in
    let allowed = sym (ap fault_of c.in_ok-check_can_be_default_recipe.was) ∙ c.check_can_be_default_recipe.ensures in
    let none = c.clear.ensures in
    let p = err_from_is_err_and c.from_residual-in_err-check.result c.from_residual-in_err-check.ensures.1 in
    let e = p.1 ∙ ap Err p.2 in
    record {
      ordered = λ walked right. ap (λ r. parsed_order s bytes words r (record { order = c.read_words.new.self; roles = c.read_words.new.roles })) e
          ∙ order_refuses s accepts bytes words slice path c.restart.new.self c.read_words.new.self c.clear.new.self.items c.read_words.new.roles c.read_words.result (take_rest words path.words) (c.restart.ensures.state (s.parameters path.recipe) bytes) none c.read_words.ensures.scans allowed _ c.in_ok-read_words.was _ (sym (ap fault_of c.in_err-check.was) ∙ c.check.ensures)
          ∙ ap (order_by s accepts (texts_at bytes words)) (sym (c.find_path.ensures.answer.only walked right ∙ c.in_ok-path.was));
      within = subst (λ r. ParsedWithin names bytes words r (record { order = c.read_words.new.self; roles = c.read_words.new.roles })) (sym e) tt;
    }

pub returns : goal.returns
returns g c =
    let s = g.R.Register.signatures c.args.register.now in let names = g.R.Register.names c.args.register.now in let accepts = g.J.Judge.accepts c.args.judge.now in
    let bytes = c.args.bytes.now in let words = c.args.words.now in
    let path = c.in_ok-path.path in let slice = take (length words - path.words) (drop path.words words) in
    let allowed = sym (ap fault_of c.in_ok-check_can_be_default_recipe.was) ∙ c.check_can_be_default_recipe.ensures in
    let none = c.clear.ensures in
    let t = IfOk-at_ok _ c.in_ok-read_words.was c.read_words.ensures.takes in
    let w = t.1 ∙ ap (λ (k : ℕ). k + c.in_ok-read_words.field-0) c.restart.ensures.words in
    let most = (IfOk-at_ok (Takes (length words)) c.in_ok-path.was c.find_path.ensures.takes).most in
    let l = ap length (take_rest words path.words) ∙ length-drop path.words words in
    let k = t.0 in
    record {
      ordered = λ walked right. order_takes s accepts bytes words slice path c.restart.new.self c.read_words.new.self c.clear.new.self.items c.read_words.new.roles c.read_words.result (take_rest words path.words) (c.restart.ensures.state (s.parameters path.recipe) bytes) none c.read_words.ensures.scans allowed _ c.in_ok-read_words.was (sym (ap fault_of c.in_ok-check.was) ∙ c.check.ensures) w
          ∙ ap (order_by s accepts (texts_at bytes words)) (sym (c.find_path.ensures.answer.only walked right ∙ c.in_ok-path.was));
      within = (subst (PathAnswer names (texts_at bytes words)) c.in_ok-path.was c.find_path.ensures.answer.right, omega arith, λ h. let least = (IfOk-at_ok (Takes (length words)) c.in_ok-path.was c.find_path.ensures.takes).least h in omega arith);
    }

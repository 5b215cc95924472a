use Rattle.std.proofs.Common.{length, take, sym, subst, [], ◌∷◌, arith, length-append}
use Rattle.std.specs.Iterator.{IsFinite}
use Rattle.path.specs.Path.{Leads}
use Rattle.path.specs.Names.{name_of}
use Rattle.path.proofs.Places.{words_room}
use Rattle.path.proofs.Along.{stray_out, stops_here, takes_here, enters_here, lacks_here, ends_here, here, at_end}
use Rattle.path.proofs.walk.walk.Goals as goal

pub loop-name-init : goal.loop-name-init
loop-name-init g c =
    let names = g.R.Register.names c.args.register.now in
    let is = c.into_iter-name-iterator.ensures.into_iter_gives in (
      subst g.I.Iterator.can_next (sym is) c.requires.can,
      subst (λ it. IsFinite (g.I.Iterator.remaining it)) (sym is) c.requires.ends,
      λ path given. subst (Leads names names.root []) (sym c.root-module.ensures) Leads.here,
    )

pub returns-in_err-next : goal.returns-in_err-next
returns-in_err-next g c =
    let names = g.R.Register.names c.args.register.now in
    λ path given.
    let h = here path given _ c.into_iter-name-iterator.ensures.into_iter_gives c.loop-name.yielded c.loop-name.name-iterator c.loop-name.yielded_by c.next.result c.next.new.self c.in-Some.name c.in-Some.is c.next.ensures.steps in
    stray_out names path c.from_residual.result c.in_err-next.field-0.0 c.from_residual.ensures.1
    (stops_here names path (length c.loop-name.yielded) c.loop-name.«module» (name_of c.in-Some.name) (c.loop-name.invariant.2 path given) h.0 h.1 _ c.in_err-next.ensures)

pub loop-name-preserved : goal.loop-name-preserved
loop-name-preserved g c =
    let names = g.R.Register.names c.args.register.now in
    let on = c.in-Some.ensures.goes.on c.loop-name.invariant.1 in (
      on.0,
      on.1,
      λ path given.
          let h = here path given _ c.into_iter-name-iterator.ensures.into_iter_gives c.loop-name.yielded c.loop-name.name-iterator c.loop-name.yielded_by c.next.result c.next.new.self c.in-Some.name c.in-Some.is c.next.ensures.steps in
          subst (λ n. Leads names names.root (take n path.components) c.in-Continue.next) (sym (length-append c.loop-name.yielded (c.in-Some.name ∷ [])))
          (enters_here names path (length c.loop-name.yielded) c.loop-name.«module» (name_of c.in-Some.name) (c.loop-name.invariant.2 path given) h.0 h.1 c.in_ok-next.field-0 c.in-Continue.next c.in_ok-next.ensures c.in-Continue.is),
    )

pub overflow_add-result : goal.overflow_add-result
overflow_add-result g c =
    let path = c.requires.names.0 in let given = c.requires.names.1 in
    let h = here path given _ c.into_iter-name-iterator.ensures.into_iter_gives c.loop-name.yielded c.loop-name.name-iterator c.loop-name.yielded_by c.next.result c.next.new.self c.in-Some.name c.in-Some.is c.next.ensures.steps in
    let r = words_room path (length c.loop-name.yielded) (name_of c.in-Some.name) h.1 h.0 in let n = given.count in
    omega arith

pub returns-in-Break : goal.returns-in-Break
returns-in-Break g c =
    let names = g.R.Register.names c.args.register.now in
    λ path given.
    let h = here path given _ c.into_iter-name-iterator.ensures.into_iter_gives c.loop-name.yielded c.loop-name.name-iterator c.loop-name.yielded_by c.next.result c.next.new.self c.in-Some.name c.in-Some.is c.next.ensures.steps in
    takes_here names path (length c.loop-name.yielded) c.loop-name.«module» (name_of c.in-Some.name) (c.loop-name.invariant.2 path given) h.0 h.1 c.in_ok-next.field-0 c.in-Break.recipe c.in_ok-next.ensures c.in-Break.is

pub returns-in_err-recipe : goal.returns-in_err-recipe
returns-in_err-recipe g c =
    let names = g.R.Register.names c.args.register.now in
    λ path given.
    let past = at_end path given _ c.into_iter-name-iterator.ensures.into_iter_gives c.loop-name.yielded c.loop-name.name-iterator c.loop-name.yielded_by c.next.result c.next.new.self c.in-None.is c.next.ensures.steps in
    stray_out names path c.from_residual-in_err-recipe.result c.in_err-recipe.field-0.0 c.from_residual-in_err-recipe.ensures.1
    (lacks_here names path (length c.loop-name.yielded) c.loop-name.«module» (c.loop-name.invariant.2 path given) past _ c.in_err-recipe.ensures)

pub returns : goal.returns
returns g c =
    let names = g.R.Register.names c.args.register.now in
    λ path given.
    let past = at_end path given _ c.into_iter-name-iterator.ensures.into_iter_gives c.loop-name.yielded c.loop-name.name-iterator c.loop-name.yielded_by c.next.result c.next.new.self c.in-None.is c.next.ensures.steps in
    ends_here names path (length c.loop-name.yielded) c.loop-name.«module» (c.loop-name.invariant.2 path given) past c.in_ok-recipe.recipe c.args.words given.count c.in_ok-recipe.ensures

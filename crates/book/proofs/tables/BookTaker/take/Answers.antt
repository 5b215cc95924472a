use Rattle.std.proofs.Common.{refl, arith}
use Rattle.reader.specs.Told.{ToldOrder, as_told}
use Rattle.book.proofs.Takes.{room, took}
use Rattle.book.proofs.tables.BookTaker.take.Goals as goal

pub put_path-requires : goal.put_path-requires
put_path-requires c =
    let h = c.requires.1 in let o : ToldOrder = as_told c.args.order in
    let x = room c.args.self.now c.requires.0 h.0 o h.1 h.2 in let w = x.words in let v = x.values in let n = x.orders in
    omega arith

pub overflow_add-fill : goal.overflow_add-fill
overflow_add-fill c =
    let h = c.requires.1 in let o : ToldOrder = as_told c.args.order in
    let x = room c.args.self.now c.requires.0 h.0 o h.1 h.2 in let w = x.words in let v = x.values in let n = x.orders in
    omega arith

pub put-requires : goal.put-requires
put-requires c =
    let h = c.requires.1 in let o : ToldOrder = as_told c.args.order in
    let x = room c.args.self.now c.requires.0 h.0 o h.1 h.2 in let w = x.words in let v = x.values in let n = x.orders in
    omega arith

pub put-requires-2 : goal.put-requires-2
put-requires-2 c =
    let h = c.requires.1 in let o : ToldOrder = as_told c.args.order in
    let x = room c.args.self.now c.requires.0 h.0 o h.1 h.2 in let w = x.words in let v = x.values in let n = x.orders in
    omega arith

pub put-requires-3 : goal.put-requires-3
put-requires-3 c =
    let h = c.requires.1 in let o : ToldOrder = as_told c.args.order in
    let x = room c.args.self.now c.requires.0 h.0 o h.1 h.2 in let w = x.words in let v = x.values in let n = x.orders in
    omega arith

pub overflow_add-self : goal.overflow_add-self
overflow_add-self c =
    let h = c.requires.1 in let o : ToldOrder = as_told c.args.order in
    let x = room c.args.self.now c.requires.0 h.0 o h.1 h.2 in let w = x.words in let v = x.values in let n = x.orders in
    omega arith

pub overflow_add-self-2 : goal.overflow_add-self-2
overflow_add-self-2 c =
    let h = c.requires.1 in let o : ToldOrder = as_told c.args.order in
    let x = room c.args.self.now c.requires.0 h.0 o h.1 h.2 in let w = x.words in let v = x.values in let n = x.orders in
    omega arith

pub overflow_add-self-3 : goal.overflow_add-self-3
overflow_add-self-3 c =
    let h = c.requires.1 in let o : ToldOrder = as_told c.args.order in
    let x = room c.args.self.now c.requires.0 h.0 o h.1 h.2 in let w = x.words in let v = x.values in let n = x.orders in
    omega arith

pub returns-clause-took : goal.returns-clause-took
returns-clause-took c =
    let o : ToldOrder = as_told c.args.order in
    λ bytes os holds. took c.args.self.now bytes os o holds _ c.put_path.new.table c.put.new.table c.put-2.new.table c.put-3.new.table refl c.put_path.ensures.front c.put.ensures.front c.put-2.ensures.front c.put-3.ensures.front

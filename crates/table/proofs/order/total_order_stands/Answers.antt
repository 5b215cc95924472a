use Rattle.std.proofs.Common.{Less, refl}
use Rattle.std.specs.Cmp.{nat_cmp_total}
use Rattle.table.proofs.Narrow.{either_way, ranked_equal, turn_back, not_level}
use Rattle.table.proofs.order.total_order_stands.Goals as goal
use Rattle.std.specs.Cmp.Lexicographic.{lists_total}

pub returns : goal.returns
returns c = record {
  one_way_or_the_other = either_way;
  never_before_itself = λ a h. not_level a a Less refl h refl;
  transitive = (lists_total nat_cmp_total).trans;
  only_itself_level = ranked_equal;
  after_turned = turn_back;
}

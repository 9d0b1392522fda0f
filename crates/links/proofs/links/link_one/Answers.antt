use native.Mathlib.Omega.{arith}
use Rattle.links.proofs.Linking.{joined}
use Rattle.links.proofs.Chains.{one_joins, one_not}
use Rattle.links.proofs.links.link_one.Goals as goal

pub overflow_sub-kind : goal.overflow_sub-kind
overflow_sub-kind c = let y = joined _ _ _ _ c.does_join.ensures c.if-does_join.true in omega (arith, y.some_kind, y.known_kind, y.earlier)

pub put_in_front-requires : goal.put_in_front-requires
put_in_front-requires c = let y = joined _ _ _ _ c.does_join.ensures c.if-does_join.true in omega (arith, y.some_kind, y.known_kind, y.earlier)

pub returns-then-does_join : goal.returns-then-does_join
returns-then-does_join c = search one_joins

pub returns-else-does_join : goal.returns-else-does_join
returns-else-does_join c = search one_not

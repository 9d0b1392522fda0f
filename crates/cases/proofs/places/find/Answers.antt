use Rattle.std.proofs.Common.{◌≡◌, arith, rules, length, ap, ◌+◌}
use Rattle.cases.specs.Places.{slice}
use Rattle.cases.proofs.Finding.{found, Found}
use Rattle.cases.proofs.places.find.Goals as goal

pub overflow_add-result : goal.overflow_add-result
overflow_add-result c =
    let t : c.unwrap_or-rest.result.now ≡ slice c.args.from (length c.args.s.now) c.args.s.now = search rules in
    let f : Found c.args.s.now c.args.from c.args.b c.unwrap_or.result = found _ _ _ _ _ _ t c.first.ensures c.unwrap_or.ensures in
    search (f.within, arith)

pub returns : goal.returns
returns c =
    let t : c.unwrap_or-rest.result.now ≡ slice c.args.from (length c.args.s.now) c.args.s.now = search rules in
    let f : Found c.args.s.now c.args.from c.args.b c.unwrap_or.result = found _ _ _ _ _ _ t c.first.ensures c.unwrap_or.ensures in
    record { place = ap (λ k. c.args.from + k) f.place; low = omega arith; high = λ h. omega (f.within, arith) }

use Rattle.std.proofs.Common.{rules, tests}
use Rattle.table.specs.Table.{kin_named}
use Rattle.table.proofs.Scans.{first_in_range}
use Rattle.table.proofs.Kin.{find_kin}
use Rattle.table.proofs.table.Table.find.Goals as goal

pub returns : goal.returns
returns c =
    let t = c.args.self.now.records.now in
    let x = c.args.self.now.text.now in
    find_kin t x c.args.kind c.args.i c.args.want.now c.count.result c.count.ensures c.find.result (first_in_range (kin_named t x c.args.kind c.args.i c.args.want.now) _ _ _ c.find.result c.find.ensures.ran (λ x b q h. (search rules, search (rules, tests))))

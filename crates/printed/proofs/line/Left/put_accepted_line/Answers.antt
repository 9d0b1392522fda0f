use mathlib.Core.Path.{refl}
use Prim.Native.Nat.{◌-◌, ◌<◌}
use native.Mathlib.Omega.{arith}
use Rattle.printed.specs.declared.group.TheConstants.{GROUPS}
use Rattle.printed.specs.declared.term.TheConstants.{TERMS}
use Rattle.printed.proofs.Putting.{group_known, term_known}
use Rattle.printed.proofs.Dispatch.{accepted_first, accepted_group, accepted_term, accepted_row}
use Rattle.printed.proofs.line.Left.put_accepted_line.Goals as goal

pub returns-then-k-lt1 : goal.returns-then-k-lt1
returns-then-k-lt1 c = accepted_first _ _ _ _ _ _ c.if-k-lt1.true c.put_accepted.ensures

pub returns-then-k-lt6 : goal.returns-then-k-lt6
returns-then-k-lt6 c =
    let h : c.args.k - 1 < 5 = omega arith in
    accepted_group _ _ _ _ _ _ c.if-k-lt1.false c.if-k-lt6.true (group_known _ _ _ GROUPS refl h c.put_group.ensures)

pub returns-then-k-lt36 : goal.returns-then-k-lt36
returns-then-k-lt36 c =
    let h : c.args.k - 6 < 30 = omega arith in
    accepted_term _ _ _ _ _ _ c.if-k-lt6.false c.if-k-lt36.true (term_known _ _ _ _ TERMS refl h c.put_term.ensures)

pub returns : goal.returns
returns c = accepted_row _ _ _ _ _ _ c.if-k-lt36.false c.put_any_row.ensures

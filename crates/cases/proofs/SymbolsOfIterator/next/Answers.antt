use Rattle.std.proofs.Common.{◌≤◌, length, arith, rules, ◌∙◌}
use Rattle.text.proofs.Spans.{rest}
use Rattle.cases.proofs.Symbols.{symbols_none, symbols_first, size_first}
use Rattle.cases.proofs.SymbolsOfIterator.next.Goals as goal

pub returns-then-is_empty-clause-steps : goal.returns-then-is_empty-clause-steps
returns-then-is_empty-clause-steps c = let e = symbols_none c.args.self.now.0.now (grind (arith, c.is_empty.ensures)) in (e, e)

pub slice_bounds-self-count : goal.slice_bounds-self-count
slice_bounds-self-count c = (size_first c.args.self.now.0.now c.size.result (grind (arith, c.is_empty.ensures)) (grind (arith, c.size.ensures, c.symbol_of-x.ensures))).1

pub slice_bounds-self-start : goal.slice_bounds-self-start
slice_bounds-self-start c =
    let h : c.size.result ≤ length c.args.self.now.0.now = (size_first c.args.self.now.0.now c.size.result (grind (arith, c.is_empty.ensures)) (grind (arith, c.size.ensures, c.symbol_of-x.ensures))).1 in
    search rules

pub returns-clause-steps : goal.returns-clause-steps
returns-clause-steps c =
    symbols_first c.args.self.now.0.now (grind (arith, c.is_empty.ensures)) ∙ rw (c.size.ensures, rest, c.symbol_of-x.ensures)

pub returns-clause-goes : goal.returns-clause-goes
returns-clause-goes c =
    let e = symbols_first c.args.self.now.0.now (grind (arith, c.is_empty.ensures)) in
    record { on = λ f. (f, f, rw (e, rest, c.size.ensures, c.symbol_of-x.ensures) (omega arith)); keeps = tt; rests = λ f. tt }

use borrow.Author.Tests.{lt-ltb, le-ltb}
use Rattle.std.proofs.lemmas.Result.{err_from_is_err_and}
use Rattle.reader.proofs.Settling.{refused_is, refused_as, refused_answered}
use Rattle.settlement.specs.Outcome.{unknown_mode, unknown_rules, call_refusal, outcome}
use Rattle.reader.proofs.call.read.Goals as goal

pub returns-then-mode-gt1 : goal.returns-then-mode-gt1
unfolding outcome call_refusal unknown_mode unknown_rules
returns-then-mode-gt1 c = rw (lt-ltb _ _ c.if-mode-gt1.true) (refused_answered refused_is _ _ _)

pub returns-then-rules-gt4095 : goal.returns-then-rules-gt4095
unfolding outcome call_refusal unknown_mode unknown_rules
returns-then-rules-gt4095 c = rw (le-ltb _ _ c.if-mode-gt1.false, lt-ltb _ _ c.if-rules-gt4095.true) (refused_answered refused_is _ _ _)

pub returns-in_err-check : goal.returns-in_err-check
unfolding outcome call_refusal unknown_mode unknown_rules
returns-in_err-check c =
    let p = err_from_is_err_and c.from_residual.result c.from_residual.ensures.1 in
    rw (le-ltb _ _ c.if-mode-gt1.false, le-ltb _ _ c.if-rules-gt4095.false, ← c.in_err-check.ensures) (refused_answered (refused_as p.1 p.2) _ _ _)

pub returns : goal.returns
unfolding outcome call_refusal unknown_mode unknown_rules
returns c = rw (le-ltb _ _ c.if-mode-gt1.false, le-ltb _ _ c.if-rules-gt4095.false, ← c.in_ok-check.ensures) c.read_accepted.ensures

use Rattle.std.proofs.Common.{rules, tests, ◌∙◌}
use Rattle.table.proofs.Scans.{none_in_range}
use Rattle.refusals.specs.Verdicts.{unsound}
use Rattle.refusals.proofs.Wholes.{sound_refusal}
use Rattle.refusals.proofs.refusal.check_records.Goals as goal

pub returns-then-not-any : goal.returns-then-not-any
returns-then-not-any c =
    let e = none_in_range (unsound c.args.table.now.records.now c.args.table.now.text.now) _ _ _ c.any.result c.any.ensures.ran (λ x b q h. (search rules, search (rules, tests))) c.if-not-any.true in
    c.check_name.ensures ∙ sound_refusal _ _ c.is_utf8-all.ensures.utf8 c.if-all.true _ (rw c.count.ensures at e)

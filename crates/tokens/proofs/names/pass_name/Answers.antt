use Rattle.tokens.proofs.Turns.{pass_on, pass_off}
use borrow.Author.Rules.{rules}
use Rattle.tokens.proofs.names.pass_name.Goals as goal

pub returns-then-is_name_char : goal.returns-then-is_name_char
returns-then-is_name_char c = search (rules, pass_on)

pub returns : goal.returns
returns c = search (rules, pass_off)

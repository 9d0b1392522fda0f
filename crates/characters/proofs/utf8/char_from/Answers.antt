use borrow.Author.Rules.{rules}
use Rattle.characters.proofs.Characters.{front_past}
use Rattle.characters.proofs.utf8.char_from.Goals as goal

pub returns : goal.returns
returns c = search (rules, front_past)

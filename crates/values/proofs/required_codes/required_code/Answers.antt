use Rattle.values.specs.Sites.{code_in}
use Rattle.values.proofs.Telling.{told_silent}
use Rattle.values.proofs.required_codes.required_code.Goals as goal

pub returns-in-None : goal.returns-in-None
unfolding code_in
returns-in-None c = rw c.in-None.is (record { same = c.new.ensures; said = c.missing.ensures })

pub returns-in-Some : goal.returns-in-Some
unfolding code_in
returns-in-Some c = rw c.in-Some.is (told_silent _)

use Rattle.amount.proofs.Meaning.{amount_parsed}
use Rattle.amount.proofs.amount.InvoiceAmount.parse.Goals as goal

pub returns : goal.returns
returns c = search amount_parsed

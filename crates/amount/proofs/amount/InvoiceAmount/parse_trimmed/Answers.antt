use Rattle.amount.proofs.Meaning.{amount_read}
use Rattle.amount.proofs.amount.InvoiceAmount.parse_trimmed.Goals as goal

pub returns : goal.returns
returns c = search amount_read

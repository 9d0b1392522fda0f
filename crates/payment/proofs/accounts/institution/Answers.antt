use mathlib.Core.Path.{refl}
use Rattle.payment.proofs.Transfers.{provider_lost, provider_given}
use Rattle.payment.proofs.Walking.{walked_as, walked_still}
use Rattle.text.specs.Utf8.{bytes, encode}
use Rattle.payment.proofs.accounts.institution.Goals as goal

pub returns-in-None : goal.returns-in-None
unfolding bytes encode
returns-in-None c = λ h u. walked_as (c.without_account.ensures _ h u) (provider_lost _ _ _ refl refl c.kid_text-provider.ensures c.in-None.is)

pub returns-in-Some : goal.returns-in-Some
unfolding bytes encode
returns-in-Some c = λ h u. walked_still (provider_given _ _ _ refl refl c.kid_text-provider.ensures c.in-Some.is) _ h _ u

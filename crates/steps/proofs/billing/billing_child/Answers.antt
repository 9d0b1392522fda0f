use Rattle.steps.proofs.billing.billing_child.Goals as goal

pub returns-in-Period : goal.returns-in-Period
returns-in-Period c currency p t m = rw c.in-Period.is (c.period.ensures currency p t m _ _)

pub returns-in-PaymentTerms : goal.returns-in-PaymentTerms
returns-in-PaymentTerms c currency p t m = rw c.in-PaymentTerms.is (c.payment_terms.ensures currency p t m _ _)

pub returns-in-PaymentMeans : goal.returns-in-PaymentMeans
returns-in-PaymentMeans c currency p t m = rw c.in-PaymentMeans.is (c.payment.ensures _ p t m)

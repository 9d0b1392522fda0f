-- What the code's groups mean, and the parts of their definitions that have functions of their own.
use Rattle.text.specs.Options.{option_of}
use Rattle.std.specs.Prelude.{false, ◌++◌, ℕ}
use Rattle.std.proofs.Math.Option.{Option, none, some}
use Rattle.text.specs.Utf8.{bytes}
use Rattle.codes.specs.declared.rules.Rule.TheVariants as Rule
use Rattle.names.specs.declared.path.Path.TheVariants as Path
use Rattle.names.specs.declared.term.Term.TheVariants as Term
use Rattle.report.specs.Rows.{Place, Preceding}
use Rattle.report.specs.Values.{place_of, text_of}
use Rattle.settlement.specs.Document.{Doc, maybe, or_else}
use Rattle.settlement.specs.Shapes.{Identifier, Payee, Period, PaymentTerms, Act}
use Rattle.settlement.specs.Settlement as reading
use Rattle.settlement.specs.Values.{Says, grouped, kid, required_code, date}
use Rattle.groups.specs.declared.shapes.Identifier as CodeIdentifier
use Rattle.groups.specs.declared.shapes.Payee as CodePayee
use Rattle.groups.specs.declared.shapes.Period as CodePeriod
use Rattle.groups.specs.declared.shapes.PaymentTerms as CodePaymentTerms
use Rattle.std.specs.declared.option.Option as code
use Rattle.std.specs.Prelude.{None, Some}

-- the next state of a lane, with what a child says
abbrev pub said : {S : Type 0} → Act Place S → Says Place S
said a = (a.next, a.says)

-- an identifier
abbrev pub identifier_of : CodeIdentifier.Identifier → Identifier Place
identifier_of i = record { content = place_of i.content; scheme = text_of i.scheme }

-- that may be absent
abbrev pub maybe_identifier_of : code.Option CodeIdentifier.Identifier → Option (Identifier Place)
maybe_identifier_of None = none
maybe_identifier_of (Some i) = some (identifier_of i)

-- BG-10
abbrev pub payee_of : CodePayee.Payee → Payee Place
payee_of p = record { name = text_of p.name; identifier = maybe_identifier_of p.identifier; legal = maybe_identifier_of p.legal }

-- BG-14
abbrev pub period_of : CodePeriod.Period → Period
period_of p = record { start = option_of p.start; end = option_of p.end }

-- BT-20, BT-9, BT-89
abbrev pub payment_terms_of : CodePaymentTerms.PaymentTerms → PaymentTerms Place
payment_terms_of t = record { note = text_of t.note; due = option_of t.due; mandate = text_of t.mandate }

module _ (D : Doc ℕ Place) where
  -- scheme: schemeID if there, else listID, untrimmed
  unfoldable pub scheme_of : ℕ → Option Place
  scheme_of e = or_else (D.attr e (bytes "schemeID")) (D.attr e (bytes "listID"))

  -- the identifier in ID
  unfoldable pub kid_identifier : ℕ → Option (Identifier Place)
  kid_identifier n = maybe none (λ e. some (reading.identifier_of D e)) (kid D n (bytes "ID"))

  -- GlobalID if there, else ID
  unfoldable pub payee_identifier : ℕ → Option (Identifier Place)
  payee_identifier n = maybe none (λ e. some (reading.identifier_of D e)) (or_else (kid D n (bytes "GlobalID")) (kid D n (bytes "ID")))

  -- the ID of the legal organization
  unfoldable pub legal_identifier : ℕ → Option (Identifier Place)
  legal_identifier n = maybe none kid_identifier (kid D n (bytes "SpecifiedLegalOrganization"))

  -- BT-20 as it stands
  unfoldable pub note_of : ℕ → Option Place
  note_of n = maybe none D.text (kid D n (bytes "Description"))

-- a preceding invoice with what it says
unfoldable pub preceding_says : ℕ → ℕ → Doc ℕ Place → ℕ → ℕ → Says Place (Preceding Place)
preceding_says mode rules D g n =
    let r = required_code rules D Rule.Br55 (grouped Path.SettlementInvoiceReferencedDocument (some Term.Bt25) g) n (bytes "IssuerAssignedID") in
    let d = date mode D false Path.ReferencedDocumentIssueDateTimeString Path.ReferencedDocumentIssueDateString n (bytes "FormattedIssueDateTime") in
    (record { reference = r.0; date = d.0 }, r.1 ++ d.1)

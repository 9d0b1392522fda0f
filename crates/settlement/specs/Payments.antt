-- Payment means, which fill in the payment so far (document 01, `read.rs`: Payment; EN 16931-1, BG-16 to BG-19).
use Rattle.std.specs.Prelude.{Bool, true, false}
use mathlib.Core.List.{List, [], ◌∷◌, ◌++◌, map, foldl}
use Rattle.std.proofs.Math.Option.{Option, none, some}
use Prim.Native.String.{String}
use Rattle.text.specs.Utf8.{bytes}
use Rattle.names.specs.declared.message.Message.{Message}
use Rattle.names.specs.declared.parent.Parent.TheVariants as Parent
use Rattle.names.specs.declared.path.Path.{Path}
use Rattle.report.specs.Rows.{Entry, Transfer, transfer, Unmapped}
use Rattle.settlement.specs.Document.{Doc, maybe, or_else}
use Rattle.settlement.specs.Kinds.{meant}
use Rattle.settlement.specs.Shapes.{Means, unset, card, debit, transfers, Payment, Act}
use Rattle.settlement.specs.Values.{site, entry, own_text, text_in, kid_text}

-- the children of a payment means
pub data Part : Type 0 where
  type_code information financial_card debtor_account creditor_account institution unknown : Part
  deriving Discrete as Part-discrete

-- their names; any other is unmapped
unfoldable pub parts : List (String × Part)
parts =
    ("TypeCode", type_code) ∷
    ("Information", information) ∷
    ("ApplicableTradeSettlementFinancialCard", financial_card) ∷
    ("PayerPartyDebtorFinancialAccount", debtor_account) ∷
    ("PayeePartyCreditorFinancialAccount", creditor_account) ∷
    ("PayeeSpecifiedCreditorFinancialInstitution", institution) ∷
    []

-- the payment so far, the transfers held in this payment means, entries, unmapped names; `last`: the last account met here was held
pub record Paying (X : Type 0) : Type 0 where
  pub payment : Payment X
  pub last : Bool
  pub rows : List (Transfer X)
  pub says : List (Entry X)
  pub strays : List (Unmapped X)

-- the last transfer with another provider
unfoldable pub provided : {X : Type 0} → Option X → Transfer X → List (Transfer X) → List (Transfer X)
provided o t [] = record { account = t.account; name = t.name; provider = o } ∷ []
provided o t (u ∷ l) = t ∷ provided o u l

-- what the model can't hold is said
unfoldable pub not_held : {X : Type 0} → Message → Path → Paying X → Paying X
not_held m p s = record { payment = s.payment; last = s.last; rows = s.rows; says = s.says ++ (entry m (site p none) none ∷ []); strays = s.strays }

-- with another kind of means
unfoldable pub with_means : {X : Type 0} → Means X → Paying X → Paying X
with_means m s = record { payment = record { met = true; code = s.payment.code; text = s.payment.text; means = m }; last = s.last; rows = s.rows; says = s.says; strays = s.strays }

-- the first card, debited account or account fixes the kind
unfoldable pub first_means : {X : Type 0} → Means X → Message → Path → Means X → Paying X → Paying X
first_means unset m p new s = with_means new s
first_means (card a b) m p new s = not_held m p s
first_means (debit a) m p new s = not_held m p s
first_means transfers m p new s = not_held m p s

-- an account beside a card or a debited account
unfoldable pub lost : {X : Type 0} → Paying X → Paying X
lost s = not_held Message.AccountBesideOther Path.PaymentMeansCreditorAccount (record { payment = s.payment; last = false; rows = s.rows; says = s.says; strays = s.strays })

-- a provider goes to the last account held in the same payment means, even by nothing; with none there, 24 if it has a BICID
unfoldable pub provider_of : {X : Type 0} → Bool → List (Transfer X) → Option X → Paying X → Paying X
provider_of true (t ∷ l) o s = record { payment = s.payment; last = s.last; rows = provided o t l; says = s.says; strays = s.strays }
provider_of true [] o s = maybe s (λ x. not_held Message.ProviderWithoutAccount Path.PaymentMeansCreditorInstitution s) o
provider_of false l o s = maybe s (λ x. not_held Message.ProviderWithoutAccount Path.PaymentMeansCreditorInstitution s) o

-- before the first child
unfoldable pub paying_start : {X : Type 0} → Payment X → Paying X
paying_start p = record { payment = record { met = true; code = p.code; text = p.text; means = p.means }; last = false; rows = []; says = []; strays = [] }

module _ {N X : Type 0} (D : Doc N X) where
  -- what a child is
  unfoldable pub part_of : N → Part
  part_of c = meant unknown parts (D.bytes (D.name c))

  -- an account is IBANID, else (also where that is blank) ProprietaryID
  unfoldable pub account_of : N → Option X
  account_of c = or_else (kid_text D 0 c (bytes "IBANID")) (kid_text D 0 c (bytes "ProprietaryID"))

  -- an account that is held: BT-84, BT-85
  unfoldable pub joined : N → Paying X → Paying X
  joined c s =
      record {
        payment = record { met = true; code = s.payment.code; text = s.payment.text; means = transfers };
        last = true;
        rows = s.rows ++ (record { account = account_of c; name = kid_text D 0 c (bytes "AccountName"); provider = none } ∷ []);
        says = s.says;
        strays = s.strays;
      }

  -- further accounts join transfers
  unfoldable pub creditor : Means X → N → Paying X → Paying X
  creditor unset c s = joined c s
  creditor transfers c s = joined c s
  creditor (card a b) c s = lost s
  creditor (debit a) c s = lost s

  -- what one child makes of it; the first code counts even where it is blank (BT-81), and the first text that is not (BT-82)
  unfoldable pub part : Part → Paying X → N → Paying X
  part type_code s c =
      record { payment = record { met = true; code = or_else s.payment.code (some (own_text D 0 c)); text = s.payment.text; means = s.payment.means }; last = s.last; rows = s.rows; says = s.says; strays = s.strays }
  part information s c =
      record { payment = record { met = true; code = s.payment.code; text = or_else s.payment.text (text_in D 0 c); means = s.payment.means }; last = s.last; rows = s.rows; says = s.says; strays = s.strays }
  part financial_card s c = first_means s.payment.means Message.CardBesideOther Path.PaymentMeansFinancialCard (card (kid_text D 0 c (bytes "ID")) (kid_text D 0 c (bytes "CardholderName"))) s
  part debtor_account s c = first_means s.payment.means Message.DebitedAccountBesideOther Path.PaymentMeansDebtorAccount (debit (account_of c)) s
  part creditor_account s c = creditor s.payment.means c s
  part institution s c = provider_of s.last s.rows (kid_text D 0 c (bytes "BICID")) s
  part unknown s c = record { payment = s.payment; last = s.last; rows = s.rows; says = s.says; strays = s.strays ++ (record { parent = Parent.PaymentMeans; name = D.name c } ∷ []) }

  -- one child more
  unfoldable pub paying : Paying X → N → Paying X
  paying s c = part (part_of c) s c

  -- after all children
  unfoldable pub paid : Payment X → N → Paying X
  paid p n = foldl paying (paying_start p) (D.kids n)

  -- a payment means: what it makes of the payment so far, and its transfers
  unfoldable pub payment_means_of : Payment X → N → Act X (Payment X)
  payment_means_of p n = let s = paid p n in record { next = s.payment; says = s.says; holds = map transfer s.rows; strays = s.strays }

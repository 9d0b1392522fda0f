-- The messages of entries (document 01, "Rows": Messages).
use Rattle.std.specs.Prelude.{List, [], ◌∷◌, ℕ}
use Rattle.names.specs.declared.message.Message.{Message}

-- the message's number
abbrev pub message_number : Message → ℕ
message_number Message.UnlistedCurrency = 1
message_number Message.OtherCurrency = 2
message_number Message.AmountMalformed = 3
message_number Message.TooManyDecimals = 4
message_number Message.AmountOutOfRange = 5
message_number Message.NotADecimal = 6
message_number Message.TooManyDigits = 7
message_number Message.NotVat = 8
message_number Message.Missing = 9
message_number Message.OtherDateElement = 10
message_number Message.DateFormat = 11
message_number Message.NotCcyymmdd = 12
message_number Message.NoSuchDay = 13
message_number Message.SecondVatPointCode = 14
message_number Message.UnknownVatPointCode = 15
message_number Message.TaxTotalUnreadable = 16
message_number Message.TaxTotalCurrency = 17
message_number Message.IndicatorMalformed = 18
message_number Message.IndicatorAbsent = 19
message_number Message.LogisticsCharge = 20
message_number Message.CardBesideOther = 21
message_number Message.DebitedAccountBesideOther = 22
message_number Message.AccountBesideOther = 23
message_number Message.ProviderWithoutAccount = 24
message_number Message.MandateBesideOther = 25
message_number Message.CreditorBesideOther = 26

-- the messages in the order of their numbers
unfoldable pub messages : List Message
messages =
    Message.UnlistedCurrency ∷
    Message.OtherCurrency ∷
    Message.AmountMalformed ∷
    Message.TooManyDecimals ∷
    Message.AmountOutOfRange ∷
    Message.NotADecimal ∷
    Message.TooManyDigits ∷
    Message.NotVat ∷
    Message.Missing ∷
    Message.OtherDateElement ∷
    Message.DateFormat ∷
    Message.NotCcyymmdd ∷
    Message.NoSuchDay ∷
    Message.SecondVatPointCode ∷
    Message.UnknownVatPointCode ∷
    Message.TaxTotalUnreadable ∷
    Message.TaxTotalCurrency ∷
    Message.IndicatorMalformed ∷
    Message.IndicatorAbsent ∷
    Message.LogisticsCharge ∷
    Message.CardBesideOther ∷
    Message.DebitedAccountBesideOther ∷
    Message.AccountBesideOther ∷
    Message.ProviderWithoutAccount ∷
    Message.MandateBesideOther ∷
    Message.CreditorBesideOther ∷
    []

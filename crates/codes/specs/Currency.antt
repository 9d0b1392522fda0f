-- The currency codes of ISO 4217.
use Rattle.std.specs.Prelude.{Bool, false, ◌||◌, List, [], ◌∷◌, map, ℕ}
use Prim.Native.String.{String}
use Rattle.text.specs.Order.{equal}
use Rattle.text.specs.Utf8.{bytes}

-- the alphabetic codes of ISO 4217, as Debian's iso-codes 4.15.0 lists them
unfoldable pub currency_codes : List String
currency_codes =
    "AED" ∷ "AFN" ∷ "ALL" ∷ "AMD" ∷ "ANG" ∷ "AOA" ∷ "ARS" ∷ "AUD" ∷ "AWG" ∷ "AZN" ∷ "BAM" ∷ "BBD" ∷
    "BDT" ∷ "BGN" ∷ "BHD" ∷ "BIF" ∷ "BMD" ∷ "BND" ∷ "BOB" ∷ "BOV" ∷ "BRL" ∷ "BSD" ∷ "BTN" ∷ "BWP" ∷
    "BYN" ∷ "BZD" ∷ "CAD" ∷ "CDF" ∷ "CHE" ∷ "CHF" ∷ "CHW" ∷ "CLF" ∷ "CLP" ∷ "CNY" ∷ "COP" ∷ "COU" ∷
    "CRC" ∷ "CUC" ∷ "CUP" ∷ "CVE" ∷ "CZK" ∷ "DJF" ∷ "DKK" ∷ "DOP" ∷ "DZD" ∷ "EGP" ∷ "ERN" ∷ "ETB" ∷
    "EUR" ∷ "FJD" ∷ "FKP" ∷ "GBP" ∷ "GEL" ∷ "GHS" ∷ "GIP" ∷ "GMD" ∷ "GNF" ∷ "GTQ" ∷ "GYD" ∷ "HKD" ∷
    "HNL" ∷ "HRK" ∷ "HTG" ∷ "HUF" ∷ "IDR" ∷ "ILS" ∷ "INR" ∷ "IQD" ∷ "IRR" ∷ "ISK" ∷ "JMD" ∷ "JOD" ∷
    "JPY" ∷ "KES" ∷ "KGS" ∷ "KHR" ∷ "KMF" ∷ "KPW" ∷ "KRW" ∷ "KWD" ∷ "KYD" ∷ "KZT" ∷ "LAK" ∷ "LBP" ∷
    "LKR" ∷ "LRD" ∷ "LSL" ∷ "LYD" ∷ "MAD" ∷ "MDL" ∷ "MGA" ∷ "MKD" ∷ "MMK" ∷ "MNT" ∷ "MOP" ∷ "MRU" ∷
    "MUR" ∷ "MVR" ∷ "MWK" ∷ "MXN" ∷ "MXV" ∷ "MYR" ∷ "MZN" ∷ "NAD" ∷ "NGN" ∷ "NIO" ∷ "NOK" ∷ "NPR" ∷
    "NZD" ∷ "OMR" ∷ "PAB" ∷ "PEN" ∷ "PGK" ∷ "PHP" ∷ "PKR" ∷ "PLN" ∷ "PYG" ∷ "QAR" ∷ "RON" ∷ "RSD" ∷
    "RUB" ∷ "RWF" ∷ "SAR" ∷ "SBD" ∷ "SCR" ∷ "SDG" ∷ "SEK" ∷ "SGD" ∷ "SHP" ∷ "SLE" ∷ "SLL" ∷ "SOS" ∷
    "SRD" ∷ "SSP" ∷ "STN" ∷ "SVC" ∷ "SYP" ∷ "SZL" ∷ "THB" ∷ "TJS" ∷ "TMT" ∷ "TND" ∷ "TOP" ∷ "TRY" ∷
    "TTD" ∷ "TWD" ∷ "TZS" ∷ "UAH" ∷ "UGX" ∷ "USD" ∷ "USN" ∷ "UYI" ∷ "UYU" ∷ "UYW" ∷ "UZS" ∷ "VED" ∷
    "VES" ∷ "VND" ∷ "VUV" ∷ "WST" ∷ "XAF" ∷ "XAG" ∷ "XAU" ∷ "XBA" ∷ "XBB" ∷ "XBC" ∷ "XBD" ∷ "XCD" ∷
    "XDR" ∷ "XOF" ∷ "XPD" ∷ "XPF" ∷ "XPT" ∷ "XSU" ∷ "XTS" ∷ "XUA" ∷ "XXX" ∷ "YER" ∷ "ZAR" ∷ "ZMW" ∷
    "ZWL" ∷
    []

-- s is one of the texts, byte for byte
unfoldable pub among : List ℕ → List (List ℕ) → Bool
among s [] = false
among s (t ∷ l) = equal s t || among s l

-- s is a currency code (document 01, `generated.rs`: case matters)
unfoldable pub listed : List ℕ → Bool
listed s = among s (map bytes currency_codes)

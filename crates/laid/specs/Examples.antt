-- An XML text of document 01's example ("The printed reading"), and what it is laid out as.
use Rattle.std.specs.Prelude.{List, [], ℕ}
use Rattle.text.specs.Utf8.{bytes}
use Rattle.grammar.specs.Tree as Tree
use Rattle.grammar.specs.Layout.{Forest, empty, tree}
use Rattle.grammar.specs.Places.{Verdict, accepted, refused}

-- with a declaration, a prefix, a comment, a character reference and a CDATA section
unfoldable pub example_xml : List ℕ
example_xml =
    bytes "<?xml version='1.0'?>\r\n<r:ApplicableHeaderTradeSettlement xmlns:r='u'><InvoiceCurrencyCode>E&#85;R</InvoiceCurrencyCode><!-- c --><SpecifiedTradeSettlementPaymentMeans><PayeePartyCreditorFinancialAccount><IBANID><![CDATA[DE1]]></IBANID></PayeePartyCreditorFinancialAccount></SpecifiedTradeSettlementPaymentMeans><Foo/></r:ApplicableHeaderTradeSettlement>"

unfoldable pub example : Forest
example =
    tree (bytes "ApplicableHeaderTradeSettlement") [] []
    (tree (bytes "InvoiceCurrencyCode") (bytes "EUR") [] empty
    (tree (bytes "SpecifiedTradeSettlementPaymentMeans") [] [] (tree (bytes "PayeePartyCreditorFinancialAccount") [] [] (tree (bytes "IBANID") (bytes "DE1") [] empty empty) empty)
    (tree (bytes "Foo") [] [] empty empty)))
    empty

-- what an accepted text is read as
abbrev pub piece_of : Verdict → Tree.Piece
piece_of (accepted p) = p
piece_of (refused v) = Tree.empty

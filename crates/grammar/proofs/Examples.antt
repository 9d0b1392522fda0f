-- Examples, computed: texts of the subset with their tables, and texts turned away.
use Rattle.std.specs.Prelude.{◌≡◌, refl, [], ◌∷◌, ◌++◌}
use Rattle.text.specs.Range.{within}
use Rattle.text.specs.Order.{equal}
use Rattle.text.specs.Utf8.{encode, bytes}
use Rattle.characters.specs.Characters.{is_scalar, tail, scalar, two, three, four, char_of, front, chars, encode_all}
use Rattle.characters.specs.WhiteSpace.{in_ranges}
use Rattle.markup.specs.Points.{points_of, points, lines, logical}
use Rattle.markup.specs.Classes.{is_char, is_space, name_start, name_char}
use Rattle.grammar.specs.Names.{all, spaces, colons, last, is_name, behind_colon, local_name, recorded, closers_after}
use Rattle.grammar.specs.Tree.{then}
use Rattle.grammar.specs.Tokens.{is_digit, is_hex, digit_of, is_quote, value_char, flat, free, is_data, is_version, is_latin, encoding_char, is_encoding, is_yes_no}
use Rattle.grammar.specs.Layout.{kept, shown, count, attr_room, room, attr_rows, rows, attr_texts, texts}
use Rattle.grammar.specs.Machine.{clause_of, step, finish, run, verdict}
use Rattle.grammar.specs.Examples.{read, laid_out, numbers, tags, ends_of, number_of}

-- the table of a document: an element's attributes right after it, prefixes dropped, prefixed attributes and xmlns left out, text joined, an empty text at its name's end
table : laid_out (read "<r a='1&#10;2' p:b='x' xmlns='u'>t&lt;<!-- c --><p:k/><![CDATA[]]]]>]é</r>") ≡
    (0, ((1 ∷ 0 ∷ 0 ∷ 1 ∷ 1 ∷ 7 ∷ 2 ∷ 0 ∷ 8 ∷ 1 ∷ 9 ∷ 3 ∷ 1 ∷ 0 ∷ 12 ∷ 1 ∷ 13 ∷ 0 ∷ []), bytes "rt<]]]éa1\n2k"))
unfolding bytes encode numbers read points points_of chars front char_of two three four scalar is_scalar tail within lines logical verdict run step finish clause_of in_ranges is_char is_space name_start name_char all spaces colons last is_name behind_colon local_name recorded closers_after equal is_digit is_hex digit_of is_quote value_char flat free is_data is_version is_latin encoding_char is_encoding is_yes_no then kept shown encode_all count attr_room room attr_rows rows attr_texts texts
table = refl

-- line ends first (2.11), then white space of values (3.3.3); what is referred to stays
ends : laid_out (read "<r a='\r\n&#13;&#10;\t'>\r\n\r&#13;\n</r>") ≡ (0, ((1 ∷ 0 ∷ 0 ∷ 1 ∷ 1 ∷ 4 ∷ 2 ∷ 0 ∷ 5 ∷ 1 ∷ 6 ∷ 4 ∷ []), bytes "r\n\n\r\na \r\n "))
unfolding bytes encode numbers read points points_of chars front char_of two three four scalar is_scalar tail within lines logical verdict run step finish clause_of in_ranges is_char is_space name_start name_char all spaces colons last is_name behind_colon local_name recorded closers_after equal is_digit is_hex digit_of is_quote value_char flat free is_data is_version is_latin encoding_char is_encoding is_yes_no then kept shown encode_all count attr_room room attr_rows rows attr_texts texts
ends = refl

-- elements, names and tags
elements : numbers ("<a/>" ∷ "<a></b>" ∷ "<a></a >" ∷ "<a >x</a>" ∷ "</a>" ∷ "<a:b/>" ∷ "<a:b:c/>" ∷ "<a:/>" ∷ "<:a/>" ∷ "<a:1/>" ∷ "<1a/>" ∷ "<é·/>" ∷ "<a/><b/>" ∷ "" ∷ "<a>" ∷ "< a/>" ∷ "<p:a></q:a>" ∷ "<a/ >" ∷ []) ≡ 0 ∷ 24 ∷ 0 ∷ 0 ∷ 24 ∷ 0 ∷ 24 ∷ 24 ∷ 24 ∷ 0 ∷ 24 ∷ 0 ∷ 24 ∷ 24 ∷ 24 ∷ 24 ∷ 24 ∷ 24 ∷ []
unfolding bytes encode numbers read points points_of chars front char_of two three four scalar is_scalar tail within lines logical verdict run step finish clause_of in_ranges is_char is_space name_start name_char all spaces colons last is_name behind_colon local_name recorded closers_after equal is_digit is_hex digit_of is_quote value_char flat free is_data is_version is_latin encoding_char is_encoding is_yes_no then kept shown encode_all count attr_room room attr_rows rows attr_texts texts
elements = refl

-- attributes and values
attributes : numbers ("<a b='1'/>" ∷ "<a b='1' b='2'/>" ∷ "<a b='1' p:b='2' q:b='3'/>" ∷ "<a xmlns='' xmlns=''/>" ∷ "<a b='1'c='2'/>" ∷ "<a b = \"'\"/>" ∷ "<a b='<'/>" ∷ "<a b='>]]>'/>" ∷ "<a b=1/>" ∷ "<a b/>" ∷ "<a b='&x;'/>" ∷ "<a b:='1'/>" ∷ []) ≡ 0 ∷ 24 ∷ 0 ∷ 24 ∷ 24 ∷ 0 ∷ 24 ∷ 0 ∷ 24 ∷ 24 ∷ 24 ∷ 24 ∷ []
unfolding bytes encode numbers read points points_of chars front char_of two three four scalar is_scalar tail within lines logical verdict run step finish clause_of in_ranges is_char is_space name_start name_char all spaces colons last is_name behind_colon local_name recorded closers_after equal is_digit is_hex digit_of is_quote value_char flat free is_data is_version is_latin encoding_char is_encoding is_yes_no then kept shown encode_all count attr_room room attr_rows rows attr_texts texts
attributes = refl

-- content: character data, references, CDATA, comments
content : numbers ("<a>]]></a>" ∷ "<a>]]&gt;]>]]</a>" ∷ "<a>&#93;]></a>" ∷ "<a>&#x0;</a>" ∷ "<a>&#xD800;</a>" ∷ "<a>&#x10FFFF;&#1114111;</a>" ∷ "<a>&#x110000;</a>" ∷ "<a>&#X41;</a>" ∷ "<a>&#;</a>" ∷ "<a>&amp;&lt;&gt;&apos;&quot;</a>" ∷ "<a>&nbsp;</a>" ∷ "<a>&</a>" ∷ "<a>\u{1}</a>" ∷ "<a>\u{85}\u{2028}</a>" ∷ "<a>\u{fffe}</a>" ∷ "<a><![CDATA[<&]]]>]]]]</a>" ∷ "<a><![CDATA[]]></a>" ∷ "<a><![CDATA[]]" ∷ "<![CDATA[]]><a/>" ∷ "<a><!--x-y--></a>" ∷ "<a><!--x--y--></a>" ∷ "<!-->x--><a/>" ∷ "<!---><a/>" ∷ "<a/><!-- --->" ∷ []) ≡ 24 ∷ 0 ∷ 0 ∷ 24 ∷ 24 ∷ 0 ∷ 24 ∷ 24 ∷ 24 ∷ 0 ∷ 24 ∷ 24 ∷ 24 ∷ 0 ∷ 24 ∷ 0 ∷ 0 ∷ 24 ∷ 24 ∷ 0 ∷ 24 ∷ 0 ∷ 24 ∷ 24 ∷ []
unfolding bytes encode numbers read points points_of chars front char_of two three four scalar is_scalar tail within lines logical verdict run step finish clause_of in_ranges is_char is_space name_start name_char all spaces colons last is_name behind_colon local_name recorded closers_after equal is_digit is_hex digit_of is_quote value_char flat free is_data is_version is_latin encoding_char is_encoding is_yes_no then kept shown encode_all count attr_room room attr_rows rows attr_texts texts
content = refl

-- what stands around the root; 22
around : numbers (" <!--x--><a\r\n/>\r<!---->\t" ∷ "x<a/>" ∷ "<a/>x" ∷ "<!DOCTYPE a><a/>" ∷ "<a><!DOCTYPE" ∷ "<a/><!DOCTYPE" ∷ "<!DOCTYP" ∷ "<!doctype a>" ∷ "<?x?><a/>" ∷ "<a><?x?></a>" ∷ "<a/><?" ∷ "<a b='<?'/>" ∷ "<!--<?--><a/>" ∷ "<a><![CDATA[<?<!DOCTYPE]]></a>" ∷ "<a></b><?" ∷ []) ≡ 0 ∷ 24 ∷ 24 ∷ 22 ∷ 22 ∷ 22 ∷ 24 ∷ 24 ∷ 22 ∷ 22 ∷ 22 ∷ 24 ∷ 0 ∷ 0 ∷ 24 ∷ []
unfolding bytes encode numbers read points points_of chars front char_of two three four scalar is_scalar tail within lines logical verdict run step finish clause_of in_ranges is_char is_space name_start name_char all spaces colons last is_name behind_colon local_name recorded closers_after equal is_digit is_hex digit_of is_quote value_char flat free is_data is_version is_latin encoding_char is_encoding is_yes_no then kept shown encode_all count attr_room room attr_rows rows attr_texts texts
around = refl

-- byte order mark and XML declaration
leading : numbers ("\u{feff}<a/>" ∷ "\u{feff}\u{feff}<a/>" ∷ "<a>\u{feff}</a>" ∷ " \u{feff}<a/>" ∷ "<?xml version='1.0'?><a/>" ∷ "\u{feff}<?xml version=\"1.1\" encoding='UTF-16' standalone='no' ?>\n<a/>" ∷ "<?xml\tversion = '1.0' standalone='yes'?><a/>" ∷ "<?xml version='1.0' standalone='yes' encoding='x'?><a/>" ∷ "<?xml encoding='x'?><a/>" ∷ "<?xml version='2.0'?><a/>" ∷ "<?xml version='1.'?><a/>" ∷ "<?xml version='1.0'encoding='x'?><a/>" ∷ "<?xml version='1.0' encoding='1x'?><a/>" ∷ "<?xml version='1.0' standalone='maybe'?><a/>" ∷ "<?xml ?><a/>" ∷ "<?xml version='1.0'" ∷ "<?xml?><a/>" ∷ "<?xml" ∷ "<?xm" ∷ "<?" ∷ "<?xmlx ?><a/>" ∷ "<?xml\u{85}version='1.0'?><a/>" ∷ " <?xml version='1.0'?><a/>" ∷ "<?xml version='1.0'?><?xml version='1.0'?><a/>" ∷ []) ≡ 0 ∷ 24 ∷ 0 ∷ 24 ∷ 0 ∷ 0 ∷ 0 ∷ 24 ∷ 24 ∷ 24 ∷ 24 ∷ 24 ∷ 24 ∷ 24 ∷ 24 ∷ 24 ∷ 22 ∷ 22 ∷ 22 ∷ 22 ∷ 22 ∷ 22 ∷ 22 ∷ 22 ∷ []
unfolding bytes encode numbers read points points_of chars front char_of two three four scalar is_scalar tail within lines logical verdict run step finish clause_of in_ranges is_char is_space name_start name_char all spaces colons last is_name behind_colon local_name recorded closers_after equal is_digit is_hex digit_of is_quote value_char flat free is_data is_version is_latin encoding_char is_encoding is_yes_no then kept shown encode_all count attr_room room attr_rows rows attr_texts texts
leading = refl

-- 64 levels and no more; 23 counts at its `<`, and a name's first character may be a colon there
levels :
    number_of (tags 64 (ends_of 64)) ∷ number_of (tags 64 (bytes "<a")) ∷ number_of (tags 64 (bytes "<:")) ∷ number_of (tags 63 (bytes "<:")) ∷ number_of (tags 64 (bytes "<1")) ∷
    number_of (tags 64 (bytes "</a><a/>" ++ ends_of 63)) ∷ [] ≡ 0 ∷ 23 ∷ 23 ∷ 24 ∷ 24 ∷ 0 ∷ []
unfolding tags ends_of number_of bytes encode numbers read points points_of chars front char_of two three four scalar is_scalar tail within lines logical verdict run step finish clause_of in_ranges is_char is_space name_start name_char all spaces colons last is_name behind_colon local_name recorded closers_after equal is_digit is_hex digit_of is_quote value_char flat free is_data is_version is_latin encoding_char is_encoding is_yes_no then kept shown encode_all count attr_room room attr_rows rows attr_texts texts
levels = refl

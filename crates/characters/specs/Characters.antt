-- The characters of bytes in UTF-8, from RFC 3629. `encoded_utf8` and `utf8_encoded` (proofs/Encoding.antt) say that this is the RFC's encoder turned round.
use Rattle.std.specs.Prelude.{Bool, true, false, cond, not, ◌&&◌, ◌||◌, List, [], ◌∷◌, ◌++◌, ℕ, zero, suc, pred, ◌+◌, ◌*◌, ◌%◌, ltb, leb, get_or, Option, Some, None}
use Rattle.text.specs.Range.{within}
use Rattle.text.specs.Utf8.{encode}

-- what stands at the front of bytes: a character's code point and the number of its octets, or what is none
abbrev pub Char : Type 0
Char = Option (ℕ × ℕ)

pattern abbrev pub Point : ℕ → ℕ → Char
Point c n = Some (c, n)

pattern abbrev pub Bad : Char
Bad = None

-- a character number: 0 to 10FFFF without the surrogates D800 to DFFF (section 3; Unicode, D76)
unfoldable pub is_scalar : ℕ → Bool
is_scalar c = within c 0 0xD7FF || within c 0xE000 0x10FFFF

-- every number of a list is a character's
unfoldable pub all_scalar : List ℕ → Bool
all_scalar [] = true
all_scalar (c ∷ cs) = is_scalar c && all_scalar cs

-- the octets of characters, one after the other
unfoldable pub encode_all : List ℕ → List ℕ
encode_all [] = []
encode_all (c ∷ cs) = encode c ++ encode_all cs

-- UTF8-tail = %x80-BF (section 4)
unfoldable pub tail : ℕ → Bool
tail b = within b 0x80 0xBF

-- a character boundary: no UTF8-tail stands at i (section 4), so that in UTF-8 a character starts there or the text ends
unfoldable pub boundary : List ℕ → ℕ → Bool
boundary s i = not (tail (get_or s i 0))

-- the character c of n octets, if no shorter form has it (c is at least `least`) and it is a character number (section 3)
unfoldable pub scalar : ℕ → ℕ → ℕ → Char
scalar least c n = cond (leb least c && is_scalar c) (Point c n) Bad

-- the character of a first octet and those after it, the x bits of the table put together: 110xxxxx 10xxxxxx
unfoldable pub two : ℕ → ℕ → Char
two a b = cond (tail b) (scalar 0x80 (a % 32 * 64 + b % 64) 2) Bad

-- 1110xxxx 10xxxxxx 10xxxxxx
unfoldable pub three : ℕ → ℕ → ℕ → Char
three a b c = cond (tail b && tail c) (scalar 0x800 ((a % 16 * 64 + b % 64) * 64 + c % 64) 3) Bad

-- 11110xxx 10xxxxxx 10xxxxxx 10xxxxxx
unfoldable pub four : ℕ → ℕ → ℕ → ℕ → Char
four a b c d = cond (tail b && tail c && tail d) (scalar 0x10000 (((a % 8 * 64 + b % 64) * 64 + c % 64) * 64 + d % 64) 4) Bad

-- the first octet tells how many there are: 0xxxxxxx one, 110xxxxx two, 1110xxxx three, 11110xxx four
unfoldable pub char_of : ℕ → ℕ → ℕ → ℕ → Char
char_of a b c d =
    cond (within a 0 0x7F) (Point a 1)
    (cond (within a 0xC0 0xDF) (two a b)
    (cond (within a 0xE0 0xEF) (three a b c)
    (cond (within a 0xF0 0xF7) (four a b c d) Bad)))

-- the character at the front of bytes. Past the end stands 0, which continues no character
unfoldable pub front : List ℕ → Char
front s = char_of (get_or s 0 0) (get_or s 1 0) (get_or s 2 0) (get_or s 3 0)

-- the number of a character's octets; what is none is passed octet by octet
abbrev pub size : Char → ℕ
size Bad = 1
size (Point c n) = n

-- the characters of bytes of which the first k belong to the character before
unfoldable pub chars : ℕ → List ℕ → List Char
chars k [] = []
chars zero (b ∷ s) = front (b ∷ s) ∷ chars (pred (size (front (b ∷ s)))) s
chars (suc k) (b ∷ s) = chars k s

-- it is a character
abbrev pub good : Char → Bool
good Bad = false
good (Point c n) = true

-- they are all characters
unfoldable pub all_good : List Char → Bool
all_good [] = true
all_good (x ∷ xs) = good x && all_good xs

-- UTF8-octets = *( UTF8-char ) (section 4)
unfoldable pub utf8 : List ℕ → Bool
utf8 s = all_good (chars 0 s)

-- octets 00 to 7F only, each a character of its own (section 3)
unfoldable pub ascii : List ℕ → Bool
ascii [] = true
ascii (b ∷ s) = ltb b 0x80 && ascii s

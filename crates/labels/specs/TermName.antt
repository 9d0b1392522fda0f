-- The names of business terms and of their groups (EN 16931-1, 6.3; document 01, "Rows": Entry).
use Rattle.std.specs.Prelude.{List, ℕ}
use Prim.Native.String.{String}
use Rattle.names.specs.declared.term.Term.{Term}
use Rattle.names.specs.Term.{terms}
use Rattle.labels.specs.Text.{text_at}

-- the name of the term's group, empty where it stands in none. The Rust prints `BG-22/BT-106`, with an index `BG-23[0]/BT-116`, and `BT-8` alone
abbrev pub term_group : Term → String
term_group Term.Bt106 = "BG-22"
term_group Term.Bt107 = "BG-22"
term_group Term.Bt108 = "BG-22"
term_group Term.Bt109 = "BG-22"
term_group Term.Bt110 = "BG-22"
term_group Term.Bt112 = "BG-22"
term_group Term.Bt113 = "BG-22"
term_group Term.Bt114 = "BG-22"
term_group Term.Bt115 = "BG-22"
term_group Term.Bt116 = "BG-23"
term_group Term.Bt117 = "BG-23"
term_group Term.Bt118 = "BG-23"
term_group Term.Bt119 = "BG-23"
term_group Term.Bt92 = "BG-20"
term_group Term.Bt93 = "BG-20"
term_group Term.Bt94 = "BG-20"
term_group Term.Bt95 = "BG-20"
term_group Term.Bt96 = "BG-20"
term_group Term.Bt99 = "BG-21"
term_group Term.Bt100 = "BG-21"
term_group Term.Bt101 = "BG-21"
term_group Term.Bt102 = "BG-21"
term_group Term.Bt103 = "BG-21"
term_group Term.Bt25 = "BG-3"
term_group Term.Bt8 = ""

-- the same by its number, nothing where no term has it
unfoldable pub term_group_at : ℕ → List ℕ
term_group_at n = text_at term_group terms n

-- the term's own name
abbrev pub term_name : Term → String
term_name Term.Bt106 = "BT-106"
term_name Term.Bt107 = "BT-107"
term_name Term.Bt108 = "BT-108"
term_name Term.Bt109 = "BT-109"
term_name Term.Bt110 = "BT-110"
term_name Term.Bt112 = "BT-112"
term_name Term.Bt113 = "BT-113"
term_name Term.Bt114 = "BT-114"
term_name Term.Bt115 = "BT-115"
term_name Term.Bt116 = "BT-116"
term_name Term.Bt117 = "BT-117"
term_name Term.Bt118 = "BT-118"
term_name Term.Bt119 = "BT-119"
term_name Term.Bt92 = "BT-92"
term_name Term.Bt93 = "BT-93"
term_name Term.Bt94 = "BT-94"
term_name Term.Bt95 = "BT-95"
term_name Term.Bt96 = "BT-96"
term_name Term.Bt99 = "BT-99"
term_name Term.Bt100 = "BT-100"
term_name Term.Bt101 = "BT-101"
term_name Term.Bt102 = "BT-102"
term_name Term.Bt103 = "BT-103"
term_name Term.Bt25 = "BT-25"
term_name Term.Bt8 = "BT-8"

-- the same by its number, nothing where no term has it
unfoldable pub term_name_at : ℕ → List ℕ
term_name_at n = text_at term_name terms n

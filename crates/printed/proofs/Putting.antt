-- Laws of lines that are put part by part.
use mathlib.Core.Path.{◌≡◌, refl, sym, ap, ◌∙◌}
use mathlib.Core.Bool.{Bool, true, false, cond, not, ◌&&◌, true≢false}
use mathlib.Core.List.{List, [], ◌∷◌, ◌++◌, map, append_assoc, append-nil}
use mathlib.Core.Option.{Option, none, some}
use Prim.Native.Nat.{ℕ, zero, suc, ◌+◌, ◌<◌, ◌^◌}
use borrow.Author.Tests.{eq-eqb, ne_eqb}
use lib.Dec.{eqb}
use lib.IntN.{ℤ, pos, negsuc}
use lib.Signed.{mag}
use lib.ListN.{length, get_or, drop}
use Rattle.std.proofs.lemmas.List.{get_or-map}
use Rattle.text.specs.Utf8.{bytes}
use Rattle.labels.specs.PathText.{path_text_at}
use Rattle.report.specs.Columns.{Column, text, plain, amount, percent, date, held_columns}
use Rattle.report.proofs.Cells.{carried}
use Rattle.settlement.specs.Document.{maybe}
use Rattle.settlement.specs.Summation.{is_none}
use Rattle.decimals.specs.Decimal.{decimal, signed, natural}
use Rattle.decimals.specs.Puts.{Puts}
use Rattle.decimals.specs.declared.line.Line.{Line}
use Rattle.decimals.proofs.Putting.{puts_none, puts_then, puts_as}
use Rattle.decimals.proofs.Signs.{held}
use Rattle.fields.specs.Line.{field, tabbed, line}
use Rattle.fields.specs.Columns.{cell, text_shown, amount_shown, percent_shown, date_shown, shown, fields}
use Rattle.lines.specs.Labels.{term_shown, unmapped_path, name_shown}
use Rattle.printed.specs.Numbers.{is_natural, is_shown, has_scheme, group, groups, group_numbers, term, terms, term_with, scheme_shown, term_numbers, held_numbers, entry_numbers, unmapped_numbers, GroupAt, TermAt}
use Rattle.printed.specs.declared.group.Group.{Group}
use Rattle.printed.specs.declared.term.Term.{Term}
use Rattle.printed.specs.Tables.{group_of, term_of}

-- a word, fields and a line feed
pub line_put : {w f : List ℕ} {l m n o : Line} → Puts w l m → Puts f m n → Puts (0xA ∷ []) n o → Puts (w ++ f ++ 0xA ∷ []) l o
line_put p q s = puts_then (puts_then p q) s

-- a held row, its columns being known
pub held_put :
    (x : List ℕ) (row : List ℤ) {k : ℕ} {cs : List Column} {l m : Line} → k ≡ natural (cell row 0) → cs ≡ held_columns k → Puts (line "held" (fields x cs row)) l m →
    Puts (held_numbers x row) l m
unfolding held_numbers
held_put x row e f p = puts_as (ap (λ (cs : List Column). line "held" (fields x cs row)) (f ∙ ap held_columns e)) p

pub kind_other : (k : ℕ) → (k ≡ 1 → ⊥) → (k ≡ 2 → ⊥) → (k ≡ 3 → ⊥) → (k ≡ 4 → ⊥) → (k ≡ 5 → ⊥) → plain ∷ [] ≡ held_columns k
unfolding held_columns
kind_other zero a b c d e = refl
kind_other (suc zero) a b c d e = absurd (a refl)
kind_other (suc (suc zero)) a b c d e = absurd (b refl)
kind_other (suc (suc (suc zero))) a b c d e = absurd (c refl)
kind_other (suc (suc (suc (suc zero)))) a b c d e = absurd (d refl)
kind_other (suc (suc (suc (suc (suc zero))))) a b c d e = absurd (e refl)
kind_other (suc (suc (suc (suc (suc (suc k)))))) a b c d e = refl

-- the parts of an entry
pub path_put : {z y : ℤ} {l m : Line} → mag z < 2 ^ 63 → z ≡ y → Puts (0x9 ∷ path_text_at (natural (held z))) l m → Puts (0x9 ∷ path_text_at (natural y)) l m
path_put f e p = rw (carried f e) at p

pub term_put :
    {z y a b : ℤ} {l m : Line} → mag z < 2 ^ 63 → z ≡ y → mag a < 2 ^ 63 → a ≡ b → Puts (0x9 ∷ field (term_shown (natural (held z)) (held a))) l m →
    Puts (0x9 ∷ field (term_shown (natural y) b)) l m
term_put f e g h p = rw (carried f e, carried g h) at p

regrouped : (e s p t v : List ℕ) → (((e ++ s) ++ p) ++ t) ++ v ≡ e ++ (s ++ (p ++ (t ++ (v ++ []))))
regrouped e s p t v = simp (append_assoc, append-nil)

pub entry_put :
    (x : List ℕ) (row : List ℤ) {l m n o q r s : Line} → Puts (bytes "entry") l m → Puts (0x9 ∷ field (shown x plain row)) m n → Puts (0x9 ∷ path_text_at (natural (cell row 1))) n o →
    Puts (0x9 ∷ field (term_shown (natural (cell row 2)) (cell row 3))) o q → Puts (0x9 ∷ field (shown x text (drop 4 row))) q r → Puts (0xA ∷ []) r s → Puts (entry_numbers x row) l s
unfolding entry_numbers line tabbed shown field
entry_put x row a b c d e f =
    puts_as
    (ap (λ (s : List ℕ). s ++ (0xA ∷ []))
    (regrouped (bytes "entry") (0x9 ∷ signed (cell row 0)) (0x9 ∷ path_text_at (natural (cell row 1))) (0x9 ∷ field (term_shown (natural (cell row 2)) (cell row 3))) (0x9 ∷ field (shown x text (drop 4 row)))))
    (puts_then (puts_then (puts_then (puts_then (puts_then a b) c) d) e) f)

-- an unmapped element
pub unmapped_put :
    (x : List ℕ) (row : List ℤ) {l m n o : Line} → Puts (bytes "unmapped") l m →
    Puts (0x9 ∷ unmapped_path (natural (cell row 0)) (name_shown x (cell row 1) (cell row 2))) m n → Puts (0xA ∷ []) n o → Puts (unmapped_numbers x row) l o
unfolding unmapped_numbers line tabbed
unmapped_put x row a b c = puts_as (simp (append_assoc, append-nil)) (puts_then (puts_then a b) c)

-- a group
module _ (a : List ℤ) (n p : ℕ) {k : ℕ} (e : k ≡ natural (cell a p)) where
  pub group_none : (l : Line) → k ≡ 0 → Puts (group_numbers a (group n p)) l l
  unfolding group_numbers
  group_none l h = puts_as (rw (← e, eq-eqb k 0 h)) (puts_none l)

  pub group_put : {l m o q : Line} → (k ≡ 0 → ⊥) → Puts (bytes "group" ++ 0x9 ∷ bytes "BG-") l m → Puts (decimal n) m o → Puts (0xA ∷ []) o q → Puts (group_numbers a (group n p)) l q
  unfolding group_numbers line tabbed
  group_put h x y z = puts_as (rw (← e, ne_eqb k 0 h) (simp (append_assoc, append-nil))) (puts_then (puts_then x y) z)

-- whether the numbers of a column show something
pub both_true : {p q a b : Bool} → p ≡ a → p ≡ true → q ≡ b → q ≡ (a && b)
both_true e t f = rw (← e, t, ← f)

pub first_false : {p a : Bool} (b : Bool) → p ≡ a → p ≡ false → p ≡ (a && b)
first_false b e t = rw (← e, t)

-- a column that is known, and its first two numbers
pub column_is :
    (v : List ℤ) (s : ℤ → ℤ → Bool) {d k : Column} {a b : ℤ} {r : Bool} → d ≡ k → is_shown k v ≡ s (cell v 0) (cell v 1) → mag a < 2 ^ 63 → a ≡ cell v 0 → mag b < 2 ^ 63 → b ≡ cell v 1 →
    r ≡ s (held a) (held b) → r ≡ is_shown d v
column_is v s q w f e g h p = p ∙ rw (carried f e, carried g h, q) (sym w)

shown_is : (x : List ℕ) (c : Column) (v : List ℤ) → is_shown c v ≡ not (is_none (shown x c v))
unfolding is_shown shown text_shown percent_shown date_shown amount_shown
shown_is x text v = go (cell v 0) (cell v 1)
  where
    go : (a b : ℤ) → (is_natural a && is_natural b) ≡ not (is_none (text_shown x a b))
    go (pos m) (pos n) = refl
    go (pos m) (negsuc n) = refl
    go (negsuc m) b = refl
shown_is x plain v = refl
shown_is x amount v = go (eqb (natural (cell v 0)) 0)
  where
    go : (t : Bool) → not t ≡ not (is_none (cond t none (some (signed (cell v 1)))))
    go true = refl
    go false = refl
shown_is x percent v = go (cell v 1)
  where
    go : (b : ℤ) → is_natural b ≡ not (is_none (percent_shown (cell v 0) b))
    go (pos n) = refl
    go (negsuc n) = refl
shown_is x date v = go (cell v 0)
  where
    go : (a : ℤ) → is_natural a ≡ not (is_none (date_shown a))
    go (pos n) = refl
    go (negsuc n) = refl

-- nothing, or its field
nothing : (o : Option (List ℕ)) → false ≡ not (is_none o) → o ≡ none
nothing none e = refl
nothing (some s) e = absurd (true≢false (sym e))

something : (o : Option (List ℕ)) → true ≡ not (is_none o) → o ≡ some (field o)
unfolding field
something none e = absurd (true≢false e)
something (some s) e = refl

-- what a column shows that was tested, by a row's numbers from a place on
module _ (x : List ℕ) (c : Column) (a : List ℤ) (p : ℕ) {v : List ℤ} {b : Bool} (w : v ≡ drop p a) (e : b ≡ is_shown c v) where
  tested : b ≡ not (is_none (shown x c (drop p a)))
  tested = e ∙ rw w (shown_is x c (drop p a))

  not_there : b ≡ false → shown x c (drop p a) ≡ none
  not_there h = nothing (shown x c (drop p a)) (sym h ∙ tested)

  there_is : b ≡ true → shown x c (drop p a) ≡ some (field (shown x c (drop p a)))
  there_is h = something (shown x c (drop p a)) (sym h ∙ tested)

-- a scheme
module _ (x : List ℕ) (a : List ℤ) (n p : ℕ) {b : Bool} (e : b ≡ has_scheme n) where
  pub scheme_not : (l : Line) → b ≡ false → Puts (tabbed (maybe [] (λ t. t ∷ []) (scheme_shown x a n p))) l l
  unfolding scheme_shown tabbed
  scheme_not l h = puts_as (rw (← e, h)) (puts_none l)

  module _ {v : List ℤ} {d : Bool} (h : b ≡ true) (w : v ≡ drop (p + 2) a) (i : d ≡ is_shown text v) where
    scheme_is : scheme_shown x a n p ≡ shown x text (drop (p + 2) a)
    unfolding scheme_shown
    scheme_is = rw (← e, h)

    pub scheme_absent : (l : Line) → d ≡ false → Puts (tabbed (maybe [] (λ t. t ∷ []) (scheme_shown x a n p))) l l
    unfolding tabbed
    scheme_absent l j = puts_as (rw (scheme_is, not_there x text a (p + 2) w i j)) (puts_none l)

    pub scheme_put :
        {l m : Line} → d ≡ true → Puts (0x9 ∷ field (shown x text (drop (p + 2) a))) l m → Puts (tabbed (maybe [] (λ t. t ∷ []) (scheme_shown x a n p))) l m
    unfolding tabbed
    scheme_put j q =
        puts_as (sym (append-nil _) ∙ ap (λ (y : Option (List ℕ)). tabbed (maybe [] (λ t. t ∷ []) y)) (sym (scheme_is ∙ there_is x text a (p + 2) w i j))) q

-- a term
term_regrouped : (t b d f s : List ℕ) → (((t ++ b) ++ d) ++ f) ++ s ≡ t ++ ((b ++ d) ++ (f ++ s))
term_regrouped t b d f s = simp append_assoc

module _ (x : List ℕ) (a : List ℤ) (n p : ℕ) (c : Column) {v : List ℤ} {b : Bool} (w : v ≡ drop p a) (e : b ≡ is_shown c v) where
  pub term_absent : (l : Line) → b ≡ false → Puts (term_numbers x a (term n c p)) l l
  unfolding term_numbers term_with
  term_absent l h = puts_as (sym (ap (λ (y : Option (List ℕ)). term_with n y (scheme_shown x a n p)) (not_there x c a p w e h))) (puts_none l)

  pub term_line_put :
      {l m o q r s : Line} → b ≡ true → Puts (bytes "term" ++ 0x9 ∷ bytes "BT-") l m → Puts (decimal n) m o → Puts (0x9 ∷ field (shown x c (drop p a))) o q →
      Puts (tabbed (maybe [] (λ t. t ∷ []) (scheme_shown x a n p))) q r → Puts (0xA ∷ []) r s → Puts (term_numbers x a (term n c p)) l s
  unfolding term_numbers term_with line tabbed
  term_line_put h y d s t z =
      puts_as
      (ap (λ (s : List ℕ). s ++ (0xA ∷ [])) (term_regrouped (bytes "term") (0x9 ∷ bytes "BT-") (decimal n) (0x9 ∷ field (shown x c (drop p a))) (tabbed (maybe [] (λ t. t ∷ []) (scheme_shown x a n p)))) ∙
      ap (λ (y : Option (List ℕ)). term_with n y (scheme_shown x a n p)) (sym (there_is x c a p w e h)))
      (puts_then (puts_then (puts_then (puts_then y d) s) t) z)

-- groups and terms by the tables of the code
pub group_known : (a : List ℤ) (k : ℕ) (d : Group) (gs : List Group) {l m : Line} → map group_of gs ≡ groups → k < length gs → Puts (group_numbers a (group_of (get_or gs k d))) l m → Puts (group_numbers a (get_or groups k (group 0 0))) l m
group_known a k d gs e h p = puts_as (ap (group_numbers a) (sym (get_or-map group_of gs k d (group 0 0) h) ∙ ap (λ (l : List GroupAt). get_or l k (group 0 0)) e)) p

pub term_known : (x : List ℕ) (a : List ℤ) (k : ℕ) (d : Term) (ts : List Term) {l m : Line} → map term_of ts ≡ terms → k < length ts → Puts (term_numbers x a (term_of (get_or ts k d))) l m → Puts (term_numbers x a (get_or terms k (term 0 plain 0))) l m
term_known x a k d ts e h p = puts_as (ap (term_numbers x a) (sym (get_or-map term_of ts k d (term 0 plain 0) h) ∙ ap (λ (l : List TermAt). get_or l k (term 0 plain 0)) e)) p

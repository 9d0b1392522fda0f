-- How long paths and terms are. Numbers are those of 64 bits.
use mathlib.Core.Path.{◌≡◌, refl}
use mathlib.Core.Bool.{Bool, true, false, cond, ◌&&◌}
use mathlib.Core.List.{List, [], ◌∷◌, ◌++◌}
use mathlib.Core.Option.{none, some, Option-elim}
use Prim.Native.Nat.{ℕ, zero, suc, ◌+◌, ◌^◌, ◌≤◌, ◌<◌}
use Prim.Native.String.{String}
use native.Mathlib.Omega.{arith}
use borrow.Author.Tests.{leb-true}
use lib.Dec.{leb, eqb}
use lib.IntN.{ℤ, pos, negsuc}
use lib.Signed.{mag}
use lib.ListN.{length, length-append}
use Rattle.text.specs.Utf8.{bytes, encode}
use Rattle.text.specs.Span.{clipped}
use Rattle.text.proofs.Bools.{both}
use Rattle.names.specs.Numbered.{nth}
use Rattle.names.specs.Path.{paths}
use Rattle.names.specs.Term.{terms}
use Rattle.names.specs.Parent.{parents}
use Rattle.labels.specs.Text.{text_at}
use Rattle.labels.specs.PathText.{path_text, path_text_at}
use Rattle.labels.specs.TermName.{term_group, term_group_at, term_name, term_name_at}
use Rattle.labels.specs.ParentName.{parent_name, parent_name_at}
use Rattle.decimals.specs.Decimal.{decimal, natural}
use Rattle.decimals.proofs.Room.{decimal_length}
use Rattle.fields.specs.Line.{printable, field}
use Rattle.fields.proofs.Room.{printable_length, clipped_length}
use Rattle.lines.specs.Labels.{bracketed, group_text, term_text, term_shown, unmapped_path, name_shown}

-- the texts of numbers, if all are short enough
module _ {A : Type 0} (f : A → String) (k : ℕ) where
  short : List A → Bool
  short [] = true
  short (x ∷ l) = leb (length (bytes (f x))) k && short l

  at_length : (l : List A) (n : ℕ) → short l ≡ true → length (text_at f l n) ≤ k
  unfolding text_at nth Option-elim short
  at_length l zero h = omega arith
  at_length [] (suc i) h = omega arith
  at_length (x ∷ l) (suc zero) h = leb-true (length (bytes (f x))) k (both (leb (length (bytes (f x))) k) (short l) h).0
  at_length (x ∷ l) (suc (suc i)) h = at_length l (suc i) (both (leb (length (bytes (f x))) k) (short l) h).1

pub path_length : (n : ℕ) → length (path_text_at n) ≤ 79
unfolding path_text_at paths bytes encode short
path_length n = at_length path_text 79 paths n refl

group_length : (n : ℕ) → length (term_group_at n) ≤ 5
unfolding term_group_at terms bytes encode short
group_length n = at_length term_group 5 terms n refl

name_length : (n : ℕ) → length (term_name_at n) ≤ 6
unfolding term_name_at terms bytes encode short
name_length n = at_length term_name 6 terms n refl

parent_length : (n : ℕ) → length (parent_name_at n) ≤ 47
unfolding parent_name_at parents bytes encode short
parent_length n = at_length parent_name 47 parents n refl

bracketed_length : (z : ℤ) → mag z < 2 ^ 63 → length (bracketed z) ≤ 21
unfolding bracketed bytes encode
bracketed_length (pos n) h = rw (length-append (0x5B ∷ decimal n) (0x5D ∷ [])) (omega (arith, decimal_length n 18 (omega arith)))
bracketed_length (negsuc n) h = omega arith

pub term_length : (n : ℕ) (z : ℤ) → mag z < 2 ^ 63 → length (field (term_shown n z)) ≤ 33
unfolding field term_shown term_text group_text bytes encode
term_length n z h = go (eqb n 0)
  where
    group : (p : Bool) → length (cond p [] (term_group_at n ++ bracketed z ++ bytes "/")) ≤ 27
    group true = omega arith
    group false = rw (length-append (term_group_at n ++ bracketed z) (bytes "/"), length-append (term_group_at n) (bracketed z)) (omega (arith, group_length n, bracketed_length z h))

    go : (p : Bool) → length (field (cond p none (some (term_text (term_group_at n) z (term_name_at n))))) ≤ 33
    go true = omega arith
    go false = rw (length-append (group_text (term_group_at n) z) (term_name_at n)) (omega (arith, name_length n, group (eqb (length (term_group_at n)) 0)))

pub unmapped_length : (x : List ℕ) (p : ℕ) (a b : ℤ) → length (unmapped_path p (name_shown x a b)) ≤ length x + 48
unfolding unmapped_path name_shown bytes encode
unmapped_length x p a b =
    let s = clipped x (natural a) (natural b) in
    rw (length-append (parent_name_at p ++ bytes "/") (printable s), length-append (parent_name_at p) (bytes "/"), printable_length s) (omega (arith, parent_length p, clipped_length x (natural a) (natural b)))

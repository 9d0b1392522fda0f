-- Laws of texts that are trimmed once: what a trimmed text spells is what its element spells.
use mathlib.Core.Path.{◌≡◌, refl}
use mathlib.Core.Bool.{Bool, true, false, not, cond}
use mathlib.Core.List.{List, []}
use mathlib.Core.Option.{Option, none, some}
use Prim.Native.Nat.{ℕ}
use Rattle.text.specs.Utf8.{bytes}
use Rattle.amount.specs.Percentage.{parsed_percentage}
use Rattle.date.specs.Date.{parsed_date}
use Rattle.codes.specs.declared.rules.Rule.{Rule}
use Rattle.names.specs.declared.path.Path.{Path}
use Rattle.report.specs.Rows.{Place}
use Rattle.settlement.specs.Document.{Doc, maybe}
use Rattle.settlement.specs.Values.{Site, text_in, own_text, kid, kid_text, answered, percent_of, percent, date_from, date, required_code, not_vat}
use Rattle.element.specs.LinkDoc.{link_doc}
use Rattle.element.proofs.Documents.{own_shown, own_is}
use Rattle.values.specs.Sites.{answered_at, percent_at, day_at, date_at, percent_in, date_of, code_in, not_vat_in}
use Rattle.values.specs.declared.dates.DatePaths.{DatePaths}

-- a test and its contrary
pub not_cond : {A : Type 0} (b : Bool) (p q : A) → cond (not b) p q ≡ cond b q p
not_cond true p q = refl
not_cond false p q = refl

module _ (t x l : List ℕ) (mode e : ℕ) where
  abbrev D : Doc ℕ Place
  D = link_doc t x l

  -- a percentage, where there is a text
  pub percent_spelled : {p : Place} (s : Site) → some p ≡ text_in D mode e → percent_at x s p ≡ percent_of mode D s e
  unfolding percent_at answered_at answered parsed_percentage percent_of
  percent_spelled s q = rw (own_is t x l mode e q, own_shown t x l mode e, ← q)

  -- a date, blank or not
  pub date_spelled : {p : Place} (a : Path) → p ≡ own_text D mode e → date_at D x a e p ≡ date_from mode D a e
  unfolding date_at day_at answered_at answered parsed_date date_from
  date_spelled a q = rw (q, own_shown t x l mode e)

-- values of a child that was looked for by a name
module _ (t x l : List ℕ) (n : ℕ) (w : List ℕ) where
  -- a percentage, by its text
  pub percent_kid : {o : Option Place} (mode : ℕ) (s : Site) → o ≡ kid_text (link_doc t x l) mode n w → percent_in x s o ≡ percent mode (link_doc t x l) s n w
  unfolding percent_in kid_text percent percent_of
  percent_kid mode s q = rw q (go (kid (link_doc t x l) n w))
    where
      in-text : (e : ℕ) (o : Option Place) → o ≡ text_in (link_doc t x l) mode e → maybe (none, []) (percent_at x s) o ≡ percent_of mode (link_doc t x l) s e
      in-text e none q = rw (← q)
      in-text e (some p) q = percent_spelled t x l mode e s q

      go : (k : Option ℕ) → maybe (none, []) (percent_at x s) (maybe none (text_in (link_doc t x l) mode) k) ≡ maybe (none, []) (percent_of mode (link_doc t x l) s) k
      go none = refl
      go (some e) = in-text e (text_in (link_doc t x l) mode e) refl

  -- a date
  pub date_kid : {o : Option ℕ} (mode : ℕ) (p : DatePaths) → o ≡ kid (link_doc t x l) n w → date_of mode (link_doc t x l) p o ≡ date mode (link_doc t x l) p.point p.time p.day n w
  unfolding date_of date
  date_kid mode p q = rw q

  -- a required code, by its text
  pub code_kid : {o : Option Place} (rules : ℕ) (r : Rule) (s : Site) → o ≡ kid_text (link_doc t x l) 0 n w → code_in rules r s o ≡ required_code rules (link_doc t x l) r s n w
  unfolding code_in required_code
  code_kid rules r s q = rw q

-- a type code, by its text
pub vat_kid : (t x l : List ℕ) (n : ℕ) {o : Option Place} (s : Site) → o ≡ kid_text (link_doc t x l) 0 n (bytes "TypeCode") → not_vat_in x s o ≡ not_vat (link_doc t x l) s n
unfolding not_vat_in not_vat
vat_kid t x l n s q = rw q

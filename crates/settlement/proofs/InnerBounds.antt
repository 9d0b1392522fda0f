-- How many entries, held rows and unmapped names a payment means and a summation make at most, child by child.
use mathlib.Core.Path.{◌≡◌, refl}
use mathlib.Core.Bool.{Bool, true, false, cond}
use mathlib.Core.List.{List, [], ◌∷◌, ◌++◌, map, foldl}
use mathlib.Core.Option.{Option, none, some}
use Prim.Native.Nat.{ℕ, ◌+◌, ◌*◌, ◌≤◌}
use native.Mathlib.Omega.{arith}
use native.Mathlib.Nat.{add-le-add, le_trans}
use lib.IntN.{ℤ}
use lib.ListN.{length, length-append}
use Rattle.text.specs.Utf8.{bytes}
use Rattle.names.specs.declared.message.Message.{Message}
use Rattle.names.specs.declared.path.Path.{Path}
use Rattle.report.specs.Rows.{Entry, Transfer, transfer}
use Rattle.settlement.specs.Document.{Doc, maybe}
use Rattle.settlement.specs.Shapes.{Means, unset, card, debit, transfers, Payment, Currencies}
use Rattle.settlement.specs.Values.{Lent, attribute}
use Rattle.settlement.specs.Payments.{Part, type_code, information, financial_card, debtor_account, creditor_account, institution, unknown, Paying, provided, part_of, not_held, with_means, first_means, joined, lost, creditor, provider_of, part, paying, paying_start, paid, payment_means_of}
use Rattle.settlement.specs.Summation.{Sum, required, allowance_total, charge_total, tax_total, rounding, prepaid, unread, Summing, sum_of, is_currency, with_vat, tax_in, tax_amount, tax_total_of, summand, summing, summed, totals}
use Rattle.settlement.proofs.Bounds.{answered_most, amount_any, required_amount_most}

module _ {A : Type 0} where
  -- one element more
  length_snoc : (l : List A) (a : A) → length (l ++ (a ∷ [])) ≤ 1 + length l
  length_snoc l a = omega (arith, length-append l (a ∷ []))

  -- a map keeps the length
  length-map : {B : Type 0} (f : A → B) (l : List A) → length (map f l) ≡ length l
  length-map f [] = refl
  length-map f (a ∷ l) = omega (arith, length-map f l)

-- a part of a payment means makes at most one entry, one transfer and one unmapped name
record Grown {X : Type 0} (k : ℕ) (s r : Paying X) : Type 0 where
  says : length r.says ≤ k + length s.says
  rows : length r.rows ≤ k + length s.rows
  strays : length r.strays ≤ k + length s.strays

module _ {N X : Type 0} (L : Lent) (D : Doc N X) where
  -- nothing more
  still : (s : Paying X) → Grown 1 s s
  still s = record { says = omega arith; rows = omega arith; strays = omega arith }

  -- one entry
  not_held_grown : (m : Message) (p : Path) (s : Paying X) → Grown 1 s (not_held m p s)
  unfolding not_held
  not_held_grown m p s = record { says = length_snoc s.says _; rows = omega arith; strays = omega arith }

  -- a further card or debited account is one entry
  first_means_grown : (k : Means X) (m : Message) (p : Path) (new : Means X) (s : Paying X) → Grown 1 s (first_means k m p new s)
  unfolding first_means with_means
  first_means_grown unset m p new s = record { says = omega arith; rows = omega arith; strays = omega arith }
  first_means_grown (card a b) m p new s = not_held_grown m p s
  first_means_grown (debit a) m p new s = not_held_grown m p s
  first_means_grown transfers m p new s = not_held_grown m p s

  -- an account that is held is one transfer
  joined_grown : (c : N) (s : Paying X) → Grown 1 s (joined D c s)
  unfolding joined
  joined_grown c s = record { says = omega arith; rows = length_snoc s.rows _; strays = omega arith }

  -- one that is not is one entry
  lost_grown : (s : Paying X) → Grown 1 s (lost s)
  unfolding lost not_held
  lost_grown s = record { says = length_snoc s.says _; rows = omega arith; strays = omega arith }

  -- an account is one or the other
  creditor_grown : (k : Means X) (c : N) (s : Paying X) → Grown 1 s (creditor D k c s)
  unfolding creditor
  creditor_grown unset c s = joined_grown c s
  creditor_grown transfers c s = joined_grown c s
  creditor_grown (card a b) c s = lost_grown s
  creditor_grown (debit a) c s = lost_grown s

  -- a provider makes no transfer
  length_provided : (o : Option X) (t : Transfer X) (l : List (Transfer X)) → length (provided o t l) ≡ 1 + length l
  unfolding provided
  length_provided o t [] = omega arith
  length_provided o t (u ∷ l) = omega (arith, length_provided o u l)

  -- a provider without an account
  alone_grown : (m : Message) (p : Path) (o : Option X) (s : Paying X) → Grown 1 s (maybe s (λ x. not_held m p s) o)
  alone_grown m p none s = still s
  alone_grown m p (some x) s = not_held_grown m p s

  -- a provider is at most one entry
  provider_of_grown : (b : Bool) (l : List (Transfer X)) (o : Option X) (s : Paying X) → s.rows ≡ l → Grown 1 s (provider_of b l o s)
  unfolding provider_of
  provider_of_grown true (t ∷ l) o s e = record { says = omega arith; rows = rw e (omega (arith, length_provided o t l)); strays = omega arith }
  provider_of_grown true [] o s e = alone_grown _ _ o s
  provider_of_grown false l o s e = alone_grown _ _ o s

  -- any child
  part_grown : (p : Part) (s : Paying X) (c : N) → Grown 1 s (part D p s c)
  unfolding part
  part_grown type_code s c = record { says = omega arith; rows = omega arith; strays = omega arith }
  part_grown information s c = record { says = omega arith; rows = omega arith; strays = omega arith }
  part_grown financial_card s c = first_means_grown s.payment.means _ _ _ s
  part_grown debtor_account s c = first_means_grown s.payment.means _ _ _ s
  part_grown creditor_account s c = creditor_grown s.payment.means c s
  part_grown institution s c = provider_of_grown s.last s.rows _ s refl
  part_grown unknown s c = record { says = omega arith; rows = omega arith; strays = length_snoc s.strays _ }

  -- children, one after the other
  paying_grown : (s : Paying X) (cs : List N) → Grown (length cs) s (foldl (paying D) s cs)
  unfolding paying
  paying_grown s [] = record { says = omega arith; rows = omega arith; strays = omega arith }
  paying_grown s (c ∷ cs) =
      let g = part_grown (part_of D c) s c in
      let h = paying_grown (paying D s c) cs in
      record { says = omega (arith, g.says, h.says); rows = omega (arith, g.rows, h.rows); strays = omega (arith, g.strays, h.strays) }

  -- all of them
  paid_grown : (p : Payment X) (n : N) → Grown (length (D.kids n)) (paying_start p) (paid D p n)
  unfolding paid
  paid_grown p n = paying_grown (paying_start p) (D.kids n)

  -- a payment means says at most one for each child
  pub means_says : (p : Payment X) (n : N) → length (payment_means_of D p n).says ≤ length (D.kids n)
  unfolding payment_means_of paying_start
  means_says p n = omega (arith, (paid_grown p n).says)

  -- holds at most one
  pub means_rows : (p : Payment X) (n : N) → length (payment_means_of D p n).holds ≤ length (D.kids n)
  unfolding payment_means_of paying_start
  means_rows p n = omega (arith, (paid_grown p n).rows, length-map transfer (paid D p n).rows)

  -- and strays at most one
  pub means_strays : (p : Payment X) (n : N) → length (payment_means_of D p n).strays ≤ length (D.kids n)
  unfolding payment_means_of paying_start
  means_strays p n = omega (arith, (paid_grown p n).strays)

-- a child of a summation makes at most two entries and one unmapped name
record Added {X : Type 0} (k : ℕ) (s r : Summing X) : Type 0 where
  says : length r.says ≤ 2 * k + length s.says
  strays : length r.strays ≤ k + length s.strays

module _ {N X : Type 0} (L : Lent) (D : Doc N X) where
  -- at most two entries more
  said_more : (l es : List (Entry X)) → length es ≤ 2 → length (l ++ es) ≤ 2 * 1 + length l
  said_more l es h = omega (arith, length-append l es)

  -- with the entries of one tax total
  with_vat_added : (v w : Option ℤ) (es : List (Entry X)) (s : Summing X) → length es ≤ 2 → Added 1 s (with_vat v w es s)
  unfolding with_vat
  with_vat_added v w es s h = record { says = said_more s.says es h; strays = omega arith }

  -- in a currency, at most one entry more
  tax_in_added : (cur : Currencies X) (a : Option ℤ) (es : List (Entry X)) (s : Summing X) (c : X) → length es ≤ 1 → Added 1 s (tax_in D cur a es s c)
  unfolding tax_in
  tax_in_added cur a es s c h = go (is_currency D cur.bt6 c) (is_currency D cur.bt5 c) (with_vat_added _ _ es s (omega arith)) (with_vat_added _ _ es s (omega arith)) (with_vat_added _ _ _ s (le_trans (length_snoc es _) (omega arith)))
    where
      go : (p q : Bool) {x y z : Summing X} → Added 1 s x → Added 1 s y → Added 1 s z → Added 1 s (cond p x (cond q y z))
      go true q g h k = g
      go false true g h k = h
      go false false g h k = k

  -- the amount of a tax total
  tax_amount_most : (c : N) → length (tax_amount L.mode D c).1 ≤ 1
  unfolding tax_amount
  tax_amount_most c = answered_most L D _ _ c _

  -- a tax total
  tax_total_of_added : (cur : Currencies X) (s : Summing X) (c : N) → Added 1 s (tax_total_of L D cur s c)
  unfolding tax_total_of
  tax_total_of_added cur s c = go (attribute D c (bytes "currencyID"))
    where
      go : (o : Option X) → Added 1 s (maybe (with_vat (tax_amount L.mode D c).0 s.vat_accounting (tax_amount L.mode D c).1 s) (tax_in D cur (tax_amount L.mode D c).0 (tax_amount L.mode D c).1 s) o)
      go none = with_vat_added _ _ _ s (omega (arith, tax_amount_most c))
      go (some d) = tax_in_added cur _ _ s d (tax_amount_most c)

  -- any child of a summation
  summand_added : (k : Sum) (cur : Currencies X) (n : N) (s : Summing X) (c : N) → Added 1 s (summand L D k cur n s c)
  unfolding summand
  summand_added required cur n s c = record { says = omega arith; strays = omega arith }
  summand_added allowance_total cur n s c = record { says = said_more s.says _ (le_trans (amount_any L D _ n (bytes "AllowanceTotalAmount")) (omega arith)); strays = omega arith }
  summand_added charge_total cur n s c = record { says = said_more s.says _ (le_trans (amount_any L D _ n (bytes "ChargeTotalAmount")) (omega arith)); strays = omega arith }
  summand_added tax_total cur n s c = tax_total_of_added cur s c
  summand_added rounding cur n s c = record { says = said_more s.says _ (le_trans (amount_any L D _ n (bytes "RoundingAmount")) (omega arith)); strays = omega arith }
  summand_added prepaid cur n s c = record { says = said_more s.says _ (le_trans (amount_any L D _ n (bytes "TotalPrepaidAmount")) (omega arith)); strays = omega arith }
  summand_added unread cur n s c = record { says = omega arith; strays = length_snoc s.strays _ }

  -- its children, one after the other
  summing_added : (cur : Currencies X) (n : N) (s : Summing X) (cs : List N) → Added (length cs) s (foldl (summing L D cur n) s cs)
  unfolding summing
  summing_added cur n s [] = record { says = omega arith; strays = omega arith }
  summing_added cur n s (c ∷ cs) =
      let g = summand_added (sum_of D c) cur n s c in
      let h = summing_added cur n (summing L D cur n s c) cs in
      record { says = omega (arith, g.says, h.says); strays = omega (arith, g.strays, h.strays) }

  -- before the first child
  abbrev start : Summing X
  start = record { allowance = none; charge = none; vat = none; vat_accounting = none; rounded = none; paid = none; says = []; strays = [] }

  -- all its children
  summed_added : (cur : Currencies X) (n : N) → Added (length (D.kids n)) start (summed L D cur n)
  unfolding summed
  summed_added cur n = summing_added cur n start (D.kids n)

  -- a summation says at most two for each child, and four
  pub totals_says : (cur : Currencies X) (n : N) → length (totals L D cur n).says ≤ 4 + 2 * length (D.kids n)
  unfolding totals
  totals_says cur n =
      simp length-append
      (le_trans
      (add-le-add (summed_added cur n).says
      (add-le-add (required_amount_most L D _ _ _ n (bytes "LineTotalAmount"))
      (add-le-add (required_amount_most L D _ _ _ n (bytes "TaxBasisTotalAmount")) (add-le-add (required_amount_most L D _ _ _ n (bytes "GrandTotalAmount")) (required_amount_most L D _ _ _ n (bytes "DuePayableAmount"))))))
      (omega arith))

  -- and strays at most one for each child
  pub totals_strays : (cur : Currencies X) (n : N) → length (totals L D cur n).strays ≤ length (D.kids n)
  unfolding totals
  totals_strays cur n = omega (arith, (summed_added cur n).strays)

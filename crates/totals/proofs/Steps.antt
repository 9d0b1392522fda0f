-- Laws of one child of a summation, after what was read before it.
use mathlib.Core.Path.{◌≡◌, refl, sym, ap, ◌∙◌}
use mathlib.Core.Bool.{Bool, true, false}
use mathlib.Core.List.{List, [], ◌∷◌, ◌++◌, append-nil}
use mathlib.Core.Option.{Option, none, some}
use Prim.Native.Nat.{ℕ}
use lib.IntN.{ℤ}
use Rattle.text.specs.Utf8.{bytes}
use Rattle.names.specs.declared.parent.Parent.TheVariants as Parent
use Rattle.report.specs.Rows.{Place, Entry}
use Rattle.report.specs.declared.held.HeldRows.{HeldRows}
use Rattle.report.proofs.Holding.{holds_none}
use Rattle.settlement.specs.Document.{Doc}
use Rattle.settlement.specs.Shapes.{Currencies}
use Rattle.settlement.specs.Summation.{Sum, required, allowance_total, charge_total, tax_total, rounding, prepaid, Summing, with_vat, is_currency, tax_in, tax_total_of, sum_of, summand, summing}
use Rattle.settlement.specs.Summation as Def
use Rattle.settlement.specs.Values.{Lent, attribute}
use Rattle.values.specs.Told.{Said, Told}
use Rattle.values.specs.declared.saying.Entries.{Entries}
use Rattle.values.proofs.Telling.{said_none, said_then}
use Rattle.unmapped.specs.Acted.{Notes, Acted}
use Rattle.unmapped.specs.declared.note.UnmappedRows.{UnmappedRows}
use Rattle.unmapped.proofs.Notings.{notes_none, notes_then}
use Rattle.totals.specs.State.{sum_is}
use Rattle.totals.specs.Reading.{taxes, taxing, taxed, made, said_by, first_of, Hears}
use Rattle.totals.specs.declared.firsts.Firsts.{Firsts}
use Rattle.totals.specs.declared.sum.Optional.{Optional}
use Rattle.totals.specs.declared.sum.Sum as Code
use Rattle.totals.specs.declared.sum.Sum.TheVariants as Kind

-- a state with the BT-110 and BT-111 of another, behind which that says what it says
abbrev pub beside : Summing Place → Summing Place → Summing Place
beside m t = with_vat t.vat t.vat_accounting t.says m

-- what a child made of a state, r, is what it made of that state's BT-110 and BT-111 alone, t, behind what the state had
record Behind (m t r : Summing Place) : Type 0 where
  pub taxes : taxes r ≡ taxes t
  pub says : r.says ≡ m.says ++ t.says
  pub strays : r.strays ≡ m.strays ++ t.strays

module _ (L : Lent) (D : Doc ℕ Place) (cur : Currencies Place) where
  in_beside : (p q : Bool) (a : Option ℤ) (es : List (Entry Place)) (m : Summing Place) (id : Place) → is_currency D cur.bt6 id ≡ p → is_currency D cur.bt5 id ≡ q → tax_in D cur a es m id ≡ beside m (tax_in D cur a es (taxing (taxes m)) id)
  unfolding tax_in with_vat
  in_beside true q a es m id e f = rw (e, f)
  in_beside false true a es m id e f = rw (e, f)
  in_beside false false a es m id e f = rw (e, f)

  total_beside : (o : Option Place) (m : Summing Place) (c : ℕ) → attribute D c (bytes "currencyID") ≡ o → tax_total_of L D cur m c ≡ beside m (tax_total_of L D cur (taxing (taxes m)) c)
  unfolding tax_total_of with_vat
  total_beside none m c e = rw e
  total_beside (some id) m c e = rw e (in_beside _ _ _ _ m id refl refl)

  -- a tax total goes by BT-110 and BT-111 alone
  pub tax_beside : (m : Summing Place) (c : ℕ) → tax_total_of L D cur m c ≡ beside m (tax_total_of L D cur (taxing (taxes m)) c)
  tax_beside m c = total_beside _ m c refl

  -- and notes nothing
  tax_strays : (p : Option ℤ × Option ℤ) (c : ℕ) → (tax_total_of L D cur (taxing p) c).strays ≡ []
  unfolding with_vat
  tax_strays p c = ap (λ (s : Summing Place). s.strays) (tax_beside (taxing p) c)

  -- so does every child
  module _ (n c : ℕ) (m : Summing Place) where
    behind_of : (j : Sum) → Behind m (summand L D j cur n (taxing (taxes m)) c) (summand L D j cur n m c)
    unfolding summand with_vat
    behind_of required = record { taxes = refl; says = sym (append-nil m.says); strays = sym (append-nil m.strays) }
    behind_of allowance_total = record { taxes = refl; says = refl; strays = sym (append-nil m.strays) }
    behind_of charge_total = record { taxes = refl; says = refl; strays = sym (append-nil m.strays) }
    behind_of tax_total =
        let b = tax_beside m c in
        record {
          taxes = ap taxes b;
          says = ap (λ (s : Summing Place). s.says) b;
          strays = ap (λ (s : Summing Place). s.strays) b ∙ rw (tax_strays (taxes m) c, append-nil m.strays);
        }
    behind_of rounding = record { taxes = refl; says = refl; strays = sym (append-nil m.strays) }
    behind_of prepaid = record { taxes = refl; says = refl; strays = sym (append-nil m.strays) }
    behind_of Def.unread = record { taxes = refl; says = sym (append-nil m.says); strays = refl }

    behind : Behind m (summing L D cur n (taxing (taxes m)) c) (summing L D cur n m c)
    unfolding summing
    behind = behind_of (sum_of D c)

-- BT-110 and BT-111 before any child, with which nothing is said or noted
pub acted_start : (p : Option ℤ × Option ℤ) (x : List ℕ) (h : HeldRows) (e : Entries) (u : UnmappedRows) → Acted (made taxes (taxing p)) x p h h e e u u
acted_start p x h e u = record { same = refl; held = holds_none h; said = said_none e; noted = notes_none x u }

-- one child of a summation, after those before it made m
module _ (L : Lent) (D : Doc ℕ Place) (cur : Currencies Place) (n c : ℕ) (m : Summing Place) {p : Option ℤ × Option ℤ} {x : List ℕ} {h : HeldRows} {e₀ e : Entries} {u₀ u : UnmappedRows} (a : Acted (made taxes m) x p h h e₀ e u₀ u) where
  -- one that is read after all others
  pub required_step : {j : Code.Sum} → j ≡ Kind.Required → sum_is j ≡ sum_of D c → Acted (made taxes (summing L D cur n m c)) x p h h e₀ e u₀ u
  unfolding summing summand
  required_step q k = rw (← k, q) a

  -- an optional amount
  pub optional_step : {f : Firsts} (q : Optional) {j : Code.Sum} {e' : Entries} → j ≡ Kind.Optional q → sum_is j ≡ sum_of D c → Hears L D n f → Said (said_by (first_of f q)).1 e e' → Acted (made taxes (summing L D cur n m c)) x p h h e₀ e' u₀ u
  unfolding summing summand
  optional_step Optional.AllowanceTotal q k w s = rw (← k, q, ← w.allowance) (record { same = a.same; held = a.held; said = said_then a.said s; noted = a.noted })
  optional_step Optional.ChargeTotal q k w s = rw (← k, q, ← w.charge) (record { same = a.same; held = a.held; said = said_then a.said s; noted = a.noted })
  optional_step Optional.Rounding q k w s = rw (← k, q, ← w.rounding) (record { same = a.same; held = a.held; said = said_then a.said s; noted = a.noted })
  optional_step Optional.Prepaid q k w s = rw (← k, q, ← w.paid) (record { same = a.same; held = a.held; said = said_then a.said s; noted = a.noted })

  -- a tax total
  pub tax_step : {j : Code.Sum} {p' : Option ℤ × Option ℤ} {e' : Entries} → j ≡ Kind.TaxTotal → sum_is j ≡ sum_of D c → Told (taxed (tax_total_of L D cur (taxing p) c)) e p' e' → Acted (made taxes (summing L D cur n m c)) x p' h h e₀ e' u₀ u
  unfolding summing summand with_vat
  tax_step q k s =
      let s' = rw a.same at s in
      rw (← k, q, tax_beside L D cur m c) (record { same = s'.same; held = a.held; said = said_then a.said s'.said; noted = a.noted })

  -- one that is not mapped
  pub unread_step : {j : Code.Sum} {u' : UnmappedRows} → j ≡ Kind.Unread → sum_is j ≡ sum_of D c → Notes x (record { parent = Parent.MonetarySummation; name = D.name c } ∷ []) u u' → Acted (made taxes (summing L D cur n m c)) x p h h e₀ e u₀ u'
  unfolding summing summand
  unread_step q k s = rw (← k, q) (record { same = a.same; held = a.held; said = a.said; noted = notes_then a.noted s })

  -- any child, as told beside BT-110 and BT-111 alone
  pub acted_then : {p' : Option ℤ × Option ℤ} {e' : Entries} {u' : UnmappedRows} → Acted (made taxes (summing L D cur n (taxing p) c)) x p' h h e e' u u' → Acted (made taxes (summing L D cur n m c)) x p' h h e₀ e' u₀ u'
  acted_then s =
      let b = behind L D cur n c m in
      let t = rw a.same at s in
      record {
        same = rw b.taxes t.same;
        held = holds_none h;
        said = rw b.says (said_then a.said t.said);
        noted = rw b.strays (notes_then a.noted t.noted);
      }

-- Payment means and transfers without a state, over all children of a settlement (document 01, `read.rs`: Payment).
use mathlib.Core.Path.{◌≡◌, refl, sym, ap, ap₂, ◌∙◌}
use mathlib.Core.Bool.{Bool, true, false, cond, ◌&&◌, true≢false}
use mathlib.Core.List.{List, [], ◌∷◌, ◌++◌, map, foldl, flat_map}
use mathlib.Core.Option.{Option, none, some}
use Rattle.text.specs.Utf8.{bytes}
use Rattle.report.specs.Rows.{Transfer, Held, transfer}
use Rattle.settlement.specs.Document.{Doc, maybe}
use Rattle.settlement.specs.Kinds.{creditor_reference, payment_means, payment_terms, same_kind, home}
use Rattle.settlement.specs.Shapes.{Means, unset, card, debit, transfers, Payment, State, blank}
use Rattle.settlement.specs.Values.{Lent, text_in, kid_text}
use Rattle.settlement.specs.Payments.{paid, payment_means_of}
use Rattle.settlement.specs.Summation.{is_none}
use Rattle.settlement.specs.Walk.{said}
use Rattle.settlement.specs.Settlement.{own, kind_of, act, step, holds_of, besides, debited, debit_of, after, terms_of, reading_of}
use Rattle.settlement.specs.Alike.{keep, of_kind}
use Rattle.settlement.specs.Last.{is_named, last_named}
use Rattle.settlement.specs.Transfers.{or_means, are_transfers, unprovided, payment_means_in, parts_in, is_account, fixed, provider_after, transfer_row, transfers_in, all_transfers}
use Rattle.settlement.proofs.Maps.{map-append}
use Rattle.settlement.proofs.Walks.{keep_append}
use Rattle.settlement.proofs.Lanes.{same_kind_eq, same_kind_refl}
use Rattle.settlement.proofs.Exchange.{row_lane, frame, own_lane}
use Rattle.settlement.proofs.Names.{own_of, home_is, at_home}
use Rattle.settlement.proofs.HeldRows.{holds_as, holds_none}
use Rattle.settlement.proofs.LastWins.{mandate_last, creditor_last}
use Rattle.settlement.proofs.PaymentParts.{or_assoc, or_unset, or_rest, fixed_append, no_account, paid_means, paid_rows}

-- transfers of one payment means, then of the others
join_rows : {A X : Type 0} (m f : Means X) (t r : List A) → (m ≡ unset → t ≡ []) → cond (are_transfers m) t [] ++ cond (are_transfers (or_means m f)) r [] ≡ cond (are_transfers (or_means m f)) (t ++ r) []
join_rows unset f t r h = rw (h refl)
join_rows (card a b) f t r h = refl
join_rows (debit a) f t r h = refl
join_rows transfers f t r h = refl

only_transfers : {X : Type 0} (l : List (Transfer X)) → of_kind 1 (map transfer l) ≡ map transfer l
unfolding of_kind keep
only_transfers [] = refl
only_transfers (t ∷ l) = ap (λ r. transfer t ∷ r) (only_transfers l)

debited_means : {X : Type 0} (m : Means X) (a c : Option X) → (debited m a c).means ≡ or_means m (cond (is_none a && is_none c) unset (debit none))
unfolding debited besides
debited_means unset none none = refl
debited_means unset none (some x) = refl
debited_means unset (some x) c = refl
debited_means (card x y) a c = refl
debited_means (debit x) a c = refl
debited_means transfers a c = refl

module _ {N X : Type 0} (L : Lent) (D : Doc N X) where
  -- the parts of one child: none where it is no payment means
  parts_of : N → List N
  parts_of c = cond (is_named D "SpecifiedTradeSettlementPaymentMeans" c) (D.kids c) []

  parts_next : (c : N) (cs : List N) → parts_in D (c ∷ cs) ≡ parts_of c ++ parts_in D cs
  unfolding parts_in parts_of payment_means_in keep flat_map
  parts_next c cs = go (is_named D "SpecifiedTradeSettlementPaymentMeans" c)
    where
      go : (b : Bool) → flat_map D.kids (cond b (c ∷ payment_means_in D cs) (payment_means_in D cs)) ≡ cond b (D.kids c) [] ++ parts_in D cs
      go true = refl
      go false = refl

  transfers_next : (c : N) (cs : List N) → all_transfers D (c ∷ cs) ≡ transfers_in D (parts_of c) ++ all_transfers D cs
  unfolding all_transfers parts_of payment_means_in keep flat_map transfers_in
  transfers_next c cs = go (is_named D "SpecifiedTradeSettlementPaymentMeans" c)
    where
      go : (b : Bool) → flat_map (λ n. transfers_in D (D.kids n)) (cond b (c ∷ payment_means_in D cs) (payment_means_in D cs)) ≡ transfers_in D (cond b (D.kids c) []) ++ all_transfers D cs
      go true = refl
      go false = refl

  -- what one child does to the kind of means
  step_means : (s : State X) (c : N) → (step L D s c payment_means).means ≡ or_means (s payment_means).means (fixed D (parts_of c))
  unfolding parts_of own act payment_means_of fixed
  step_means s c = rw (← (at_home L D payment_means (own_of payment_means tt) c)) (go (same_kind payment_means (home (kind_of D c))) refl)
    where
      go : (b : Bool) → same_kind payment_means (home (kind_of D c)) ≡ b → (step L D s c payment_means).means ≡ or_means (s payment_means).means (fixed D (cond b (D.kids c) []))
      go true e = ap (λ (p : Payment X). p.means) (own_lane L D payment_means s c e) ∙ paid_means D (s payment_means) c
      go false e = ap (λ (p : Payment X). p.means) (frame L D payment_means s c e) ∙ sym (or_unset (s payment_means).means)

  -- the transfers that it makes
  step_rows : (s : State X) (c : N) → of_kind 1 (holds_of L D s c) ≡ map transfer (cond (are_transfers (or_means (s payment_means).means (fixed D (parts_of c)))) (transfers_in D (parts_of c)) [])
  unfolding parts_of own home same_kind payment_means_of fixed transfers_in row_lane
  step_rows s c = rw (← (at_home L D payment_means (own_of payment_means tt) c)) (go (same_kind payment_means (home (kind_of D c))) refl)
    where
      nothing : (b : Bool) → ◌≡◌ {A = List (Held X)} [] (map transfer (cond b [] []))
      nothing true = refl
      nothing false = refl

      go : (b : Bool) → same_kind payment_means (home (kind_of D c)) ≡ b → of_kind 1 (holds_of L D s c) ≡ map transfer (cond (are_transfers (or_means (s payment_means).means (fixed D (cond b (D.kids c) [])))) (transfers_in D (cond b (D.kids c) [])) [])
      go true e =
          ap (of_kind 1) (holds_as L D s c payment_means (home_is L D (kind_of D c) payment_means (sym (same_kind_eq payment_means (home (kind_of D c)) e)) (own_of payment_means tt).alone))
          ∙ only_transfers (paid D (s payment_means) c).rows
          ∙ ap (map transfer) (paid_rows D (s payment_means) c)
      go false e = holds_none L D 1 s c (λ p. true≢false (sym (same_kind_refl payment_means) ∙ ap (same_kind payment_means) p ∙ e)) ∙ nothing (are_transfers (or_means (s payment_means).means unset))

  -- over all children
  walk_means : (s : State X) (cs : List N) → (foldl (step L D) s cs payment_means).means ≡ or_means (s payment_means).means (fixed D (parts_in D cs))
  unfolding parts_in payment_means_in keep flat_map fixed
  walk_means s [] = sym (or_unset (s payment_means).means)
  walk_means s (c ∷ cs) =
      walk_means (step L D s c) cs
      ∙ ap (λ (m : Means X). or_means m (fixed D (parts_in D cs))) (step_means s c)
      ∙ or_assoc (s payment_means).means (fixed D (parts_of c)) (fixed D (parts_in D cs))
      ∙ ap (or_means (s payment_means).means) (sym (ap (fixed D) (parts_next c cs) ∙ fixed_append D (parts_of c) (parts_in D cs)))

  walk_rows : (s : State X) (cs : List N) → of_kind 1 (said (step L D) (holds_of L D) s cs) ≡ map transfer (cond (are_transfers (or_means (s payment_means).means (fixed D (parts_in D cs)))) (all_transfers D cs) [])
  unfolding said of_kind keep all_transfers payment_means_in flat_map
  walk_rows s [] = go (are_transfers (or_means (s payment_means).means (fixed D (parts_in D []))))
    where
      go : (b : Bool) → ◌≡◌ {A = List (Held X)} [] (map transfer (cond b [] []))
      go true = refl
      go false = refl
  walk_rows s (c ∷ cs) =
      keep_append _ (holds_of L D s c) _
      ∙ ap₂ ◌++◌ (step_rows s c) (walk_rows (step L D s c) cs ∙ ap (λ (m : Means X). map transfer (cond (are_transfers (or_means m (fixed D (parts_in D cs)))) (all_transfers D cs) [])) (step_means s c))
      ∙ sym (map-append transfer (cond (are_transfers here) (transfers_in D (parts_of c)) []) (cond (are_transfers (or_means here (fixed D (parts_in D cs)))) (all_transfers D cs) []))
      ∙ ap (map transfer)
      (join_rows here (fixed D (parts_in D cs)) (transfers_in D (parts_of c)) (all_transfers D cs) (λ e. no_account D (parts_of c) (or_rest (s payment_means).means (fixed D (parts_of c)) e))
      ∙ ap₂ (λ (m : Means X) (l : List (Transfer X)). cond (are_transfers m) l [])
      (or_assoc (s payment_means).means (fixed D (parts_of c)) (fixed D (parts_in D cs)) ∙ ap (or_means (s payment_means).means) (sym (ap (fixed D) (parts_next c cs) ∙ fixed_append D (parts_of c) (parts_in D cs))))
      (sym (transfers_next c cs)))
    where
      here : Means X
      here = or_means (s payment_means).means (fixed D (parts_of c))

  -- the accounts of a payment means, their providers apart
  unprovided_rows : (l : List N) → map (λ t. unprovided (transfer t)) (transfers_in D l) ≡ map (λ c. transfer (transfer_row D c none)) (keep (is_account D) l)
  unfolding transfers_in keep transfer_row
  unprovided_rows [] = refl
  unprovided_rows (c ∷ l) = go (is_account D c) (unprovided_rows l)
    where
      go : (b : Bool) → map (λ t. unprovided (transfer t)) (transfers_in D l) ≡ map (λ c. transfer (transfer_row D c none)) (keep (is_account D) l) →
          map (λ t. unprovided (transfer t)) (cond b (transfer_row D c (provider_after D l) ∷ transfers_in D l) (transfers_in D l)) ≡ map (λ c. transfer (transfer_row D c none)) (cond b (c ∷ keep (is_account D) l) (keep (is_account D) l))
      go true e = ap (λ r. transfer (transfer_row D c none) ∷ r) e
      go false e = e

  unprovided_all : (ns : List N) → map (λ t. unprovided (transfer t)) (flat_map (λ n. transfers_in D (D.kids n)) ns) ≡ map (λ c. transfer (transfer_row D c none)) (keep (is_account D) (flat_map D.kids ns))
  unfolding flat_map keep
  unprovided_all [] = refl
  unprovided_all (n ∷ ns) =
      map-append (λ t. unprovided (transfer t)) (transfers_in D (D.kids n)) (flat_map (λ n. transfers_in D (D.kids n)) ns)
      ∙ ap₂ ◌++◌ (unprovided_rows (D.kids n)) (unprovided_all ns)
      ∙ sym (ap (map (λ c. transfer (transfer_row D c none))) (keep_append (is_account D) (D.kids n) (flat_map D.kids ns)) ∙ map-append (λ c. transfer (transfer_row D c none)) (keep (is_account D) (D.kids n)) (keep (is_account D) (flat_map D.kids ns)))

module _ {N X : Type 0} (L : Lent) (D : Doc N X) (cs : List N) where
  -- the means are those of the first card, debited account or account of any payment means; where there is none, a mandate or a creditor identifier makes a direct debit
  pub means_first : (reading_of L D cs).terms.means ≡
      or_means (fixed D (parts_in D cs))
      (cond (is_none (maybe none (λ n. kid_text D 0 n (bytes "DirectDebitMandateID")) (last_named D "SpecifiedTradePaymentTerms" cs)) && is_none (maybe none (λ n. text_in D 0 n) (last_named D "CreditorReferenceID" cs))) unset (debit none))
  unfolding reading_of terms_of debit_of after
  means_first =
      debited_means (after L D cs payment_means).means (after L D cs payment_terms).mandate (after L D cs creditor_reference)
      ∙ rw (walk_means L D (blank X) cs, mandate_last L D cs, creditor_last L D cs)

  -- where the first of them is an account, each account is a transfer, in order, with the provider of the last institution behind it in its payment means; else there are none
  pub transfer_rows : of_kind 1 (reading_of L D cs).held ≡ map transfer (cond (are_transfers (fixed D (parts_in D cs))) (all_transfers D cs) [])
  unfolding reading_of
  transfer_rows = walk_rows L D (blank X) cs

  -- providers apart: the accounts of all payment means, in order, or none
  pub account_rows : map unprovided (of_kind 1 (reading_of L D cs).held) ≡ cond (are_transfers (fixed D (parts_in D cs))) (map (λ c. transfer (transfer_row D c none)) (keep (is_account D) (parts_in D cs))) []
  unfolding parts_in all_transfers
  account_rows = ap (map unprovided) transfer_rows ∙ go (are_transfers (fixed D (parts_in D cs)))
    where
      through : (l : List (Transfer X)) → map unprovided (map transfer l) ≡ map (λ t. unprovided (transfer t)) l
      through [] = refl
      through (t ∷ l) = ap (λ r. unprovided (transfer t) ∷ r) (through l)

      go : (b : Bool) → map unprovided (map transfer (cond b (flat_map (λ n. transfers_in D (D.kids n)) (payment_means_in D cs)) [])) ≡ cond b (map (λ c. transfer (transfer_row D c none)) (keep (is_account D) (parts_in D cs))) []
      go true = through (flat_map (λ n. transfers_in D (D.kids n)) (payment_means_in D cs)) ∙ unprovided_all L D (payment_means_in D cs)
      go false = refl

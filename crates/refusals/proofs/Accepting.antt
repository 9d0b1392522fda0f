-- A table is refused by none of 3 to 9 just where it is what `Accepted` says, and a refusal names the first record that offends (`first_offends`).
use mathlib.Core.Path.{◌≡◌, refl}
use mathlib.Core.Bool.{Bool, true, false, ◌||◌, not}
use mathlib.Core.List.{List}
use mathlib.Core.Option.{Option, none, some}
use Prim.Native.Nat.{ℕ, ◌-◌, ◌%◌}
use native.Mathlib.Omega.{arith}
use borrow.Author.Tests.{eqb-true, eqb-false, ltb-false, ne_eqb, eq-eqb, le-ltb}
use lib.Dec.{ltb, eqb}
use lib.ListN.{length}
use Rattle.text.specs.Utf8.{bytes}
use Rattle.text.specs.Order.{equal}
use Rattle.text.proofs.Bools.{not_both}
use Rattle.text.proofs.Orders.{equal_is, equal_refl}
pub use Rattle.table.proofs.Scans.{none_offends, all_pass, first_offends}
use Rattle.table.specs.Table.{records, name_of, named, first_from}
use Rattle.refusals.specs.Refusals.{ragged, oversized, not_root, misplaced, outside, not_utf8, not_settlement, at_root, refuse, record_refusal, size_refusal, refusal}
use Rattle.refusals.specs.Acceptance.{Accepted}

-- a refusal that did not happen
pub passed_on : (n : ℕ) (o : Option ℕ) (next : Option (ℕ × ℕ)) → refuse n o next ≡ none → (o ≡ none) × (next ≡ none)
passed_on n none next e = (refl, e)
passed_on n (some r) next e = cc

pub at_none : (b : Bool) → at_root b ≡ none → b ≡ false
at_none true e = cc
at_none false e = refl

pub neither : (p q : Bool) → (p || q) ≡ false → (p ≡ false) × (q ≡ false)
neither true q e = absurd (not_both refl e)
neither false q e = (refl, e)

pub unnot : (p : Bool) → not p ≡ false → p ≡ true
unnot true e = refl
unnot false e = absurd (not_both refl e)

pub accepted_is : (t x : List ℕ) → refusal t x ≡ none → Accepted t x
unfolding refusal size_refusal record_refusal ragged oversized not_settlement named
accepted_is t x e =
    let e₃ = passed_on 3 (at_root (ragged t)) (size_refusal t x) e in
    let e₄ = passed_on 4 (at_root (oversized t x)) (refuse 5 (at_root (not_root t)) (record_refusal t x)) e₃.1 in
    let e₅ = passed_on 5 (at_root (not_root t)) (record_refusal t x) e₄.1 in
    let e₆ = passed_on 6 (first_from (misplaced t) 1 (records t - 1)) _ e₅.1 in
    let e₇ = passed_on 7 (first_from (outside t x) 0 (records t - 0)) _ e₆.1 in
    let e₈ = passed_on 8 (first_from (not_utf8 t x) 0 (records t - 0)) _ e₇.1 in
    let e₉ = passed_on 9 (at_root (not_settlement t x)) none e₈.1 in
    let p₃ = neither (eqb (records t) 0) (not (eqb (length t % 6) 0)) (at_none (ragged t) e₃.0) in
    let p₄ = neither (ltb 4096 (records t)) (ltb 1048576 (length x)) (at_none (oversized t x) e₄.0) in
    let s = eqb-false (records t) 0 p₃.0 in
    record {
      some_records = omega arith;
      whole_records = eqb-true (length t % 6) 0 (unnot (eqb (length t % 6) 0) p₃.1);
      few_records = ltb-false 4096 (records t) p₄.0;
      short_text = ltb-false 1048576 (length x) p₄.1;
      root = at_none (not_root t) e₅.0;
      placed = λ j h h'. none_offends (misplaced t) (records t - 1) 1 e₆.0 j h (omega arith);
      inside = λ j h. none_offends (outside t x) (records t - 0) 0 e₇.0 j (omega arith) (omega arith);
      readable = λ j h. none_offends (not_utf8 t x) (records t - 0) 0 e₈.0 j (omega arith) (omega arith);
      settlement = equal_is (name_of t x 0) _ (unnot (equal (name_of t x 0) (bytes "ApplicableHeaderTradeSettlement")) (at_none (not_settlement t x) e₉.0));
    }

pub is_accepted : (t x : List ℕ) → Accepted t x → refusal t x ≡ none
unfolding refusal size_refusal record_refusal ragged oversized not_settlement named
is_accepted t x a =
    let n = records t in
    let z : eqb n 0 ≡ false = ne_eqb n 0 (λ e. omega (arith, a.some_records)) in
    let w : equal (name_of t x 0) (bytes "ApplicableHeaderTradeSettlement") ≡ true = rw a.settlement (equal_refl (bytes "ApplicableHeaderTradeSettlement")) in
    rw (z, eq-eqb (length t % 6) 0 a.whole_records, le-ltb 4096 n a.few_records, le-ltb 1048576 (length x) a.short_text, a.root)
    (rw (all_pass (misplaced t) (n - 1) 1 (λ k h h'. a.placed k h (omega arith)), all_pass (outside t x) (n - 0) 0 (λ k h h'. a.inside k (omega arith)), all_pass (not_utf8 t x) (n - 0) 0 (λ k h h'. a.readable k (omega arith)), w))

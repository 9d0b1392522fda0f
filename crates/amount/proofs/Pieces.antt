-- A walk stopped after any byte and taken up again from its state, without the bytes before, ends as the unbroken one (R-2): in any number of pieces and at any cut, as an amount and as a percentage, by states of a fixed size.
use mathlib.Core.Path.{◌≡◌, refl, sym, ap, ◌∙◌}
use mathlib.Core.Bool.{Bool, true, false, cond}
use mathlib.Core.List.{List, [], ◌∷◌, append-nil, flatten, foldl}
use Prim.Native.Nat.{ℕ, ◌+◌, ◌*◌, ◌-◌, ◌^◌, ◌≤◌}
use native.Mathlib.Omega.{arith}
use lib.Dec.{eqb}
use lib.ListN.{take, drop, take-append-drop}
use Rattle.text.specs.Digits.{digit}
use Rattle.amount.specs.declared.amount.AmountError.{AmountError}
use Rattle.amount.specs.declared.amount.InvoiceAmount.{InvoiceAmount}
use Rattle.amount.specs.declared.numeric.PercentageError.{PercentageError}
use Rattle.amount.specs.declared.numeric.Percentage.{Percentage}
use Rattle.amount.specs.declared.decimal.Walk.{Walk}
use Rattle.amount.specs.declared.decimal.Walk.TheVariants.{Nothing, Whole, Fraction, Malformed}
use Rattle.amount.specs.Amount.{amount_of}
use Rattle.amount.specs.Percentage.{percentage_of}
use Rattle.amount.specs.Answers.{amount_answer, percentage_answer}
use Rattle.amount.specs.Walk.{cap, sat, whole_step, fraction_step, start_step, step_of, run, finish_of, rate_of}
use Rattle.amount.specs.Pieces.{InPieces, none, call, Bounded}
use Rattle.amount.proofs.Walks.{run_append}
use Rattle.amount.proofs.Meaning.{amount_read, percentage_read}
use Rattle.std.specs.Prelude.{Result}

-- the calls end in the state of one walk over all pieces
pub pieces_run : {w v : Walk} {ss : List (List ℕ)} → InPieces w ss v → v ≡ run w (flatten ss)
unfolding flatten run
pieces_run (none w) = refl
pieces_run (call w u v s ss e c) = pieces_run c ∙ ap (λ (x : Walk). run x (flatten ss)) e ∙ sym (run_append s (flatten ss) w)

-- so what `finish` makes of that state is the amount, and the percentage, of the whole text
module _ {ss : List (List ℕ)} {v : Walk} (c : InPieces Nothing ss v) where
  pub pieces_amount : (r : Result InvoiceAmount AmountError) → r ≡ finish_of v → amount_answer r ≡ amount_of (flatten ss)
  pieces_amount = amount_read (flatten ss) v (pieces_run c)

  pub pieces_percentage : (r : Result Percentage PercentageError) → r ≡ rate_of v → percentage_answer r ≡ percentage_of (flatten ss)
  pieces_percentage = percentage_read (flatten ss) v (pieces_run c)

-- a text that is cut at k: a call on the front, and one on the rest
module _ (t : List ℕ) (k : ℕ) (w v : Walk) (front : w ≡ run Nothing (take k t)) (rest : v ≡ run w (drop k t)) where
  calls : InPieces Nothing (take k t ∷ drop k t ∷ []) v
  calls = call Nothing w v (take k t) (drop k t ∷ []) front (call w v v (drop k t) [] rest (none v))

  joined : flatten (take k t ∷ drop k t ∷ []) ≡ t
  unfolding flatten
  joined = rw (append-nil (drop k t)) (take-append-drop k t)

  pub cut_amount : (r : Result InvoiceAmount AmountError) → r ≡ finish_of v → amount_answer r ≡ amount_of t
  cut_amount r e = pieces_amount calls r e ∙ ap amount_of joined

  pub cut_percentage : (r : Result Percentage PercentageError) → r ≡ rate_of v → percentage_answer r ≡ percentage_of t
  cut_percentage r e = pieces_percentage calls r e ∙ ap percentage_of joined

-- such calls there are for all pieces, from every state
pub pieces_met : (w : Walk) (ss : List (List ℕ)) → InPieces w ss (foldl run w ss)
pieces_met w [] = none w
pieces_met w (s ∷ ss) = call w (run w s) (foldl run w (s ∷ ss)) s ss refl (pieces_met (run w s) ss)

-- a step keeps the bounds of a state
whole_bounded : (g : Bool) (k m b : ℕ) → k ≤ 19 → m ≤ 2 ^ 63 + 1 → Bounded (whole_step g k m b)
unfolding whole_step
whole_bounded g k m b h i = go (digit b) (eqb b 0x2E)
  where
    go : (d p : Bool) → Bounded (cond d (Whole g (sat (k + 1)) (cap (10 * m + (b - 48)))) (cond p (Fraction g k m 0) Malformed))
    go true p = (omega arith, omega arith)
    go false true = (h, i, omega arith)
    go false false = tt

step_bounded : (w : Walk) (b : ℕ) → Bounded w → Bounded (step_of w b)
unfolding start_step fraction_step
step_bounded Nothing b h = go (eqb b 0x2D) (eqb b 0x2B)
  where
    go : (p q : Bool) → Bounded (cond p (Whole true 0 0) (cond q (Whole false 0 0) (whole_step false 0 0 b)))
    go true q = (omega arith, omega arith)
    go false true = (omega arith, omega arith)
    go false false = whole_bounded false 0 0 b (omega arith) (omega arith)
step_bounded (Whole g k m) b h = whole_bounded g k m b h.0 h.1
step_bounded (Fraction g k m p) b h = go (digit b)
  where
    go : (d : Bool) → Bounded (cond d (Fraction g (sat (k + 1)) (cap (10 * m + (b - 48))) (sat (p + 1))) Malformed)
    go true = (omega arith, omega arith, omega arith)
    go false = tt
step_bounded Malformed b h = tt

run_bounded : (s : List ℕ) (w : Walk) → Bounded w → Bounded (run w s)
unfolding run
run_bounded [] w h = h
run_bounded (b ∷ s) w h = run_bounded s (step_of w b) (step_bounded w b h)

-- so every state that a call answers has a fixed size, however long the text before it
pub pieces_bounded : {v : Walk} {ss : List (List ℕ)} → InPieces Nothing ss v → Bounded v
pieces_bounded {v} {ss} c = rw (pieces_run c) (run_bounded (flatten ss) Nothing tt)

-- Witnesses of demand 3 at the calls: calls that read the tables of settlement's witness into lists of the least room, which held other numbers.
use mathlib.Core.Path.{◌≡◌, refl, ap, ◌∙◌}
use mathlib.Core.List.{List}
use Prim.Native.Nat.{ℕ}
use lib.IntN.{ℤ, pos}
use lib.ListN.{replicate, length-replicate}
use Rattle.settlement.specs.Outcome.{Room, Outcome, outcome}
use Rattle.settlement.specs.Result.{result_of}
use Rattle.settlement.proofs.Witness.{lent, room, left_table, left_text, right_table, right_text, left_read, right_read, witness}
use Rattle.reader.specs.Answered.{room_of}
use Rattle.reader.specs.Calls.{Call, AlikeCalls, SameCalls}
use Rattle.reader.proofs.Calls.{calls_same, calls_order_free}
use Rattle.reader.proofs.Coded.{call_of, call_promised}

-- lists of a room, filled with one number
abbrev pub held_with : ℕ → List ℤ
held_with n = replicate room.held (pos n)

abbrev pub entries_with : ℕ → List ℤ
entries_with n = replicate room.entries (pos n)

abbrev pub unmapped_with : ℕ → List ℤ
unmapped_with n = replicate room.unmapped (pos n)

-- they have that room
pub room_is : (n : ℕ) → room_of (held_with n) (entries_with n) (unmapped_with n) ≡ room
room_is n = rw (length-replicate room.held (pos n), length-replicate room.entries (pos n), length-replicate room.unmapped (pos n))

-- so both tables are read, whatever the lists held
pub left_zero : (n : ℕ) → (result_of (outcome lent (room_of (held_with n) (entries_with n) (unmapped_with n)) left_table left_text)).number ≡ 0
unfolding result_of
left_zero n = ap (λ (m : Room). (result_of (outcome lent m left_table left_text)).number) (room_is n) ∙ ap (λ (o : Outcome). (result_of o).number) left_read

pub right_zero : (n : ℕ) → (result_of (outcome lent (room_of (held_with n) (entries_with n) (unmapped_with n)) right_table right_text)).number ≡ 0
unfolding result_of
right_zero n = ap (λ (m : Room). (result_of (outcome lent m right_table right_text)).number) (room_is n) ∙ ap (λ (o : Outcome). (result_of o).number) right_read

abbrev left_call : ℕ → Call
left_call n = call_of lent left_table left_text (held_with n) (entries_with n) (unmapped_with n)

abbrev right_call : ℕ → Call
right_call n = call_of lent right_table right_text (held_with n) (entries_with n) (unmapped_with n)

-- all were read
left_accepted : (n : ℕ) → (left_call n).answer.refusal ≡ 0
left_accepted n = (call_promised lent left_table left_text (held_with n) (entries_with n) (unmapped_with n)).refusal ∙ left_zero n

right_accepted : (n : ℕ) → (right_call n).answer.refusal ≡ 0
right_accepted n = (call_promised lent right_table right_text (held_with n) (entries_with n) (unmapped_with n)).refusal ∙ right_zero n

-- two calls whose trees differ by an exchange
pub calls_witness : AlikeCalls (left_call 7) (right_call 9)
calls_witness = calls_order_free lent (left_call 7) (right_call 9) (call_promised lent _ _ _ _ _) (call_promised lent _ _ _ _ _) (left_accepted 7) (right_accepted 9) witness

-- two whose trees are equal
pub same_calls_witness : SameCalls (left_call 7) (left_call 9)
same_calls_witness = calls_same lent (left_call 7) (left_call 9) (call_promised lent _ _ _ _ _) (call_promised lent _ _ _ _ _) (left_accepted 7) (left_accepted 9) refl

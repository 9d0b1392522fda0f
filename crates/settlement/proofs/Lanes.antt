-- Laws of the kinds of children and their lanes.
use mathlib.Core.Path.{◌≡◌, refl, sym, ap, ◌∙◌}
use mathlib.Core.Bool.{Bool, true, false, cond, false≢true}
use mathlib.Core.Logic.{◌⊎◌, inl, inr, ◌≢◌}
use Rattle.settlement.specs.Kinds.{Kind, allowance_charge, logistics_charge, Kind-discrete, is_yes, same_kind, home}

pub is_yes_true : {A : Type 0} (d : Dec A) → is_yes d ≡ true → A
is_yes_true (yes a) e = a
is_yes_true (no a) e = absurd (false≢true e)

pub is_yes_here : {A : Type 0} (d : Dec A) → A → is_yes d ≡ true
is_yes_here (yes a) e = refl
is_yes_here (no a) e = absurd (a e)

pub same_kind_eq : (a b : Kind) → same_kind a b ≡ true → a ≡ b
unfolding same_kind
same_kind_eq a b e = is_yes_true (Kind-discrete a b) e

pub same_kind_refl : (a : Kind) → same_kind a a ≡ true
unfolding same_kind
same_kind_refl a = is_yes_here (Kind-discrete a a) refl

pub same_kind_no : (a b : Kind) → a ≢ b → same_kind a b ≡ false
unfolding same_kind
same_kind_no a b d = go (Kind-discrete a b)
  where
    go : (o : Dec (a ≡ b)) → is_yes o ≡ false
    go (yes p) = absurd (d p)
    go (no p) = refl

-- two tests that hold together are the same
pub same_test : (a b : Bool) → (a ≡ true → b ≡ true) → (b ≡ true → a ≡ true) → a ≡ b
same_test true b p q = sym (p refl)
same_test false true p q = q refl
same_test false false p q = refl

pub home_cases : (k : Kind) → (home k ≡ k) ⊎ (k ≡ logistics_charge)
unfolding home
home_cases k = go (same_kind k logistics_charge) _ refl
  where
    go : (t : Bool) (l : Kind) → same_kind k logistics_charge ≡ t → (cond t l k ≡ k) ⊎ (k ≡ logistics_charge)
    go true l e = inr (same_kind_eq k logistics_charge e)
    go false l e = inl refl

-- two kinds of one lane are one kind, or the two that document 01 leaves out
pub record Charges (a b : Kind) : Type 0 where
  pub fst : a ≡ allowance_charge
  pub snd : b ≡ logistics_charge

pub home_same : (a b : Kind) → home a ≡ home b → (a ≡ b) ⊎ (Charges a b ⊎ Charges b a)
unfolding home same_kind
home_same a b e = go (home_cases a) (home_cases b)
  where
    go : (home a ≡ a) ⊎ (a ≡ logistics_charge) → (home b ≡ b) ⊎ (b ≡ logistics_charge) → (a ≡ b) ⊎ (Charges a b ⊎ Charges b a)
    go (inl p) (inl q) = inl (sym p ∙ e ∙ q)
    go (inl p) (inr q) = inr (inl (record { fst = sym p ∙ e ∙ ap home q; snd = q }))
    go (inr p) (inl q) = inr (inr (record { fst = sym q ∙ sym e ∙ ap home p; snd = p }))
    go (inr p) (inr q) = inl (p ∙ sym q)

-- A map of texts goes through options, tests and lists.
use mathlib.Core.Path.{◌≡◌, refl}
use mathlib.Core.Bool.{Bool, true, false, cond}
use mathlib.Core.List.{List, [], ◌∷◌, ◌++◌, map}
use mathlib.Core.Option
use mathlib.Core.Option.{Option, none, some}
use Rattle.names.specs.declared.parent.Parent.{Parent}
use Rattle.report.specs.Rows.{Entry, Transfer, AllowanceCharge, transfer, allowance, charge, map_entry, map_transfer, map_allowance_charge, map_held, map_unmapped}
use Rattle.settlement.specs.Document.{maybe, or_else, or}
use Rattle.settlement.specs.Shapes.{Act}
use Rattle.settlement.specs.Values.{Says}
use Rattle.settlement.specs.Payments.{Paying, provided}
use Rattle.settlement.specs.Summation.{Summing, is_none}
use Rattle.settlement.specs.Shown.{map_payment, map_act}

pub cond_map {ℓ ℓ'} : {A : Type ℓ} {B : Type ℓ'} (f : A → B) (b : Bool) (x y : A) → f (cond b x y) ≡ cond b (f x) (f y)
cond_map f true x y = refl
cond_map f false x y = refl

pub maybe_map : {A A' B : Type 0} (v : A → A') (b : B) (f : A' → B) (o : Option A) → maybe b f (Option.map v o) ≡ maybe b (λ a. f (v a)) o
maybe_map v b f none = refl
maybe_map v b f (some a) = refl

pub or_else_map : {A A' : Type 0} (v : A → A') (o p : Option A) → or_else (Option.map v o) (Option.map v p) ≡ Option.map v (or_else o p)
or_else_map v none p = refl
or_else_map v (some a) p = refl

pub or_map : {A A' : Type 0} (v : A → A') (a : A) (o : Option A) → v (or a o) ≡ or (v a) (Option.map v o)
or_map v a none = refl
or_map v a (some b) = refl

pub none_map : {A B : Type 0} (f : A → B) (o : Option A) → is_none (Option.map f o) ≡ is_none o
none_map f none = refl
none_map f (some a) = refl

pub map-append : {A B : Type 0} (f : A → B) (s t : List A) → map f (s ++ t) ≡ map f s ++ map f t
map-append f [] t = refl
map-append f (a ∷ s) t = rw (map-append f s t)

-- an answer with what is said: where the answer has no text, and where f maps it
unfoldable pub map_says : {X Y A : Type 0} (v : X → Y) → Says X A → Says Y A
map_says v p = (p.0, map (map_entry v) p.1)

unfoldable pub map_both : {X Y A B : Type 0} (v : X → Y) (f : A → B) → Says X A → Says Y B
map_both v f p = (f p.0, map (map_entry v) p.1)

module _ {X Y A B : Type 0} (v : X → Y) (f : A → B) where
  pub both_0 : (p : Says X A) → (map_both v f p).0 ≡ f p.0
  unfolding map_both
  both_0 p = refl

  pub both_1 : (p : Says X A) → (map_both v f p).1 ≡ map (map_entry v) p.1
  unfolding map_both
  both_1 p = refl

  pub both_pair : (a : A) (es : List (Entry X)) → map_both v f (a, es) ≡ (f a, map (map_entry v) es)
  unfolding map_both
  both_pair a es = refl

  pub both_maybe : {C : Type 0} (b : Says X A) (g : C → Says X A) (o : Option C) → map_both v f (maybe b g o) ≡ maybe (map_both v f b) (λ a. map_both v f (g a)) o
  both_maybe b g none = refl
  both_maybe b g (some a) = refl

module _ {X Y : Type 0} (v : X → Y) where
  pub says_0 : {A : Type 0} (p : Says X A) → (map_says v p).0 ≡ p.0
  unfolding map_says
  says_0 p = refl

  pub says_1 : {A : Type 0} (p : Says X A) → (map_says v p).1 ≡ map (map_entry v) p.1
  unfolding map_says
  says_1 p = refl

  pub says_pair : {A : Type 0} (a : A) (es : List (Entry X)) → map_says v (a, es) ≡ (a, map (map_entry v) es)
  unfolding map_says
  says_pair a es = refl

  pub says_maybe : {A B : Type 0} (b : Says X B) (f : A → Says X B) (o : Option A) → map_says v (maybe b f o) ≡ maybe (map_says v b) (λ a. map_says v (f a)) o
  says_maybe b f none = refl
  says_maybe b f (some a) = refl

  pub says_cond : {B : Type 0} (t : Bool) (a b : Says X B) → map_says v (cond t a b) ≡ cond t (map_says v a) (map_says v b)
  says_cond true a b = refl
  says_cond false a b = refl

  pub option_maybe : {A : Type 0} (b : Option X) (f : A → Option X) (o : Option A) → Option.map v (maybe b f o) ≡ maybe (Option.map v b) (λ a. Option.map v (f a)) o
  option_maybe b f none = refl
  option_maybe b f (some a) = refl

  pub option_cond : (t : Bool) (a b : Option X) → Option.map v (cond t a b) ≡ cond t (Option.map v a) (Option.map v b)
  option_cond true a b = refl
  option_cond false a b = refl

  pub entries_cond : (t : Bool) (a b : List (Entry X)) → map (map_entry v) (cond t a b) ≡ cond t (map (map_entry v) a) (map (map_entry v) b)
  entries_cond true a b = refl
  entries_cond false a b = refl

  pub entries_maybe : {A : Type 0} (b : List (Entry X)) (f : A → List (Entry X)) (o : Option A) → map (map_entry v) (maybe b f o) ≡ maybe (map (map_entry v) b) (λ a. map (map_entry v) (f a)) o
  entries_maybe b f none = refl
  entries_maybe b f (some a) = refl

  pub act_cond : {S T : Type 0} (f : S → T) (t : Bool) (a b : Act X S) → map_act v f (cond t a b) ≡ cond t (map_act v f a) (map_act v f b)
  act_cond f true a b = refl
  act_cond f false a b = refl

  pub unmapped_map : (p : Parent) (x : X) → map_unmapped v (record { parent = p; name = x }) ≡ record { parent = p; name = v x }
  unfolding map_unmapped
  unmapped_map p x = refl

  pub charge_map : (b : Bool) (a : AllowanceCharge X) → map_held v (cond b charge allowance a) ≡ cond b charge allowance (map_allowance_charge v a)
  unfolding map_held
  charge_map true a = refl
  charge_map false a = refl

  pub provided_map : (o : Option X) (t : Transfer X) (l : List (Transfer X)) → provided (Option.map v o) (map_transfer v t) (map (map_transfer v) l) ≡ map (map_transfer v) (provided o t l)
  unfolding provided map_transfer
  provided_map o t [] = refl
  provided_map o t (u ∷ l) = rw (← (provided_map o u l))

  pub transfers_map : (ts : List (Transfer X)) → map transfer (map (map_transfer v) ts) ≡ map (map_held v) (map transfer ts)
  unfolding map_held
  transfers_map [] = refl
  transfers_map (t ∷ ts) = rw (transfers_map ts)

  -- the state inside a payment means
  unfoldable pub map_paying : Paying X → Paying Y
  map_paying s = record { payment = map_payment v s.payment; last = s.last; rows = map (map_transfer v) s.rows; says = map (map_entry v) s.says; strays = map (map_unmapped v) s.strays }

  -- the state inside a summation
  unfoldable pub map_summing : Summing X → Summing Y
  map_summing s =
      record { allowance = s.allowance; charge = s.charge; vat = s.vat; vat_accounting = s.vat_accounting; rounded = s.rounded; paid = s.paid; says = map (map_entry v) s.says; strays = map (map_unmapped v) s.strays }

  pub summing_cond : (t : Bool) (a b : Summing X) → map_summing (cond t a b) ≡ cond t (map_summing a) (map_summing b)
  summing_cond true a b = refl
  summing_cond false a b = refl

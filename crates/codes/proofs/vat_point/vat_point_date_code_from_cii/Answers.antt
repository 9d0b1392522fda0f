use mathlib.Core.Path.{refl}
use Prim.Native.Nat.{ℕ}
use Rattle.text.specs.Utf8.{bytes, encode}
use Rattle.codes.specs.VatPoint.{vat_point_answer, vat_point_date_code_of, vat_point_date_codes}
use Rattle.codes.proofs.Meanings.{means}
use Rattle.codes.proofs.vat_point.vat_point_date_code_from_cii.Goals as goal

pub returns : goal.returns
unfolding vat_point_date_code_of vat_point_date_codes bytes encode
returns c = means {A = ℕ} 15 vat_point_answer refl (λ n. refl) c.args.s.now _ vat_point_date_codes c.meaning_of.ensures refl

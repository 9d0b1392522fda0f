use Rattle.codes.proofs.Vats.{vat_is}
use Rattle.codes.proofs.vat.is_vat.Goals as goal

pub returns : goal.returns
returns c = vat_is c.args.s.now c.eq_ignore_ascii_case.result c.eq_ignore_ascii_case.ensures.test
